-- `count_entries` meets its contract: what each has is added up.
use mathlib.Core.Path.{◌≡◌, ap, sym, ◌∙◌}
use Prim.Native.Nat.{ℕ, ◌+◌}
use native.Mathlib.Omega.{arith}
use borrow.Author.Rules.{rules}
use Rattle.limits.specs.Limits.{dot_limit}
use Rattle.answers.specs.Sizes.{entry_most, value_size, entry_size}
use Rattle.listlaws.specs.Fold.{total_of}
use Rattle.maprecords.specs.Reading.{numbers_below}
use Rattle.memory.specs.Memory.{own_place, values_at, entry_held_at, entries_at, count_at}
use Rattle.delivery.proofs.Sums.{total-made, total-most, entry-counted, values-most}
use Rattle.delivery.proofs.count_entries.Goals as goal

pub returns : goal.returns
unfolding entries_at
returns c =
    let w = c.args.mem.now in
    let size = λ (j : ℕ). entry_size (entry_held_at w j) in
    let t = c.total.ensures size (λ j r h p. let e : r ≡ count_at dot_limit (own_place j) w + total_of value_size (values_at w j) = search rules in
    e ∙ sym (entry-counted w j)) in
    let m = total-most size entry_most c.count-n.result (λ j. omega (arith, entry-counted w j, values-most w j)) in (
      t ∙ ap (λ n. total_of size (numbers_below n)) c.count-n.ensures.0 ∙ sym (total-made entry_size (entry_held_at w) _),
      omega (arith, c.count-n.ensures.1),
    )
