-- `count_values` meets its contract: what each has is added up.
use mathlib.Core.Path.{◌≡◌, ap, sym, ◌∙◌}
use Prim.Native.Nat.{ℕ, ◌+◌}
use native.Mathlib.Omega.{arith}
use borrow.Author.Rules.{rules}
use Rattle.limits.specs.Limits.{dot_limit}
use Rattle.answers.specs.Sizes.{value_size}
use Rattle.listlaws.specs.Fold.{total_of}
use Rattle.maprecords.specs.Reading.{numbers_below}
use Rattle.memory.specs.Memory.{value_place, value_at, values_at, count_at}
use Rattle.delivery.proofs.Sums.{total-made, value-counted, values-most}
use Rattle.delivery.proofs.count_values.Goals as goal

pub returns : goal.returns
unfolding values_at
returns c =
    let j = c.args.j in
    let w = c.args.mem.now in
    let size = λ (i : ℕ). value_size (value_at w (value_place j i)) in
    let t = c.total.ensures size (λ i r h p. let e : r ≡ 1 + count_at dot_limit (value_place j i + 8) w = search rules in
    e ∙ sym (value-counted w (value_place j i)))
    ∙ ap (λ n. total_of size (numbers_below n)) c.count-n.ensures.0
    ∙ sym (total-made value_size (λ i. value_at w (value_place j i)) _) in
    (t, omega (arith, values-most w j))
