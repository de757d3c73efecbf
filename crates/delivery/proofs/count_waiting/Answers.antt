-- `count_waiting` meets its contract: what each has is added up.
use mathlib.Core.Path.{◌≡◌, ap, sym, ◌∙◌}
use Prim.Native.Nat.{ℕ}
use lib.ListN.{length}
use native.Mathlib.Omega.{arith}
use borrow.Author.Rules.{rules}
use Rattle.limits.specs.Limits.{dot_limit}
use Rattle.removals.specs.Model.{under_of}
use Rattle.listlaws.specs.Fold.{total_of}
use Rattle.maprecords.specs.Reading.{numbers_below}
use Rattle.memory.specs.Memory.{removal_place, removal_at, waiting_at, count_at}
use Rattle.delivery.proofs.Views.{length-dots, under-dots}
use Rattle.delivery.proofs.Sums.{total-made, total-most}
use Rattle.delivery.proofs.count_waiting.Goals as goal

pub returns : goal.returns
unfolding waiting_at
returns c =
    let w = c.args.mem.now in
    let size = λ (k : ℕ). length (under_of (removal_at w k)) in
    let same = λ (k : ℕ). ap length (under-dots w k) ∙ length-dots w (removal_place k) in
    let t = c.total.ensures size (λ k r h p. let e : r ≡ count_at dot_limit (removal_place k) w = search rules in e ∙ sym (same k)) in
    let m = total-most size dot_limit c.count-n.result (λ k. omega (arith, same k)) in (
      t ∙ ap (λ n. total_of size (numbers_below n)) c.count-n.ensures.0
          ∙ sym (total-made (λ x. length (under_of x)) (removal_at w) _),
      omega (arith, c.count-n.ensures.1),
    )
