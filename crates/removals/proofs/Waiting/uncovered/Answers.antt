-- `Waiting::uncovered` meets its contract: the loop sifts the removals.
use mathlib.Core.Path.{◌≡◌, refl, ap, sym, ◌∙◌}
use lib.ListN.{length}
use Rattle.listlaws.proofs.Pads.{unmapped, used}
use Rattle.listlaws.proofs.Sifts.{length-sift}
use Rattle.listlaws.proofs.SliceSifting.{sifting-start, sifting-keep, sifting-drop, sifting-room, sifting-end}
use Rattle.clock.specs.Dots.{dots_of}
use Rattle.limits.specs.Limits.{waiting_limit}
use Rattle.removals.specs.Waits.{waits}
use Rattle.removals.proofs.Packs.{no_removal_read}
use borrow.Author.Rules.{rules}
use native.Mathlib.Omega.{arith}
use Rattle.removals.proofs.Waiting.uncovered.Goals.{then-waits, else-waits}
use Rattle.removals.proofs.Waiting.uncovered.Goals as goal

pub loop-r-init : goal.loop-r-init
loop-r-init c = sifting-start c.new-out.ensures

-- there is room for one more
pub store-requires : goal.store-requires
store-requires c =
    let a = c.args in
    let rs = c.as_slice-r-items in
    let w : length a.self.items ≡ waiting_limit = search (rules, unmapped) in
    let r = sifting-room no_removal_read c.loop-r.invariant c.loop-r-test.true refl (sym c.waits.ensures ∙ c.if-waits.true) in
    omega (
      arith,
      ap (λ k. k.len) r.1,
      r.2,
      length-sift (waits (dots_of a.seen)) (λ r. r) rs.result.now,
      ap length rs.ensures,
      used a.self.len waiting_limit a.self.items w,
    )

pub loop-r-preserved : goal.loop-r-preserved
loop-r-preserved c =
    elim c.if-waits.branch [
      | then-waits w ↦
          sifting-keep no_removal_read c.loop-r.invariant c.loop-r-test.true refl (sym c.waits.ensures ∙ w.if-waits.true)
          (rw w.out-is w.store.ensures.1)
      | else-waits w ↦
          rw w.out-is
          (sifting-drop no_removal_read c.loop-r.invariant c.loop-r-test.true refl (sym c.waits.ensures ∙ w.if-waits.false))
    ]

pub returns : goal.returns
returns c = rw (← c.as_slice-r-items.ensures) (sifting-end c.loop-r.invariant (omega arith))
