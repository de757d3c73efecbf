-- `Clock::sift_by_look` meets its contract: the loop sifts the clock's dots.
use mathlib.Core.Path.{◌≡◌, refl, ap, sym, ◌∙◌}
use Rattle.listlaws.proofs.SliceSifting.{sifting-start, sifting-keep, sifting-drop, sifting-room, sifting-end}
use Rattle.listlaws.proofs.Sifts.{length-sift}
use Rattle.clock.specs.Dots.{no_dot, dots_of}
use Rattle.clock.specs.Walking.{kept}
use lib.ListN.{length}
use borrow.Author.Rules.{rules}
use Rattle.listlaws.proofs.Pads.{unmapped, used}
use Rattle.limits.specs.Limits.{dot_limit}
use native.Mathlib.Omega.{arith}
use Rattle.clock.proofs.Clock.sift_by_look.Goals.{then-stays, else-stays}
use Rattle.clock.proofs.Clock.sift_by_look.Goals as goal

pub loop-d-init : goal.loop-d-init
loop-d-init c = sifting-start c.new-out.ensures

-- there is room for one more
pub store-requires : goal.store-requires
store-requires c =
    let a = c.args in
    let t = rw c.get-seen.ensures at (sym c.stays.ensures ∙ c.if-stays.true) in
    let w : length a.self.dots ≡ dot_limit = search (rules, unmapped) in
    let r = sifting-room no_dot c.loop-d.invariant c.loop-d-test.true refl t in
    omega (
      arith,
      ap (λ k. k.len) r.1,
      r.2,
      length-sift (kept a.same (dots_of a.by)) (λ d. d) c.as_slice-d-items.result.now,
      ap length c.as_slice-d-items.ensures,
      used a.self.len dot_limit a.self.dots w,
    )

pub loop-d-preserved : goal.loop-d-preserved
loop-d-preserved c =
    elim c.if-stays.branch [
      | then-stays w ↦
          let t = rw c.get-seen.ensures at (sym c.stays.ensures ∙ w.if-stays.true) in
          sifting-keep no_dot c.loop-d.invariant c.loop-d-test.true refl t (rw w.out-is w.store.ensures)
      | else-stays w ↦
          let t = rw c.get-seen.ensures at (sym c.stays.ensures ∙ w.if-stays.false) in
          rw w.out-is (sifting-drop no_dot c.loop-d.invariant c.loop-d-test.true refl t)
    ]

pub returns : goal.returns
returns c = rw (← c.as_slice-d-items.ensures) (sifting-end c.loop-d.invariant (omega arith))
