-- `Clock::sift_beside` meets its contract: the loop sifts the clock's dots, and walks the other clock beside them.
use mathlib.Core.Path.{◌≡◌, refl, ap, sym, ◌∙◌}
use Prim.Native.Nat.{◌≤◌, ◌+◌}
use lib.ListN.{length, get_or}
use Rattle.listlaws.proofs.Pads.{unmapped, used}
use Rattle.listlaws.proofs.SliceSifting.{sifting-start, sifting-keep, sifting-drop, sifting-room, sifting-end}
use Rattle.listlaws.proofs.Sifts.{length-sift}
use Rattle.listlaws.proofs.SliceBeside.{beside-start, beside-past, beside-both, beside-next}
use Rattle.clock.specs.Dots.{no_dot, counter_in}
use Rattle.limits.specs.Limits.{dot_limit}
use Rattle.clock.specs.Walking.{kept}
use Rattle.clock.proofs.SliceWalks.{Walk, walk-found, walk-missed}
use borrow.Author.Rules.{rules}
use native.Mathlib.Omega.{arith}
use Rattle.clock.proofs.Clock.sift_beside.Goals.{then-j-ys+else-e-d+then-e-d-2, then-j-ys+else-e-d+else-e-d-2, else-j-ys, Joined-j-ys}
use Rattle.clock.proofs.Clock.sift_beside.Goals as goal

pub loop-i-init : goal.loop-i-init
loop-i-init c =
    let p = rw (← c.as_slice-xs.ensures, ← c.as_slice-ys.ensures) at c.requires in
    (omega arith, omega arith, sifting-start c.new-out.ensures, beside-start p.1.rising p.0.rising)

-- the other clock's dot is of an earlier actor
pub loop-i-preserved-then-e-d : goal.loop-i-preserved-then-e-d
loop-i-preserved-then-e-d c =
    let g = c.loop-i.invariant in
    (g.0, omega arith, g.2, beside-past no_dot g.3 c.loop-i-test.true c.if-j-ys.true c.if-e-d.true)

-- what the other clock has for the actor, and where the walk goes on
met : (c : Joined-j-ys) → let xs = c.as_slice-xs.result.now in let ys = c.as_slice-ys.result.now in
    (counter_in ys (get_or xs c.loop-i.i no_dot).actor ≡ c.if-j-ys.seen)
    × Walk ys c.if-j-ys.j xs (c.loop-i.i + 1)
    × (c.loop-i.j ≤ c.if-j-ys.j)
    × (c.if-j-ys.j ≤ length ys)
met c =
    let g = c.loop-i.invariant.3 in
    let k = c.loop-i-test.true in
    elim c.if-j-ys.branch [
      | then-j-ys+else-e-d+then-e-d-2 w ↦ (
        walk-found g k w.if-j-ys.true w.if-e-d-2.true ∙ sym w.seen-is,
        rw w.j-is (beside-both no_dot g k w.if-j-ys.true w.if-e-d-2.true),
        omega arith,
        omega arith,
      )
      | then-j-ys+else-e-d+else-e-d-2 w ↦ (
        walk-missed g k (λ h. omega (arith, w.if-e-d.false, w.if-e-d-2.false)) ∙ sym w.seen-is,
        rw w.j-is (beside-next no_dot g k),
        omega arith,
        omega arith,
      )
      | else-j-ys w ↦ (
        walk-missed g k (λ h. absurd (omega (arith, w.if-j-ys.false))) ∙ sym w.seen-is,
        rw w.j-is (beside-next no_dot g k),
        omega arith,
        omega arith,
      )
    ]

-- there is room for one more
pub store-requires : goal.store-requires
store-requires c =
    let a = c.args in
    let xs = c.as_slice-xs in
    let ys = c.as_slice-ys.result.now in
    let t = rw (← (met c.before.before.before).0) at (sym c.stays.ensures ∙ c.if-stays.true) in
    let w : length a.self.dots ≡ dot_limit = search (rules, unmapped) in
    let r = sifting-room no_dot c.loop-i.invariant.2 c.loop-i-test.true refl t in
    omega (
      arith,
      ap (λ k. k.len) r.1,
      r.2,
      length-sift (kept a.same ys) (λ d. d) xs.result.now,
      ap length xs.ensures,
      used a.self.len dot_limit a.self.dots w,
    )

pub loop-i-preserved-then-stays : goal.loop-i-preserved-then-stays
loop-i-preserved-then-stays c =
    let m = met c.before.before.before.before in
    let t = rw (← m.0) at (sym c.stays.ensures ∙ c.if-stays.true) in
    (omega arith, m.3, sifting-keep no_dot c.loop-i.invariant.2 c.loop-i-test.true refl t c.store.ensures, m.1)

pub loop-i-preserved : goal.loop-i-preserved
loop-i-preserved c =
    let m = met c.before.before in
    let t = rw (← m.0) at (sym c.stays.ensures ∙ c.if-stays.false) in
    (omega arith, m.3, sifting-drop no_dot c.loop-i.invariant.2 c.loop-i-test.true refl t, m.1)

pub returns : goal.returns
returns c = rw (← c.as_slice-xs.ensures, ← c.as_slice-ys.ensures) (sifting-end c.loop-i.invariant.2 c.loop-i-test.false)
