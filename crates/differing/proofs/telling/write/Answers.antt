-- `write` meets its contract: one key after the other, those that differ written.
use mathlib.Core.Path.{◌≡◌, refl}
use mathlib.Core.Bool.{Bool, true, false, ◌||◌}
use mathlib.Core.List.{[], ◌∷◌, ◌++◌}
use native.Mathlib.Omega.{arith}
use borrow.Author.Tests.{ltb-false}
use Rattle.listlaws.proofs.Orders.{apart}
use Rattle.differing.specs.Walking.{Comes}
use Rattle.differing.proofs.SoFar.{telling-start, telling-tells, telling-skips, told-room, told-all, told-start, told_more, told-on}
use Rattle.differing.proofs.telling.write.Goals.{After-next-c}
use Rattle.differing.proofs.telling.write.Goals as goal

pub loop-x-init : goal.loop-x-init
loop-x-init c = let p = c.requires in ([], telling-start p.0.0 p.0.1, told-start _)

pub next-c-requires : goal.next-c-requires
next-c-requires c = let d = c.loop-x.invariant.1 in (c.loop-x-test.true, (d.es, d.fs, d.ours, d.theirs))

-- what comes next
came : (c : After-next-c) → let w = c.before.before.before.before in
    let a = w.args in
    Comes a.s.now a.t.now a.l a.m w.loop-x.x w.loop-x.y w.loop-x.invariant.1.es w.loop-x.invariant.1.fs c.next-c.result
came c = let d = c.loop-x.invariant.1 in c.next-c.ensures d.es d.fs d.ours d.theirs

pub write_told-place-requires : goal.write_told-place-requires
write_told-place-requires c =
    let i = c.before in
    let k = i.before.before.before.before.before in
    let w = k.before.before.before.before in
    let v = w.loop-x.invariant in
    let p = w.requires in
    let r = told-room v.1 v.2 p.1 in
    omega (
      arith,
      r.0,
      r.1,
      p.1,
      told_more v.0 k.next-c.result.told
          (telling-tells v.1 (came (goal.at.write_told-place-requires c).After-next-c) i.if-told-ne0.true),
    )

pub loop-x-smaller-then-told-ne0 : goal.loop-x-smaller-then-told-ne0
loop-x-smaller-then-told-ne0 c = let r = came (goal.at.loop-x-smaller-then-told-ne0 c).After-next-c in
    omega (arith, r.onward, r.outward, r.some, r.ahead.own.order, r.beside.own.order)

pub loop-x-smaller : goal.loop-x-smaller
loop-x-smaller c = let r = came (goal.at.loop-x-smaller c).After-next-c in
    omega (arith, r.onward, r.outward, r.some, r.ahead.own.order, r.beside.own.order)

pub loop-x-preserved-then-told-ne0 : goal.loop-x-preserved-then-told-ne0
loop-x-preserved-then-told-ne0 c =
    let x = c.before.before in
    let i = x.before.before in
    let k = i.before.before.before.before.before in
    let w = k.before.before.before.before in
    let v = w.loop-x.invariant in
    let p = w.requires in
    let told = telling-tells v.1 (came (goal.at.loop-x-preserved-then-told-ne0 c).After-next-c) i.if-told-ne0.true in (
      v.0 ++ (k.next-c.result.told ∷ []),
      told,
      told-on v.0 k.next-c.result.told v.2 x.write_told-place.ensures
          (omega (arith, p.1, told_more v.0 k.next-c.result.told told)),
    )

pub loop-x-preserved : goal.loop-x-preserved
loop-x-preserved c =
    let k = c.before.before.before.before.before in
    let v = k.loop-x.invariant in
    (v.0, telling-skips v.1 (came (goal.at.loop-x-preserved c).After-next-c) c.if-told-ne0.false, v.2)

-- both are used up
neither : (a b : Bool) → (a || b) ≡ false → (a ≡ false) × (b ≡ false)
neither true b t = apart t
neither false b t = (refl, t)

pub shape_of-out : goal.shape_of-out
shape_of-out c = let w = c.before.before.before in (told-room w.loop-x.invariant.1 w.loop-x.invariant.2 w.requires.1).1

pub returns : goal.returns
returns c =
    let o = neither _ _ c.loop-x-test.false in
    let v = c.loop-x.invariant in
    told-all v.1 (ltb-false _ _ o.0) (ltb-false _ _ o.1) v.2
