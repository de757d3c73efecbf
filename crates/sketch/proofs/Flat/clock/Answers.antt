-- `Flat::clock` meets its contract: one dot after the other is put together.
use mathlib.Core.Path.{◌≡◌, refl}
use lib.ListN.{length, length-set}
use native.Mathlib.Omega.{arith}
use borrow.Author.Rules.{rules}
use Rattle.limits.specs.Limits.{dot_limit}
use Rattle.sketch.specs.Drawn.{beside}
use Rattle.sketch.proofs.Flats.{length-beside, beside-more, taken-all}
use Rattle.sketch.proofs.Flat.clock.Goals.{Start}
use Rattle.sketch.proofs.Flat.clock.Goals as goal

pub loop-i-init : goal.loop-i-init
loop-i-init c = (refl, refl)

-- the room of its counters and actors
wide : (c : Start) → (length c.args.self.actors ≡ dot_limit) × (length c.args.self.counters ≡ dot_limit)
wide c = (search rules, search rules)

pub loop-i-preserved : goal.loop-i-preserved
loop-i-preserved c =
    let f = c.loop-i in
    let k = f.invariant in
    let a = c.args.self in
    let l = wide (goal.at.loop-i-preserved c).Start in (
      simp length-set k.0,
      beside-more a.actors a.counters f.dots f.i (omega (arith, l.0, l.1)) k.1 (omega arith) (omega arith),
    )

pub returns : goal.returns
returns c =
    let f = c.loop-i in
    let a = c.args.self in
    let l = wide (goal.at.returns c).Start in
    let b = length-beside a.actors a.counters (omega (arith, l.0, l.1)) in
    let e = taken-all f.dots (beside a.actors a.counters) f.i f.invariant.1 (omega arith) (omega arith) in
    λ i. record { dots = e i; len = a.len }
