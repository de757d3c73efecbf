-- `Flat::of` meets its contract: one dot after the other is set apart.
use mathlib.Core.Path.{◌≡◌, refl}
use lib.ListN.{length, get_or, length-set}
use native.Mathlib.Omega.{arith}
use borrow.Author.Rules.{rules}
use Rattle.listlaws.proofs.Pads.{unmapped}
use Rattle.limits.specs.Limits.{dot_limit}
use Rattle.clock.specs.Dots.{no_dot}
use Rattle.sketch.specs.Drawn.{beside}
use Rattle.sketch.proofs.Flats.{length-beside, apart_more, taken-all}
use Rattle.sketch.proofs.Flat.of.Goals as goal

pub loop-i-init : goal.loop-i-init
loop-i-init c = ((refl, refl), refl)

pub loop-i-preserved : goal.loop-i-preserved
loop-i-preserved c =
    let f = c.loop-i in
    let k = f.invariant in
    let room : length c.args.c.dots ≡ dot_limit = search (rules, unmapped) in (
      (simp length-set k.0.0, simp length-set k.0.1),
      apart_more f.actors f.counters c.args.c.dots f.i (get_or c.args.c.dots f.i no_dot)
          (omega (arith, k.0.0, k.0.1)) k.1 refl (omega arith) (omega arith),
    )

pub returns : goal.returns
returns c =
    let f = c.loop-i in
    let k = f.invariant in
    let room : length c.args.c.dots ≡ dot_limit = search (rules, unmapped) in
    let b = length-beside f.actors f.counters (omega (arith, k.0.0, k.0.1)) in
    let e = taken-all (beside f.actors f.counters) c.args.c.dots f.i k.1 (omega arith) (omega arith) in
    λ i. record { dots = e i; len = c.args.c.len }
