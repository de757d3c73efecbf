-- `Flat::size` meets its contract: the count, and the room where the count is larger.
use mathlib.Core.Path.{◌≡◌}
use lib.ListN.{length, length-take}
use borrow.Author.Rules.{rules}
use native.Mathlib.Omega.{arith}
use Rattle.limits.specs.Limits.{dot_limit}
use Rattle.sketch.proofs.Flats.{length-beside}
use Rattle.sketch.proofs.Flat.size.Goals as goal

pub returns : goal.returns
returns c =
    let f = c.args.self in
    let a : length f.actors ≡ dot_limit = search rules in
    let b : length f.counters ≡ dot_limit = search rules in
    let h = length-beside f.actors f.counters (omega (arith, a, b)) in
    simp length-take (omega arith)
