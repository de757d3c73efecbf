-- `write_source` meets its contract.
use mathlib.Core.List.{List}
use Prim.Native.Nat.{ℕ, ◌+◌, ◌*◌, ◌≤◌}
use lib.ListN.{length}
use Rattle.records.specs.Records.{bytes_of}
use Rattle.records.specs.Writing.{Wrote}
use Rattle.mapimage.specs.MapImage.{value_records}
use Rattle.sketch.specs.declared.Source.{Source}
use Rattle.sketch.specs.Drawn.{value_named, Placed}
use Rattle.sketch.proofs.Sources.{in-second, in-first}
use Rattle.sketch.proofs.writing.write_source.Goals as goal

abbrev Room : Source → ℕ → ℕ → ℕ → ℕ → ℕ → List ℕ → Type 0
Room x kind key index at room s = Placed s x × (at + length (value_records kind key index (value_named s x)) * 16 ≤ room)

abbrev Done : Source → ℕ → ℕ → ℕ → ℕ → List ℕ → List ℕ → ℕ → List ℕ → Type 0
Done x kind key index at entry exit next s = Wrote at (bytes_of (value_records kind key index (value_named s x))) entry exit next

pub write_in-requires : goal.write_in-requires
write_in-requires c =
    let t = c.before.before.before.before.before in
    let a = t.args in
    (in-second (Room a.x a.kind a.key a.index a.at (length a.out.now)) a.s.now a.t.now a.x c.if-x.true).0
    t.requires

pub returns-then-x : goal.returns-then-x
returns-then-x c =
    let a = c.args in
    (in-second (Done a.x a.kind a.key a.index a.at _ _ _) a.s.now a.t.now a.x
    c.if-x.true).1 c.write_in.ensures

pub write_in-requires-2 : goal.write_in-requires-2
write_in-requires-2 c =
    let t = c.before.before.before.before.before in
    let a = t.args in
    (in-first (Room a.x a.kind a.key a.index a.at (length a.out.now)) a.s.now a.t.now a.x c.if-x.false).0
    t.requires

pub returns : goal.returns
returns c =
    let a = c.args in
    (in-first (Done a.x a.kind a.key a.index a.at _ _ _) a.s.now a.t.now a.x
    c.if-x.false).1 c.write_in-2.ensures
