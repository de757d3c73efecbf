-- `write_sources` meets its contract: one value after the other.
use mathlib.Core.Path.{ap, subst, sym, ◌∙◌}
use mathlib.Core.List.{List}
use Prim.Native.Nat.{ℕ}
use lib.ListN.{get_or}
use native.Mathlib.Omega.{arith}
use Rattle.listlaws.specs.Order.{◌∈◌}
use Rattle.listlaws.proofs.SliceRests.{in_list}
use Rattle.records.specs.declared.Record.{Record}
use Rattle.records.proofs.Writing.{write-start, write-room, write-on, write-end}
use Rattle.mapimage.specs.MapImage.{flat_from, value_records}
use Rattle.mapimage.proofs.Flats.{flat-end}
use Rattle.sketch.specs.declared.Source.{Source}
use Rattle.sketch.specs.Drawn.{value_from, sources_of}
use Rattle.sketch.proofs.Sources.{no_source_read, flat_map, flat_next, wrote_as}
use Rattle.sketch.proofs.writing.write_sources.Goals as goal

pub loop-i-init : goal.loop-i-init
loop-i-init c =
    let a = c.args in
    write-start _ _ _ (rw c.as_slice-x-items.ensures
    (rw (flat_map (value_records a.kind a.e.key) (value_from a.s.now a.t.now) 0 (sources_of a.e)) at c.requires.1))

pub write_source-next-requires : goal.write_source-next-requires
write_source-next-requires c =
    let a = c.args in
    let xs = c.as_slice-x-items.result.now in
    let f : ℕ → Source → List Record = λ j x. value_records a.kind a.e.key j (value_from a.s.now a.t.now x) in
    let i = c.loop-i.i in
    let k = c.loop-i-test.true in (
      c.requires.0.each _ (subst (λ (z : List Source). get_or xs i no_source_read ∈ z) c.as_slice-x-items.ensures (in_list xs i no_source_read k)),
      (write-room _ _ _ (f i (get_or xs i no_source_read)) _ c.loop-i.invariant (flat_next f xs i no_source_read k)).0,
    )

pub loop-i-preserved : goal.loop-i-preserved
loop-i-preserved c =
    let a = c.args in
    let xs = c.as_slice-x-items.result.now in
    let f : ℕ → Source → List Record = λ j x. value_records a.kind a.e.key j (value_from a.s.now a.t.now x) in
    let i = c.loop-i.i in
    write-on _ _ _ (f i (get_or xs i no_source_read)) c.loop-i.invariant (flat_next f xs i no_source_read c.loop-i-test.true)
    c.write_source-next.ensures

pub returns : goal.returns
returns c =
    let a = c.args in
    let xs = c.as_slice-x-items.result.now in
    let f : ℕ → Source → List Record = λ j x. value_records a.kind a.e.key j (value_from a.s.now a.t.now x) in
    wrote_as (flat_map (value_records a.kind a.e.key) (value_from a.s.now a.t.now) 0 (sources_of a.e)
    ∙ ap (flat_from f 0) (sym c.as_slice-x-items.ensures))
    (write-end _ _ _ c.loop-i.invariant (flat-end f xs c.loop-i.i (omega arith)))
