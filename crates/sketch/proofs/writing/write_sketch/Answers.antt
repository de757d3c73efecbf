-- `write_sketch` meets its contract: one entry after the other, and one section behind the other.
use mathlib.Core.Path.{refl, ap, subst, sym, ◌∙◌}
use mathlib.Core.List.{List, ◌++◌, map}
use Prim.Native.Nat.{◌+◌}
use lib.ListN.{get_or, length-map}
use native.Mathlib.Omega.{arith}
use Rattle.listlaws.specs.Order.{◌∈◌}
use Rattle.listlaws.proofs.SliceRests.{in_list}
use Rattle.records.proofs.Writing.{Writing, write-start, write-room, write-on, write-end}
use Rattle.clock.specs.Dots.{dots_of}
use Rattle.records.specs.declared.Record.{Record}
use Rattle.clockimage.specs.Image.{dot_record, dot_records}
use Rattle.mapimage.specs.MapImage.{entry_records}
use Rattle.sketch.specs.declared.Sketched.{Sketched}
use Rattle.sketch.specs.Drawn.{drawn, drawn_all, sections_of}
use Rattle.sketch.proofs.Sources.{no_sketched_read, sections_from, sections-end, section-start, section-on, section-end, left_as}
use Rattle.sketch.proofs.writing.write_sketch.Goals.{Start}
use Rattle.sketch.proofs.writing.write_sketch.Goals as goal

-- the dots of the clock, and the sections behind them
module _ (z : Start) where
  abbrev dots : List Record
  dots = dot_records 1 0 0 (dots_of z.args.clock)

  abbrev sections : List Record
  sections = sections_of (drawn_all z.args.s.now z.args.t.now z.args.sk)

  start : Writing (dots ++ sections) (dots ++ sections) 0 z.args.out.now z.args.out.now 0
  start = let h = z.requires.1 in write-start _ 0 _ (omega arith)

pub write_dots-next-requires : goal.write_dots-next-requires
write_dots-next-requires c =
    let z = (goal.at.write_dots-next-requires c).Start in
    omega (arith, (write-room _ _ _ (dots z) _ (start z) refl).0, length-map (dots_of c.args.clock) (dot_record 1 0 0))

pub loop-kind-init : goal.loop-kind-init
loop-kind-init c = let z = (goal.at.loop-kind-init c).Start in write-on _ _ _ (dots z) (start z) refl c.write_dots-next.ensures

pub loop-e-init : goal.loop-e-init
loop-e-init c =
    let s = c.args.s.now in
    let t = c.args.t.now in
    let kind = c.loop-kind.kind in
    left_as (ap (λ (xs : List Sketched). sections_from kind (map (drawn s t) xs)) (sym c.as_slice-e-items.ensures)
    ∙ section-start s t kind c.as_slice-e-items.result.now (omega arith) c.loop-kind-test.true) c.loop-kind.invariant

pub write_entry-next-requires : goal.write_entry-next-requires
write_entry-next-requires c =
    let s = c.args.s.now in
    let t = c.args.t.now in
    let kind = c.loop-kind.kind in
    let xs = c.as_slice-e-items.result.now in
    let i = c.loop-e.e-index in
    let k = c.loop-e-test.true in (
      c.requires.0.each _ (subst (λ (z : List Sketched). get_or xs i no_sketched_read ∈ z) c.as_slice-e-items.ensures
          (in_list xs i no_sketched_read k)),
      (write-room _ _ _ (entry_records kind i (drawn s t (get_or xs i no_sketched_read))) _ c.loop-e.invariant (section-on s t kind xs i k)).0,
    )

pub loop-e-preserved : goal.loop-e-preserved
loop-e-preserved c =
    let s = c.args.s.now in
    let t = c.args.t.now in
    let kind = c.loop-kind.kind in
    let xs = c.as_slice-e-items.result.now in
    let i = c.loop-e.e-index in
    write-on _ _ _ (entry_records kind i (drawn s t (get_or xs i no_sketched_read))) c.loop-e.invariant
    (section-on s t kind xs i c.loop-e-test.true) c.write_entry-next.ensures

pub loop-kind-preserved : goal.loop-kind-preserved
loop-kind-preserved c =
    let s = c.args.s.now in
    let t = c.args.t.now in
    let kind = c.loop-kind.kind in
    left_as (section-end s t kind c.as_slice-e-items.result.now c.loop-e.e-index (omega arith)
    ∙ ap (λ (xs : List Sketched). sections_from (kind + 1) (map (drawn s t) xs)) c.as_slice-e-items.ensures) c.loop-e.invariant

pub returns : goal.returns
returns c = write-end _ _ _ c.loop-kind.invariant (sections-end c.loop-kind.kind (drawn_all c.args.s.now c.args.t.now c.args.sk) (omega arith))
