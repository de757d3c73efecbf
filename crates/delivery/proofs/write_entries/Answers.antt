-- `write_entries` meets its contract: one entry after the other.
use mathlib.Core.Path.{ap}
use Rattle.records.proofs.Writing.{write-start, write-room, write-on, write-end, write_kept}
use Rattle.mapimage.specs.MapImage.{flat_from, entry_records}
use Rattle.memory.specs.Memory.{entry_held_at}
use Rattle.delivery.proofs.Views.{entries-left, entries-end}
use native.Mathlib.Omega.{arith}
use Rattle.delivery.proofs.write_entries.Goals as goal

pub loop-j-init : goal.loop-j-init
loop-j-init c = write-start _ _ _ c.requires

pub write_entry-next-requires : goal.write_entry-next-requires
unfolding flat_from
write_entry-next-requires c =
    let a = c.args in
    let f = entry_records a.kind in
    let e = ap (flat_from f c.loop-j.j) (entries-left a.mem.now c.loop-j.j (omega arith)) in
    rw c.entry_at-e.ensures (write-room _ _ _ (f c.loop-j.j (entry_held_at a.mem.now c.loop-j.j)) _ c.loop-j.invariant e).0

pub loop-j-preserved : goal.loop-j-preserved
unfolding flat_from
loop-j-preserved c =
    let a = c.args in
    let f = entry_records a.kind in
    let e = ap (flat_from f c.loop-j.j) (entries-left a.mem.now c.loop-j.j (omega arith)) in
    write-on _ _ _ (f c.loop-j.j (entry_held_at a.mem.now c.loop-j.j)) c.loop-j.invariant e
    (rw c.entry_at-e.ensures at c.write_entry-next.ensures)

pub shape_of-out : goal.shape_of-out
shape_of-out c = write_kept _ _ _ c.loop-j.invariant

pub returns : goal.returns
unfolding flat_from
returns c =
    let a = c.args in
    write-end _ _ _ c.loop-j.invariant (ap (flat_from (entry_records a.kind) c.loop-j.j) (entries-end a.mem.now c.loop-j.j (omega arith)))
