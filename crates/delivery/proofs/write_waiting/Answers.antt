-- `write_waiting` meets its contract: one clock after the other.
use mathlib.Core.Path.{ap}
use lib.ListN.{length-map}
use Rattle.clockimage.specs.Image.{dot_record}
use Rattle.records.proofs.Writing.{write-start, write-room, write-on, write-end, write_kept}
use Rattle.removals.specs.Model.{under_of}
use Rattle.mapimage.specs.MapImage.{flat_from, waiting_dots}
use Rattle.memory.specs.Memory.{removal_at}
use Rattle.delivery.proofs.Views.{waiting-left, waiting-end}
use native.Mathlib.Omega.{arith}
use Rattle.delivery.proofs.write_waiting.Goals as goal

pub loop-k-init : goal.loop-k-init
loop-k-init c = write-start _ _ _ c.requires

pub write_dots-next-requires : goal.write_dots-next-requires
unfolding flat_from
write_dots-next-requires c =
    let w = c.args.mem.now in
    let x = removal_at w c.loop-k.k in
    let e = ap (flat_from waiting_dots c.loop-k.k) (waiting-left w c.loop-k.k (omega arith)) in
    rw c.clock_at-clock.ensures (omega (
      arith,
      (write-room _ _ _ (waiting_dots c.loop-k.k x) _ c.loop-k.invariant e).0,
      length-map (under_of x) (dot_record 5 c.loop-k.k 0),
    ))

pub loop-k-preserved : goal.loop-k-preserved
unfolding flat_from
loop-k-preserved c =
    let w = c.args.mem.now in
    let e = ap (flat_from waiting_dots c.loop-k.k) (waiting-left w c.loop-k.k (omega arith)) in
    write-on _ _ _ (waiting_dots c.loop-k.k (removal_at w c.loop-k.k)) c.loop-k.invariant e
    (rw c.clock_at-clock.ensures at c.write_dots-next.ensures)

pub shape_of-out : goal.shape_of-out
shape_of-out c = write_kept _ _ _ c.loop-k.invariant

pub returns : goal.returns
unfolding flat_from
returns c =
    let w = c.args.mem.now in
    write-end _ _ _ c.loop-k.invariant (ap (flat_from waiting_dots c.loop-k.k) (waiting-end w c.loop-k.k (omega arith)))
