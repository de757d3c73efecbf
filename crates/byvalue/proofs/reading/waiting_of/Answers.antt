-- `waiting_of` meets its contract: one removal after the other, in place.
use mathlib.Core.Path.{◌≡◌, ap, sym, ◌∙◌}
use mathlib.Core.List.{map}
use Prim.Native.Nat.{◌<◌}
use lib.ListN.{length}
use Rattle.limits.specs.Limits.{waiting_limit}
use Rattle.removals.specs.Model.{waiting_as}
use Rattle.removals.proofs.Packs.{removal-pushed}
use Rattle.maprecords.specs.Reading.{numbers_below}
use Rattle.memory.specs.Memory.{removal_at, waiting_at}
use Rattle.memory.proofs.Views.{length-of}
use Rattle.delivery.proofs.Belows.{made_none, made-next}
use Rattle.byvalue.proofs.Rooms.{removal-room}
use native.Mathlib.Omega.{arith}
use Rattle.byvalue.proofs.reading.waiting_of.Goals.{After-removal_at-r}
use Rattle.byvalue.proofs.reading.waiting_of.Goals as goal

pub loop-k-init : goal.loop-k-init
loop-k-init c = c.new-waiting.ensures ∙ ap waiting_as (sym (made_none _))

-- there is room for the removal
few : (c : After-removal_at-r) → length (map (removal_at c.args.mem.now)
    (numbers_below c.loop-k.k)) < waiting_limit
few c =
    omega (arith, length-of (removal_at c.args.mem.now) c.loop-k.k, c.count-n.ensures)

room : (c : After-removal_at-r) → (c.loop-k.waiting.len < waiting_limit)
    × (length c.loop-k.waiting.items ≡ waiting_limit)
room c = removal-room _ c.loop-k.invariant (few c)

pub loop-k-preserved : goal.loop-k-preserved
loop-k-preserved c =
    made-next _ waiting_as c.loop-k.k c.removal_at-r.ensures (removal-pushed _ _ c.loop-k.invariant (few c))

pub returns : goal.returns
unfolding waiting_at
returns c =
    let e = c.count-n.ensures in
    c.loop-k.invariant ∙ ap (λ m. waiting_as (map (removal_at c.args.mem.now) (numbers_below m))) (omega arith)

pub offset_bounds-waiting-m : goal.offset_bounds-waiting-m
offset_bounds-waiting-m c = omega (arith, room c)

pub bounds-waiting-m : goal.bounds-waiting-m
bounds-waiting-m c = omega (arith, room c)

pub overflow_add-waiting : goal.overflow_add-waiting
overflow_add-waiting c = omega (arith, room c)
