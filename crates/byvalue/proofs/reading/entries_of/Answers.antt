-- `entries_of` meets its contract: one entry after the other, in place.
use mathlib.Core.Path.{◌≡◌, ap, sym, ◌∙◌}
use mathlib.Core.List.{map}
use Prim.Native.Nat.{◌<◌}
use lib.ListN.{length}
use Rattle.limits.specs.Limits.{entry_limit}
use Rattle.entries.specs.Model.{entries_as}
use Rattle.entries.proofs.Packs.{entry-pushed}
use Rattle.maprecords.specs.Reading.{numbers_below}
use Rattle.memory.specs.Memory.{entry_held_at, entries_at}
use Rattle.memory.proofs.Views.{length-of}
use Rattle.delivery.proofs.Belows.{made_none, made-next}
use Rattle.byvalue.proofs.Rooms.{entry-room}
use native.Mathlib.Omega.{arith}
use Rattle.byvalue.proofs.reading.entries_of.Goals.{After-entry_at-e}
use Rattle.byvalue.proofs.reading.entries_of.Goals as goal

pub loop-j-init : goal.loop-j-init
loop-j-init c = c.new-entries.ensures ∙ ap entries_as (sym (made_none _))

-- there is room for the entry
few : (c : After-entry_at-e) → length (map (entry_held_at c.args.mem.now)
    (numbers_below c.loop-j.j)) < entry_limit
few c =
    omega (arith, length-of (entry_held_at c.args.mem.now) c.loop-j.j, c.count-n.ensures)

room : (c : After-entry_at-e) → (c.loop-j.entries.len < entry_limit)
    × (length c.loop-j.entries.items ≡ entry_limit)
room c = entry-room _ c.loop-j.invariant (few c)

pub loop-j-preserved : goal.loop-j-preserved
loop-j-preserved c =
    made-next _ entries_as c.loop-j.j c.entry_at-e.ensures (entry-pushed _ _ c.loop-j.invariant (few c))

pub returns : goal.returns
unfolding entries_at
returns c =
    let e = c.count-n.ensures in
    c.loop-j.invariant ∙ ap (λ m. entries_as (map (entry_held_at c.args.mem.now) (numbers_below m))) (omega arith)

pub offset_bounds-entries-k : goal.offset_bounds-entries-k
offset_bounds-entries-k c = omega (arith, room c)

pub bounds-entries-k : goal.bounds-entries-k
bounds-entries-k c = omega (arith, room c)

pub overflow_add-entries : goal.overflow_add-entries
overflow_add-entries c = omega (arith, room c)
