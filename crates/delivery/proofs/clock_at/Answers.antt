-- `clock_at` meets its contract: one dot after the other, in place.
use mathlib.Core.Path.{◌≡◌, ap, sym, ◌∙◌}
use mathlib.Core.List.{map}
use Prim.Native.Nat.{◌+◌, ◌*◌, ◌<◌}
use lib.ListN.{length}
use Rattle.limits.specs.Limits.{dot_limit}
use Rattle.clock.specs.Dots.{clock_of}
use Rattle.clock.proofs.Packs.{pushed, dot-room}
use Rattle.maprecords.specs.Reading.{numbers_below}
use Rattle.memory.specs.Memory.{dot_room, dot_at, dots_at}
use Rattle.memory.proofs.Views.{length-of}
use Rattle.delivery.proofs.Belows.{made_none, made-next}
use native.Mathlib.Omega.{arith}
use Rattle.delivery.proofs.clock_at.Goals.{After-dot_at-d}
use Rattle.delivery.proofs.clock_at.Goals as goal

pub loop-i-init : goal.loop-i-init
loop-i-init c = c.new-clock.ensures ∙ ap clock_of (sym (made_none _))

-- there is room for the dot
few : (c : After-dot_at-d) → let a = c.args in
    length (map (λ j. dot_at a.mem.now (a.at + 1 + j * dot_room)) (numbers_below c.loop-i.i)) < dot_limit
few c =
    let a = c.args in
    omega (arith, length-of (λ j. dot_at a.mem.now (a.at + 1 + j * dot_room)) c.loop-i.i, c.count-n.ensures)

room : (c : After-dot_at-d) → (c.loop-i.clock.len < dot_limit) × (length c.loop-i.clock.dots ≡ dot_limit)
room c = dot-room _ c.loop-i.invariant (few c)

pub loop-i-preserved : goal.loop-i-preserved
loop-i-preserved c =
    made-next _ clock_of c.loop-i.i c.dot_at-d.ensures (pushed _ _ c.loop-i.invariant (few c))

pub returns : goal.returns
unfolding dots_at
returns c =
    let a = c.args in
    let e = c.count-n.ensures in
    c.loop-i.invariant ∙ ap (λ m. clock_of (map (λ j. dot_at a.mem.now (a.at + 1 + j * dot_room)) (numbers_below m))) (omega arith)

pub offset_bounds-clock-k : goal.offset_bounds-clock-k
offset_bounds-clock-k c = omega (arith, room c)

pub bounds-clock-k : goal.bounds-clock-k
bounds-clock-k c = omega (arith, room c)

pub overflow_add-clock : goal.overflow_add-clock
overflow_add-clock c = omega (arith, room c)
