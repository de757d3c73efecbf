-- `register_at` meets its contract: one value after the other, in place.
use mathlib.Core.Path.{◌≡◌, ap, sym, ◌∙◌}
use mathlib.Core.List.{map}
use Prim.Native.Nat.{◌<◌}
use lib.ListN.{length}
use Rattle.limits.specs.Limits.{value_limit}
use Rattle.register.specs.Values.{register_of}
use Rattle.register.proofs.Packs.{pushed}
use Rattle.maprecords.specs.Reading.{numbers_below}
use Rattle.memory.specs.Memory.{value_place, value_at, values_at}
use Rattle.memory.proofs.Views.{length-of}
use Rattle.delivery.proofs.Belows.{made_none, made-next}
use Rattle.delivery.proofs.Rooms.{value_room}
use native.Mathlib.Omega.{arith}
use Rattle.delivery.proofs.register_at.Goals.{After-value_at-v}
use Rattle.delivery.proofs.register_at.Goals as goal

pub loop-i-init : goal.loop-i-init
loop-i-init c = c.new-register.ensures ∙ ap register_of (sym (made_none _))

-- there is room for the value
few : (c : After-value_at-v) → let a = c.args in
    length (map (λ k. value_at a.mem.now (value_place a.j k)) (numbers_below c.loop-i.i)) < value_limit
few c =
    let a = c.args in
    omega (arith, length-of (λ k. value_at a.mem.now (value_place a.j k)) c.loop-i.i, c.count-n.ensures)

room : (c : After-value_at-v) → (c.loop-i.register.len < value_limit) × (length c.loop-i.register.values ≡ value_limit)
room c = value_room _ c.loop-i.invariant (few c)

pub loop-i-preserved : goal.loop-i-preserved
loop-i-preserved c =
    made-next _ register_of c.loop-i.i c.value_at-v.ensures (pushed _ _ c.loop-i.invariant (few c))

pub returns : goal.returns
unfolding values_at
returns c =
    let a = c.args in
    let e = c.count-n.ensures in
    c.loop-i.invariant ∙ ap (λ m. register_of (map (λ k. value_at a.mem.now (value_place a.j k)) (numbers_below m))) (omega arith)

pub offset_bounds-register-k : goal.offset_bounds-register-k
offset_bounds-register-k c = omega (arith, room c)

pub bounds-register-k : goal.bounds-register-k
bounds-register-k c = omega (arith, room c)

pub overflow_add-register : goal.overflow_add-register
overflow_add-register c = omega (arith, room c)
