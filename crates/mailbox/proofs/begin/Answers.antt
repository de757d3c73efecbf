-- `begin` meets its contract.
use mathlib.Core.Path.{◌≡◌, refl, ap, sym, ◌∙◌}
use mathlib.Core.List.{[], ◌∷◌}
use Prim.Native.Nat.{ℕ, ◌+◌}
use native.Mathlib.Omega.{arith}
use lib.ListN.{length, length-replicate, replicate-append-replicate}
use Rattle.records.specs.Bytes.{placed}
use Rattle.records.proofs.Placing.{length-placed, placed-none, placed_one, placed_on}
use Rattle.memory.specs.Memory.{reader_room, length_place, clock_place}
use Rattle.mailbox.specs.Machine.{zeros, begun}
use Rattle.mailbox.proofs.begin.Goals as goal

pub loop-i-init : goal.loop-i-init
unfolding zeros
loop-i-init c =
    let m = c.args.mem.now in
    let kept : length c.put8.new.out ≡ reader_room = ap length c.put8.ensures ∙ length-placed 0 (1 ∷ []) m (omega arith)
    ∙ c.put8-arg-1.given.0.1 in
    (kept, sym (placed-none length_place c.put8.new.out (omega arith)))

pub loop-i-preserved : goal.loop-i-preserved
unfolding zeros
loop-i-preserved c =
    let m = c.put8.new.out in
    let i = c.loop-i.i in
    let room = c.loop-i.invariant.0 in
    let left = c.loop-i.invariant.1 in
    let long = length-replicate {A = ℕ} i 0 in
    let kept = ap length left ∙ length-placed length_place (zeros i) m (omega arith) in
    let one = c.clear.ensures ∙ placed_one (length_place + i) 0 c.loop-i.mem (omega arith) in (
      room,
      placed_on length_place (length_place + i) (zeros i) (0 ∷ []) m left one (omega arith) (omega arith)
          ∙ ap (λ z. placed length_place z m) (replicate-append-replicate {A = ℕ} i 1 0),
    )

pub returns : goal.returns
unfolding begun
returns c =
    let e : c.loop-i.i ≡ clock_place = omega arith in
    (refl, c.loop-i.invariant.1 ∙ ap (λ n. placed length_place (zeros n) c.put8.new.out) e ∙ rw c.put8.ensures)
