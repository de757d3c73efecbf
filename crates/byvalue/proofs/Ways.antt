-- What the images that were read allow: the map's calls may be made, and their results answered.
use mathlib.Core.Path.{◌≡◌, ap, ap₂, sym, ◌∙◌}
use mathlib.Core.Bool.{false}
use mathlib.Core.List.{List}
use Prim.Native.Nat.{ℕ, ◌+◌, ◌≤◌}
use native.Mathlib.Omega.{arith}
use lib.Dec.{eqb}
use Rattle.std.specs.Prelude.{IfOk}
use Rattle.std.specs.declared.result.Result.{Result}
use Rattle.std.specs.declared.result.Result.TheVariants.{Ok, Err}
use Rattle.refusals.specs.declared.Refusal.{Refusal}
use Rattle.scan.proofs.Eachs.{decide}
use Rattle.clock.specs.declared.Dot.{Dot}
use Rattle.clock.specs.Dots.{dots_of}
use Rattle.clockimage.specs.ClockImage.{ReadClock}
use Rattle.clockimage.specs.ClockImage.{read_clock}
use Rattle.map.specs.declared.Map.{Map}
use Rattle.map.specs.declared.Op.{Op}
use Rattle.map.specs.Judging.{Judged}
use Rattle.map.specs.Judging.{over_number, judgement, judged}
use Rattle.map.specs.Valid.{Valid, ValidOp, Within, OpWithin}
use Rattle.map.specs.Applying.{apply}
use Rattle.map.specs.Resetting.{reset}
use Rattle.map.proofs.Verdicts.{judged-map}
use Rattle.opimage.specs.OpImage.{ReadOp}
use Rattle.opimage.specs.OpImage.{read_op}
use Rattle.maprecords.specs.Related.{ReadMap}
use Rattle.maprecords.specs.Related.{read_map}
use Rattle.promises.specs.Deleted.{entry_dots, apply_deletes, reset_deletes, apply_deleted, reset_deleted}
use Rattle.promises.proofs.Deletes.{apply-deletes, reset-counts}
use Rattle.acceptancelaws.proofs.Maps.{map-within, no-map-within}
use Rattle.acceptancelaws.proofs.Ops.{op-within}

-- what was read
pub read-within : (s : List ℕ) {m : ReadMap} → m ≡ read_map s → Within m.map
read-within s e = rw e (map-within s)

pub read-op-within : (s : List ℕ) {o : ReadOp} → o ≡ read_op s → OpWithin o.op
read-op-within s e = rw e (op-within s)

pub op-valid : {op : Op} → OpWithin op → ValidOp op
op-valid w = record { removal = w.removal.valid; update = λ e. (w.update e).valid }

-- a judged map may be answered
judged-allowed : (m : Map) → Valid m → Valid (judged m).map
unfolding judged
judged-allowed m v = decide (eqb (over_number m) 0) (λ t. rw t v) (λ f. rw f no-map-within.valid)

pub judged-out : {m : Map} {j : Judged} → Valid m → j ≡ judged m → Valid j.map
judged-out {m} v e = rw e (judged-allowed m v)

pub answer-allowed : {m : Map} (r : Result Map Refusal) → Valid m → judgement r ≡ judged m → IfOk r (λ x. Valid x)
answer-allowed (Ok x) v e = judged-out v e
answer-allowed (Err y) v e = tt

-- a judged map that is not refused has the dots that are left
kept-dots : (m : Map) {j : Judged} → j ≡ judged m → j.number ≡ 0 → entry_dots j.map ≡ entry_dots m
kept-dots m e z = ap (λ (j : Judged). entry_dots j.map) e ∙ ap entry_dots (judged-map m (sym (ap (λ (j : Judged). j.number) e) ∙ z))

pub removal-fewer : (m : Map) (op : Op) {j : Judged} → op.up ≡ false → j ≡ judged (apply m op) → j.number ≡ 0 → entry_dots j.map ≤ entry_dots m
removal-fewer m op f e z = omega (arith, kept-dots (apply m op) e z, apply-deletes m op f)

pub reset-fewer : (m : Map) (c : List Dot) {j : Judged} → j ≡ judged (reset m c) → j.number ≡ 0 → entry_dots j.map ≤ entry_dots m
reset-fewer m c e z = omega (arith, kept-dots (reset m c) e z, reset-counts m c)

-- and what is counted of what was read makes up the rest
module _ (s t : List ℕ) {m : ReadMap} (e : m ≡ read_map s) {j : Judged} where
  pub removal-left : {o : ReadOp} → o ≡ read_op t → o.op.up ≡ false → j ≡ judged (apply m.map o.op) → j.number ≡ 0
      → entry_dots j.map + apply_deleted s t ≡ entry_dots m.map
  removal-left {o} k f q z =
      omega (
        arith,
        kept-dots (apply m.map o.op) q z,
        apply-deletes m.map o.op f,
        ap₂
            (λ (m : ReadMap) (o : ReadOp). apply_deletes m.map o.op) e k,
      )

  pub reset-left : {k : ReadClock} → k ≡ read_clock t → j ≡ judged (reset m.map (dots_of k.clock)) → j.number ≡ 0
      → entry_dots j.map + reset_deleted s t ≡ entry_dots m.map
  reset-left {k} h q z =
      omega (
        arith,
        kept-dots (reset m.map (dots_of k.clock)) q z,
        reset-counts m.map (dots_of k.clock),
        ap₂
            (λ (m : ReadMap) (k : ReadClock). reset_deletes m.map (dots_of k.clock)) e h,
      )
