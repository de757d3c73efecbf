-- The report, record by record: what is told of the places from one on, and a writer of it.
use mathlib.Core.Path.{◌≡◌, refl, ap, sym, ◌∙◌}
use mathlib.Core.Bool.{Bool, true, false, cond}
use mathlib.Core.List.{List, [], ◌∷◌, ◌++◌, map, append-nil, append_assoc}
use Prim.Native.Nat.{ℕ, suc, ◌+◌, ◌*◌, ◌/◌, ◌%◌, ◌≤◌, ◌<◌}
use native.Mathlib.Omega.{arith}
use native.Mathlib.Numerals.{add-one}
use borrow.Author.Tests.{eq-eqb, ne_eqb}
use lib.Dec.{eqb, ltb}
use lib.ListN.{length, drop, get_or, length-append, length-map, get_or-map}
use lib.Seq.{drop-cons}
use Rattle.listlaws.proofs.Rests.{drop-end}
use Rattle.records.specs.Bytes.{num_bytes}
use Rattle.records.specs.Writing.{Wrote}
use Rattle.records.proofs.Placing.{placed-none, placed_on, length-placed}
use Rattle.scan.proofs.Eachs.{decide}
use Rattle.records.specs.Records.{records_of}
use Rattle.salvagerules.specs.Report.{Told, told_from, told_bytes, told_of, steps_of}
use Rattle.salvagerules.specs.Calls.{salvage_report}
use Rattle.salvagerules.specs.Steps.{fates_of}
use Rattle.culling.specs.Marks.{MarkedRecord, marked_of}
use Rattle.culling.proofs.Marked.{no_marked, count-marked, marked-at}
use Rattle.mending.specs.Fated.{fate_of, Tells}
use Rattle.salvage.specs.Selecting.{steps_in}

-- the bytes of a report
pub length-told : (l : List Told) → length (told_bytes l) ≡ length l * 5
unfolding told_bytes
length-told [] = refl
length-told (t ∷ l) =
    let e = length-append (num_bytes 2 t.place ++ num_bytes 0 t.step) (told_bytes l) in
    omega (arith, e, length-told l)

pub told-append : (l m : List Told) → told_bytes (l ++ m) ≡ told_bytes l ++ told_bytes m
unfolding told_bytes
told-append [] m = refl
told-append (t ∷ l) m =
    ap (λ b. (num_bytes 2 t.place ++ num_bytes 0 t.step) ++ b) (told-append l m)
    ∙ sym (append_assoc (num_bytes 2 t.place ++ num_bytes 0 t.step) (told_bytes l) (told_bytes m))

-- of a list of what is told all is written but the rest
pub record Telling (whole rest : List Told) (entry now : List ℕ) (next : ℕ) : Type 0 where
  pub done : List Told
  pub parts : whole ≡ done ++ rest
  pub wrote : Wrote 0 (told_bytes done) entry now next
  pub fits : length whole * 5 ≤ length entry

pub tell-start : (whole : List Told) (entry : List ℕ) → length whole * 5 ≤ length entry → Telling whole whole entry entry 0
unfolding told_bytes
tell-start whole entry h = record {
  done = [];
  parts = refl;
  wrote = record { left = sym (placed-none 0 entry (omega arith)); ends = omega arith };
  fits = h;
}

module _ {whole rest : List Told} {entry now : List ℕ} {next : ℕ} (w : Telling whole rest entry now next) where
  counted : length whole ≡ length w.done + length rest
  counted = ap length w.parts ∙ length-append w.done rest

  pub tell-kept : length now ≡ length entry
  tell-kept =
      let b = length-told w.done in
      let h = w.fits in
      let n = counted in
      ap length w.wrote.left ∙ length-placed 0 (told_bytes w.done) entry (omega arith)

  pub tell-end : rest ≡ [] → Wrote 0 (told_bytes whole) entry now next
  tell-end e = rw (w.parts ∙ ap (λ k. w.done ++ k) e ∙ append-nil w.done) w.wrote

  module _ {t : Told} {more : List Told} (e : rest ≡ t ∷ more) where
    pub tell-room : next + 5 ≤ length now
    tell-room = omega (arith, counted, ap length e, length-told w.done, w.fits, w.wrote.ends, tell-kept)

    pub tell-on : {exit : List ℕ} {after : ℕ} → Wrote next (told_bytes (t ∷ [])) now exit after → Telling whole more entry exit after
    tell-on x =
        let n = counted in
        let m = ap length e in
        let b = length-told w.done in
        let h = w.fits in
        let z = w.wrote.ends in
        let y = x.ends in
        let one = length-told (t ∷ []) in
        let both = told-append w.done (t ∷ []) in
        record {
          done = w.done ++ (t ∷ []);
          parts = w.parts ∙ ap (λ k. w.done ++ k) e ∙ sym (append_assoc w.done (t ∷ []) more);
          wrote = record {
            left = rw both (placed_on 0 next (told_bytes w.done) (told_bytes (t ∷ [])) entry w.wrote.left x.left z (omega arith));
            ends = rw (both, length-append (told_bytes w.done) (told_bytes (t ∷ []))) (omega arith);
          };
          fits = w.fits;
        }

-- the step that a mark tells
step_is : (z : MarkedRecord) → (fate_of z).step ≡ cond (ltb z.mark 8) z.mark 5
step_is z = decide (ltb z.mark 8) (λ t. rw t refl) (λ t. rw t refl)

-- what is told from a place on
abbrev pub told_after : List ℕ → List ℕ → ℕ → List Told
told_after marks s i = told_from i (drop i (steps_in (marked_of marks s)))

module _ (marks s : List ℕ) (room : length s / 16 ≤ length marks) where
  count-steps : length (steps_in (marked_of marks s)) ≡ length s / 16
  count-steps = length-map (marked_of marks s) (λ z. (fate_of z).step) ∙ count-marked marks s room

  pub told-end : (i : ℕ) → length s / 16 ≤ i → told_after marks s i ≡ []
  unfolding told_from
  told-end i h = ap (told_from i) (drop-end (steps_in (marked_of marks s)) i (omega (arith, count-steps)))

  module _ (i : ℕ) (h : i < length s / 16) where
    step : drop i (steps_in (marked_of marks s)) ≡ cond (ltb (get_or marks i 0) 8) (get_or marks i 0) 5 ∷ drop (i + 1) (steps_in (marked_of marks s))
    step = rw (add-one i)
        (drop-cons (steps_in (marked_of marks s)) i 0 (omega (arith, count-steps))
        ∙ ap (λ n. n ∷ drop (suc i) (steps_in (marked_of marks s)))
        (get_or-map (λ z. (fate_of z).step) (marked_of marks s) i no_marked ∙ step_is (get_or (marked_of marks s) i no_marked)
        ∙ ap (λ (z : MarkedRecord). cond (ltb z.mark 8) z.mark 5) (marked-at marks s room i h)))

    pub told_here : (get_or marks i 0 ≡ 0 → ⊥) → told_after marks s i
        ≡ record { place = i; step = cond (ltb (get_or marks i 0) 8) (get_or marks i 0) 5 }
        ∷ told_after marks s (i + 1)
    unfolding told_from
    told_here n = ap (told_from i) step ∙ rw (ne_eqb (cond (ltb (get_or marks i 0) 8) (get_or marks i 0) 5) 0 (other (ltb (get_or marks i 0) 8)))
      where
        other : (b : Bool) → cond b (get_or marks i 0) 5 ≡ 0 → ⊥
        other true e = n e
        other false e = omega arith

    pub told-skip : get_or marks i 0 ≡ 0 → told_after marks s i ≡ told_after marks s (i + 1)
    unfolding told_from
    told-skip e = ap (told_from i) step ∙ rw e

-- the steps of the whole records, and of a part
pub told-join : (place : ℕ) (l m : List ℕ) → told_from place (l ++ m) ≡ told_from place l ++ told_from (place + length l) m
unfolding told_from
told-join place [] m = let e : place ≡ place + 0 = omega arith in ap (λ p. told_from p m) e
told-join place (n ∷ l) m =
    let e : place + 1 + length l ≡ place + suc (length l) = omega arith in
    decide (eqb n 0)
    (λ t. rw t (told-join (place + 1) l m ∙ ap (λ p. told_from (place + 1) l ++ told_from p m) e))
    (λ t. rw t (ap (λ k. record { place = place; step = n } ∷ k) (told-join (place + 1) l m ∙ ap (λ p. told_from (place + 1) l ++ told_from p m) e)))

-- the report that is written
module _ (marks s : List ℕ) (h : Tells marks s (fates_of (records_of s))) where
  steps-are : map (λ f. f.step) (fates_of (records_of s)) ≡ steps_in (marked_of marks s)
  steps-are = ap (map (λ f. f.step)) (sym h.fates) ∙ map-map (marked_of marks s)
    where
      map-map : (l : List MarkedRecord) → map (λ f. f.step) (map fate_of l) ≡ steps_in l
      map-map [] = refl
      map-map (z ∷ l) = ap (λ t. (fate_of z).step ∷ t) (map-map l)

  pub report-is : length s % 16 ≡ 0 → told_bytes (told_from 0 (steps_in (marked_of marks s))) ≡ salvage_report s
  unfolding salvage_report told_of steps_of
  report-is e = sym (rw (eq-eqb (length s % 16) 0 e, steps-are, append-nil (steps_in (marked_of marks s))) refl)

  pub report-part : length s / 16 ≤ length marks → (length s % 16 ≡ 0 → ⊥)
      → told_bytes (told_from 0 (steps_in (marked_of marks s)) ++ (record { place = length s / 16; step = 1 } ∷ [])) ≡ salvage_report s
  unfolding salvage_report told_of steps_of told_from
  report-part room e =
      let n : 0 + length (steps_in (marked_of marks s)) ≡ length s / 16 = omega (arith, count-steps marks s room) in
      sym (rw (ne_eqb (length s % 16) 0 e, steps-are, told-join 0 (steps_in (marked_of marks s)) (1 ∷ []), n) refl)

-- its length, and a part behind what is written
module _ (marks s : List ℕ) (h : Tells marks s (fates_of (records_of s))) where
  pub report-long : length s % 16 ≡ 0 → (n : ℕ) → n ≡ length (told_from 0 (steps_in (marked_of marks s))) → length (salvage_report s) ≡ n * 5
  report-long e n q =
      sym (ap length (report-is marks s h e)) ∙ length-told (told_from 0 (steps_in (marked_of marks s))) ∙ ap (λ m. m * 5) (sym q)

  pub part-long : length s / 16 ≤ length marks → (length s % 16 ≡ 0 → ⊥) → (n : ℕ) → n ≡ length (told_from 0 (steps_in (marked_of marks s)))
      → length (salvage_report s) ≡ (n + 1) * 5
  part-long room e n q =
      let l = told_from 0 (steps_in (marked_of marks s)) in
      let t : List Told = record { place = length s / 16; step = 1 } ∷ [] in
      sym (ap length (report-part marks s h room e)) ∙ length-told (l ++ t) ∙ ap (λ m. m * 5) (length-append l t ∙ ap (λ m. m + 1) (sym q))

pub part-wrote : (l : List Told) (t : Told) {entry now exit : List ℕ} {next after : ℕ} → Wrote 0 (told_bytes l) entry now next
    → Wrote next (told_bytes (t ∷ [])) now exit after → (length l + 1) * 5 ≤ length entry → Wrote 0 (told_bytes (l ++ (t ∷ []))) entry exit after
part-wrote l t w x h =
    tell-end (tell-on {whole = l ++ (t ∷ [])} {rest = t ∷ []} (record {
      done = l;
      parts = refl;
      wrote = w;
      fits = omega (arith, length-append l (t ∷ []));
    }) {more = []} refl x) refl

pub told-room : (l : List Told) {entry now : List ℕ} {next : ℕ} → Wrote 0 (told_bytes l) entry now next → (length l + 1) * 5 ≤ length entry
    → next + 5 ≤ length now
told-room l {entry} w h =
    let b = length-told l in
    let k = ap length w.left ∙ length-placed 0 (told_bytes l) entry (omega arith) in
    omega (arith, w.ends)
