-- The loop that looks for a key among those of its united clock, and counts them.
use mathlib.Core.Path.{◌≡◌, refl, ap, ap₂, sym, ◌∙◌}
use mathlib.Core.Bool.{Bool, true, false, not, ◌&&◌}
use mathlib.Core.Logic.{⊎_elim}
use mathlib.Core.List.Memᴰ
use mathlib.Core.List.{List, [], ◌∷◌, ◌++◌}
use Prim.Native.Nat.{ℕ, ◌+◌, ◌*◌, ◌/◌, ◌≤◌, ◌<◌}
use native.Mathlib.Omega.{arith}
use borrow.Author.Tests.{eqb-true, eq-eqb, ne_eqb}
use lib.Dec.{eqb, ltb}
use lib.ListN.{length, take, get_or, length-take}
use Rattle.listlaws.specs.Order.{◌∈◌}
use Rattle.listlaws.specs.Sift.{sift, those}
use Rattle.listlaws.proofs.Pads.{length-snoc}
use Rattle.listlaws.proofs.Somes.{some_holds, false-some}
use Rattle.records.specs.declared.Record.{Record}
use Rattle.scan.proofs.Eachs.{decide}
use Rattle.scan.proofs.Rooms.{those-yes, those-no}
use Rattle.salvagerules.specs.Indexes.{waiting_indexes, of_united_clock, lists_already, key_room}
use Rattle.salvagelaws.proofs.Fourth.{Supplied}
use Rattle.salvagelaws.proofs.Limited.{key-known}
use Rattle.records.specs.Records.{record_from}
use Rattle.culling.specs.Marks.{marked_of, is_left, left_items}
use Rattle.culling.proofs.Marked.{no_marked, marked-at, count-marked}
use Rattle.mending.specs.Tables.{fourth_of, LeadsOf}
use Rattle.mending.proofs.Fourths.{left_in, left-all, left-more, left-skip, zero_left}
use Rattle.mending.proofs.Leading.{same-lead}

-- the leads say whether a waiting key is of the united clock of another
pub lead-tells : (k : List Record) → Supplied k → (leads : List ℕ) → LeadsOf k leads → (r s : Record) → r.index ∈ waiting_indexes k → s ∈ k
    → (eqb s.kind 6 && eqb (get_or leads s.index 0) (get_or leads r.index 0)) ≡ of_united_clock k r s
lead-tells k h leads t r s m i =
    decide (eqb s.kind 6)
    (λ a. rw a (same-lead k h.scan leads t s.index r.index (key-known k h s i (eqb-true s.kind 6 a)) m))
    (λ a. rw a refl)

-- of the keys seen none is that of r, and `count` are of its united clock
pub record Rooming (k : List Record) (r : Record) (seen : List Record) (count : ℕ) : Type 0 where
  pub none : (s : Record) → s ∈ seen → (of_united_clock k r s && eqb s.key r.key) ≡ false
  pub counted : count ≡ length (those (of_united_clock k r) seen)

module _ {k : List Record} {r : Record} where
  pub room-start : Rooming k r [] 0
  unfolding sift
  room-start = record { none = λ s i. absurd (Memᴰ.not-nil i); counted = refl }

  module _ {seen : List Record} {count : ℕ} (g : Rooming k r seen count) (s : Record) where
    none_more : (of_united_clock k r s && eqb s.key r.key) ≡ false → (x : Record) → x ∈ (seen ++ (s ∷ []))
        → (of_united_clock k r x && eqb x.key r.key) ≡ false
    none_more f x i =
        ⊎_elim (λ j. g.none x j) (λ j. let e : x ≡ s = Memᴰ.eq_of_singleton j in
        ap (λ y. of_united_clock k r y && eqb y.key r.key) e ∙ f) (Memᴰ.append_cases seen i)

    pub room-more : of_united_clock k r s ≡ true → eqb s.key r.key ≡ false → Rooming k r (seen ++ (s ∷ [])) (count + 1)
    room-more t f = record {
      none = none_more (ap₂ (λ a b. a && b) t f);
      counted = ap (λ n. n + 1) g.counted ∙ sym (ap length (those-yes (of_united_clock k r) seen s t) ∙ length-snoc (those
          (of_united_clock k r) seen) s);
    }

    pub room-other : of_united_clock k r s ≡ false → Rooming k r (seen ++ (s ∷ [])) count
    room-other f = record {
      none = none_more (ap (λ a. a && eqb s.key r.key) f);
      counted = g.counted ∙ sym (ap length (those-no (of_united_clock k r) seen s f));
    }

  pub room-end : {seen : List Record} {count : ℕ} → Rooming k r seen count → ltb count 16 ≡ (not (lists_already k seen r) && key_room k seen r)
  room-end {seen} {count} g =
      ap (λ n. ltb n 16) g.counted
      ∙ sym (ap (λ b. not b && key_room k seen r) (false-some (λ s. of_united_clock k r s && eqb s.key r.key) seen g.none))

pub room-found : (k : List Record) (r : Record) (seen : List Record) {s : Record} → s ∈ seen → of_united_clock k r s ≡ true
    → eqb s.key r.key ≡ true → false ≡ (not (lists_already k seen r) && key_room k seen r)
room-found k r seen i t f =
    sym (ap (λ b. not b && key_room k seen r) (some_holds (λ s. of_united_clock k r s && eqb s.key r.key) i (ap₂ (λ a b. a && b) t f)))

-- a place of the image in the loop: what the code found there
module _ (marks s leads : List ℕ) (room : length s / 16 ≤ length marks) (h : Supplied (fourth_of marks s)) (t : LeadsOf (fourth_of marks s) leads)
    (r : Record) (m : r.index ∈ waiting_indexes (fourth_of marks s)) (i : ℕ) (lt : i < length s / 16) {a : Bool}
    (e : a ≡ is_left 0 (get_or marks i 0)) where
  inside : i < length (marked_of marks s)
  inside = omega (arith, count-marked marks s room)

  here : is_left 0 (get_or (marked_of marks s) i no_marked).mark ≡ a
  here = ap (λ z. is_left 0 z.mark) (marked-at marks s room i lt) ∙ sym e

  abbrev pub seen_to : ℕ → List Record
  seen_to n = left_items 0 (take n (marked_of marks s))

  pub room-skip-at : {count : ℕ} → Rooming (fourth_of marks s) r (seen_to i) count → a ≡ false → Rooming (fourth_of marks s) r (seen_to (i + 1)) count
  room-skip-at g f = rw (left-skip 0 (marked_of marks s) i inside (here ∙ f)) g

  module _ (l : a ≡ true) {x : Record} (w : x ≡ record_from s (i * 16)) where
    item : (get_or (marked_of marks s) i no_marked).item ≡ x
    item = ap (λ z. z.item) (marked-at marks s room i lt) ∙ sym w

    tells : of_united_clock (fourth_of marks s) r (get_or (marked_of marks s) i no_marked).item
        ≡ (eqb x.kind 6 && eqb (get_or leads x.index 0) (get_or leads r.index 0))
    tells =
        sym (lead-tells (fourth_of marks s) h leads t r (get_or (marked_of marks s) i no_marked).item m
        (left-all 5 (marked_of marks s) i inside (zero_left (get_or (marked_of marks s) i no_marked).mark 5 (here ∙ l))))
        ∙ ap (λ y. eqb y.kind 6 && eqb (get_or leads y.index 0) (get_or leads r.index 0)) item

    pub room-other-at : {count : ℕ} → Rooming (fourth_of marks s) r (seen_to i) count
        → (eqb x.kind 6 && eqb (get_or leads x.index 0) (get_or leads r.index 0)) ≡ false → Rooming (fourth_of marks s) r (seen_to (i + 1)) count
    room-other-at g f = rw (left-more 0 (marked_of marks s) i inside (here ∙ l)) (room-other g _ (tells ∙ f))

    module _ (u : (eqb x.kind 6 && eqb (get_or leads x.index 0) (get_or leads r.index 0)) ≡ true) where
      pub room-more-at : {count : ℕ} → Rooming (fourth_of marks s) r (seen_to i) count → (x.key ≡ r.key → ⊥)
          → Rooming (fourth_of marks s) r (seen_to (i + 1)) (count + 1)
      room-more-at g f =
          rw (left-more 0 (marked_of marks s) i inside (here ∙ l))
          (room-more g _ (tells ∙ u) (ap (λ y. eqb y.key r.key) item ∙ ne_eqb x.key r.key f))

      pub room-found-at : (n : ℕ) → i < n → x.key ≡ r.key
          → false ≡ (not (lists_already (fourth_of marks s) (seen_to n) r) && key_room (fourth_of marks s) (seen_to n) r)
      room-found-at n k f =
          room-found (fourth_of marks s) r (seen_to n)
          (left_in 0 n (marked_of marks s) i (omega (arith, length-take n (marked_of marks s), count-marked marks s room)) (here ∙ l)) (tells ∙ u)
          (ap (λ y. eqb y.key r.key) item ∙ eq-eqb x.key r.key f)
