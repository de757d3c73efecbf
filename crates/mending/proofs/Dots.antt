-- The dots of a waiting index from a place on, and two clocks compared dot by dot.
use mathlib.Core.Path.{◌≡◌, refl, ap, ap₂, sym, ◌∙◌}
use mathlib.Core.Bool.{Bool, true, false, not, ◌&&◌, and-true}
use mathlib.Core.List.{List, [], ◌∷◌}
use mathlib.Core.Logic.{⊎_elim}
use Prim.Native.Nat.{ℕ, suc, ◌+◌, ◌*◌, ◌/◌, ◌≤◌, ◌<◌}
use native.Mathlib.Omega.{arith}
use native.Mathlib.Numerals.{add-one}
use borrow.Author.Tests.{le-ltb, ltb-true, ltb-false}
use lib.Dec.{eqb, ltb}
use lib.ListN.{length, drop, get_or}
use lib.Seq.{drop-cons}
use Rattle.listlaws.specs.Sift.{sift}
use Rattle.listlaws.proofs.Rests.{drop-end}
use Rattle.clock.specs.declared.Dot.{Dot}
use Rattle.records.specs.declared.Record.{Record}
use Rattle.records.specs.Records.{record_from}
use Rattle.removals.specs.Waits.{clock_before}
use Rattle.removals.proofs.ClockOrder.{before-actor, before-counter, before-rest, before_self}
use Rattle.clockimage.specs.Image.{dot_of, dots_from}
use Rattle.maprecords.specs.Reading.{under_index}
use Rattle.salvagerules.specs.Indexes.{same_dots, waiting_clock}
use Rattle.scan.proofs.Eachs.{decide}
use Rattle.salvagelaws.proofs.Waiting.{same-dots, clocks-apart}
use Rattle.culling.specs.Marks.{marked_of, is_left, left_items}
use Rattle.culling.specs.Looking.{is_wanted, want_index}
use Rattle.culling.proofs.Marked.{no_marked, count-marked, marked-at}
use Rattle.mending.specs.Tables.{fourth_of, dots_after, DotPlace}

-- a record that is wanted by its index is under it
wanted-under : (index : ℕ) (r : Record) → is_wanted (want_index 5 index) r ≡ under_index 5 index r
wanted-under index r = ap (λ b. eqb r.kind 5 && b) (and-true (eqb r.index index))

module _ (marks s : List ℕ) (room : length s / 16 ≤ length marks) (index i : ℕ) (h : i < length s / 16) where
  step : drop i (marked_of marks s) ≡ record { mark = get_or marks i 0; item = record_from s (i * 16) } ∷ drop (i + 1) (marked_of marks s)
  step =
      rw (add-one i) (drop-cons (marked_of marks s) i no_marked (omega (arith, count-marked marks s room))
      ∙ ap (λ z. z ∷ drop (suc i) (marked_of marks s)) (marked-at marks s room i h))

  -- the record at a place is a dot of the index, or not
  pub dots-here : is_left 5 (get_or marks i 0) ≡ true → under_index 5 index (record_from s (i * 16)) ≡ true
      → dots_after marks s index i ≡ dot_of (record_from s (i * 16)) ∷ dots_after marks s index (i + 1)
  unfolding sift
  dots-here a b = ap (λ l. dots_from (under_index 5 index) (left_items 5 l)) step ∙ rw (a, b)

  pub dots-other : is_left 5 (get_or marks i 0) ≡ true → under_index 5 index (record_from s (i * 16)) ≡ false
      → dots_after marks s index i ≡ dots_after marks s index (i + 1)
  unfolding sift
  dots-other a b = ap (λ l. dots_from (under_index 5 index) (left_items 5 l)) step ∙ rw (a, b)

  pub dots-gone : is_left 5 (get_or marks i 0) ≡ false → dots_after marks s index i ≡ dots_after marks s index (i + 1)
  unfolding sift
  dots-gone a = ap (λ l. dots_from (under_index 5 index) (left_items 5 l)) step ∙ rw a

  -- what a test of the record says
  pub told : {b : Bool} {r : Record} → r ≡ record_from s (i * 16) → b ≡ is_wanted (want_index 5 index) r → under_index 5 index (record_from s
      (i * 16)) ≡ b
  told e f = sym (f ∙ ap (is_wanted (want_index 5 index)) e ∙ wanted-under index (record_from s (i * 16)))

pub dots-end : (marks s : List ℕ) → length s / 16 ≤ length marks → (index i : ℕ) → length s / 16 ≤ i → dots_after marks s index i ≡ []
unfolding sift
dots-end marks s room index i h = ap (λ l. dots_from (under_index 5 index) (left_items 5 l)) (drop-end (marked_of marks s) i (omega (
  arith,
  count-marked marks s room,
)))

none_before : (l : List Dot) → clock_before l [] ≡ false
unfolding clock_before
none_before [] = refl
none_before (x ∷ l) = refl

-- two clocks are compared from the places i and j on; what stands there is their next dots
pub record Comparing (marks s : List ℕ) (a b i j : ℕ) : Type 0 where
  pub rest : clock_before (waiting_clock (fourth_of marks s) a) (waiting_clock (fourth_of marks s) b)
      ≡ clock_before (dots_after marks s a i) (dots_after marks s b j)
  pub first : i < length s / 16 → dots_after marks s a i ≡ dot_of (record_from s (i * 16)) ∷ dots_after marks s a (i + 1)
  pub second : j < length s / 16 → dots_after marks s b j ≡ dot_of (record_from s (j * 16)) ∷ dots_after marks s b (j + 1)

module _ {marks s : List ℕ} {a b : ℕ} where
  pub compare-start : {i j : ℕ} → DotPlace marks s a 0 i → DotPlace marks s b 0 j → Comparing marks s a b i j
  compare-start p q = record { rest = ap₂ clock_before p.rest q.rest; first = p.here; second = q.here }

  module _ {i j : ℕ} (g : Comparing marks s a b i j) (h : i < length s / 16) (k : j < length s / 16) where
    both-dots : clock_before (waiting_clock (fourth_of marks s) a) (waiting_clock (fourth_of marks s) b)
        ≡ clock_before (dot_of (record_from s (i * 16)) ∷ dots_after marks s a (i + 1))
        (dot_of (record_from s (j * 16)) ∷ dots_after marks s b (j + 1))
    both-dots = g.rest ∙ ap₂ clock_before (g.first h) (g.second k)

    module _ {x y : Record} (e : x ≡ record_from s (i * 16)) (f : y ≡ record_from s (j * 16)) where
      pub compare-actor : (x.actor ≡ y.actor → ⊥)
          → ltb x.actor y.actor ≡ clock_before (waiting_clock (fourth_of marks s) a) (waiting_clock (fourth_of marks s) b)
      compare-actor n = rw both-dots (rw (← e, ← f) (before-actor (dot_of x) (dot_of y) (dots_after marks s a (i + 1)) (dots_after marks s b
          (j + 1)) n))

      pub compare-counter : x.actor ≡ y.actor → (x.number ≡ y.number → ⊥)
          → ltb x.number y.number ≡ clock_before (waiting_clock (fourth_of marks s) a) (waiting_clock (fourth_of marks s) b)
      compare-counter m n =
          rw both-dots (rw (← e, ← f) (before-counter (dot_of x) (dot_of y) (dots_after marks s a (i + 1)) (dots_after marks s b (j + 1)) m n))

      pub compare-on : x.actor ≡ y.actor → x.number ≡ y.number → {p q : ℕ} → DotPlace marks s a (i + 1) p → DotPlace marks s b (j + 1) q
          → Comparing marks s a b p q
      compare-on m n p q = record {
        rest = both-dots
            ∙ ap₂ (λ u v. clock_before (dot_of u ∷ dots_after marks s a (i + 1)) (dot_of v ∷ dots_after marks s b (j + 1))) (sym e) (sym f)
            ∙ before-rest (dot_of x) (dot_of y) (dots_after marks s a (i + 1)) (dots_after marks s b (j + 1)) m n
            ∙ ap₂ clock_before p.rest q.rest;
        first = p.here;
        second = q.here;
      }

  -- one is at its end
  module _ (room : length s / 16 ≤ length marks) {i j : ℕ} (g : Comparing marks s a b i j) where
    pub compare-first : length s / 16 ≤ i → ltb j (length s / 16) ≡ clock_before (waiting_clock (fourth_of marks s) a) (waiting_clock
        (fourth_of marks s) b)
    unfolding clock_before
    compare-first h =
        sym (g.rest ∙ ap (λ l. clock_before l (dots_after marks s b j)) (dots-end marks s room a i h)
        ∙ decide (ltb j (length s / 16))
        (λ t. rw t (ap (clock_before []) (g.second (ltb-true j _ t))))
        (λ t. rw t (ap (clock_before []) (dots-end marks s room b j (ltb-false j _ t)))))

    pub compare-second : length s / 16 ≤ j → ltb j (length s / 16) ≡ clock_before (waiting_clock (fourth_of marks s) a) (waiting_clock
        (fourth_of marks s) b)
    compare-second h =
        le-ltb j (length s / 16) h
        ∙ sym (g.rest ∙ ap (clock_before (dots_after marks s a i)) (dots-end marks s room b j h) ∙ none_before (dots_after marks s a i))

-- clocks of which none stands before the other are the same
pub same-clocks : (l m : List Dot) → (not (clock_before l m) && not (clock_before m l)) ≡ same_dots l m
same-clocks l m =
    decide (same_dots l m)
    (λ t. let e = same-dots l m t in rw t (rw (e, before_self m) refl))
    (λ f. rw f (⊎_elim (λ t. rw t) (λ t. rw t (none (clock_before l m))) (clocks-apart l m f)))
  where
    none : (b : Bool) → (not b && false) ≡ false
    none true = refl
    none false = refl
