-- Clocks in order: where one stands among them, and one more.
use mathlib.Core.Path.{◌≡◌, refl, ap, sym, ◌∙◌}
use mathlib.Core.Bool.{Bool, true, false, not, cond}
use mathlib.Core.List.{List, [], ◌∷◌, ◌++◌}
use Prim.Native.Nat.{ℕ, suc, ◌+◌, ◌≤◌, ◌<◌}
use native.Mathlib.Omega.{arith}
use native.Mathlib.Numerals.{add-one}
use lib.Dec.{eqb, ltb}
use lib.ListN.{set, replicate, get_or-replicate, length, take, drop, get_or, length-append, take-append-drop}
use lib.Seq.{get_or-set_same, get_or-set_other, drop-cons}
use borrow.Author.Tests.{ltb-true, ltb-false, lt-ltb, le-ltb, eqb-true, eqb-false}
use Rattle.listlaws.specs.Order.{Ascending}
use Rattle.listlaws.proofs.Orders.{tail-ascends, head-before, never-itself}
use Rattle.listlaws.proofs.Rests.{drop-end}
use Rattle.scan.proofs.Eachs.{decide}
use Rattle.clock.specs.declared.Dot.{Dot}
use Rattle.clock.specs.Dots.{is_empty}
use Rattle.limits.specs.Limits.{waiting_limit}
use Rattle.removals.specs.Waits.{clock_before}
use Rattle.removals.proofs.ClockOrder.{before-strict}
use Rattle.oneimagelaws.proofs.Stands.{Place, first, later, place_in}
use Rattle.queued.proofs.Marking.{get_d_past}
use Rattle.planned.specs.Seats.{seat_of, insert_clock, place_among}

-- i clocks stand before
pub record Seating (c : List Dot) (l : List (List Dot)) (i : ℕ) : Type 0 where
  pub left : seat_of c l ≡ i + seat_of c (drop i l)

module _ {c : List Dot} {l : List (List Dot)} where
  pub seat-start : Seating c l 0
  seat-start = record { left = omega arith }

  module _ {i : ℕ} (s : Seating c l i) where
    pub seat-on : i < length l → clock_before (get_or l i []) c ≡ true → Seating c l (i + 1)
    unfolding seat_of
    seat-on h t = record { left = s.left ∙ rw (drop-cons l i [] h, t, add-one) (omega arith) }

    pub seat-here : i < length l → clock_before (get_or l i []) c ≡ false → i ≡ seat_of c l
    unfolding seat_of
    seat-here h t = sym (s.left ∙ rw (drop-cons l i [] h, t) (omega arith))

    pub seat-end : length l ≤ i → i ≡ seat_of c l
    unfolding seat_of
    seat-end h = sym (s.left ∙ rw (drop-end l i h) (omega arith))

-- a clock of an ascending list stands behind those before it
pub seat-place : {c : List Dot} {j : ℕ} {l : List (List Dot)} → Ascending clock_before l → Place c j l → seat_of c l ≡ j
unfolding seat_of
seat-place {c} a (first {y = y} e) = decide (clock_before y c) (λ t. never-itself before-strict y (rw e at t)) (λ f. rw f)
seat-place {c} a (later {y = y} {l = l} p) = rw (head-before a c (place_in p)) (ap suc (seat-place (tail-ascends a) p))

-- one more in order: at its place where it is new, and nowhere where it is there
pub insert-fresh : (l : List (List Dot)) (c : List Dot) → (seat_of c l < length l → clock_before c (get_or l (seat_of c l) []) ≡ true)
    → insert_clock l c ≡ take (seat_of c l) l ++ (c ∷ drop (seat_of c l) l)
unfolding insert_clock seat_of
insert-fresh [] c f = refl
insert-fresh (d ∷ l) c f =
    decide (clock_before d c)
    (λ t. let g : seat_of c l < length l → clock_before c (get_or l (seat_of c l) []) ≡ true = λ h. rw t at f (omega arith) in rw t
    (ap (λ m. d ∷ m) (insert-fresh l c g)))
    (λ u. let g : clock_before c d ≡ true = rw u at f (omega arith) in rw (u, g))

pub insert-there : (l : List (List Dot)) (c : List Dot) → seat_of c l < length l → clock_before c (get_or l (seat_of c l) []) ≡ false
    → insert_clock l c ≡ l
unfolding insert_clock seat_of
insert-there [] c h f = absurd (omega arith)
insert-there (d ∷ l) c h f =
    decide (clock_before d c)
    (λ t. let g = rw t at f in let k = rw t at h in rw t (ap (λ m. d ∷ m) (insert-there l c (omega arith) g)))
    (λ u. let g = rw u at f in rw (u, g))

-- whether it is there, at its place
module _ (l : List (List Dot)) (c : List Dot) (k : ℕ) (e : k ≡ seat_of c l) where
  pub there-told : k < length l → {b : Bool} → b ≡ clock_before c (get_or l k []) → insert_clock l c ≡ cond (not b) l (take k l ++ (c ∷ drop k l))
  there-told h {b} f =
      rw e (decide b
      (λ t. rw t (insert-fresh l c (λ g. ap (λ n. clock_before c (get_or l n [])) (sym e) ∙ sym f ∙ t)))
      (λ u. rw u (insert-there l c (omega arith) (ap (λ n. clock_before c (get_or l n [])) (sym e) ∙ sym f ∙ u))))

  pub not_there : length l ≤ k → insert_clock l c ≡ take k l ++ (c ∷ drop k l)
  not_there h = rw e (insert-fresh l c (λ g. absurd (omega arith)))

-- how many they are then
pub length-between : (l : List (List Dot)) (c : List Dot) (k : ℕ) → length (take k l ++ (c ∷ drop k l)) ≡ length l + 1
length-between l c k = omega (arith, length-append (take k l) (c ∷ drop k l), length-append (take k l) (drop k l), ap length (take-append-drop k l))

-- where each goes: the first i are told
pub record Seated (l m : List (List Dot)) (i : ℕ) (table : List ℕ) : Type 0 where
  pub each : (a : ℕ) → a < waiting_limit → get_or table a waiting_limit ≡ cond (ltb a i) (place_among l (get_or m a [])) waiting_limit

module _ {l m : List (List Dot)} where
  pub seated-start : Seated l m 0 (replicate waiting_limit waiting_limit)
  seated-start = record { each = λ a h. get_or-replicate {A = ℕ} waiting_limit a waiting_limit waiting_limit h ∙ sym (rw (le-ltb a 0 (omega arith))) }

  module _ {i : ℕ} {table : List ℕ} (s : Seated l m i table) where
    pub seated-on : is_empty (get_or m i []) ≡ false → i < length table → {k : ℕ} → k ≡ seat_of (get_or m i []) l → Seated l m (i + 1) (set table i k)
    unfolding place_among
    seated-on t h {k} e = record {
      each = λ a g. decide (eqb a i)
          (λ u. let q = eqb-true a i u in rw (q, get_or-set_same table i k waiting_limit h, lt-ltb i (i + 1) (omega arith), t) e)
          (λ u. let q = eqb-false a i u in rw (get_or-set_other table i a k waiting_limit q)
          (s.each a g ∙ ap (λ b. cond b (place_among l (get_or m a [])) waiting_limit) (same a q)));
    }
      where
        same : (a : ℕ) → (a ≡ i → ⊥) → ltb a i ≡ ltb a (i + 1)
        same a q = decide (ltb a i) (λ t. let k = ltb-true a i t in rw t (sym (lt-ltb a (i + 1) (omega arith))))
            (λ f. let k = ltb-false a i f in rw f (sym (le-ltb a (i + 1) (omega arith))))

    pub seated-not : is_empty (get_or m i []) ≡ true → Seated l m (i + 1) table
    unfolding place_among
    seated-not t = record {
      each = λ a g. s.each a g ∙ decide (ltb a i)
          (λ u. let k = ltb-true a i u in rw (u, lt-ltb a (i + 1) (omega arith)))
          (λ u. let k = ltb-false a i u in decide (ltb a (i + 1))
          (λ v. let z : a ≡ i = (let j = ltb-true a (i + 1) v in omega arith) in rw (u, v, z, t)) (λ v. rw (u, v)));
    }

    pub seated-end : length m ≤ i → (a : ℕ) → a < waiting_limit → get_or table a waiting_limit ≡ place_among l (get_or m a [])
    unfolding place_among is_empty
    seated-end h a g = s.each a g ∙ decide (ltb a i) (λ u. rw u) (λ u. let k = ltb-false a i u in rw (u, get_d_past m a [] (omega arith)))
