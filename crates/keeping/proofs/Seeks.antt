-- What a seek for an actor finds in a clock, told where the walk stands; and that it takes a walk beside another clock one dot on.
use mathlib.Core.Path.{◌≡◌, refl, ap, sym}
use mathlib.Core.Bool.{Bool, true, false}
use mathlib.Core.List.{List}
use Prim.Native.Nat.{ℕ, zero, suc, ◌+◌, ◌≤◌, ◌<◌}
use native.Mathlib.Omega.{arith}
use borrow.Author.Tests.{ltb-true, ltb-false, leb-true, leb-false, eqb-true, eqb-false}
use lib.Dec.{eqb, ltb, leb}
use lib.ListN.{length, take, drop, get_or}
use Rattle.listlaws.proofs.Rests.{drop-step, drop-end}
use Rattle.listlaws.proofs.Beside.{beside-next, beside-past, beside-both}
use Rattle.clock.specs.declared.Dot.{Dot}
use Rattle.clock.specs.Dots.{no_dot, counter_in}
use Rattle.clock.proofs.Walks.{Walk, walk-found, walk-missed}
use Rattle.keeping.specs.Keeping.{sought}
use Rattle.keeping.specs.declared.Sought.{Sought}

module _ (xs : List Dot) (n i : ℕ) (d : Dot) (h : i < length (take n xs)) (a : ℕ) where
  pub sought-here : eqb (get_or xs i d).actor a ≡ true → sought a i (drop i (take n xs)) ≡ record { counter = (get_or xs i d).counter; next = i + 1 }
  unfolding sought
  sought-here t = rw (drop-step xs n i d h, t)

  pub sought-past : eqb (get_or xs i d).actor a ≡ false → ltb a (get_or xs i d).actor ≡ true
      → sought a i (drop i (take n xs)) ≡ record { counter = 0; next = i }
  unfolding sought
  sought-past t u = rw (drop-step xs n i d h, t, u)

  pub sought-later : eqb (get_or xs i d).actor a ≡ false → ltb a (get_or xs i d).actor ≡ false
      → sought a i (drop i (take n xs)) ≡ sought a (i + 1) (drop (i + 1) (take n xs))
  unfolding sought
  sought-later t u = rw (drop-step xs n i d h, t, u)

pub sought-end : (l : List Dot) (i a : ℕ) → length l ≤ i → sought a i (drop i l) ≡ record { counter = 0; next = i }
unfolding sought
sought-end l i a h = ap (sought a i) (drop-end l i h)

-- what is found for an actor is its counter, and the walk goes on with that dot passed
pub record Sees (xs : List Dot) (n : ℕ) (ys : List Dot) (m t : ℕ) (r : Sought) : Type 0 where
  pub counter : r.counter ≡ counter_in (take n xs) (get_or ys t no_dot).actor
  pub walk : Walk xs n r.next ys m (t + 1)

module _ (xs : List Dot) (n : ℕ) (ys : List Dot) (m t : ℕ) (k : t < length (take m ys)) where
  abbrev whose : ℕ
  whose = (get_or ys t no_dot).actor

  at-end : (i : ℕ) → length (take n xs) ≤ i → Walk xs n i ys m t → Sees xs n ys m t (sought whose i (drop i (take n xs)))
  at-end i h g =
      rw (sought-end (take n xs) i whose h) (record { counter = sym (walk-missed g k (λ q. absurd (omega arith))); walk = beside-next no_dot g k })

  steps : (left i : ℕ) → length (take n xs) ≤ i + left → Walk xs n i ys m t → Sees xs n ys m t (sought whose i (drop i (take n xs)))
  steps zero i h g = at-end i (omega arith) g
  steps (suc left) i h g = go (leb (length (take n xs)) i) (eqb (get_or xs i no_dot).actor whose) (ltb whose (get_or xs i no_dot).actor)
      (λ w. steps left (i + 1) (omega arith) w) refl refl refl
    where
      go : (b c d : Bool) → (Walk xs n (i + 1) ys m t → Sees xs n ys m t (sought whose (i + 1) (drop (i + 1) (take n xs))))
          → leb (length (take n xs)) i ≡ b → eqb (get_or xs i no_dot).actor whose ≡ c → ltb whose (get_or xs i no_dot).actor ≡ d
          → Sees xs n ys m t (sought whose i (drop i (take n xs)))
      go true c d on e f u = at-end i (leb-true _ _ e) g
      go false true d on e f u =
          let q = leb-false (length (take n xs)) i e in
          let z = eqb-true (get_or xs i no_dot).actor whose f in
          rw (sought-here xs n i no_dot q whose f) (record { counter = sym (walk-found g k q z); walk = beside-both no_dot g k q z })
      go false false true on e f u =
          let q = leb-false (length (take n xs)) i e in
          rw (sought-past xs n i no_dot q whose f u)
          (record { counter = sym (walk-missed g k (λ w. ltb-true whose (get_or xs i no_dot).actor u)); walk = beside-next no_dot g k })
      go false false false on e f u =
          let q = leb-false (length (take n xs)) i e in
          let z : (get_or xs i no_dot).actor < whose = omega
          (arith, eqb-false (get_or xs i no_dot).actor whose f, ltb-false whose (get_or xs i no_dot).actor u) in
          rw (sought-later xs n i no_dot q whose f u) (on (beside-past no_dot g k q z))

pub sees : {xs : List Dot} {n i : ℕ} {ys : List Dot} {m t : ℕ} {r : Sought} → t < length (take m ys) → Walk xs n i ys m t
    → r ≡ sought (get_or ys t no_dot).actor i (drop i (take n xs)) → Sees xs n ys m t r
sees {xs} {n} {i} {ys} {m} {t} k g e = rw e (steps xs n ys m t k (length (take n xs)) i (omega arith) g)
