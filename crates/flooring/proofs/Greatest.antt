-- The floor is the greatest clock that every peer covers: what it says at an actor, and end theorems that hold of it.
use mathlib.Core.Path.{◌≡◌, refl, ap, sym, ◌∙◌}
use mathlib.Core.Bool.{true}
use mathlib.Core.Logic.{⊎_elim}
use mathlib.Core.List.Memᴰ
use mathlib.Core.List.Permᴰ
use mathlib.Core.List.{List, [], ◌∷◌, map, Permᴰ}
use Prim.Native.Nat.{ℕ, min, ◌≤◌, ◌<◌}
use native.Mathlib.Omega.{arith}
use lib.Dec.{ltb}
use lib.ListN.{length, length-take}
use borrow.Author.Tests.{le-ltb, lt-ltb, ltb-true, ltb-false}
use Rattle.listlaws.specs.Fold.{fold}
use Rattle.listlaws.specs.Order.{◌∈◌}
use Rattle.listlaws.proofs.Orders.{by-strict}
use Rattle.listlaws.proofs.Ranks.{by-steady, level_by}
use Rattle.listlaws.proofs.Sides.{sift-ascends}
use Rattle.listlaws.proofs.Sifts.{length-sift}
use Rattle.listlaws.proofs.Those.{sift-means, sift-holds}
use Rattle.listlaws.proofs.Firsts.{none-means, none-holds}
use Rattle.listlaws.proofs.Perms.{perm_in}
use Rattle.scan.proofs.Eachs.{decide}
use Rattle.limits.specs.Limits.{dot_limit}
use Rattle.clock.specs.declared.Dot.{Dot}
use Rattle.clock.specs.declared.Clock.{Clock}
use Rattle.clock.specs.Dots.{dots_of, counter_in, beyond, covers}
use Rattle.clock.specs.Lawful.{Lawful}
use Rattle.clock.proofs.Counters.{dot_in, counter-member, counter-cases, counter-absent}
use Rattle.clock.proofs.Covers.{covers-holds, covers-both}
use Rattle.advance.specs.Advancing.{lent_number}
use Rattle.flooring.specs.Floor.{smallest_at, floor_dot, counted, floor_dots}

-- the smallest counter is at most each peer's, and at least what is at most each
module _ (actor : ℕ) where
  least-below : (n : ℕ) (l : List (List Dot)) → (fold (λ k c. min k (counter_in c actor)) n l ≤ n)
      × ((c : List Dot) → c ∈ l → fold (λ k d. min k (counter_in d actor)) n l ≤ counter_in c actor)
  unfolding fold
  least-below n [] = (omega arith, λ c i. absurd (Memᴰ.not-nil i))
  least-below n (p ∷ l) =
      let r = least-below (min n (counter_in p actor)) l in (
        omega (arith, r.0),
        λ c i. ⊎_elim (λ (e : c ≡ p). omega (arith, r.0, ap (λ d. counter_in d actor) e)) (λ j. r.1 c j)
            (Memᴰ.cases_cons i),
      )

  least_above : (k n : ℕ) (l : List (List Dot)) → k ≤ n → ((c : List Dot) → c ∈ l → k ≤ counter_in c actor)
      → k ≤ fold (λ m c. min m (counter_in c actor)) n l
  unfolding fold
  least_above k n [] h f = h
  least_above k n (p ∷ l) h f =
      least_above k (min n (counter_in p actor)) l (omega (arith, h, f p (Memᴰ.head refl))) (λ c i. f c (Memᴰ.tail i))

  pub smallest-below : (l : List (List Dot)) (c : List Dot) → c ∈ l → smallest_at actor l ≤ counter_in c actor
  unfolding smallest_at
  smallest-below [] c i = absurd (Memᴰ.not-nil i)
  smallest-below (p ∷ l) c i = ⊎_elim (λ (e : c ≡ p). omega (arith, (least-below (counter_in p actor) l).0, ap (λ d. counter_in d actor) e))
      (λ j. (least-below (counter_in p actor) l).1 c j) (Memᴰ.cases_cons i)

  pub smallest-above : (k : ℕ) (p : List Dot) (l : List (List Dot)) → ((c : List Dot) → c ∈ (p ∷ l) → k ≤ counter_in c actor)
      → k ≤ smallest_at actor (p ∷ l)
  unfolding smallest_at
  smallest-above k p l f = least_above k (counter_in p actor) l (f p (Memᴰ.head refl)) (λ c i. f c (Memᴰ.tail i))

module _ (p : List Dot) (l : List (List Dot)) (h : Lawful p) where
  -- the floor is a clock
  pub lawful-floor : Lawful (floor_dots (p ∷ l))
  unfolding floor_dots
  lawful-floor = record {
    rising = sift-ascends (by-strict (λ d. d.actor)) (by-steady (λ d. d.actor)) counted (floor_dot (p ∷ l))
        (λ d. level_by (λ d. d.actor) d (floor_dot (p ∷ l) d) refl) h.rising;
    positive = λ d i. ltb-true 0 d.counter (sift-means counted (floor_dot (p ∷ l)) p i).passes;
  }

  -- a dot of the floor is at the smallest counter of its actor
  floor-dot : (d : Dot) → d ∈ floor_dots (p ∷ l) → d.counter ≡ smallest_at d.actor (p ∷ l)
  unfolding floor_dots
  floor-dot d i = let s = sift-means counted (floor_dot (p ∷ l)) p i in
      ap (λ e. e.counter) s.changed ∙ ap (λ a. smallest_at a (p ∷ l)) (sym (ap (λ e. e.actor) s.changed))

  floor-holds : (a : ℕ) → dot_in p a ∈ p → 0 < smallest_at a (p ∷ l) → floor_dot (p ∷ l) (dot_in p a) ∈ floor_dots (p ∷ l)
  unfolding floor_dots
  floor-holds a i k = sift-holds counted (floor_dot (p ∷ l)) i (lt-ltb 0 (smallest_at a (p ∷ l)) k)

  -- an end theorem, "for each actor the smallest counter over all peers": an actor whose smallest counter is zero has no dot
  pub counter-floor : (a : ℕ) → counter_in (floor_dots (p ∷ l)) a ≡ smallest_at a (p ∷ l)
  counter-floor a = decide (ltb 0 (smallest_at a (p ∷ l)))
      (λ t. let k = ltb-true 0 (smallest_at a (p ∷ l)) t in
      ⊎_elim (λ i. counter-member lawful-floor (floor-holds a i k))
      (λ f. absurd (omega (arith, k, smallest-below a (p ∷ l) p (Memᴰ.head refl), counter-absent p a f))) (counter-cases p a))
      (λ g. let z = ltb-false 0 (smallest_at a (p ∷ l)) g in counter-absent (floor_dots (p ∷ l)) a
      (λ d i e. omega (arith, floor-dot d i, lawful-floor.positive d i, ap (λ b. smallest_at b (p ∷ l)) e)) ∙ omega (arith, z))

  -- end theorems: every peer covers the floor, and any clock that every peer covers the floor covers
  pub floor-covered : (c : List Dot) → c ∈ (p ∷ l) → covers c (floor_dots (p ∷ l)) ≡ true
  floor-covered c i = covers-holds c (λ a. omega (arith, counter-floor a, smallest-below a (p ∷ l) c i)) lawful-floor

  pub floor-greatest : (x : List Dot) → ((c : List Dot) → c ∈ (p ∷ l) → covers c x ≡ true) → covers (floor_dots (p ∷ l)) x ≡ true
  unfolding covers
  floor-greatest x f = none-holds (beyond (floor_dots (p ∷ l))) x
      (λ d i. le-ltb (counter_in (floor_dots (p ∷ l)) d.actor) d.counter (omega (
        arith,
        counter-floor d.actor,
        smallest-above d.actor d.counter p l (λ c j. ltb-false (counter_in c d.actor) d.counter (none-means (beyond c) x (f c j) d i)),
      )))

-- the floor has at most as many dots as the first peer, and so at most 8
floor-short : (p : List Dot) (l : List (List Dot)) → length (floor_dots (p ∷ l)) ≤ length p
unfolding floor_dots
floor-short p l = length-sift counted (floor_dot (p ∷ l)) p

pub floor-few : (p : Clock) (l : List Clock) → lent_number p ≡ 0 → length (floor_dots (map dots_of (p ∷ l))) ≤ dot_limit
unfolding lent_number
floor-few p l e = decide (ltb dot_limit p.len)
    (λ t. absurd (let z : ◌≡◌ {A = ℕ} 2 0 = rw t at e in omega arith))
    (λ f. omega (arith, ltb-false dot_limit p.len f, length-take p.len p.dots, floor-short (dots_of p) (map dots_of l)))

-- a peer more can only lower it
pub floor-lower : (q p : List Dot) (l : List (List Dot)) → Lawful q → Lawful p → covers (floor_dots (p ∷ l)) (floor_dots (q ∷ p ∷ l)) ≡ true
floor-lower q p l g h = floor-greatest p l h (floor_dots (q ∷ p ∷ l)) (λ c i. floor-covered q (p ∷ l) g c (Memᴰ.tail i))

-- the order of the peers does not matter
pub floor-reordered : (p q : List Dot) (l m : List (List Dot)) → Lawful p → Lawful q → Permᴰ (p ∷ l) (q ∷ m)
    → floor_dots (p ∷ l) ≡ floor_dots (q ∷ m)
floor-reordered p q l m h g w = covers-both (lawful-floor p l h) (lawful-floor q m g)
    (floor-greatest p l h (floor_dots (q ∷ m)) (λ c i. floor-covered q m g c (perm_in (Permᴰ.symm w) c i)))
    (floor-greatest q m g (floor_dots (p ∷ l)) (λ c i. floor-covered p l h c (perm_in w c i)))
