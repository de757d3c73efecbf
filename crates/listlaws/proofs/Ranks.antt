-- Lists that ascend by a number of each element: no two have the same number (`same_rank`, `first_member`), and the numbers ascend (`ranks-ascend`).
use mathlib.Core.Path.{◌≡◌, refl, sym, ◌∙◌}
use mathlib.Core.Logic.{⊎_elim}
use mathlib.Core.List.Memᴰ
use mathlib.Core.List.{List, map}
use Prim.Native.Nat.{ℕ, ◌≤◌}
use native.Mathlib.Omega.{arith}
use borrow.Author.Tests.{ltb-true, ltb-false, le-ltb, eq-eqb, ne_eqb}
use lib.Dec.{eqb}
use lib.ListN.{length, length-map}
use Rattle.listlaws.specs.First.{first_in}
use Rattle.listlaws.specs.Order.{◌∈◌, Ascending, nil, next, by}
use Rattle.listlaws.proofs.Orders.{by-strict, no_longer}
use Rattle.listlaws.proofs.Levels.{Level, Steady, level-same}

pub by-steady : {A : Type 0} (rank : A → ℕ) → Steady (by rank)
by-steady rank x y z e f =
    le-ltb (rank x) (rank z) (omega (arith, ltb-false (rank x) (rank y) e, ltb-false (rank y) (rank z) f))

-- by a number, level is equal
pub by_level : {A : Type 0} (rank : A → ℕ) (x y : A) → Level (by rank) x y → rank x ≡ rank y
by_level rank x y e = omega (arith, ltb-false (rank x) (rank y) e.0, ltb-false (rank y) (rank x) e.1)

pub level_by : {A : Type 0} (rank : A → ℕ) (x y : A) → rank x ≡ rank y → Level (by rank) x y
level_by rank x y e = (le-ltb (rank x) (rank y) (omega arith), le-ltb (rank y) (rank x) (omega arith))

-- elements of an ascending list with the same number are the same
pub same_rank : {A : Type 0} (rank : A → ℕ) {l : List A} → Ascending (by rank) l → {x y : A} → x ∈ l → y ∈ l → rank x ≡ rank y → x ≡ y
same_rank rank a {x} {y} i j e = level-same a i j (level_by rank x y e)

-- the first with a member's number is the member
pub first_member : {A R : Type 0} (rank : A → ℕ) (give : A → R) (z : R) {l : List A} {x : A} → Ascending (by rank) l → x ∈ l
    → first_in (λ y. eqb (rank y) (rank x)) give z l ≡ give x
unfolding first_in
first_member rank give z nil i = absurd (Memᴰ.not-nil i)
first_member rank give z {x = x} (next {x = y} {l = l} f a) i =
    ⊎_elim
    (λ (e : x ≡ y). rw (e, eq-eqb (rank y) (rank y) refl))
    (λ j. rw (ne_eqb (rank y) (rank x) (λ e. omega (arith, ltb-true (rank y) (rank x) (f x j)))) (first_member rank give z a j))
    (Memᴰ.cases_cons i)

-- the numbers ascend where the elements do
pub ranks-ascend : {A : Type 0} (rank : A → ℕ) {l : List A} → Ascending (by rank) l → Ascending (by (λ n. n)) (map rank l)
ranks-ascend rank nil = nil
ranks-ascend rank (next {x = x} {l = l} f a) =
    next {x = rank x} (λ n i. let r = Memᴰ.of_map rank l i in rw (← r.2) (f r.0 r.1)) (ranks-ascend rank a)

-- a list whose numbers stand in another is no longer than it
pub no-longer-by : {A : Type 0} (rank : A → ℕ) {l m : List A} → Ascending (by rank) l → Ascending (by rank) m
    → ((x : A) → x ∈ l → (y : A) × (y ∈ m) × (rank x ≡ rank y)) → length l ≤ length m
no-longer-by rank {l} {m} a b f =
    omega (
      arith,
      length-map l rank,
      length-map m rank,
      no_longer (by-strict (λ n. n)) (map rank m) (map rank l) (ranks-ascend rank a) (ranks-ascend rank b) among,
    )
  where
    among : (n : ℕ) → n ∈ map rank l → n ∈ map rank m
    among n i = let r = Memᴰ.of_map rank l i in let s = f r.0 r.1 in Memᴰ.cast (sym r.2 ∙ s.2) (Memᴰ.map rank s.1)
