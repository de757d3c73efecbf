-- Unions of keys: what they list, that they ascend, and how long they are.
use mathlib.Core.Path.{◌≡◌, refl, sym}
use mathlib.Core.Bool.{true}
use mathlib.Core.Logic.{◌⊎◌, inl, inr, ⊎_elim}
use mathlib.Core.List.Memᴰ
use mathlib.Core.List.{List}
use Prim.Native.Nat.{ℕ, ◌≤◌}
use borrow.Author.Tests.{eq-eqb, eqb-true}
use lib.Dec.{eqb}
use lib.ListN.{length}
use Rattle.listlaws.specs.Order.{◌∈◌, Ascending, by}
use Rattle.listlaws.proofs.Orders.{by-strict}
use Rattle.listlaws.proofs.Ranks.{by-steady, by_level, level_by}
use Rattle.listlaws.proofs.Somes.{some-means, some_holds, weave-left, weave-right}
use Rattle.listlaws.proofs.Woven.{weave-ascends, weave-every}
use Rattle.listlaws.proofs.Weaves.{weave-longer}
use Rattle.removals.specs.Waits.{listed, union_keys}

-- the keys that are listed
pub listed-means : (keys : List ℕ) (k : ℕ) → listed keys k ≡ true → k ∈ keys
unfolding listed
listed-means keys k t = let r = some-means (λ h. eqb h k) keys t in Memᴰ.cast (sym (eqb-true r.0 k r.2)) r.1

pub listed-holds : {keys : List ℕ} {k : ℕ} → k ∈ keys → listed keys k ≡ true
unfolding listed
listed-holds {k = k} i = some_holds (λ h. eqb h k) i (eq-eqb k k refl)

module _ {k h : List ℕ} (a : Ascending (by (λ x. x)) k) (b : Ascending (by (λ x. x)) h) where
  pub union-ascends : Ascending (by (λ x. x)) (union_keys k h)
  unfolding union_keys
  union-ascends =
      weave-ascends (by (λ x. x)) (λ x. x) (λ x. x) (λ x y. x) (by-strict (λ x. x)) (by-steady (λ x. x))
      (λ x. level_by (λ n. n) x x refl) (λ x. level_by (λ n. n) x x refl) (λ x y e. level_by (λ n. n) x x refl) a b

  -- a union has the keys of both
  pub union-means : (n : ℕ) → n ∈ union_keys k h → (n ∈ k) ⊎ (n ∈ h)
  unfolding union_keys
  union-means =
      weave-every (by (λ x. x)) (λ x. x) (λ x. x) (λ x y. x) (by-strict (λ x. x)) (by-steady (λ x. x)) (λ n. (n ∈ k) ⊎ (n ∈ h)) a b
      (λ x i s. inl i) (λ y i s. inr i) (λ x y i j e. inl i)

  pub union_left : {n : ℕ} → n ∈ k → n ∈ union_keys k h
  unfolding union_keys
  union_left i =
      ⊎_elim (λ j. j) (λ r. r.3)
      (weave-left (by (λ x. x)) (λ x. x) (λ x. x) (λ x y. x) (by-strict (λ x. x)) (by-steady (λ x. x)) a b i)

  pub union_right : {n : ℕ} → n ∈ h → n ∈ union_keys k h
  unfolding union_keys
  union_right {n} i =
      ⊎_elim (λ j. j) (λ r. Memᴰ.cast (sym (by_level (λ x. x) r.0 n r.2)) r.3)
      (weave-right (by (λ x. x)) (λ x. x) (λ x. x) (λ x y. x) (by-strict (λ x. x)) (by-steady (λ x. x)) a b i)

pub union-longer : (k h : List ℕ) → length k ≤ length (union_keys k h)
unfolding union_keys
union-longer k h = weave-longer (by (λ x. x)) (λ x. x) (λ x. x) (λ x y. x) k h
