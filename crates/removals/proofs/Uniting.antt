-- Two lists of waiting removals united, in one go or one by one: where each removal goes, and those that pass a test.
use mathlib.Core.Path.{◌≡◌, refl, ◌∙◌}
use mathlib.Core.Bool.{Bool}
use mathlib.Core.Logic.{◌⊎◌, inl, inr, ⊎_elim}
use mathlib.Core.List.{List, []}
use Rattle.listlaws.specs.Sift.{those}
use Rattle.listlaws.specs.Fold.{fold}
use Rattle.listlaws.specs.Order.{◌∈◌, Ascending}
use Rattle.listlaws.proofs.Levels.{Level}
use Rattle.listlaws.proofs.Somes.{weave-left, weave-right}
use Rattle.listlaws.proofs.Woven.{weave-ascends, weave-every}
use Rattle.listlaws.proofs.Uniting.{united-nil, nil-united, united-fold, those-united}
use Rattle.removals.specs.declared.Removal.{Removal}
use Rattle.removals.specs.Model.{under_of, listed_in}
use Rattle.removals.specs.Waits.{removal_before, unite, unite_all, unite_into, union_keys}
use Rattle.removals.proofs.ClockOrder.{removal-strict, removal-steady, removal-level, level-removal}
use Rattle.removals.proofs.Packs.{keys-of}

-- united removals keep the first one's place
pub keeps : (x y : Removal) → Level removal_before x y → Level removal_before x (unite x y)
keeps x y e = level-removal x (unite x y) refl

pub nil-unite : (m : List Removal) → unite_all [] m ≡ m
unfolding unite_all
nil-unite m = nil-united removal_before unite m

pub unite-nil : (l : List Removal) → unite_all l [] ≡ l
unfolding unite_all
unite-nil l = united-nil removal_before unite l

-- one by one, or in one go
pub unite-behind : (l : List Removal) {m : List Removal} → Ascending removal_before m → fold unite_into l m ≡ unite_all l m
unfolding unite_all
unite-behind l a = united-fold removal_before unite removal-strict removal-steady keeps l a

pub unite-afresh : {m : List Removal} → Ascending removal_before m → fold unite_into [] m ≡ m
unite-afresh {m} a = unite-behind [] a ∙ nil-unite m

module _ {l m : List Removal} (a : Ascending removal_before l) (b : Ascending removal_before m) where
  -- those that pass a test of the clock
  pub unite-those : (p : Removal → Bool) → ((x y : Removal) → under_of x ≡ under_of y → p x ≡ p y)
      → those p (unite_all l m) ≡ unite_all (those p l) (those p m)
  unfolding unite_all
  unite-those p f =
      those-united removal_before unite removal-strict removal-steady keeps p (λ x y e. f x y (removal-level x y e)) a b

  pub unite-ascends : Ascending removal_before (unite_all l m)
  unfolding unite_all
  unite-ascends =
      weave-ascends removal_before (λ w. w) (λ w. w) unite removal-strict removal-steady
      (λ x. level-removal x x refl) (λ x. level-removal x x refl) keeps a b

  -- each united removal is one of either list, or two under the same clock
  pub unite-each : (P : Removal → Type 0) → ((x : Removal) → x ∈ l → P x) → ((y : Removal) → y ∈ m → P y)
      → ((x y : Removal) → x ∈ l → y ∈ m → under_of x ≡ under_of y → P (unite x y)) → (z : Removal) → z ∈ unite_all l m → P z
  unfolding unite_all
  unite-each P f g h =
      weave-every removal_before (λ w. w) (λ w. w) unite removal-strict removal-steady P a b
      (λ x i s. f x i) (λ y i s. g y i) (λ x y i j e. h x y i j (removal-level x y e))

  -- where each removal went
  pub unite-left : {x : Removal} → x ∈ l → (x ∈ unite_all l m) ⊎ ((y : Removal) × (y ∈ m) × (under_of x ≡ under_of y) × (unite x y ∈ unite_all l m))
  unfolding unite_all
  unite-left {x} i =
      ⊎_elim (λ j. inl j) (λ r. inr (r.0, r.1, removal-level x r.0 r.2, r.3))
      (weave-left removal_before (λ w. w) (λ w. w) unite removal-strict removal-steady a b i)

  pub unite-right : {y : Removal} → y ∈ m → (y ∈ unite_all l m) ⊎ ((x : Removal) × (x ∈ l) × (under_of x ≡ under_of y) × (unite x y ∈ unite_all l m))
  unfolding unite_all
  unite-right {y} i =
      ⊎_elim (λ j. inl j) (λ r. inr (r.0, r.1, removal-level r.0 y r.2, r.3))
      (weave-right removal_before (λ w. w) (λ w. w) unite removal-strict removal-steady a b i)

-- the keys of united removals
pub unite-keys : (x y : Removal) → listed_in (unite x y) ≡ union_keys (listed_in x) (listed_in y)
unite-keys x y = keys-of (union_keys (listed_in x) (listed_in y))
