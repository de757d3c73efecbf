-- The order of clocks, dot by dot, is an order on all lists of dots; the order of removals is that of their clocks.
use mathlib.Core.Path.{◌≡◌, refl, sym, ap₂, ◌∙◌}
use mathlib.Core.Bool.{Bool, true, false, ◌||◌}
use mathlib.Core.Logic.{◌⊎◌, inl, inr}
use mathlib.Core.List.{List, [], ◌∷◌}
use Prim.Native.Nat.{ℕ, ◌+◌, ◌<◌}
use native.Mathlib.Omega.{arith}
use borrow.Author.Tests.{lt-ltb, le-ltb, eq-eqb, ne_eqb, ltb-true, ltb-false}
use lib.Dec.{ltb}
use lib.ListN.{length}
use Rattle.listlaws.specs.Order.{Strict}
use Rattle.listlaws.proofs.Orders.{apart}
use Rattle.listlaws.proofs.Levels.{Level, Steady}
use Rattle.clock.specs.declared.Dot.{Dot}
use Rattle.removals.specs.declared.Removal.{Removal}
use Rattle.removals.specs.Waits.{clock_before, removal_before}
use Rattle.removals.specs.Model.{under_of}

or-false : (b : Bool) → (b || false) ≡ b
or-false true = refl
or-false false = refl

module _ (x y : Dot) (l m : List Dot) where
  -- the actors differ
  pub before-actor : (x.actor ≡ y.actor → ⊥) → ltb x.actor y.actor ≡ clock_before (x ∷ l) (y ∷ m)
  unfolding clock_before
  before-actor h = rw (ne_eqb x.actor y.actor h) (sym (or-false _))

  -- the counters differ
  pub before-counter : x.actor ≡ y.actor → (x.counter ≡ y.counter → ⊥) → ltb x.counter y.counter ≡ clock_before (x ∷ l) (y ∷ m)
  unfolding clock_before
  before-counter e h = rw (le-ltb x.actor y.actor (omega arith), eq-eqb x.actor y.actor e, ne_eqb x.counter y.counter h)
      (sym (or-false _))

  -- the dots are equal
  pub before-rest : x.actor ≡ y.actor → x.counter ≡ y.counter → clock_before (x ∷ l) (y ∷ m) ≡ clock_before l m
  unfolding clock_before
  before-rest e f = rw (
    le-ltb x.actor y.actor (omega arith),
    eq-eqb x.actor y.actor e,
    le-ltb x.counter y.counter (omega arith),
    eq-eqb x.counter y.counter f,
  )

-- "a prefix first": of lists of which one is used up, the rest of the one with fewer dots stands before
pub before-prefix : (l m : List Dot) (p q : ℕ) → p + length m ≡ q + length l → (length l ≡ 0) ⊎ (length m ≡ 0) → ltb p q ≡ clock_before l m
unfolding clock_before
before-prefix [] [] p q e h = le-ltb p q (omega arith)
before-prefix [] (y ∷ m) p q e h = lt-ltb p q (omega arith)
before-prefix (x ∷ l) [] p q e h = le-ltb p q (omega arith)
before-prefix (x ∷ l) (y ∷ m) p q e h = absurd (omega arith)

-- by actor, then by counter
abbrev Below : Dot → Dot → Type 0
Below x y = (x.actor < y.actor) ⊎ ((x.actor ≡ y.actor) × (x.counter < y.counter))

below-below : {x y z : Dot} → Below x y → Below y z → Below x z
below-below (inl h) (inl k) = inl (omega arith)
below-below (inl h) (inr k) = inl (omega arith)
below-below (inr h) (inl k) = inl (omega arith)
below-below (inr h) (inr k) = inr (omega arith, omega arith)

-- one dot is below the other, or they are one
data Compared (x y : Dot) : Type 0 where
  below : Below x y → Compared x y
  above : Below y x → Compared x y
  same : x ≡ y → Compared x y

compared : (x y : Dot) → Compared x y
compared x y = go (ltb x.actor y.actor) (ltb y.actor x.actor) (ltb x.counter y.counter)
    (ltb y.counter x.counter) refl refl refl refl
  where
    go : (a b c d : Bool) → ltb x.actor y.actor ≡ a → ltb y.actor x.actor ≡ b → ltb x.counter y.counter ≡ c
        → ltb y.counter x.counter ≡ d → Compared x y
    go true b c d p q r s = below (inl (ltb-true x.actor y.actor p))
    go false true c d p q r s = above (inl (ltb-true y.actor x.actor q))
    go false false true d p q r s = below (inr (
      omega (arith, ltb-false x.actor y.actor p, ltb-false y.actor x.actor q),
      ltb-true x.counter y.counter r,
    ))
    go false false false true p q r s = above (inr (
      omega (arith, ltb-false x.actor y.actor p, ltb-false y.actor x.actor q),
      ltb-true y.counter x.counter s,
    ))
    go false false false false p q r s =
        let e : x.actor ≡ y.actor = omega (arith, ltb-false x.actor y.actor p, ltb-false y.actor x.actor q) in
        let f : x.counter ≡ y.counter = omega (arith, ltb-false x.counter y.counter r, ltb-false y.counter x.counter s) in
        same (λ i. record { actor = e i; counter = f i })

below-before : {x y : Dot} (l m : List Dot) → Below x y → clock_before (x ∷ l) (y ∷ m) ≡ true
below-before {x} {y} l m (inl h) = sym (before-actor x y l m (λ e. omega arith)) ∙ lt-ltb x.actor y.actor h
below-before {x} {y} l m (inr h) = sym (before-counter x y l m h.0 (λ e. omega arith)) ∙ lt-ltb x.counter y.counter h.1

above_before : {x y : Dot} (l m : List Dot) → Below y x → clock_before (x ∷ l) (y ∷ m) ≡ false
above_before {x} {y} l m (inl h) = sym (before-actor x y l m (λ e. omega arith)) ∙ le-ltb x.actor y.actor (omega arith)
above_before {x} {y} l m (inr h) = sym (before-counter x y l m (sym h.0) (λ e. omega arith)) ∙ le-ltb x.counter y.counter (omega arith)

same-before : {x y : Dot} (l m : List Dot) → x ≡ y → clock_before (x ∷ l) (y ∷ m) ≡ clock_before l m
same-before {x} {y} l m e = before-rest x y l m (λ i. (e i).actor) (λ i. (e i).counter)

pub before-strict : Strict clock_before
unfolding clock_before
before-strict [] [] t = refl
before-strict (x ∷ l) [] t = apart (sym t)
before-strict [] (y ∷ m) t = refl
before-strict (x ∷ l) (y ∷ m) t = go (compared x y) (before-strict l m)
  where
    go : Compared x y → (clock_before l m ≡ true → clock_before m l ≡ false) → clock_before (y ∷ m) (x ∷ l) ≡ false
    go (below h) f = above_before m l h
    go (above h) f = apart (sym t ∙ above_before l m h)
    go (same e) f = same-before m l (sym e) ∙ f (sym (same-before l m e) ∙ t)

pub before-steady : Steady clock_before
unfolding clock_before
before-steady x y [] e f = refl
before-steady x [] (c ∷ n) e f = apart f
before-steady [] (b ∷ m) (c ∷ n) e f = apart e
before-steady (a ∷ l) (b ∷ m) (c ∷ n) e f = go (compared a b) (compared b c) (before-steady l m n)
  where
    go : Compared a b → Compared b c → (clock_before l m ≡ false → clock_before m n ≡ false → clock_before l n ≡ false)
        → clock_before (a ∷ l) (c ∷ n) ≡ false
    go (below h) k g = apart (sym (below-before l m h) ∙ e)
    go (above h) (below k) g = apart (sym (below-before m n k) ∙ f)
    go (above h) (above k) g = above_before l n (below-below k h)
    go (above h) (same k) g = above_before {x = a} {y = c} l n (rw (← k) h)
    go (same h) (below k) g = apart (sym (below-before m n k) ∙ f)
    go (same h) (above k) g = above_before {x = a} {y = c} l n (rw h k)
    go (same h) (same k) g = same-before l n (h ∙ k) ∙ g (sym (same-before l m h) ∙ e) (sym (same-before m n k) ∙ f)

-- lists of dots that stand level are one
pub before_same : (l m : List Dot) → Level clock_before l m → l ≡ m
unfolding clock_before
before_same [] [] e = refl
before_same (x ∷ l) [] e = apart e.1
before_same [] (y ∷ m) e = apart e.0
before_same (x ∷ l) (y ∷ m) e = go (compared x y) (λ h. before_same l m h)
  where
    go : Compared x y → (Level clock_before l m → l ≡ m) → x ∷ l ≡ y ∷ m
    go (below h) f = apart (sym (below-before l m h) ∙ e.0)
    go (above h) f = apart (sym (below-before m l h) ∙ e.1)
    go (same q) f = ap₂ (λ z s. z ∷ s) q (f (sym (same-before l m q) ∙ e.0, sym (same-before m l (sym q)) ∙ e.1))

pub before_self : (l : List Dot) → clock_before l l ≡ false
unfolding clock_before
before_self [] = refl
before_self (x ∷ l) = same-before {x = x} l l refl ∙ before_self l

pub removal-strict : Strict removal_before
removal-strict x y t = before-strict (under_of x) (under_of y) t

pub removal-steady : Steady removal_before
removal-steady x y z e f = before-steady (under_of x) (under_of y) (under_of z) e f

-- removals that stand level are under the same clock
pub removal-level : (x y : Removal) → Level removal_before x y → under_of x ≡ under_of y
removal-level x y e = before_same (under_of x) (under_of y) e

pub level-removal : (x y : Removal) → under_of x ≡ under_of y → Level removal_before x y
level-removal x y e = (rw e (before_self (under_of y)), rw e (before_self (under_of y)))
