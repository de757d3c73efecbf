-- Weaving two lists: how long the weave is (`weave-longer`, `weave-shorter`), and a change of each element (`weave-map`).
use mathlib.Core.Path.{◌≡◌, refl, ap, sym, ◌∙◌}
use mathlib.Core.Bool.{Bool, true, false, cond}
use mathlib.Core.List.{List, [], ◌∷◌, ◌++◌, map, map-map, flatten}
use Prim.Native.Nat.{suc, ◌+◌, ◌≤◌}
use native.Mathlib.Omega.{arith}
use lib.ListN.{length, length-map}
use Rattle.listlaws.specs.Sift.{sift, those}
use Rattle.listlaws.specs.Weave.{against, weave}
use Rattle.listlaws.proofs.Sifts.{sift-one}

-- a choice keeps what holds of each of the three
three : {A : Type 0} (P : List A → Type 0) (b c : Bool) {s t u : List A} → P s → P t → P u → P (cond b s (cond c t u))
three P true c p q r = p
three P false true p q r = q
three P false false p q r = r

module _ {A B : Type 0} (before : A → A → Bool) (first second : A → B) (both : A → A → B) where
  against-longer : (x : A) (l : List A) → ((m : List A) → length l ≤ length (weave before first second both l m)) → (m : List A)
      → suc (length l) ≤ length (against before first second both x l (weave before first second both l) m)
  against-longer x l f [] = omega (arith, length-map l first)
  against-longer x l f (y ∷ m) =
      three (λ s. suc (length l) ≤ length s) (before x y) (before y x)
      (omega (arith, f (y ∷ m))) (omega (arith, against-longer x l f m)) (omega (arith, f m))

  -- weaving shortens nothing
  pub weave-longer : (l m : List A) → length l ≤ length (weave before first second both l m)
  unfolding weave
  weave-longer [] m = omega arith
  weave-longer (x ∷ l) m = against-longer x l (weave-longer l) m

module _ {A B : Type 0} (before : A → A → Bool) (first second : A → B) (both : A → A → B) where
  against-shorter : (x : A) (l : List A) → ((m : List A) → length (weave before first second both l m) ≤ length l + length m) → (m : List A)
      → length (against before first second both x l (weave before first second both l) m) ≤ suc (length l) + length m
  against-shorter x l f [] = omega (arith, length-map l first)
  against-shorter x l f (y ∷ m) =
      three (λ s. length s ≤ suc (length l) + suc (length m)) (before x y) (before y x)
      (omega (arith, f (y ∷ m))) (omega (arith, against-shorter x l f m)) (omega (arith, f m))

  -- weaving makes nothing of its own
  pub weave-shorter : (l m : List A) → length (weave before first second both l m) ≤ length l + length m
  unfolding weave
  weave-shorter [] m = omega (arith, length-map m second)
  weave-shorter (x ∷ l) m = against-shorter x l (weave-shorter l) m

-- what is made of each element of a weave may be made before it is woven
module _ {A B C : Type 0} (before : A → A → Bool) (first second : A → B) (both : A → A → B) (make : B → C) where
  abbrev changed : List A → List A → List C
  changed l m = weave before (λ x. make (first x)) (λ x. make (second x)) (λ x y. make (both x y)) l m

  against-map : (x : A) (l : List A) → ((m : List A) → changed l m ≡ map make (weave before first second both l m)) → (m : List A)
      → against before (λ z. make (first z)) (λ z. make (second z)) (λ z y. make (both z y)) x l (changed l) m ≡ map make
      (against before first second both x l (weave before first second both l) m)
  against-map x l f [] = ap (λ t. make (first x) ∷ t) (sym (map-map make first l))
  against-map x l f (y ∷ m) = go (before x y) (before y x) _ _ _ (f (y ∷ m)) (against-map x l f m) (f m)
    where
      go : (b c : Bool) {s t u : List C} (s' t' u' : List B) → s ≡ map make s' → t ≡ map make t' → u ≡ map make u'
          → cond b (make (first x) ∷ s) (cond c (make (second y) ∷ t) (make (both x y) ∷ u)) ≡ map make
          (cond b (first x ∷ s') (cond c (second y ∷ t') (both x y ∷ u')))
      go true c s' t' u' e f g = ap (λ t. make (first x) ∷ t) e
      go false true s' t' u' e f g = ap (λ t. make (second y) ∷ t) f
      go false false s' t' u' e f g = ap (λ t. make (both x y) ∷ t) g

  pub weave-map : (l m : List A) → changed l m ≡ map make (weave before first second both l m)
  unfolding weave
  weave-map [] m = sym (map-map make second m)
  weave-map (x ∷ l) m = against-map x l (weave-map l) m

-- lists of one element each, one after the other
pub flatten-ones : {A : Type 0} (l : List A) → flatten (map (λ x. x ∷ []) l) ≡ l
unfolding flatten
flatten-ones [] = refl
flatten-ones (x ∷ l) = ap (λ t. x ∷ t) (flatten-ones l)

-- each element that passes, one after the other
pub flatten-those : {A : Type 0} (p : A → Bool) (l : List A) → flatten (map (λ x. those p (x ∷ [])) l) ≡ those p l
unfolding flatten sift
flatten-those p [] = refl
flatten-those p (x ∷ l) = ap (λ t. those p (x ∷ []) ++ t) (flatten-those p l) ∙ sym (sift-one p (λ z. z) x l)
