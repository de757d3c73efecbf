-- Lists whose elements are carried over to another type: sifted, woven, searched and flattened before or after.
use mathlib.Core.Path.{◌≡◌, refl, ap, sym, ◌∙◌}
use mathlib.Core.Bool.{Bool, true, false, cond}
use mathlib.Core.List.{List, [], ◌∷◌, ◌++◌, map, map-map, map-append, flatten}
use Prim.Native.Nat.{ℕ, ◌+◌}
use Rattle.listlaws.specs.Sift.{sift}
use Rattle.listlaws.specs.First.{first_in}
use Rattle.listlaws.specs.Fold.{total_of}
use Rattle.listlaws.specs.Weave.{weave, against}
use Rattle.listlaws.proofs.Twice.{sift-same, sift-map}

module _ {A B : Type 0} (g : A → B) where
  sift-out : (keep : B → Bool) (f : A → A) (l : List A) → map g (sift (λ x. keep (g x)) f l) ≡ sift keep (λ x. g (f x)) l
  unfolding sift
  sift-out keep f [] = refl
  sift-out keep f (x ∷ l) = go (keep (g (f x))) (sift (λ y. keep (g y)) f l) (sift keep (λ y. g (f y)) l) (sift-out keep f l)
    where
      go : (b : Bool) (s : List A) (t : List B) → map g s ≡ t → map g (cond b (f x ∷ s) s) ≡ cond b (g (f x) ∷ t) t
      go true s t e = ap (λ u. g (f x) ∷ u) e
      go false s t e = e

  pub sift-through : (keep : B → Bool) (f : A → A) (h : B → B) → ((x : A) → g (f x) ≡ h (g x)) → (l : List A)
      → map g (sift (λ x. keep (g x)) f l) ≡ sift keep h (map g l)
  sift-through keep f h e l =
      sift-out keep f l ∙ sift-same keep (λ x. g (f x)) (λ x. h (g x)) l (λ x i. e x) ∙ sym (sift-map keep h g l)

  pub first-through : (test : B → Bool) (z : A) (l : List A) → g (first_in (λ x. test (g x)) (λ x. x) z l) ≡ first_in test (λ x. x) (g z) (map g l)
  unfolding first_in
  first-through test z [] = refl
  first-through test z (x ∷ l) =
      go (test (g x)) (first_in (λ y. test (g y)) (λ y. y) z l) (first_in test (λ y. y) (g z) (map g l)) (first-through test z l)
    where
      go : (b : Bool) (s : A) (t : B) → g s ≡ t → g (cond b x s) ≡ cond b (g x) t
      go true s t e = refl
      go false s t e = e

  pub first-map : {R : Type 0} (test : B → Bool) (give : B → R) (z : R) (l : List A)
      → first_in test give z (map g l) ≡ first_in (λ x. test (g x)) (λ x. give (g x)) z l
  unfolding first_in
  first-map test give z [] = refl
  first-map test give z (x ∷ l) = ap (cond (test (g x)) (give (g x))) (first-map test give z l)

  pub total-map : (size : B → ℕ) (l : List A) → total_of size (map g l) ≡ total_of (λ x. size (g x)) l
  unfolding total_of
  total-map size [] = refl
  total-map size (x ∷ l) = ap (λ n. size (g x) + n) (total-map size l)

  pub flatten-through : (l : List (List A)) → map g (flatten l) ≡ flatten (map (map g) l)
  unfolding flatten
  flatten-through [] = refl
  flatten-through (x ∷ l) = map-append g x (flatten l) ∙ ap (λ t. map g x ++ t) (flatten-through l)

  module _ {C : Type 0} (before : B → B → Bool) (first second : B → C) (both : B → B → C) where
    abbrev carried : List A → List A → List C
    carried l m = weave (λ x y. before (g x) (g y)) (λ x. first (g x)) (λ x. second (g x)) (λ x y. both (g x) (g y)) l m

    against-through : (x : A) (l : List A) → ((m : List A) → weave before first second both (map g l) (map g m) ≡ carried l m) → (m : List A)
        → against before first second both (g x) (map g l) (weave before first second both (map g l)) (map g m) ≡ against
        (λ x y. before (g x) (g y)) (λ x. first (g x)) (λ x. second (g x)) (λ x y. both (g x) (g y)) x l (carried l) m
    against-through x l f [] = ap (λ t. first (g x) ∷ t) (map-map first g l)
    against-through x l f (y ∷ m) =
        λ i. cond (before (g x) (g y)) (first (g x) ∷ f (y ∷ m) i)
        (cond (before (g y) (g x)) (second (g y) ∷ against-through x l f m i) (both (g x) (g y) ∷ f m i))

    pub weave-through : (l m : List A) → weave before first second both (map g l) (map g m) ≡ carried l m
    unfolding weave
    weave-through [] m = map-map second g m
    weave-through (x ∷ l) m = against-through x l (weave-through l) m
