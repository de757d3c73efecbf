-- Weaving two lists whose lone elements are kept as they are: in one go or one element after the other, and those that pass a test.
use mathlib.Core.Path.{◌≡◌, refl, ap, sym, ◌∙◌}
use mathlib.Core.Bool.{Bool, true, false, cond}
use mathlib.Core.List.Memᴰ
use mathlib.Core.List.{List, [], ◌∷◌, map, map-id}
use Rattle.listlaws.specs.Sift.{sift, those}
use Rattle.listlaws.specs.Fold.{fold}
use Rattle.listlaws.specs.Order.{◌∈◌, Ascending, nil, next, Strict}
use Rattle.listlaws.specs.Weave.{weave}
use Rattle.listlaws.proofs.Orders.{tail-ascends}
use Rattle.listlaws.proofs.Levels.{Level, Steady, then-before, before-before, before-all}
use Rattle.listlaws.proofs.Those.{those-means}
use Rattle.listlaws.proofs.Woven.{Woven, rest-second, rest-first, step-first, step-second, step_both, woven}

module _ {A : Type 0} (before : A → A → Bool) (both : A → A → A) where
  -- the weave
  abbrev pub united : List A → List A → List A
  united l m = weave before (λ x. x) (λ x. x) both l m

  pub nil-united : (m : List A) → united [] m ≡ m
  unfolding weave
  nil-united m = map-id m

  pub united-nil : (l : List A) → united l [] ≡ l
  unfolding weave
  united-nil [] = refl
  united-nil (x ∷ l) = ap (λ s. x ∷ s) (map-id l)

  -- what stands before all of the second list
  pub first-ahead : (x : A) (l m : List A) → ((y : A) → y ∈ m → before x y ≡ true) → united (x ∷ l) m ≡ x ∷ united l m
  unfolding weave
  first-ahead x l [] f = ap (λ s. x ∷ s) (map-id l ∙ sym (united-nil l))
  first-ahead x l (y ∷ m) f = rw (f y (Memᴰ.head refl))

  module _ (strict : Strict before) where
    -- what stands before all of the first list
    pub second-ahead : (y : A) (l m : List A) → ((x : A) → x ∈ l → before y x ≡ true) → united l (y ∷ m) ≡ y ∷ united l m
    unfolding weave
    second-ahead y [] m f = refl
    second-ahead y (x ∷ l) m f = let t = f x (Memᴰ.head refl) in rw (strict y x t, t)

    module _ (steady : Steady before) (keep-both : (x y : A) → Level before x y → Level before x (both x y)) where
      -- one element woven in ahead of the others
      pub united-next : (y : A) (l m : List A) → ((z : A) → z ∈ m → before y z ≡ true) → united (united l (y ∷ [])) m ≡ united l (y ∷ m)
      unfolding weave
      united-next y [] m f = first-ahead y [] m f
      united-next y (x ∷ l) m f = go (before x y) (before y x) refl refl (united-next y l m f)
        where
          go : (b c : Bool) → before x y ≡ b → before y x ≡ c → united (united l (y ∷ [])) m ≡ united l (y ∷ m)
              → united (cond b (x ∷ united l (y ∷ [])) (cond c (y ∷ x ∷ map (λ z. z) l) (both x y ∷ united l []))) m ≡ cond b (x ∷ united l (y ∷ m))
              (cond c (y ∷ united (x ∷ l) m) (both x y ∷ united l m))
          go true c t u e = first-ahead x (united l (y ∷ [])) m (λ z i. before-before strict steady t (f z i)) ∙ ap (λ s. x ∷ s) e
          go false true t u e = first-ahead y (x ∷ map (λ z. z) l) m f ∙ ap (λ s. y ∷ united (x ∷ s) m) (map-id l)
          go false false t u e =
              first-ahead (both x y) (united l []) m (λ z i. then-before strict steady (keep-both x y (t, u)).0
              (then-before strict steady u (f z i)))
              ∙ ap (λ s. both x y ∷ united s m) (united-nil l)

      -- one element after the other
      pub united-fold : (l : List A) {m : List A} → Ascending before m → fold (λ s y. united s (y ∷ [])) l m ≡ united l m
      unfolding fold
      united-fold l nil = sym (united-nil l)
      united-fold l (next {x = y} {l = m} f a) = united-fold (united l (y ∷ [])) a ∙ united-next y l m f

      -- those that pass, where the test does not tell two that stand level apart
      module _ (p : A → Bool) (alike : (x y : A) → Level before x y → p x ≡ p y) where
        those-woven : {l m w : List A} → Woven before (λ x. x) (λ x. x) both l m w → Ascending before l → Ascending before m
            → those p w ≡ united (those p l) (those p m)
        unfolding sift
        those-woven (rest-second m) a b = ap (those p) (map-id m) ∙ sym (nil-united (those p m))
        those-woven (rest-first l) a b = ap (those p) (map-id l) ∙ sym (united-nil (those p l))
        those-woven (step-first {x = x} {y = y} {l = l} {m = m} {w = w} t v) a b = go (p x) (those-woven v (tail-ascends a) b)
          where
            go : (c : Bool) → those p w ≡ united (those p l) (those p (y ∷ m))
                → cond c (x ∷ those p w) (those p w) ≡ united (cond c (x ∷ those p l) (those p l)) (those p (y ∷ m))
            go true e =
                ap (λ s. x ∷ s) e
                ∙ sym (first-ahead x (those p l) (those p (y ∷ m)) (λ z i. before-all strict steady t b z (those-means p (y ∷ m) i).0))
            go false e = e
        those-woven (step-second {x = x} {y = y} {l = l} {m = m} {w = w} s t v) a b = go (p y) (those-woven v a (tail-ascends b))
          where
            go : (c : Bool) → those p w ≡ united (those p (x ∷ l)) (those p m)
                → cond c (y ∷ those p w) (those p w) ≡ united (those p (x ∷ l)) (cond c (y ∷ those p m) (those p m))
            go true e =
                ap (λ r. y ∷ r) e
                ∙ sym (second-ahead y (those p (x ∷ l)) (those p m) (λ z i. before-all strict steady t a z (those-means p (x ∷ l) i).0))
            go false e = e
        those-woven (step_both {x = x} {y = y} {l = l} {m = m} {w = w} s v) a b = rw (← alike x y s, ← alike x (both x y) (keep-both x y s))
            (go (p x) (those-woven v (tail-ascends a) (tail-ascends b)))
          where
            go : (c : Bool) → those p w ≡ united (those p l) (those p m)
                → cond c (both x y ∷ those p w) (those p w) ≡ united (cond c (x ∷ those p l) (those p l)) (cond c (y ∷ those p m) (those p m))
            go true e = unfold weave in rw (s.0, s.1, e)
            go false e = e

        pub those-united : {l m : List A} → Ascending before l → Ascending before m → those p (united l m) ≡ united (those p l) (those p m)
        those-united {l} {m} a b = those-woven (woven before (λ x. x) (λ x. x) both l m) a b
