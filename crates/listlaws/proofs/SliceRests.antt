-- What a definition makes of the rest of an array, from place i on: the law of a turn, for every loop over the n places in use.
use mathlib.Core.Path.{◌≡◌, refl}
use mathlib.Core.Bool.{Bool, true, false}
use mathlib.Core.List.Memᴰ
use mathlib.Core.List.{List, [], ◌∷◌, map}
use Prim.Native.Nat.{ℕ, ◌+◌, ◌≤◌, ◌<◌}
use native.Mathlib.Numerals.{add-one}
use lib.ListN.{length, take, drop, get_or, drop_of_length-le, take-append-drop}
use lib.Seq.{drop-cons}
use Rattle.listlaws.specs.Sift.{sift}
use Rattle.listlaws.specs.First.{first_in}
use Rattle.listlaws.specs.Fold.{fold}
use Rattle.listlaws.specs.Weave.{weave}
use Rattle.listlaws.specs.Order.{◌∈◌}

module _ {A : Type 0} (xs : List A) (i : ℕ) (d : A) (h : i < length xs) where
  pub drop-step : drop i xs ≡ get_or xs i d ∷ drop (i + 1) xs
  drop-step = rw add-one (drop-cons xs i d h)

  -- what is looked at stands in the list
  pub in_list : get_or xs i d ∈ xs
  in_list = rw take-append-drop at (Memᴰ.append_right {a = get_or xs i d} (take i xs) {t = drop i xs} (rw drop-step (Memᴰ.head refl)))

  module _ {B : Type 0} (keep : B → Bool) (change : A → B) where
    pub sift-yes : keep (change (get_or xs i d)) ≡ true → sift keep change (drop i xs) ≡ change (get_or xs i d) ∷ sift keep change
        (drop (i + 1) xs)
    unfolding sift
    sift-yes t = rw (drop-step, t)

    pub sift-no : keep (change (get_or xs i d)) ≡ false → sift keep change (drop i xs) ≡ sift keep change (drop (i + 1) xs)
    unfolding sift
    sift-no t = rw (drop-step, t)

  pub map_on : {B : Type 0} (f : A → B) → map f (drop i xs) ≡ f (get_or xs i d) ∷ map f (drop (i + 1) xs)
  map_on f = rw drop-step

  module _ {R : Type 0} (test : A → Bool) (give : A → R) (z : R) where
    pub first-here : test (get_or xs i d) ≡ true → first_in test give z (drop i xs) ≡ give (get_or xs i d)
    unfolding first_in
    first-here t = rw (drop-step, t)

    pub first-later : test (get_or xs i d) ≡ false → first_in test give z (drop i xs) ≡ first_in test give z (drop (i + 1) xs)
    unfolding first_in
    first-later t = rw (drop-step, t)

  pub fold_on : {S : Type 0} (step : S → A → S) (s : S) → fold step s (drop i xs) ≡ fold step (step s (get_or xs i d))
      (drop (i + 1) xs)
  unfolding fold
  fold_on step s = rw drop-step

-- nothing is left
pub drop-end : {A : Type 0} (l : List A) (i : ℕ) → length l ≤ i → drop i l ≡ []
drop-end l i h = drop_of_length-le l h

module _ {A B : Type 0} (before : A → A → Bool) (first second : A → B) (both : A → A → B) where
  -- the first list is used up
  pub weave-second-left : (l m : List A) (i : ℕ) → length l ≤ i → weave before first second both (drop i l) m ≡ map second m
  unfolding weave
  weave-second-left l m i h = rw (drop-end l i h)

  -- the second list is used up
  pub weave-first-left : (l m : List A) (j : ℕ) → length m ≤ j → weave before first second both l (drop j m) ≡ map first l
  unfolding weave
  weave-first-left [] m j h = rw (drop-end m j h)
  weave-first-left (x ∷ l) m j h = rw (drop-end m j h)

  -- both have an element left
  module _ (xs : List A) (i : ℕ) (ys : List A) (j : ℕ) (d : A) (h : i < length xs) (k : j < length ys) where
    pub weave_first : before (get_or xs i d) (get_or ys j d) ≡ true → weave before first second both (drop i xs) (drop j ys) ≡ first
        (get_or xs i d) ∷ weave before first second both (drop (i + 1) xs) (drop j ys)
    unfolding weave
    weave_first t = rw (drop-step xs i d h, drop-step ys j d k, t)

    pub weave-second : before (get_or xs i d) (get_or ys j d) ≡ false → before (get_or ys j d) (get_or xs i d) ≡ true
        → weave before first second both (drop i xs) (drop j ys) ≡ second (get_or ys j d) ∷ weave before first second both
        (drop i xs) (drop (j + 1) ys)
    unfolding weave
    weave-second t u = rw (drop-step xs i d h, drop-step ys j d k, t, u)

    pub weave-both : before (get_or xs i d) (get_or ys j d) ≡ false → before (get_or ys j d) (get_or xs i d) ≡ false
        → weave before first second both (drop i xs) (drop j ys)
        ≡ both (get_or xs i d) (get_or ys j d) ∷ weave before first second both
        (drop (i + 1) xs) (drop (j + 1) ys)
    unfolding weave
    weave-both t u = rw (drop-step xs i d h, drop-step ys j d k, t, u)
