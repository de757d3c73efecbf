-- What stands at each place of a list that is made of another, element by element.
use mathlib.Core.Path.{◌≡◌, ap, ap₂, sym, ◌∙◌}
use mathlib.Core.List.{List, map}
use Prim.Native.Nat.{ℕ, ◌+◌, ◌<◌}
use native.Mathlib.Omega.{arith}
use lib.ListN.{length, get_or, length-map}
use Rattle.maprecords.specs.Reading.{places_from, numbers_below}
use Rattle.maprecords.proofs.Keys.{get-map, length-places, get-places, length-below, get-below}
use Rattle.oneimagelaws.proofs.Stands.{Place, place-below, place-get, place-reads}

module _ {A : Type 0} where
  pub place-moved : {x : A} {j k : ℕ} {l : List A} → j ≡ k → Place x j l → Place x k l
  place-moved e p = rw e at p

  get-place : (d : A) (l : List A) (j : ℕ) (x : A) → j < length l → get_or l j d ≡ x → Place x j l
  get-place d l j x h e = rw e at (place-get l j d h)

module _ {A B : Type 0} (f : ℕ → A → B) where
  -- by element and place
  pub place_of : {x : A} {j : ℕ} {l : List A} → Place x j l → Place (f j x) j (places_from f 0 l)
  place_of {x} {j} {l} p =
      let h = place-below p in
      let same : 0 + j ≡ j = omega arith in
      get-place (f j x) (places_from f 0 l) j (f j x) (omega (arith, length-places f 0 l))
      (get-places f 0 l j x (f j x) h ∙ ap₂ f same (place-reads x p))

  pub of-place : (d : A) {y : B} {j : ℕ} {l : List A} → Place y j (places_from f 0 l) → (x : A) × Place x j l × (y ≡ f j x)
  of-place d {y} {j} {l} p =
      let h : j < length l = omega (arith, place-below p, length-places f 0 l) in
      let same : 0 + j ≡ j = omega arith in
      (get_or l j d, place-get l j d h, sym (place-reads y p) ∙ get-places f 0 l j d y h ∙ ap (λ k. f k (get_or l j d)) same)

-- by number
module _ {B : Type 0} (f : ℕ → B) (n : ℕ) where
  long : length (map f (numbers_below n)) ≡ n
  long = length-map (numbers_below n) f ∙ length-below n

  number_read : (d : B) (j : ℕ) → j < n → get_or (map f (numbers_below n)) j d ≡ f j
  number_read d j h = get-map f (numbers_below n) j d (omega (arith, length-below n)) ∙ ap f (get-below n j h)

  pub place-number : {j : ℕ} → j < n → Place (f j) j (map f (numbers_below n))
  place-number {j} h = get-place (f j) (map f (numbers_below n)) j (f j) (omega (arith, long)) (number_read (f j) j h)

  pub number-place : {y : B} {j : ℕ} → Place y j (map f (numbers_below n)) → (j < n) × (y ≡ f j)
  number-place {y} {j} p = let h : j < n = omega (arith, place-below p, long) in (h, sym (place-reads y p) ∙ number_read y j h)
