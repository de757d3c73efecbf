-- Lists by place: what is made of each element and its place, and of each place.
use mathlib.Core.Path.{◌≡◌, refl, ap, ap₂, ◌∙◌}
use mathlib.Core.Bool.{Bool, true}
use mathlib.Core.Logic.{⊎_elim}
use mathlib.Core.List.Memᴰ
use mathlib.Core.List.{List, [], ◌∷◌, map}
use Prim.Native.Nat.{ℕ, zero, suc, ◌+◌, ◌<◌}
use native.Mathlib.Omega.{arith}
use lib.ListN.{length, get_or, length-map}
use lib.Seq.{ext_get_or}
use Rattle.listlaws.specs.Order.{◌∈◌, Ascending, nil, next}
use Rattle.maprecords.specs.Reading.{places_from, numbers_below}
use Rattle.maprecords.proofs.Keys.{get-map, length-below, get-below}
use Rattle.oneimagelaws.proofs.Stands.{Place, first, later, place-get}

module _ {A B : Type 0} (f : ℕ → A → B) where
  places-has-from : {x : A} (i : ℕ) {j : ℕ} {l : List A} → Place x j l → f (i + j) x ∈ places_from f i l
  unfolding places_from
  places-has-from i (first {y = y} e) = let same : i + 0 ≡ i = omega arith in Memᴰ.head (ap₂ f same e)
  places-has-from {x} i (later {j = j} p) = let same : i + suc j ≡ i + 1 + j = omega arith in
      Memᴰ.cast (ap (λ k. f k x) same) (Memᴰ.tail (places-has-from (i + 1) p))

  -- what f gives at a place
  pub places-has : {x : A} {j : ℕ} {l : List A} → Place x j l → f j x ∈ places_from f 0 l
  places-has {x} {j} {l} p = let same : 0 + j ≡ j = omega arith in rw same at (places-has-from 0 p)

  pub record Placed (i : ℕ) (l : List A) (z : B) : Type 0 where
    pub place : ℕ
    pub source : A
    pub stands : Place source place l
    pub given : z ≡ f (i + place) source

  pub places-means : (i : ℕ) (l : List A) (z : B) → z ∈ places_from f i l → Placed i l z
  unfolding places_from
  places-means i [] z m = absurd (Memᴰ.not-nil m)
  places-means i (x ∷ l) z m =
      ⊎_elim (λ (e : z ≡ f i x). let same : i ≡ i + 0 = omega arith in
      record { place = zero; source = x; stands = first refl; given = e ∙ ap (λ k. f k x) same })
      (λ a. let r = places-means (i + 1) l z a in
      let same : i + 1 + r.place ≡ i + suc r.place = omega arith in
      record { place = suc r.place; source = r.source; stands = later r.stands; given = r.given ∙ ap (λ k. f k r.source) same })
      (Memᴰ.cases_cons m)

  -- they ascend where f does from place to place
  pub places-rise : {before : B → B → Bool} → ((j k : ℕ) (x y : A) → j < k → before (f j x) (f k y) ≡ true) → (i : ℕ) (l : List A)
      → Ascending before (places_from f i l)
  unfolding places_from
  places-rise g i [] = nil
  places-rise g i (x ∷ l) =
      next {x = f i x} (λ z m. let r = places-means (i + 1) l z m in rw r.given (g i (i + 1 + r.place) x r.source (omega arith)))
      (places-rise g (i + 1) l)

  module _ (g : ℕ → B → A) where
    back_from : (i : ℕ) (l : List A) → ((x : A) (j : ℕ) → Place x j l → g (i + j) (f (i + j) x) ≡ x) → places_from g i (places_from f i l) ≡ l
    unfolding places_from
    back_from i [] h = refl
    back_from i (x ∷ l) h =
        let same : i ≡ i + 0 = omega arith in
        ap₂ ◌∷◌ (ap (λ k. g k (f k x)) same ∙ h x 0 (first refl))
        (back_from (i + 1) l (λ y j p. let more : i + 1 + j ≡ i + suc j = omega arith in ap (λ k. g k (f k y)) more ∙ h y (suc j) (later p)))

    -- the elements again
    pub places-back : (l : List A) → ((x : A) (j : ℕ) → Place x j l → g j (f j x) ≡ x) → places_from g 0 (places_from f 0 l) ≡ l
    places-back l h = back_from 0 l (λ x j p. let same : 0 + j ≡ j = omega arith in ap (λ k. g k (f k x)) same ∙ h x j p)

-- a list is what stands at 0, 1, .. of it
pub by-places : {A : Type 0} (f : ℕ → A) (d : A) (l : List A) → ((x : A) (j : ℕ) → Place x j l → f j ≡ x) → map f (numbers_below (length l)) ≡ l
by-places f d l g =
    ext_get_or d (map f (numbers_below (length l))) l (length-map (numbers_below (length l)) f ∙ length-below (length l))
    (λ i b. let n = rw (length-map (numbers_below (length l)) f) at b in
    let h : i < length l = rw (length-below (length l)) at n in
    get-map f (numbers_below (length l)) i d n ∙ ap f (get-below (length l) i h) ∙ g (get_or l i d) i (place-get l i d h))
