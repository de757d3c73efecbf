-- A loop that finds out whether the used places of two arrays have the same ascending numbers, and what it found out.
use mathlib.Core.Path.{◌≡◌, refl, ap₂, sym, ◌∙◌}
use mathlib.Core.Bool.{Bool, true, false, not, ◌&&◌}
use mathlib.Core.Logic.{⊎_elim}
use mathlib.Core.List.Memᴰ
use mathlib.Core.List.{List, [], ◌∷◌}
use Prim.Native.Nat.{ℕ, ◌+◌, ◌≤◌, ◌<◌}
use native.Mathlib.Omega.{arith}
use borrow.Author.Tests.{lt-ltb, leb-true, le-leb, eqb-true, eq-eqb}
use lib.Dec.{leb, eqb}
use lib.ListN.{length, drop, get_or}
use Rattle.listlaws.specs.Order.{◌∈◌, Ascending, nil, next, by}
use Rattle.listlaws.specs.Rise.{alike}
use Rattle.listlaws.proofs.Orders.{apart}
use Rattle.listlaws.proofs.SliceRests.{drop-step, drop-end}
use Rattle.listlaws.proofs.SliceRising.{both_hold, stops, goes}

module _ {A : Type 0} (rank : A → ℕ) where
  -- at each place the loop stops or goes on
  module _ (xs ys : List A) (i low : ℕ) (d : A) (h : i < length xs) (k : i < length ys) {whole : Bool}
      (e : whole ≡ alike rank low (drop i xs) (drop i ys)) where
    abbrev here : Bool
    here = leb low (rank (get_or xs i d)) && eqb (rank (get_or xs i d)) (rank (get_or ys i d))

    abbrev later : Bool
    later = alike rank (rank (get_or xs i d) + 1) (drop (i + 1) xs) (drop (i + 1) ys)

    split : whole ≡ (here && later)
    unfolding alike
    split = e ∙ ap₂ (alike rank low) (drop-step xs i d h) (drop-step ys i d k)

    pub alike-stops : not here ≡ true → false ≡ whole
    alike-stops f = stops here later split f

    pub alike-goes : not here ≡ false → whole ≡ later
    alike-goes f = goes here later split f

    -- what holds at a place of lists that are alike
    pub alike-here : whole ≡ true → (rank (get_or xs i d) ≡ rank (get_or ys i d)) × (later ≡ true)
    alike-here t =
        let a = both_hold here later (sym split ∙ t) in
        let b = both_hold (leb low (rank (get_or xs i d))) (eqb (rank (get_or xs i d)) (rank (get_or ys i d))) a.0 in
        (eqb-true _ _ b.1, a.1)

  pub alike_end : (l m : List A) (i low : ℕ) → length l ≤ i → length m ≤ i → alike rank low (drop i l) (drop i m) ≡ true
  unfolding alike
  alike_end l m i low h k = ap₂ (alike rank low) (drop-end l i h) (drop-end m i k)

  opened : (low : ℕ) (x y : A) (l m : List A) → alike rank low (x ∷ l) (y ∷ m) ≡ true
      → (low ≤ rank x) × (rank x ≡ rank y) × (alike rank (rank x + 1) l m ≡ true)
  unfolding alike
  opened low x y l m r =
      let a = both_hold (leb low (rank x) && eqb (rank x) (rank y)) (alike rank (rank x + 1) l m) r in
      let b = both_hold (leb low (rank x)) (eqb (rank x) (rank y)) a.0 in
      (leb-true low (rank x) b.0, eqb-true (rank x) (rank y) b.1, a.1)

  pub alike-length : (low : ℕ) (l m : List A) → alike rank low l m ≡ true → length l ≡ length m
  unfolding alike
  alike-length low [] [] r = refl
  alike-length low [] (y ∷ m) r = apart (sym r)
  alike-length low (x ∷ l) [] r = apart (sym r)
  alike-length low (x ∷ l) (y ∷ m) r = omega (arith, alike-length (rank x + 1) l m (opened low x y l m r).2)

  -- lists of different lengths are not alike
  pub alike-apart : (low : ℕ) (l m : List A) → (length l ≡ length m → ⊥) → false ≡ alike rank low l m
  alike-apart low l m f = go (alike rank low l m) refl
    where
      go : (t : Bool) → alike rank low l m ≡ t → false ≡ t
      go true e = absurd (f (alike-length low l m e))
      go false e = refl

  pub alike_turned : (low : ℕ) (l m : List A) → alike rank low l m ≡ true → alike rank low m l ≡ true
  unfolding alike
  alike_turned low [] [] r = refl
  alike_turned low [] (y ∷ m) r = apart (sym r)
  alike_turned low (x ∷ l) [] r = apart (sym r)
  alike_turned low (x ∷ l) (y ∷ m) r =
      let o = opened low x y l m r in
      rw (← o.1, le-leb low (rank x) o.0, eq-eqb (rank x) (rank x) refl) (alike_turned (rank x + 1) l m o.2)

  from_low : (low : ℕ) (l m : List A) → alike rank low l m ≡ true → (z : A) → z ∈ l → low ≤ rank z
  unfolding alike
  from_low low [] m r z i = absurd (Memᴰ.not-nil i)
  from_low low (x ∷ l) [] r z i = apart (sym r)
  from_low low (x ∷ l) (y ∷ m) r z i =
      let o = opened low x y l m r in
      ⊎_elim (λ (e : z ≡ x). rw e o.0) (λ j. let h = from_low (rank x + 1) l m o.2 z j in omega arith) (Memᴰ.cases_cons i)

  pub alike-ascends : (low : ℕ) (l m : List A) → alike rank low l m ≡ true → Ascending (by rank) l
  unfolding alike
  alike-ascends low [] m r = nil
  alike-ascends low (x ∷ l) [] r = apart (sym r)
  alike-ascends low (x ∷ l) (y ∷ m) r =
      let o = opened low x y l m r in
      next (λ z i. lt-ltb (rank x) (rank z) (let h = from_low (rank x + 1) l m o.2 z i in omega arith)) (alike-ascends (rank x + 1) l m o.2)
