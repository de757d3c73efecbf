-- A loop that finds out whether the used places of an array ascend by a number and each passes a test, and what it found out.
use mathlib.Core.Path.{◌≡◌, refl, ap, sym, ◌∙◌}
use mathlib.Core.Bool.{Bool, true, false, not, ◌&&◌}
use mathlib.Core.Logic.{⊎_elim}
use mathlib.Core.List.Memᴰ
use mathlib.Core.List.{List, [], ◌∷◌}
use Prim.Native.Nat.{ℕ, ◌+◌, ◌≤◌, ◌<◌}
use native.Mathlib.Omega.{arith}
use borrow.Author.Tests.{lt-ltb, leb-true}
use lib.Dec.{leb}
use lib.ListN.{length, drop, get_or}
use Rattle.listlaws.specs.Order.{◌∈◌, Ascending, nil, next, by}
use Rattle.listlaws.specs.Rise.{rising}
use Rattle.listlaws.proofs.Orders.{apart}
use Rattle.listlaws.proofs.SliceRests.{drop-step, drop-end}

-- a test of two, and of one and the rest
pub both_hold : (s t : Bool) → (s && t) ≡ true → (s ≡ true) × (t ≡ true)
both_hold true t e = (refl, e)
both_hold false t e = apart (sym e)

pub stops : (t rest : Bool) {whole : Bool} → whole ≡ (t && rest) → not t ≡ true → false ≡ whole
stops false rest e h = sym e
stops true rest e h = apart (sym h)

pub goes : (t rest : Bool) {whole : Bool} → whole ≡ (t && rest) → not t ≡ false → whole ≡ rest
goes true rest e h = e
goes false rest e h = apart h

module _ {A : Type 0} (rank : A → ℕ) (good : A → Bool) where
  -- at each element the loop stops or goes on
  module _ (xs : List A) (i low : ℕ) (d : A) (h : i < length xs) {whole : Bool}
      (e : whole ≡ rising rank good low (drop i xs)) where
    abbrev here : Bool
    here = leb low (rank (get_or xs i d)) && good (get_or xs i d)

    abbrev later : Bool
    later = rising rank good (rank (get_or xs i d) + 1) (drop (i + 1) xs)

    split : whole ≡ (here && later)
    unfolding rising
    split = e ∙ ap (rising rank good low) (drop-step xs i d h)

    pub rising-stops : not here ≡ true → false ≡ whole
    rising-stops f = stops here later split f

    pub rising-goes : not here ≡ false → whole ≡ later
    rising-goes f = goes here later split f

  pub rising-end : (l : List A) (i low : ℕ) → length l ≤ i → rising rank good low (drop i l) ≡ true
  unfolding rising
  rising-end l i low h = ap (rising rank good low) (drop-end l i h)

  -- what the first element and the rest of a rising list are
  opened : (low : ℕ) (x : A) (l : List A) → rising rank good low (x ∷ l) ≡ true
      → (low ≤ rank x) × (good x ≡ true) × (rising rank good (rank x + 1) l ≡ true)
  unfolding rising
  opened low x l r =
      let a = both_hold (leb low (rank x) && good x) (rising rank good (rank x + 1) l) r in
      let b = both_hold (leb low (rank x)) (good x) a.0 in
      (leb-true low (rank x) b.0, b.1, a.1)

  from_low : (low : ℕ) (l : List A) → rising rank good low l ≡ true → (x : A) → x ∈ l → low ≤ rank x
  from_low low [] r y i = absurd (Memᴰ.not-nil i)
  from_low low (x ∷ l) r y i =
      let o = opened low x l r in
      ⊎_elim (λ (e : y ≡ x). rw e o.0) (λ j. let h = from_low (rank x + 1) l o.2 y j in omega arith) (Memᴰ.cases_cons i)

  pub rising-good : (low : ℕ) (l : List A) → rising rank good low l ≡ true → (x : A) → x ∈ l → good x ≡ true
  rising-good low [] r y i = absurd (Memᴰ.not-nil i)
  rising-good low (x ∷ l) r y i =
      let o = opened low x l r in
      ⊎_elim (λ (e : y ≡ x). rw e o.1) (λ j. rising-good (rank x + 1) l o.2 y j) (Memᴰ.cases_cons i)

  pub rising-ascends : (low : ℕ) (l : List A) → rising rank good low l ≡ true → Ascending (by rank) l
  rising-ascends low [] r = nil
  rising-ascends low (x ∷ l) r =
      let o = opened low x l r in
      next (λ y i. lt-ltb (rank x) (rank y) (let h = from_low (rank x + 1) l o.2 y i in omega arith)) (rising-ascends (rank x + 1) l o.2)
