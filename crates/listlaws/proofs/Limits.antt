-- A limit, with a flag that tells whether it is broken: within it (`within-fits`), over it (`within-exceeds`), and what the flag says (`flag_is`).
use mathlib.Core.Path.{◌≡◌, refl, ap, sym, ◌∙◌}
use mathlib.Core.Bool.{Bool, true, false}
use mathlib.Core.List.{List}
use Prim.Native.Nat.{ℕ, ◌≤◌, ◌<◌}
use borrow.Author.Tests.{le-leb, lt-leb, leb-true, leb-false, le-ltb, lt-ltb}
use lib.Dec.{leb, ltb}
use lib.ListN.{length}
use Rattle.listlaws.specs.Limit.{if_within}
use Rattle.listlaws.proofs.Orders.{apart}

module _ {A S : Type 0} (limit : ℕ) (good : List A → S) (bad : S) where
  pub within-fits : (l : List A) → length l ≤ limit → if_within limit good bad l ≡ good l
  unfolding if_within
  within-fits l h = rw (le-leb (length l) limit h)

  pub within-exceeds : (l : List A) → limit < length l → if_within limit good bad l ≡ bad
  unfolding if_within
  within-exceeds l h = rw (lt-leb (length l) limit h)

  module _ (over : S → Bool) (none : (l : List A) → over (good l) ≡ false) (set : over bad ≡ true) where
    pub flag-set : {s : S} (l : List A) → s ≡ if_within limit good bad l → over s ≡ true → limit < length l
    flag-set {s} l e t = go (leb (length l) limit) refl
      where
        go : (b : Bool) → leb (length l) limit ≡ b → limit < length l
        go true q = apart (sym t ∙ ap over (e ∙ within-fits l (leb-true _ _ q)) ∙ none l)
        go false q = leb-false _ _ q

    pub flag-clear : {s : S} (l : List A) → s ≡ if_within limit good bad l → over s ≡ false → length l ≤ limit
    flag-clear {s} l e t = go (leb (length l) limit) refl
      where
        go : (b : Bool) → leb (length l) limit ≡ b → length l ≤ limit
        go true q = leb-true _ _ q
        go false q = apart (sym set ∙ sym (ap over (e ∙ within-exceeds l (leb-false _ _ q))) ∙ t)

    -- the flag is the test of the limit
    pub flag_is : (l : List A) → over (if_within limit good bad l) ≡ ltb limit (length l)
    flag_is l = go (leb (length l) limit) refl
      where
        go : (b : Bool) → leb (length l) limit ≡ b → over (if_within limit good bad l) ≡ ltb limit (length l)
        go true q = ap over (within-fits l (leb-true _ _ q)) ∙ none l ∙ sym (le-ltb limit (length l) (leb-true _ _ q))
        go false q = ap over (within-exceeds l (leb-false _ _ q)) ∙ set ∙ sym (lt-ltb limit (length l) (leb-false _ _ q))
