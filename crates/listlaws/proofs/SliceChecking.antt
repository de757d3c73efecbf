-- A loop that looks at the used places of an array, and keeps a flag for as long as none passes a test.
use mathlib.Core.Path.{◌≡◌, refl, ap, sym, ◌∙◌}
use mathlib.Core.Bool.{Bool, true, false, not, ◌&&◌, and-false, and-true}
use mathlib.Core.List.{List}
use Prim.Native.Nat.{ℕ, ◌+◌, ◌≤◌, ◌<◌}
use borrow.Author.Tests.{leb-true, leb-false}
use lib.Dec.{leb}
use lib.ListN.{length, drop, get_or}
use Rattle.listlaws.specs.First.{first_in, none}
use Rattle.listlaws.proofs.SliceRests.{first-here, first-later, drop-end}

-- i of the n places in use are passed, and the flag says whether none of them passed the test
pub record Checking {A : Type 0} (test : A → Bool) (xs : List A) (i : ℕ) (flag : Bool) : Type 0 where
  pub left : none test xs ≡ (flag && none test (drop i xs))

module _ {A : Type 0} {test : A → Bool} {xs : List A} where
  pub checking-start : Checking test xs 0 true
  checking-start = record { left = refl }

  module _ {i : ℕ} {flag : Bool} (d : A) (g : Checking test xs i flag) where
    module _ (h : i < length xs) where
      failed : test (get_or xs i d) ≡ true → none test xs ≡ false
      failed t = g.left ∙ ap (λ b. flag && b) (first-here xs i d h test (λ x. false) true t) ∙ and-false flag

      -- one passes: the flag goes
      pub checking-fails : test (get_or xs i d) ≡ true → Checking test xs (i + 1) false
      checking-fails t = record { left = failed t }

      passed : test (get_or xs i d) ≡ false → Checking test xs (i + 1) flag
      passed t = record { left = g.left ∙ ap (λ b. flag && b) (first-later xs i d h test (λ x. false) true t) }

      -- the flag stays where the test says no
      pub checking-on : (t : Bool) → test (get_or xs i d) ≡ not t → Checking test xs (i + 1) (flag && t)
      checking-on true e = rw (and-true flag) (passed e)
      checking-on false e = rw (and-false flag) (checking-fails e)

    -- at the end of all places, or at one that passes
    pub checking-end : (i < length xs → test (get_or xs i d) ≡ true) → (flag && leb (length xs) i) ≡ none test xs
    unfolding first_in
    checking-end f = go (leb (length xs) i) refl
      where
        go : (t : Bool) → leb (length xs) i ≡ t → (flag && t) ≡ none test xs
        go true e = sym (g.left ∙ ap (λ l. flag && none test l) (drop-end xs i (leb-true _ _ e)))
        go false e = let h = leb-false (length xs) i e in and-false flag ∙ sym (failed h (f h))

  -- at the end of all places
  pub checking-all : {i : ℕ} {flag : Bool} → Checking test xs i flag → length xs ≤ i → flag ≡ none test xs
  unfolding first_in
  checking-all {i} {flag} g h = sym (g.left ∙ ap (λ l. flag && none test l) (drop-end xs i h) ∙ and-true flag)

  -- a flag that is gone has decided
  pub checking-gone : {i : ℕ} {flag : Bool} → Checking test xs i flag → flag ≡ false → none test xs ≡ false
  checking-gone {i} g e = g.left ∙ ap (λ b. b && none test (drop i xs)) e
