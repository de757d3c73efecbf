-- A loop that walks the used places of two arrays side by side, and adds to a pack what weaving makes of them.
use mathlib.Core.Path.{◌≡◌, ◌∙◌, refl}
use mathlib.Core.Bool.{Bool, true, false, ◌||◌}
use mathlib.Core.List.{List, [], ◌∷◌, ◌++◌, map, append-nil}
use mathlib.Core.Logic.{◌⊎◌, inl, inr}
use Prim.Native.Nat.{ℕ, ◌+◌, ◌≤◌, ◌<◌}
use borrow.Author.Tests.{ltb-false}
use lib.Dec.{ltb}
use lib.ListN.{length, drop, get_or}
use Rattle.listlaws.specs.Weave.{weave}
use Rattle.listlaws.proofs.Orders.{apart}
use Rattle.listlaws.proofs.SliceRests.{weave_first, weave-second, weave-both, weave-first-left, weave-second-left, drop-end}
use Rattle.listlaws.proofs.Growing.{Growing, grow-start, grow-add}

-- i of the n places of xs and j of the m places of ys are passed
pub record Weaving {A B S : Type 0} (pack : List B → S) (before : A → A → Bool) (first second : A → B) (both : A → A → B) (xs : List A) (i : ℕ)
    (ys : List A) (j : ℕ) (s : S) : Type 0 where
  pub growing : Growing pack (weave before first second both xs ys)
      (weave before first second both (drop i xs) (drop j ys)) s

module _ {A B S : Type 0} {pack : List B → S} {before : A → A → Bool} {first second : A → B} {both : A → A
    → B} {xs : List A} {ys : List A} where
  pub weaving-start : {s : S} → s ≡ pack [] → Weaving pack before first second both xs 0 ys 0 s
  weaving-start e = record { growing = grow-start e }

  module _ {i j : ℕ} {s : S} (d : A) (g : Weaving pack before first second both xs i ys j s) (h : i < length xs)
      (k : j < length ys) where
    pub weaving-first : {t : S} → before (get_or xs i d) (get_or ys j d) ≡ true
        → ((l : List B) → s ≡ pack l → t ≡ pack (l ++ (first (get_or xs i d) ∷ [])))
        → Weaving pack before first second both xs (i + 1) ys j t
    weaving-first b f = record { growing = grow-add g.growing (weave_first before first second both xs i ys j d h k b) f }

    pub weaving-second : {t : S} → before (get_or xs i d) (get_or ys j d) ≡ false → before (get_or ys j d) (get_or xs i d) ≡ true
        → ((l : List B) → s ≡ pack l → t ≡ pack (l ++ (second (get_or ys j d) ∷ []))) → Weaving pack before first second both xs i ys (j + 1) t
    weaving-second b c f = record { growing = grow-add g.growing (weave-second before first second both xs i ys j d h k b c) f }

    pub weaving-both : {t : S} → before (get_or xs i d) (get_or ys j d) ≡ false → before (get_or ys j d) (get_or xs i d) ≡ false
        → ((l : List B) → s ≡ pack l → t ≡ pack (l ++ (both (get_or xs i d) (get_or ys j d) ∷ [])))
        → Weaving pack before first second both xs (i + 1) ys (j + 1) t
    weaving-both b c f = record { growing = grow-add g.growing (weave-both before first second both xs i ys j d h k b c) f }

  -- one of the two is used up: what is left of the other, and nothing of this one, goes behind what is done
  pub weaving-end : {i j : ℕ} {s : S} (g : Weaving pack before first second both xs i ys j s)
      → (length xs ≤ i) ⊎ (length ys ≤ j)
      → weave before first second both xs ys ≡ (g.growing.done ++ map first (drop i xs)) ++ map second
      (drop j ys)
  weaving-end {i} {j} g (inl h) =
      g.growing.parts ∙ rw (weave-second-left before first second both xs (drop j ys) i h, drop-end xs i h, append-nil)
  weaving-end {i} {j} g (inr h) =
      g.growing.parts ∙ rw (weave-first-left before first second both (drop i xs) ys j h, drop-end ys j h, append-nil)

-- where neither has a place left, both are passed
pub both-past : (i n j m : ℕ) → (ltb i n || ltb j m) ≡ false → (n ≤ i) × (m ≤ j)
both-past i n j m t = go (ltb i n) refl t
  where
    go : (b : Bool) → ltb i n ≡ b → (b || ltb j m) ≡ false → (n ≤ i) × (m ≤ j)
    go true e u = apart u
    go false e u = (ltb-false i n e, ltb-false j m u)
