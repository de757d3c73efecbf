-- A loop that looks at the used places of an array xs in turn, changes each element, and adds those that pass a test to a pack.
use mathlib.Core.Path.{◌≡◌, ap}
use mathlib.Core.Bool.{Bool, true, false}
use mathlib.Core.List.{List, [], ◌∷◌, ◌++◌}
use Prim.Native.Nat.{ℕ, ◌+◌, ◌≤◌, ◌<◌}
use lib.ListN.{length, drop, get_or}
use Rattle.listlaws.specs.Sift.{sift}
use Rattle.listlaws.proofs.SliceRests.{sift-yes, sift-no, drop-end}
use Rattle.listlaws.proofs.Growing.{Growing, grow-behind, grow-add, grow-skip, grow-end, grow-room}

-- n places of xs are in use, i of them are passed, and s packs `pre` with what these gave
pub record Sifting {A B S : Type 0} (pack : List B → S) (keep : B → Bool) (change : A → B) (pre : List B) (xs : List A) (i : ℕ)
    (s : S) : Type 0 where
  pub growing : Growing pack (pre ++ sift keep change xs) (sift keep change (drop i xs)) s

module _ {A B S : Type 0} {pack : List B → S} {keep : B → Bool} {change : A → B} {pre : List B} {xs : List A} where
  pub sifting-start : {s : S} → s ≡ pack pre → Sifting pack keep change pre xs 0 s
  sifting-start e = record { growing = grow-behind pre e }

  module _ {i : ℕ} {s : S} (d : A) (g : Sifting pack keep change pre xs i s) (h : i < length xs) where
    pub sifting-keep : {t : S} {v : B} → v ≡ change (get_or xs i d) → keep v ≡ true → ((l : List B) → s ≡ pack l → t ≡ pack (l ++ (v ∷ [])))
        → Sifting pack keep change pre xs (i + 1) t
    sifting-keep e k f =
        record { growing = grow-add g.growing (sift-yes xs i d h keep change (rw e at k)) (λ l q. rw (← e) (f l q)) }

    pub sifting-drop : {v : B} → v ≡ change (get_or xs i d) → keep v ≡ false → Sifting pack keep change pre xs (i + 1) s
    sifting-drop e k = record { growing = grow-skip g.growing (sift-no xs i d h keep change (rw e at k)) }

    -- what is packed so far, and that there is room for one more where there is room for all
    pub sifting-room : {v : B} → v ≡ change (get_or xs i d) → keep v ≡ true
        → (l : List B) × (s ≡ pack l) × (length l < length (pre ++ sift keep change xs))
    sifting-room e k = (g.growing.done, g.growing.packed, grow-room g.growing (sift-yes xs i d h keep change (rw e at k)))

  pub sifting-end : {i : ℕ} {s : S} → Sifting pack keep change pre xs i s → length xs ≤ i → s ≡ pack (pre ++ sift keep change xs)
  unfolding sift
  sifting-end {i} g h = grow-end g.growing (ap (sift keep change) (drop-end xs i h))
