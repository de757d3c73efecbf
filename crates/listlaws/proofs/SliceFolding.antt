-- A loop that hands the used places of an array to a state, one after the other, and keeps the state packed.
use mathlib.Core.Path.{◌≡◌, refl, ap, sym, ◌∙◌}
use mathlib.Core.List.{List}
use Prim.Native.Nat.{ℕ, ◌+◌, ◌≤◌, ◌<◌}
use lib.ListN.{length, drop, get_or}
use Rattle.listlaws.specs.Fold.{fold}
use Rattle.listlaws.proofs.SliceRests.{fold_on, drop-end}

-- p packs the state after i of the n places in use, from s₀
pub record Folding {A S P : Type 0} (pack : S → P) (step : S → A → S) (s₀ : S) (xs : List A) (i : ℕ) (p : P) : Type 0 where
  pub state : S
  pub packed : p ≡ pack state
  pub left : fold step s₀ xs ≡ fold step state (drop i xs)

module _ {A S P : Type 0} {pack : S → P} {step : S → A → S} {s₀ : S} {xs : List A} where
  pub folding-start : {p : P} → p ≡ pack s₀ → Folding pack step s₀ xs 0 p
  folding-start e = record { state = s₀; packed = e; left = refl }

  pub folding-on : {i : ℕ} {p q : P} (d : A) → Folding pack step s₀ xs i p → i < length xs
      → ((s : S) → p ≡ pack s → q ≡ pack (step s (get_or xs i d))) → Folding pack step s₀ xs (i + 1) q
  folding-on {i} d f h e = record {
    state = step f.state (get_or xs i d);
    packed = e f.state f.packed;
    left = f.left ∙ fold_on xs i d h step f.state;
  }

  pub folding-end : {i : ℕ} {p : P} → Folding pack step s₀ xs i p → length xs ≤ i → p ≡ pack (fold step s₀ xs)
  unfolding fold
  folding-end {i} f h = f.packed ∙ ap pack (sym (f.left ∙ ap (fold step f.state) (drop-end xs i h)))
