-- What is left of a flattened list, from place i on: the law of a turn, for every loop over the n places in use.
use mathlib.Core.Path.{◌≡◌, refl, ap, sym, ◌∙◌}
use mathlib.Core.Bool.{Bool, true, ◌&&◌, and_assoc}
use lib.Dec.{ltb}
use Rattle.scan.specs.Each.{every}
use mathlib.Core.List.{List, [], ◌∷◌, ◌++◌}
use Prim.Native.Nat.{ℕ, ◌+◌, ◌≤◌, ◌<◌}
use lib.ListN.{length, take, drop, get_or}
use Rattle.listlaws.specs.Fold.{fold}
use Rattle.listlaws.proofs.Folds.{fold-append}
use Rattle.listlaws.proofs.Rests.{drop-step, drop-end}
use Rattle.listlaws.proofs.SliceRests
use Rattle.mapimage.specs.Least.{lesser, least_from}
use Rattle.mapimage.specs.MapImage.{flat_from}

module _ {A B : Type 0} (f : ℕ → A → List B) where
  pub flat_on : (xs : List A) (n i : ℕ) (d : A) → i < length (take n xs)
      → flat_from f i (drop i (take n xs)) ≡ f i (get_or xs i d) ++ flat_from f (i + 1) (drop (i + 1) (take n xs))
  unfolding flat_from
  flat_on xs n i d h = rw (drop-step xs n i d h)

  -- the same for a loop over a slice's items
  pub flat-step : (l : List A) (i : ℕ) (d : A) → i < length l
      → flat_from f i (drop i l) ≡ f i (get_or l i d) ++ flat_from f (i + 1) (drop (i + 1) l)
  unfolding flat_from
  flat-step l i d h = rw (SliceRests.drop-step l i d h)

  pub flat-end : (l : List A) (i : ℕ) → length l ≤ i → flat_from f i (drop i l) ≡ []
  unfolding flat_from
  flat-end l i h = rw (drop-end l i h)

every_append : (test : ℕ → Bool) (l m : List ℕ) → every test (l ++ m) ≡ every test l && every test m
unfolding every
every_append test [] m = refl
every_append test (x ∷ l) m = rw (every_append test l m) (sym (and_assoc (test x) (every test l) (every test m)))

-- of the numbers `whole`, each of them below `end`, all are held against the least but the rest
pub record Least (end low m : ℕ) (whole rest : List ℕ) (best : ℕ) : Type 0 where
  pub left : least_from low m whole ≡ least_from low best rest
  pub below : every (λ x. ltb x end) whole ≡ every (λ x. ltb x end) rest

module _ {end low m : ℕ} {whole : List ℕ} where
  pub least_start : Least end low m whole whole m
  least_start = record { left = refl; below = refl }

  -- some numbers at once
  pub least-all : {rest now : List ℕ} {best next : ℕ} (more : List ℕ) → Least end low m whole rest best → rest ≡ more ++ now
      → every (λ x. ltb x end) more ≡ true → next ≡ least_from low best more → Least end low m whole now next
  unfolding least_from
  least-all {now = now} {best = best} more h e b n = record {
    left = h.left ∙ ap (least_from low best) e ∙ fold-append (lesser low) best more now ∙ ap (λ k. least_from low k now) (sym n);
    below = h.below ∙ ap (every (λ x. ltb x end)) e ∙ every_append (λ x. ltb x end) more now ∙ rw b;
  }

  pub least_on : {rest now : List ℕ} {best next x : ℕ} → Least end low m whole rest best → rest ≡ x ∷ now → ltb x end ≡ true
      → next ≡ lesser low best x → Least end low m whole now next
  unfolding least_from fold every
  least_on {x = x} h e b n = least-all (x ∷ []) h e (rw b) n

  pub least-end : {rest : List ℕ} {best : ℕ} → Least end low m whole rest best → rest ≡ []
      → (best ≡ least_from low m whole) × (every (λ x. ltb x end) whole ≡ true)
  unfolding least_from fold every
  least-end {best = best} h e = (sym (h.left ∙ ap (least_from low best) e), h.below ∙ ap (every (λ x. ltb x end)) e)
