-- Lists that are made place by place: what a loop over the places has made, and what is left.
use mathlib.Core.Path.{◌≡◌, refl, ap, sym, ◌∙◌}
use mathlib.Core.List.{List, [], ◌∷◌, ◌++◌, map}
use Prim.Native.Nat.{ℕ, ◌+◌, ◌≤◌, ◌<◌}
use native.Mathlib.Numerals.{add-one}
use native.Mathlib.Omega.{arith}
use lib.ListN.{drop}
use lib.Seq.{drop-cons}
use Rattle.listlaws.proofs.Rests.{drop-end}
use Rattle.maprecords.specs.Reading.{numbers_below}
use Rattle.memory.proofs.Views.{below_more, length-of, below_at}

module _ {A : Type 0} (f : ℕ → A) where
  pub made_none : map f (numbers_below 0) ≡ []
  unfolding numbers_below
  made_none = refl

  -- one more is packed behind the others
  pub made-next : {S : Type 0} (pack : List A → S) (i : ℕ) {x : A} {s : S} → x ≡ f i → s ≡ pack (map f (numbers_below i) ++ (x ∷ []))
      → s ≡ pack (map f (numbers_below (i + 1)))
  made-next pack i e q = q ∙ ap (λ x. pack (map f (numbers_below i) ++ (x ∷ []))) e ∙ ap pack (sym (below_more f i))

  pub left-on : (n i : ℕ) → i < n → drop i (map f (numbers_below n)) ≡ f i ∷ drop (i + 1) (map f (numbers_below n))
  left-on n i h =
      rw (add-one i) (drop-cons (map f (numbers_below n)) i (f 0) (omega (arith, length-of f n)))
      ∙ ap (λ x. x ∷ drop (i + 1) (map f (numbers_below n))) (below_at f n i (f 0) h)

  pub left_end : (n i : ℕ) → n ≤ i → drop i (map f (numbers_below n)) ≡ []
  left_end n i h = drop-end (map f (numbers_below n)) i (omega (arith, length-of f n))
