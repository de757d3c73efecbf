-- A whole that a loop draws bit by bit: what is done of it, and what is to come.
use mathlib.Core.Path.{◌≡◌, refl, ap, sym, ◌∙◌}
use mathlib.Core.Bool.{Bool}
use mathlib.Core.List.{List, [], ◌∷◌, ◌++◌, append-nil, append_assoc}
use Rattle.listlaws.specs.Sift.{sift, those}
use Rattle.listlaws.proofs.Sifts.{sift-one}

-- the first of what is sifted, and the rest
pub sift-first : {A B : Type 0} (keep : B → Bool) (change : A → B) (x : A) (l : List A) {y : B} → y ≡ change x
    → sift keep change (x ∷ l) ≡ those keep (y ∷ []) ++ sift keep change l
sift-first keep change x l e = rw e (sift-one keep change x l)

-- what is drawn of a whole: a part of it is done, and the rest is to come
pub record Grown {A K : Type 0} (P : List A → K → Type 0) (whole rest : List A) (k : K) : Type 0 where
  pub done : List A
  pub holds : P done k
  pub parts : whole ≡ done ++ rest

module _ {A K : Type 0} (P : List A → K → Type 0) where
  pub grown-start : {k : K} (pre rest : List A) → P pre k → Grown P (pre ++ rest) rest k
  grown-start pre rest p = record { done = pre; holds = p; parts = refl }

  pub grown-on : {whole rest more : List A} {k next : K} (some : List A) → Grown P whole rest k → rest ≡ some ++ more
      → ((l : List A) → P l k → P (l ++ some) next) → Grown P whole more next
  grown-on {more = more} some g e step = record {
    done = g.done ++ some;
    holds = step g.done g.holds;
    parts = g.parts ∙ ap (λ r. g.done ++ r) e ∙ sym (append_assoc g.done some more);
  }

  pub grown-same : {whole rest more : List A} {k : K} → Grown P whole rest k → rest ≡ more → Grown P whole more k
  grown-same g e = record { done = g.done; holds = g.holds; parts = g.parts ∙ ap (λ r. g.done ++ r) e }

  pub grown-end : {whole rest : List A} {k : K} → Grown P whole rest k → rest ≡ [] → P whole k
  grown-end g e = rw (g.parts ∙ ap (λ r. g.done ++ r) e ∙ append-nil g.done) g.holds
