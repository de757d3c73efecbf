-- Laws of ascending lists that are sifted or stand behind each other, and of what every step of a fold keeps.
use mathlib.Core.Path.{◌≡◌, refl}
use mathlib.Core.Bool.{Bool, true, false, cond}
use mathlib.Core.Logic.{⊎_elim}
use mathlib.Core.List.Memᴰ
use mathlib.Core.List.{List, [], ◌∷◌, ◌++◌}
use Rattle.listlaws.specs.Sift.{sift}
use Rattle.listlaws.specs.Fold.{fold}
use Rattle.listlaws.specs.Order.{◌∈◌, Ascending, nil, next, Strict}
use Rattle.listlaws.proofs.Levels.{Level, Steady, before-then, then-before}
use Rattle.listlaws.proofs.Those.{sift-means}

module _ {A : Type 0} {before : A → A → Bool} where
  pub one-ascends : (x : A) → Ascending before (x ∷ [])
  one-ascends x = next (λ y i. absurd (Memᴰ.not-nil i)) nil

  pub append-ascends : {l m : List A} → Ascending before l → Ascending before m → ((x y : A) → x ∈ l → y ∈ m → before x y ≡ true)
      → Ascending before (l ++ m)
  append-ascends nil b f = b
  append-ascends (next {x = x} {l = l} g a) b f =
      next (λ y i. ⊎_elim (λ j. g y j) (λ j. f x y (Memᴰ.head refl) j) (Memᴰ.append_cases l i))
      (append-ascends a b (λ p q i j. f p q (Memᴰ.tail i) j))

  -- a change that leaves each element at its place leaves what is kept ascending
  module _ (strict : Strict before) (steady : Steady before) (keep : A → Bool) (change : A → A) (level : (x : A) → Level before x (change x)) where
    pub sift-ascends : {l : List A} → Ascending before l → Ascending before (sift keep change l)
    unfolding sift
    sift-ascends nil = nil
    sift-ascends (next {x = x} {l = l} f a) = go (keep (change x)) (sift-ascends a)
      where
        go : (b : Bool) → Ascending before (sift keep change l) → Ascending before (cond b (change x ∷ sift keep change l) (sift keep change l))
        go true s = next {x = change x} (λ y i. let r = sift-means keep change l i in
            rw r.changed (then-before strict steady (level x).0 (before-then strict steady (f r.source r.stands) (level r.source).1))) s
        go false s = s

-- what each step keeps, the fold keeps
pub fold-keeps : {A S : Type 0} (step : S → A → S) (P : S → Type 0) (l : List A) → ((s : S) (x : A) → x ∈ l → P s → P (step s x)) → (s : S) → P s
    → P (fold step s l)
unfolding fold
fold-keeps step P [] f s p = p
fold-keeps step P (x ∷ l) f s p =
    fold-keeps step P l (λ t y i. f t y (Memᴰ.tail i)) (step s x) (f s x (Memᴰ.head refl) p)
