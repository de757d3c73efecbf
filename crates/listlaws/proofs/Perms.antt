-- Laws of lists in another order: their members, and those that pass a test.
use mathlib.Core.Path.{◌≡◌, refl, ap, sym, ◌∙◌}
use mathlib.Core.Bool.{Bool, true, false, cond}
use mathlib.Core.Logic.{⊎_elim}
use mathlib.Core.List.Memᴰ
use mathlib.Core.List.Permᴰ
use mathlib.Core.List.{List, ◌∷◌, Permᴰ}
use Rattle.listlaws.specs.Sift.{sift, those}
use Rattle.listlaws.specs.Order.{◌∈◌}
use Rattle.listlaws.proofs.Orders.{apart}

-- the one list has what the other has
pub perm_in : {A : Type 0} {l m : List A} → Permᴰ l m → (z : A) → z ∈ m → z ∈ l
perm_in Permᴰ.nil z i = i
perm_in (Permᴰ.cons e d) z i =
    ⊎_elim (λ q. Memᴰ.head (q ∙ sym e)) (λ j. Memᴰ.tail (perm_in d z j)) (Memᴰ.cases_cons i)
perm_in (Permᴰ.swap e f) z i =
    ⊎_elim (λ q. Memᴰ.tail (Memᴰ.head (q ∙ sym f)))
    (λ j. ⊎_elim (λ q. Memᴰ.head (q ∙ sym e)) (λ k. Memᴰ.tail (Memᴰ.tail k)) (Memᴰ.cases_cons j)) (Memᴰ.cases_cons i)
perm_in (Permᴰ.trans d e) z i = perm_in d z (perm_in e z i)

pub perm-those : {A : Type 0} (p : A → Bool) {l m : List A} → Permᴰ l m → Permᴰ (those p l) (those p m)
unfolding sift
perm-those p Permᴰ.nil = Permᴰ.nil
perm-those {A} p (Permᴰ.cons {a = a} {b = b} {l₁ = l} {l₂ = m} e d) = go (p a) (p b) (ap p e) (perm-those p d)
  where
    go : (s t : Bool) → s ≡ t → Permᴰ (those p l) (those p m) → Permᴰ (cond s (a ∷ those p l) (those p l))
        (cond t (b ∷ those p m) (those p m))
    go true true q f = Permᴰ.cons e f
    go true false q f = apart q
    go false true q f = apart (sym q)
    go false false q f = f
perm-those {A} p (Permᴰ.swap {a = a} {b = b} {a' = c} {b' = d} {l = l} e f) = rw (← e, ← f) (go (p a) (p b))
  where
    go : (s t : Bool) → Permᴰ (cond s (a ∷ cond t (b ∷ those p l) (those p l)) (cond t (b ∷ those p l) (those p l)))
        (cond t (b ∷ cond s (a ∷ those p l) (those p l)) (cond s (a ∷ those p l) (those p l)))
    go true true = Permᴰ.swap refl refl
    go true false = Permᴰ.refl (a ∷ those p l)
    go false true = Permᴰ.refl (b ∷ those p l)
    go false false = Permᴰ.refl (those p l)
perm-those p (Permᴰ.trans d e) = Permᴰ.trans (perm-those p d) (perm-those p e)
