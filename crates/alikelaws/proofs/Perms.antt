-- Two lists without repetition that have the same members are one in another order.
use mathlib.Core.Path.{◌≡◌, refl, ap, sym, ◌∙◌}
use mathlib.Core.Logic.{⊎_elim}
use mathlib.Core.List.Memᴰ
use mathlib.Core.List.{List, [], ◌∷◌, map}
use mathlib.Core.List.Permᴰ
use mathlib.Core.List.{Permᴰ}
use Rattle.listlaws.specs.Order.{◌∈◌}
use Rattle.listlaws.proofs.Perms.{perm_in}
use Rattle.entries.specs.declared.Update.{Update}
use Rattle.alikelaws.specs.Picture.{EachOnce, nil, next}

-- a member put first
pull : {A : Type 0} {x : A} {l : List A} → x ∈ l → (m : List A) × Permᴰ l (x ∷ m)
pull (Memᴰ.head {xs = l} e) = (l, Permᴰ.cons (sym e) (Permᴰ.refl l))
pull {x = x} (Memᴰ.tail {x = y} i) =
    let r = pull i in (y ∷ r.0, Permᴰ.trans (Permᴰ.cons refl r.1) (Permᴰ.swap refl refl))

once-perm : {l m : List Update} → Permᴰ l m → EachOnce l → EachOnce m
once-perm Permᴰ.nil o = o
once-perm (Permᴰ.cons e d) (next f o) = next (λ i. f (Memᴰ.cast e (perm_in d _ i))) (once-perm d o)
once-perm (Permᴰ.swap e f) (next g (next k o)) =
    next (λ i. ⊎_elim (λ q. g (Memᴰ.head (e ∙ sym q ∙ sym f))) (λ j. k (Memᴰ.cast f j)) (Memᴰ.cases_cons i))
    (next (λ i. g (Memᴰ.tail (Memᴰ.cast e i))) o)
once-perm (Permᴰ.trans d e) o = once-perm e (once-perm d o)

once-head : {u : Update} {l : List Update} → EachOnce (u ∷ l) → u ∈ l → ⊥
once-head (next f o) = f

once-tail : {u : Update} {l : List Update} → EachOnce (u ∷ l) → EachOnce l
once-tail (next f o) = o

pub same_perm : {l m : List Update} → EachOnce l → EachOnce m → ((x : Update) → x ∈ l → x ∈ m) → ((x : Update) → x ∈ m → x ∈ l) → Permᴰ l m
same_perm {m = []} nil b f g = Permᴰ.nil
same_perm {m = y ∷ m} nil b f g = absurd (Memᴰ.not-nil (g y (Memᴰ.head refl)))
same_perm {m = m} (next {u = u} {us = l} n a) b f g =
    let r = pull (f u (Memᴰ.head refl)) in
    let o = once-perm r.1 b in
    Permᴰ.trans (Permᴰ.cons refl (same_perm a (once-tail o)
    (λ x i. ⊎_elim (λ (q : x ≡ u). absurd (n (Memᴰ.cast (sym q) i))) (λ j. j)
    (Memᴰ.cases_cons (perm_in (Permᴰ.symm r.1) x (f x (Memᴰ.tail i)))))
    (λ x i. ⊎_elim (λ (q : x ≡ u). absurd (once-head o (Memᴰ.cast (sym q) i))) (λ j. j)
    (Memᴰ.cases_cons (g x (perm_in r.1 x (Memᴰ.tail i))))))) (Permᴰ.symm r.1)

perm-map : {A B : Type 0} (f : A → B) {l m : List A} → Permᴰ l m → Permᴰ (map f l) (map f m)
perm-map f Permᴰ.nil = Permᴰ.nil
perm-map f (Permᴰ.cons e d) = Permᴰ.cons (ap f e) (perm-map f d)
perm-map f (Permᴰ.swap e g) = Permᴰ.swap (ap f e) (ap f g)
perm-map f (Permᴰ.trans d e) = Permᴰ.trans (perm-map f d) (perm-map f e)
