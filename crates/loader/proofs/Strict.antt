-- Strictly below is a strict order on clocks, whatever dots they have: so of some values one at least remains.
use mathlib.Core.Path.{◌≡◌, refl, sym, ◌∙◌}
use mathlib.Core.Bool.{Bool, true, false, not}
use mathlib.Core.Logic.{⊎_elim}
use mathlib.Core.List.Memᴰ
use mathlib.Core.List.{List, [], ◌∷◌}
use Rattle.listlaws.specs.Order.{◌∈◌}
use Rattle.listlaws.proofs.Orders.{apart}
use Rattle.listlaws.proofs.Somes.{false-some}
use Rattle.listlaws.proofs.Those.{those-holds}
use Rattle.scan.proofs.Eachs.{decide}
use Rattle.clock.specs.declared.Dot.{Dot}
use Rattle.clock.specs.Dots.{dots_of, covers, outcome, order_of}
use Rattle.clock.proofs.Covers.{covers-trans}
use Rattle.register.specs.declared.Value.{Value}
use Rattle.register.specs.Values.{yielding, yields}
use Rattle.loader.specs.Choice.{is_below, undropped}

-- a clock strictly below another is covered by it and does not cover it
abbrev Under : List Dot → List Dot → Type 0
Under a b = (covers a b ≡ false) × (covers b a ≡ true)

under-means : (v w : Value) → yields false v w ≡ true → Under (dots_of v.clock) (dots_of w.clock)
unfolding yields order_of
under-means v w t = go (covers (dots_of v.clock) (dots_of w.clock)) (covers (dots_of w.clock) (dots_of v.clock)) t
  where
    go : (a b : Bool) → yielding false (outcome a b) ≡ true → (a ≡ false) × (b ≡ true)
    go true true e = apart (sym e)
    go true false e = apart (sym e)
    go false true e = (refl, refl)
    go false false e = apart (sym e)

under-holds : (v w : Value) → Under (dots_of v.clock) (dots_of w.clock) → yields false v w ≡ true
unfolding yields order_of
under-holds v w u = rw (u.0, u.1)

pub strict-self : (v : Value) → yields false v v ≡ false
unfolding yields order_of
strict-self v = go (covers (dots_of v.clock) (dots_of v.clock))
  where
    go : (a : Bool) → yielding false (outcome a a) ≡ false
    go true = refl
    go false = refl

pub strict_on : (v w x : Value) → yields false v w ≡ true → yields false w x ≡ true → yields false v x ≡ true
strict_on v w x s t =
    let a = dots_of v.clock in
    let b = dots_of w.clock in
    let c = dots_of x.clock in
    let p = under-means v w s in
    let q = under-means w x t in
    under-holds v x
    (decide (covers a c) (λ h. apart (sym (covers-trans a c b h q.1) ∙ p.0)) (λ h. h), covers-trans c b a q.1 p.1)

-- one of some values is strictly below none of them
abbrev Top : List Value → Type 0
Top l = (v : Value) × (v ∈ l) × ((w : Value) → w ∈ l → yields false v w ≡ false)

top : (x : Value) (l : List Value) → Top (x ∷ l)
top x [] = (x, Memᴰ.head refl, λ w i. let e : w ≡ x = Memᴰ.eq_of_singleton i in rw e (strict-self x))
top x (y ∷ l) = go (top y l)
  where
    go : Top (y ∷ l) → Top (x ∷ y ∷ l)
    go (v, i, f) =
        decide (yields false v x)
        (λ t. (
          x,
          Memᴰ.head refl,
          λ w j. ⊎_elim (λ (e : w ≡ x). rw e (strict-self x))
              (λ k. decide (yields false x w) (λ u. apart (sym (strict_on v x w t u) ∙ f w k)) (λ u. u)) (Memᴰ.cases_cons j),
        ))
        (λ n. (v, Memᴰ.tail i, λ w j. ⊎_elim (λ (e : w ≡ x). rw e n) (λ k. f w k) (Memᴰ.cases_cons j)))

pub some-remain : (l : List Value) {w : Value} → w ∈ l → (v : Value) × (v ∈ undropped l)
unfolding undropped is_below
some-remain [] i = absurd (Memᴰ.not-nil i)
some-remain (x ∷ l) i =
    let (v, j, f) = top x l in
    let n : is_below (x ∷ l) v ≡ false = false-some (yields false v) (x ∷ l) f in
    (v, those-holds (λ u. not (is_below (x ∷ l) u)) j (rw n))
