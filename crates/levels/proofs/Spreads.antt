-- A cut of a joined clock is the join of both, cut: what records of two images stand for rests on it (CR 10). An end theorem, which nothing uses yet.
use mathlib.Core.Path.{◌≡◌, refl, ap₂, sym, ◌∙◌}
use mathlib.Core.Bool.{Bool, true, false, cond}
use mathlib.Core.List.{List}
use Prim.Native.Nat.{ℕ, max}
use native.Mathlib.Omega.{arith}
use borrow.Author.Tests.{ltb-true, ltb-false}
use lib.Dec.{ltb}
use Rattle.clock.specs.declared.Dot.{Dot}
use Rattle.clock.specs.Dots.{counter_in, cut_dots, join_dots}
use Rattle.clock.specs.Lawful.{Lawful}
use Rattle.clock.proofs.Counters.{same-clock}
use Rattle.clock.proofs.Cuts.{lawful-cut, counter-cut}
use Rattle.clock.proofs.Joins.{lawful-join, counter-join}

larger : (c a b : ℕ) → cond (ltb c (max a b)) (max a b) 0 ≡ max (cond (ltb c a) a 0) (cond (ltb c b) b 0)
larger c a b = go (ltb c (max a b)) (ltb c a) (ltb c b) refl refl refl
  where
    go : (p q r : Bool) → ltb c (max a b) ≡ p → ltb c a ≡ q → ltb c b ≡ r → cond p (max a b) 0 ≡ max (cond q a 0) (cond r b 0)
    go true true true t u v = refl
    go true true false t u v = omega (arith, ltb-true c a u, ltb-false c b v)
    go true false true t u v = omega (arith, ltb-false c a u, ltb-true c b v)
    go true false false t u v = absurd (omega (arith, ltb-true c (max a b) t, ltb-false c a u, ltb-false c b v))
    go false true r t u v = absurd (omega (arith, ltb-false c (max a b) t, ltb-true c a u))
    go false false true t u v = absurd (omega (arith, ltb-false c (max a b) t, ltb-true c b v))
    go false false false t u v = omega arith

pub cut-join : (c : List Dot) {a b : List Dot} → Lawful a → Lawful b → cut_dots c (join_dots a b) ≡ join_dots (cut_dots c a) (cut_dots c b)
cut-join c {a} {b} h k =
    same-clock (lawful-cut c (lawful-join h k)) (lawful-join (lawful-cut c h) (lawful-cut c k))
    (λ x.
    counter-cut c (lawful-join h k) x ∙ rw (counter-join h k x) (larger (counter_in c x) (counter_in a x) (counter_in b x))
    ∙ sym (counter-join (lawful-cut c h) (lawful-cut c k) x ∙ ap₂ max (counter-cut c h x) (counter-cut c k x)))
