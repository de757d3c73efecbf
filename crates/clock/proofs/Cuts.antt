-- Cutting a clock, and the dots that it has in common with another: what is left is a clock, and what it says at an actor.
use mathlib.Core.Path.{◌≡◌, refl, ap, sym, ◌∙◌}
use mathlib.Core.Bool.{Bool, true, false, cond}
use mathlib.Core.Logic.{◌⊎◌, inl, inr}
use mathlib.Core.List.{List, []}
use Prim.Native.Nat.{ℕ, ◌<◌}
use native.Mathlib.Omega.{arith}
use borrow.Author.Tests.{ltb-true, lt-ltb}
use lib.Dec.{ltb, eqb}
use Rattle.listlaws.specs.Sift.{those}
use Rattle.listlaws.specs.Order.{◌∈◌}
use Rattle.listlaws.proofs.Orders.{apart}
use Rattle.listlaws.proofs.Those.{those-means, those-holds, those-ascends, those-all, those-trade}
use Rattle.clock.specs.declared.Dot.{Dot}
use Rattle.clock.specs.Dots.{counter_in, beyond, cut_dots, shared, common_dots}
use Rattle.clock.specs.Lawful.{Lawful}
use Rattle.clock.proofs.Counters.{dot_in, counter-member, counter-cases, counter-absent, counter-nil}

module _ (p : Dot → Bool) {l : List Dot} (h : Lawful l) where
  lawful-those : Lawful (those p l)
  lawful-those = record { rising = those-ascends p h.rising; positive = λ d i. h.positive d (those-means p l i).0 }

  -- an actor keeps its counter if its dot passes
  counter-those : (a : ℕ) → counter_in (those p l) a ≡ cond (p (dot_in l a)) (counter_in l a) 0
  counter-those a = go (p (dot_in l a)) refl (counter-cases l a)
    where
      go : (b : Bool) → p (dot_in l a) ≡ b → (dot_in l a ∈ l) ⊎ ((d : Dot) → d ∈ l → d.actor ≡ a → ⊥)
          → counter_in (those p l) a ≡ cond b (counter_in l a) 0
      go true t (inl i) = counter-member lawful-those (those-holds p i t)
      go true t (inr f) = counter-absent (those p l) a (λ d i. f d (those-means p l i).0) ∙ sym (counter-absent l a f)
      go false t r = counter-absent (those p l) a (λ d i e. let k = those-means p l i in
          apart (sym k.1 ∙ ap p (λ j. record { actor = e j; counter = (sym (counter-member h k.0) ∙ ap (counter_in l) e) j }) ∙ t))

pub lawful-cut : (c : List Dot) {x : List Dot} → Lawful x → Lawful (cut_dots c x)
unfolding cut_dots
lawful-cut c h = lawful-those (beyond c) h

pub lawful-common : {a : List Dot} (b : List Dot) → Lawful a → Lawful (common_dots a b)
unfolding common_dots
lawful-common b h = lawful-those (shared b) h

pub counter-cut : (c : List Dot) {x : List Dot} → Lawful x → (a : ℕ) → counter_in (cut_dots c x) a ≡ cond (ltb (counter_in c a) (counter_in x a))
    (counter_in x a) 0
unfolding cut_dots
counter-cut c h a = counter-those (beyond c) h a

pub counter-common : {a : List Dot} (b : List Dot) → Lawful a → (x : ℕ)
    → counter_in (common_dots a b) x ≡ cond (eqb (counter_in b x) (counter_in a x)) (counter_in a x) 0
unfolding common_dots
counter-common b h x = counter-those (shared b) h x

-- a cut keeps the dots beyond it, as they are
pub cut_keeps : (c x : List Dot) {d : Dot} → d ∈ cut_dots c x → (d ∈ x) × (counter_in c d.actor < d.counter)
unfolding cut_dots
cut_keeps c x {d} i = let r = those-means (beyond c) x i in (r.0, ltb-true _ _ r.1)

pub cut-trade : (c d x : List Dot) → cut_dots c (cut_dots d x) ≡ cut_dots d (cut_dots c x)
unfolding cut_dots
cut-trade c d x = those-trade (beyond c) (beyond d) x

-- the empty clock cuts nothing
pub cut-none : {x : List Dot} → Lawful x → cut_dots [] x ≡ x
unfolding cut_dots
cut-none {x} h = those-all (beyond []) x (λ d i. lt-ltb (counter_in [] d.actor) d.counter
    (omega (arith, counter-nil d.actor, h.positive d i)))
