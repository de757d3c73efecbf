-- One clock covers another when it has every counter at least as large; the comparison of two clocks.
use mathlib.Core.Path.{◌≡◌, refl}
use mathlib.Core.Bool.{Bool, true, false}
use mathlib.Core.Logic.{⊎_elim}
use mathlib.Core.List.{List}
use Prim.Native.Nat.{ℕ, ◌≤◌}
use native.Mathlib.Omega.{arith}
use borrow.Author.Tests.{ltb-false, le-ltb}
use Rattle.listlaws.proofs.Firsts.{none-means, none-holds, none-those}
use Rattle.clock.specs.declared.Dot.{Dot}
use Rattle.clock.specs.declared.Order.TheVariants.{Equal}
use Rattle.clock.specs.Dots.{is_empty, counter_in, beyond, covers, outcome, order_of, cut_dots, join_dots, add_dot}
use Rattle.clock.specs.Lawful.{Lawful}
use Rattle.clock.proofs.Counters.{dot_in, counter-member, counter-cases, counter-absent, same-clock}
use Rattle.clock.proofs.Cuts.{cut_keeps}
use Rattle.clock.proofs.Joins.{lawful-join, counter-join, lawful-beyond}

pub covers-means : (a b : List Dot) → covers a b ≡ true → (x : ℕ) → counter_in b x ≤ counter_in a x
unfolding covers
covers-means a b t x =
    ⊎_elim
    (λ i. ltb-false (counter_in a x) (counter_in b x) (none-means (beyond a) b t (dot_in b x) i))
    (λ f. omega (arith, counter-absent b x f))
    (counter-cases b x)

pub covers-holds : (a : List Dot) {b : List Dot} → ((x : ℕ) → counter_in b x ≤ counter_in a x) → Lawful b → covers a b ≡ true
unfolding covers
covers-holds a {b} f h =
    none-holds (beyond a) b (λ d i. le-ltb (counter_in a d.actor) d.counter (omega (arith, f d.actor, counter-member h i)))

pub covers-refl : {a : List Dot} → Lawful a → covers a a ≡ true
covers-refl {a} h = covers-holds a (λ x. omega arith) h

-- of any lists of dots, lawful or not
pub covers-trans : (a b c : List Dot) → covers a b ≡ true → covers b c ≡ true → covers a c ≡ true
unfolding covers
covers-trans a b c t u =
    none-holds (beyond a) c
    (λ d i. le-ltb (counter_in a d.actor) d.counter (omega (
      arith,
      covers-means a b t d.actor,
      ltb-false (counter_in b d.actor) d.counter (none-means (beyond b) c u d i),
    )))

-- two clocks that cover each other are one
pub covers-both : {a b : List Dot} → Lawful a → Lawful b → covers a b ≡ true → covers b a ≡ true → a ≡ b
covers-both {a} {b} h k t u = same-clock h k (λ x. omega (arith, covers-means a b t x, covers-means b a u x))

module _ {a b : List Dot} (h : Lawful a) (k : Lawful b) where
  pub covers-join-left : covers (join_dots a b) a ≡ true
  covers-join-left = covers-holds (join_dots a b) (λ x. omega (arith, counter-join h k x)) h

  pub covers-join-right : covers (join_dots a b) b ≡ true
  covers-join-right = covers-holds (join_dots a b) (λ x. omega (arith, counter-join h k x)) k

  -- what covers both covers the joined clock
  pub covers-join : (c : List Dot) → covers c a ≡ true → covers c b ≡ true → covers c (join_dots a b) ≡ true
  covers-join c t u =
      covers-holds c (λ x. omega (arith, counter-join h k x, covers-means c a t x, covers-means c b u x)) (lawful-join h k)

pub covers-cut : (c : List Dot) {x : List Dot} → Lawful x → covers x (cut_dots c x) ≡ true
unfolding covers
covers-cut c {x} h =
    none-holds (beyond x) (cut_dots c x) (λ d i. le-ltb (counter_in x d.actor) d.counter (omega (arith, counter-member h (cut_keeps c x i).0)))

pub covers-add : {l : List Dot} → Lawful l → (d : Dot) → covers (add_dot l d) l ≡ true
unfolding add_dot
covers-add {l} h d = covers-join-left h (lawful-beyond l d)

-- nothing is left of a clock under a cut that covers it
pub empty-covered : (c x : List Dot) → is_empty (cut_dots c x) ≡ covers c x
unfolding is_empty cut_dots covers
empty-covered c x = none-those (beyond c) x

pub order-self : {a : List Dot} → Lawful a → order_of a a ≡ Equal
unfolding order_of
order-self h = rw (covers-refl h)

pub order-equal : {a b : List Dot} → Lawful a → Lawful b → order_of a b ≡ Equal → a ≡ b
unfolding order_of
order-equal {a} {b} h k e = let r = equal (covers a b) (covers b a) e in covers-both h k r.0 r.1
  where
    equal : (p q : Bool) → outcome p q ≡ Equal → (p ≡ true) × (q ≡ true)
    equal true true e = (refl, refl)
    equal true false e = (refl, cc)
    equal false true e = (cc, refl)
    equal false false e = (cc, cc)
