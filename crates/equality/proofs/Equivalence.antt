-- Two registers are equal exactly where one is the other in another order: equality is an equivalence, and counts.
use mathlib.Core.Path.{◌≡◌, refl, ap, sym, ◌∙◌}
use mathlib.Core.Bool.{Bool, true, false, not, ◌&&◌}
use mathlib.Core.Logic.{⊎_elim}
use mathlib.Core.List.Permᴰ
use mathlib.Core.List.{List, [], ◌∷◌, Permᴰ}
use lib.Dec.{eqb}
use borrow.Author.Tests.{eqb-true, eq-eqb, not-false}
use Rattle.listlaws.specs.Order.{◌∈◌}
use Rattle.listlaws.specs.First.{first_in}
use Rattle.listlaws.specs.Sift.{sift}
use Rattle.listlaws.specs.Pad.{pad}
use Rattle.listlaws.proofs.Orders.{apart}
use Rattle.listlaws.proofs.Firsts.{none-means, none-holds}
use Rattle.listlaws.proofs.Often.{perm-times, times-perm}
use Rattle.clock.specs.declared.Order.{Order}
use Rattle.clock.specs.declared.Order.TheVariants.{Equal, Greater, Less, Concurrent}
use Rattle.clock.specs.Dots.{dots_of, clock_of, is_empty, counter_in, covers, order_of, cut_dots}
use Rattle.clock.specs.Lawful.{Lawful}
use Rattle.clock.proofs.Covers.{order-self, order-equal}
use Rattle.clock.proofs.Examples.{dot}
use Rattle.register.specs.declared.Value.{Value}
use Rattle.register.specs.Values.{cut_values}
use Rattle.register.proofs.Examples.{value}
use Rattle.equality.specs.Equality.{same_content, equal_clock, same_pair, times_in, as_often, equal_values}

-- a value under a clock that is one, laid down with zeros behind its dots
pub record Plain (v : Value) : Type 0 where
  pub laid : v ≡ record { clock = clock_of (dots_of v.clock); value = v.value }
  pub clock : Lawful (dots_of v.clock)

both : (b c : Bool) → (b && c) ≡ true → (b ≡ true) × (c ≡ true)
both true true t = (refl, refl)
both true false t = apart (sym t)
both false c t = apart (sym t)

equal-clock : (o : Order) → equal_clock o ≡ true → o ≡ Equal
equal-clock Equal t = refl
equal-clock Greater t = apart (sym t)
equal-clock Less t = apart (sym t)
equal-clock Concurrent t = apart (sym t)

-- the same pair is the same value
pair-self : (v : Value) → Plain v → same_pair v v ≡ true
unfolding same_pair
pair-self v p = rw (order-self p.clock, eq-eqb v.value.number v.value.number refl, eq-eqb v.value.origin v.value.origin refl) refl

pair-exact : (v w : Value) → Plain v → Plain w → same_pair v w ≡ true → v ≡ w
unfolding same_pair
pair-exact v w p q t =
    let b = both (equal_clock (order_of (dots_of v.clock) (dots_of w.clock))) (same_content v.value w.value) t in
    let dots = order-equal p.clock q.clock (equal-clock (order_of (dots_of v.clock) (dots_of w.clock)) b.0) in
    let c = both (eqb v.value.number w.value.number) (eqb v.value.origin w.value.origin) b.1 in
    let number = eqb-true v.value.number w.value.number c.0 in
    let origin = eqb-true v.value.origin w.value.origin c.1 in
    p.laid ∙ (λ i. record { clock = clock_of (dots i); value = record { number = number i; origin = origin i } }) ∙ sym q.laid

often-means : (l m here : List Value) → as_often l m here ≡ true → (v : Value) → v ∈ here → times_in l v ≡ times_in m v
unfolding as_often
often-means l m here t v i = eqb-true (times_in l v) (times_in m v)
    (not-false _ (none-means (λ u. not (eqb (times_in l u) (times_in m u))) here t v i))

module _ {l m : List Value} where
  -- "every pair occurs the same number of times in both, order ignored"
  pub perm-equal : Permᴰ l m → equal_values l m ≡ true
  unfolding equal_values as_often times_in
  perm-equal d = rw (often l, often m) refl
    where
      often : (here : List Value) → as_often l m here ≡ true
      often here = none-holds (λ u. not (eqb (times_in l u) (times_in m u))) here
          (λ v i. ap not (eq-eqb _ _ (perm-times same_pair Plain pair-self pair-exact d v)))

  module _ (f : (v : Value) → v ∈ l → Plain v) (g : (v : Value) → v ∈ m → Plain v) where
    pub equal-perm : equal_values l m ≡ true → Permᴰ l m
    unfolding equal_values times_in
    equal-perm t =
        let b = both (as_often l m l) (as_often l m m) t in
        times-perm same_pair Plain pair-self pair-exact l m f g (λ v i. ⊎_elim (often-means l m l b.0 v) (often-means l m m b.1 v) i)

-- end theorems from here on: an equivalence
pub equal-self : (l : List Value) → equal_values l l ≡ true
equal-self l = perm-equal (Permᴰ.refl l)

module _ {l m : List Value} (f : (v : Value) → v ∈ l → Plain v) (g : (v : Value) → v ∈ m → Plain v) where
  pub equal-back : equal_values l m ≡ true → equal_values m l ≡ true
  equal-back t = perm-equal (Permᴰ.symm (equal-perm f g t))

  pub equal-on : {n : List Value} → ((v : Value) → v ∈ n → Plain v) → equal_values l m ≡ true → equal_values m n ≡ true → equal_values l n ≡ true
  equal-on h t u = perm-equal (Permᴰ.trans (equal-perm f g t) (equal-perm g h u))

-- a pair that a cut leaves twice is not the same as that pair once
pub twice-once :
    equal_values (cut_values (dot 2 1 ∷ dot 3 1 ∷ []) (value (dot 1 1 ∷ dot 2 1 ∷ []) 7 ∷ value (dot 1 1 ∷ dot 3 1 ∷ []) 7 ∷ []))
    (value (dot 1 1 ∷ []) 7 ∷ []) ≡ false
unfolding pad sift first_in is_empty counter_in covers order_of cut_dots cut_values same_pair times_in as_often equal_values
twice-once = refl

-- the same value under the same clock, set by two, is not the same
pub origins-differ : equal_values (value (dot 1 1 ∷ []) 7 ∷ [])
    (record { clock = clock_of (dot 1 1 ∷ []); value = record { number = 7; origin = 1 } } ∷ []) ≡ false
unfolding pad sift first_in is_empty counter_in covers order_of same_pair times_in as_often equal_values
origins-differ = refl
