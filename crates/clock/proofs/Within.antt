-- Clocks within a larger one: how long they are, and that cutting, joining and adding a dot keep them within.
use mathlib.Core.Path.{◌≡◌, refl, ap, sym, ◌∙◌}
use mathlib.Core.Bool.{Bool, true, false}
use mathlib.Core.List.{List, []}
use Prim.Native.Nat.{ℕ, ◌≤◌}
use native.Mathlib.Omega.{arith}
use borrow.Author.Tests.{ltb-true, ltb-false, le-ltb}
use lib.Dec.{ltb, eqb}
use lib.ListN.{length}
use Rattle.listlaws.proofs.Orders.{apart}
use Rattle.listlaws.proofs.Those.{those-means}
use Rattle.listlaws.proofs.Firsts.{none-holds}
use Rattle.clock.specs.declared.Dot.{Dot}
use Rattle.clock.specs.Dots.{is_empty, counter_in, beyond, covers, cut_dots, shared, common_dots, join_dots, add_dot}
use Rattle.clock.specs.Lawful.{Lawful}
use Rattle.clock.proofs.Counters.{counter-member, counter-nil, among}
use Rattle.clock.proofs.Cuts.{lawful-cut, counter-cut}
use Rattle.clock.proofs.Joins.{lawful-nil, lawful-join, counter-join, lawful-add, counter-add}
use Rattle.clock.proofs.Covers.{covers-means, covers-holds}
use Rattle.clock.proofs.Empties.{empty-means}

-- a clock is no longer than one that covers it
pub covered-length : {a b : List Dot} → Lawful a → Lawful b → covers b a ≡ true → length a ≤ length b
covered-length {a} {b} h k t = among h k (λ x e. omega (arith, covers-means b a t x))

-- every clock covers the empty one
pub covers-nil : (c : List Dot) → covers c [] ≡ true
covers-nil c = covers-holds c (λ x. omega (arith, counter-nil x)) lawful-nil

pub covers-common : {a : List Dot} (b : List Dot) → Lawful a → covers a (common_dots a b) ≡ true
unfolding covers common_dots
covers-common {a} b h =
    none-holds (beyond a) (common_dots a b) (λ d i. le-ltb (counter_in a d.actor) d.counter
    (omega (arith, counter-member h (those-means (shared b) a i).0)))

pub nil-empty : is_empty [] ≡ true
unfolding is_empty
nil-empty = refl

-- a clock that is not covered is not empty
pub some-uncovered : (c l : List Dot) → covers c l ≡ false → is_empty l ≡ false
some-uncovered c l f = go (is_empty l) refl
  where
    go : (b : Bool) → is_empty l ≡ b → b ≡ false
    go true t = apart (sym (covers-nil c) ∙ ap (covers c) (sym (empty-means l t)) ∙ f)
    go false t = refl

module _ {a b c d : List Dot} (h : Lawful a) (k : Lawful b) (q : Lawful c) (r : Lawful d) where
  -- joins of what two clocks cover
  pub covers-joins : covers a c ≡ true → covers b d ≡ true → covers (join_dots a b) (join_dots c d) ≡ true
  covers-joins t u =
      covers-holds (join_dots a b) (λ x. omega (arith, counter-join h k x, counter-join q r x, covers-means a c t x, covers-means b d u x))
      (lawful-join q r)

module _ {a b : List Dot} (h : Lawful a) (k : Lawful b) (t : covers a b ≡ true) where
  -- what is left of a covered clock is covered by what is left
  pub covers-cuts : (c : List Dot) → covers (cut_dots c a) (cut_dots c b) ≡ true
  covers-cuts c = covers-holds (cut_dots c a) (λ x. below x (ltb (counter_in c x) (counter_in a x)) (ltb (counter_in c x) (counter_in b x)) refl refl)
      (lawful-cut c k)
    where
      below : (x : ℕ) (p q : Bool) → ltb (counter_in c x) (counter_in a x) ≡ p → ltb (counter_in c x) (counter_in b x) ≡ q
          → counter_in (cut_dots c b) x ≤ counter_in (cut_dots c a) x
      below x true true e f =
          omega (arith, rw e at (counter-cut c h x), rw f at (counter-cut c k x), covers-means a b t x)
      below x false true e f =
          omega (arith, ltb-false (counter_in c x) (counter_in a x) e, ltb-true (counter_in c x) (counter_in b x) f, covers-means a b t x)
      below x p false e f = omega (arith, rw f at (counter-cut c k x))

  -- a dot added to both
  pub covers-adds : (d : Dot) → covers (add_dot a d) (add_dot b d) ≡ true
  covers-adds d = covers-holds (add_dot a d) (λ x. below x (eqb d.actor x) refl) (lawful-add k d)
    where
      below : (x : ℕ) (p : Bool) → eqb d.actor x ≡ p → counter_in (add_dot b d) x ≤ counter_in (add_dot a d) x
      below x true e = omega (arith, rw e at (counter-add h d x), rw e at (counter-add k d x), covers-means a b t x)
      below x false e = omega (arith, rw e at (counter-add h d x), rw e at (counter-add k d x), covers-means a b t x)
