-- The order of records, field by field: each field ascends where those before it are equal.
use mathlib.Core.Path.{◌≡◌, ap, sym, ◌∙◌}
use mathlib.Core.Bool.{Bool, true, false, ◌&&◌, ◌||◌}
use Prim.Native.Nat.{ℕ, ◌≤◌, ◌<◌}
use native.Mathlib.Omega.{arith}
use lib.Dec.{eqb, ltb}
use borrow.Author.Tests.{ltb-true, ltb-false, lt-ltb, eq-eqb, eqb-true}
use Rattle.listlaws.proofs.Orders.{apart}
use Rattle.records.specs.declared.Record.{Record}
use Rattle.records.specs.Kinds.{actor_of, before}
use Rattle.records.proofs.Rule.{is_value}
use Rattle.scan.proofs.Eachs.{decide}

pub record Before (a b : Record) : Type 0 where
  pub kind : a.kind ≤ b.kind
  pub key : a.kind ≡ b.kind → a.key ≤ b.key
  pub index : a.kind ≡ b.kind → a.key ≡ b.key → a.index ≤ b.index
  pub actor : a.kind ≡ b.kind → a.key ≡ b.key → a.index ≡ b.index → actor_of a < actor_of b

-- one field, and what is to hold where it is equal
one_field : (x y : ℕ) (rest : Bool) → (ltb x y || (eqb x y && rest)) ≡ true → (x ≤ y) × (x ≡ y → rest ≡ true)
one_field x y rest e =
    decide (ltb x y)
    (λ t. let h : x < y = ltb-true x y t in (omega arith, λ q. absurd (omega arith)))
    (λ f. decide (eqb x y)
    (λ t. let q : x ≡ y = eqb-true x y t in (omega arith, λ _. rw (f, t) at e))
    (λ n. apart (sym (rw (f, n) at e))))

field-one : (x y : ℕ) (rest : Bool) → x ≤ y → (x ≡ y → rest ≡ true) → (ltb x y || (eqb x y && rest)) ≡ true
field-one x y rest h f =
    decide (ltb x y)
    (λ t. rw t)
    (λ n. let q : x ≡ y = omega (arith, ltb-false x y n) in rw (n, eq-eqb x y q, f q))

pub before-fields : {a b : Record} → before a b ≡ true → Before a b
unfolding before
before-fields {a} {b} e =
    let one = one_field a.kind b.kind _ e in
    record {
      kind = one.0;
      key = λ k. (one_field a.key b.key _ (one.1 k)).0;
      index = λ k y. (one_field a.index b.index _ ((one_field a.key b.key _ (one.1 k)).1 y)).0;
      actor = λ k y i. ltb-true (actor_of a) (actor_of b) ((one_field a.index b.index _ ((one_field a.key b.key _ (one.1 k)).1 y)).1 i);
    }

-- dots of one kind, key and index ascend by their actors
pub before-actor : {a b : Record} → Before a b → is_value a.kind ≡ false → a.kind ≡ b.kind → a.key ≡ b.key → a.index ≡ b.index
    → a.actor < b.actor
before-actor {a} {b} h f k y i = rw (f, ap is_value (sym k) ∙ f) at (h.actor k y i)

pub fields-before : {a b : Record} → Before a b → before a b ≡ true
unfolding before
fields-before {a} {b} h =
    field-one a.kind b.kind _ h.kind
    (λ k. field-one a.key b.key _ (h.key k)
    (λ y. field-one a.index b.index _ (h.index k y) (λ i. lt-ltb (actor_of a) (actor_of b) (h.actor k y i))))

pub before-trans : {a b c : Record} → Before a b → Before b c → Before a c
before-trans {a} {b} {c} f g = record {
  kind = omega (arith, f.kind, g.kind);
  key = λ k. omega (arith, f.key (left k), g.key (right k));
  index = λ k y. omega (arith, f.index (left k) (left_key k y), g.index (right k) (right_key k y));
  actor = λ k y i.
      omega (arith, f.actor (left k) (left_key k y) (left-index k y i), g.actor (right k) (right_key k y) (right-index k y i));
}
  where
    left : a.kind ≡ c.kind → a.kind ≡ b.kind
    left k = omega (arith, f.kind, g.kind)

    right : a.kind ≡ c.kind → b.kind ≡ c.kind
    right k = omega (arith, f.kind, g.kind)

    left_key : a.kind ≡ c.kind → a.key ≡ c.key → a.key ≡ b.key
    left_key k y = omega (arith, f.key (left k), g.key (right k))

    right_key : a.kind ≡ c.kind → a.key ≡ c.key → b.key ≡ c.key
    right_key k y = omega (arith, f.key (left k), g.key (right k))

    left-index : a.kind ≡ c.kind → a.key ≡ c.key → a.index ≡ c.index → a.index ≡ b.index
    left-index k y i = omega (arith, f.index (left k) (left_key k y), g.index (right k) (right_key k y))

    right-index : a.kind ≡ c.kind → a.key ≡ c.key → a.index ≡ c.index → b.index ≡ c.index
    right-index k y i = omega (arith, f.index (left k) (left_key k y), g.index (right k) (right_key k y))
