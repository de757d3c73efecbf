-- Which fields a kind uses, by what 01 says that it is: the table of masks says so on all four bits of every row, by one test that antt computes.
use mathlib.Core.Path.{◌≡◌, refl}
use mathlib.Core.Bool.{Bool, true, false, not, ◌&&◌, ◌||◌, beq}
use Prim.Native.Nat.{ℕ, ◌≤◌, ◌<◌}
use native.Mathlib.Omega.{arith}
use borrow.Author.Tests.{ne_eqb, ltb-true, ltb-false}
use lib.Dec.{T, eqb, ltb}
use lib.Bits.{bit_and}
use lib.ListN.{get_or-eq_default}
use Rattle.records.specs.Kinds.{masks, mask_of}
use Rattle.records.proofs.Table.{at}

-- values and waiting removals are counted: value, value dot, waiting clock dot, waiting key
abbrev pub uses_index : ℕ → Bool
uses_index k = eqb k 3 || (eqb k 4 || (eqb k 5 || eqb k 6))

-- a dot: of the map clock, an entry, a value, a waiting clock, a removal, an update's head, a put
abbrev pub is_dot : ℕ → Bool
is_dot k = eqb k 1 || (eqb k 2 || (eqb k 4 || (eqb k 5 || (eqb k 8 || (eqb k 10 || eqb k 12)))))

-- a value: of a register, of a put
abbrev pub is_value : ℕ → Bool
is_value k = eqb k 3 || eqb k 11

-- a dot has an actor, a value has an origin in its place
abbrev pub uses_actor : ℕ → Bool
uses_actor k = is_dot k || is_value k

-- what stands under a key, and a key itself: entry dot, value, value dot, waiting key, removal key, update head
abbrev pub uses_key : ℕ → Bool
uses_key k = eqb k 2 || (eqb k 3 || (eqb k 4 || (eqb k 6 || (eqb k 9 || eqb k 10))))

-- a dot's counter, or a value
abbrev pub uses_number : ℕ → Bool
uses_number k = is_dot k || is_value k

-- a mask has a bit exactly where the field is used
abbrev says : ℕ → ℕ → Bool → Bool
says m bit uses = beq (eqb (bit_and m bit) 0) (not uses)

abbrev row_right : ℕ → ℕ → Bool
row_right k m = ltb m 16 && (says m 1 (uses_index k) && (says m 2 (uses_actor k) && (says m 4 (uses_key k) && says m 8 (uses_number k))))

pub record Row (k m : ℕ) : Type 0 where
  pub small : m < 16
  pub index : eqb (bit_and m 1) 0 ≡ not (uses_index k)
  pub actor : eqb (bit_and m 2) 0 ≡ not (uses_actor k)
  pub key : eqb (bit_and m 4) 0 ≡ not (uses_key k)
  pub number : eqb (bit_and m 8) 0 ≡ not (uses_number k)

both : (a b : Bool) → T (a && b) → T a × T b
both true b t = (tt, t)
both false b t = absurd t

holds : (a : Bool) → T a → a ≡ true
holds true t = refl
holds false t = absurd t

same : (a b : Bool) → T (beq a b) → a ≡ b
same true true t = refl
same true false t = absurd t
same false true t = absurd t
same false false t = refl

right : (k m : ℕ) → T (row_right k m) → Row k m
right k m t =
    let a = both (ltb m 16) _ t in
    let b = both (says m 1 (uses_index k)) _ a.1 in
    let c = both (says m 2 (uses_actor k)) _ b.1 in
    let d = both (says m 4 (uses_key k)) _ c.1 in
    record {
      small = ltb-true m 16 (holds (ltb m 16) a.0);
      index = same (eqb (bit_and m 1) 0) (not (uses_index k)) b.0;
      actor = same (eqb (bit_and m 2) 0) (not (uses_actor k)) c.0;
      key = same (eqb (bit_and m 4) 0) (not (uses_key k)) d.0;
      number = same (eqb (bit_and m 8) 0) (not (uses_number k)) d.1;
    }

-- what is no kind uses no field
beyond : (k : ℕ) → 13 ≤ k → Row k (mask_of k)
beyond k h =
    let none : (n : ℕ) → n < 13 → eqb k n ≡ false = λ n l. ne_eqb k n (λ e. omega arith) in
    rw (get_or-eq_default masks 0 h)
    (record {
      small = omega arith;
      index = rw (none 3 (omega arith), none 4 (omega arith), none 5 (omega arith), none 6 (omega arith)) refl;
      actor = rw (
        none 1 (omega arith),
        none 2 (omega arith),
        none 4 (omega arith),
        none 5 (omega arith),
        none 8 (omega arith),
        none 10 (omega arith),
        none 12 (omega arith),
        none 3 (omega arith),
        none 11 (omega arith),
      ) refl;
      key = rw (none 2 (omega arith), none 3 (omega arith), none 4 (omega arith), none 6 (omega arith), none 9 (omega arith), none 10 (omega arith))
          refl;
      number = rw (
        none 1 (omega arith),
        none 2 (omega arith),
        none 4 (omega arith),
        none 5 (omega arith),
        none 8 (omega arith),
        none 10 (omega arith),
        none 12 (omega arith),
        none 3 (omega arith),
        none 11 (omega arith),
      ) refl;
    })

-- the row of every kind
pub row_of : (k : ℕ) → Row k (mask_of k)
row_of k = go (ltb k 13) refl
  where
    go : (b : Bool) → ltb k 13 ≡ b → Row k (mask_of k)
    go true t = right k (mask_of k) (at row_right masks tt k (ltb-true k 13 t))
    go false t = beyond k (ltb-false k 13 t)
