-- Which records are wanted, in the words of step 4 and of step 5.
use mathlib.Core.Path.{◌≡◌, refl, ap}
use mathlib.Core.Bool.{Bool, true, false, ◌&&◌, and-true}
use mathlib.Core.List.{List, [], ◌∷◌}
use Prim.Native.Nat.{ℕ}
use lib.Dec.{eqb}
use Rattle.listlaws.specs.First.{first_in, some}
use Rattle.records.specs.declared.Record.{Record}
use Rattle.maprecords.specs.Reading.{under_key, under_index, under_both}
use Rattle.salvagerules.specs.Needs.{clock_dot_above}
use Rattle.culling.specs.Looking.{is_wanted, want_index, want_key, want_both, want_dot}

pub some_same : {A : Type 0} (p q : A → Bool) (l : List A) → ((x : A) → p x ≡ q x) → some p l ≡ some q l
unfolding first_in
some_same p q [] f = refl
some_same p q (x ∷ l) f = rw (f x, some_same p q l f)

two : (a b : Bool) → (a && (b && true)) ≡ (a && b)
two a b = ap (λ c. a && c) (and-true b)

three : (a b c : Bool) → (a && (b && (c && true))) ≡ ((a && b) && c)
three true b c = ap (λ x. b && x) (and-true c)
three false b c = refl

module _ (l : List Record) where
  pub by_index : (kind index : ℕ) → some (is_wanted (want_index kind index)) l ≡ some (under_index kind index) l
  by_index kind index = some_same _ _ l (λ r. two (eqb r.kind kind) (eqb r.index index))

  pub by_key : (kind key : ℕ) → some (is_wanted (want_key kind key)) l ≡ some (under_key kind key) l
  by_key kind key = some_same _ _ l (λ r. two (eqb r.kind kind) (eqb r.key key))

  pub by_both : (kind key index : ℕ) → some (is_wanted (want_both kind key index)) l ≡ some (under_both kind key index) l
  by_both kind key index = some_same _ _ l (λ r. three (eqb r.kind kind) (eqb r.key key) (eqb r.index index))

  pub by-dot : (r : Record) → some (is_wanted (want_dot 1 r.actor r.number)) l ≡ some (clock_dot_above r) l
  by-dot r = refl
