-- Clocks and values of a reader's memory, looked at one after the other.
use mathlib.Core.Path.{◌≡◌, ap, sym, ◌∙◌}
use mathlib.Core.Bool.{true, false, not}
use mathlib.Core.List.{List, [], ◌∷◌}
use Prim.Native.Nat.{ℕ, ◌+◌, ◌<◌, ◌≤◌}
use lib.ListN.{length}
use borrow.Author.Tests.{eq-eqb, ne_eqb, lt-ltb, le-ltb}
use Rattle.listlaws.specs.First.{first_in}
use Rattle.clock.specs.declared.Dot.{Dot}
use Rattle.limits.specs.Limits.{dot_limit}
use Rattle.clock.specs.Dots.{is_empty, counter_in, covers}
use Rattle.register.specs.declared.Value.{Value}
use Rattle.scan.specs.Each.{every}
use Rattle.maprecords.specs.Related.{dotted}
use Rattle.memory.specs.Memory.{count_at, dots_at, value_at}
use Rattle.delivery.proofs.Views.{length-dots, value-dots}

-- the counter of an actor, at the first dot
module _ (a : ℕ) {l m : List Dot} {d : Dot} (e : l ≡ d ∷ m) where
  pub counter-here : d.actor ≡ a → counter_in l a ≡ d.counter
  unfolding counter_in first_in
  counter-here h = rw (e, eq-eqb d.actor a h)

  pub counter-on : (d.actor ≡ a → ⊥) → counter_in l a ≡ counter_in m a
  unfolding counter_in first_in
  counter-on h = rw (e, ne_eqb d.actor a h)

pub counter-none : (a : ℕ) {l : List Dot} → l ≡ [] → counter_in l a ≡ 0
unfolding counter_in first_in
counter-none a e = rw e

-- whether a clock covers another, at the first dot
module _ (c : List Dot) {l m : List Dot} {d : Dot} (e : l ≡ d ∷ m) where
  pub covers-fails : counter_in c d.actor < d.counter → covers c l ≡ false
  unfolding covers first_in
  covers-fails h = rw (e, lt-ltb (counter_in c d.actor) d.counter h)

  pub covers-on : d.counter ≤ counter_in c d.actor → covers c l ≡ covers c m
  unfolding covers first_in
  covers-on h = rw (e, le-ltb (counter_in c d.actor) d.counter h)

pub covers-none : (c : List Dot) {l : List Dot} → l ≡ [] → covers c l ≡ true
unfolding covers first_in
covers-none c e = rw e

-- whether each value has a dot, at the first value
no-dots : (l : List Dot) → length l ≡ 0 → not (is_empty l) ≡ false
unfolding is_empty
no-dots l e = ap not (eq-eqb (length l) 0 e)

some-dots : (l : List Dot) → (length l ≡ 0 → ⊥) → not (is_empty l) ≡ true
unfolding is_empty
some-dots l h = ap not (ne_eqb (length l) 0 h)

module _ (w : List ℕ) (at : ℕ) {l m : List Value} (e : l ≡ value_at w at ∷ m) where
  pub dotted-fails : count_at dot_limit (at + 8) w ≡ 0 → every dotted l ≡ false
  unfolding every
  dotted-fails h = rw (e, ap (λ x. not (is_empty x)) (value-dots w at) ∙ no-dots (dots_at w (at + 8)) (length-dots w (at + 8) ∙ h))

  pub dotted-on : (count_at dot_limit (at + 8) w ≡ 0 → ⊥) → every dotted l ≡ every dotted m
  unfolding every
  dotted-on h = rw (e, ap (λ x. not (is_empty x)) (value-dots w at) ∙ some-dots (dots_at w (at + 8)) (λ z. h (sym (length-dots w (at + 8)) ∙ z)))

pub dotted-none : {l : List Value} → l ≡ [] → every dotted l ≡ true
unfolding every
dotted-none e = rw e
