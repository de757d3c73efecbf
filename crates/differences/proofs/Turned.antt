-- Equality of registers and entries holds either way round.
use mathlib.Core.Path.{◌≡◌, refl, ap₂, sym, ◌∙◌}
use mathlib.Core.Bool.{Bool, true, false, not, ◌&&◌}
use mathlib.Core.List.{List}
use Prim.Native.Nat.{ℕ}
use lib.Dec.{eqb}
use borrow.Author.Tests.{eqb-true, eqb-false, eq-eqb, ne_eqb}
use Rattle.listlaws.specs.First.{none}
use Rattle.scan.proofs.Eachs.{decide}
use Rattle.clock.specs.declared.Dot.{Dot}
use Rattle.clock.specs.Dots.{covers, outcome, order_of}
use Rattle.register.specs.declared.Value.{Value}
use Rattle.entries.specs.declared.Entry.{Entry}
use Rattle.entries.specs.Model.{dots_in, values_in}
use Rattle.equality.specs.Equality.{equal_clock, times_in, as_often, equal_values}
use Rattle.differences.specs.Differences.{same_entry}

eqb-turned : (a b : ℕ) → eqb a b ≡ eqb b a
eqb-turned a b = decide (eqb a b) (λ t. t ∙ sym (eq-eqb b a (sym (eqb-true a b t)))) (λ f. f ∙ sym (ne_eqb b a (λ e. eqb-false a b f (sym e))))

pub often-turned : (l m here : List Value) → as_often m l here ≡ as_often l m here
unfolding as_often
often-turned l m here = λ i. none (λ v. not (eqb-turned (times_in m v) (times_in l v) i)) here

and-turned : (a b : Bool) → (a && b) ≡ (b && a)
and-turned true true = refl
and-turned true false = refl
and-turned false true = refl
and-turned false false = refl

equal-turned : (l m : List Value) → equal_values m l ≡ equal_values l m
unfolding equal_values
equal-turned l m = ap₂ ◌&&◌ (often-turned l m m) (often-turned l m l) ∙ and-turned (as_often l m m) (as_often l m l)

clock-turned : (a b : List Dot) → equal_clock (order_of b a) ≡ equal_clock (order_of a b)
unfolding order_of
clock-turned a b = go (covers a b) (covers b a)
  where
    go : (p q : Bool) → equal_clock (outcome q p) ≡ equal_clock (outcome p q)
    go true true = refl
    go true false = refl
    go false true = refl
    go false false = refl

pub same-turned : (e f : Entry) → same_entry f e ≡ same_entry e f
unfolding same_entry
same-turned e f = ap₂ ◌&&◌ (clock-turned (dots_in e) (dots_in f)) (equal-turned (values_in e) (values_in f))
