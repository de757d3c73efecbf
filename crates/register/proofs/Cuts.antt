-- Cutting a register twice, again, and by nothing.
use mathlib.Core.Path.{◌≡◌, refl, ap, sym, ◌∙◌}
use mathlib.Core.Bool.{false, not}
use mathlib.Core.List.{List, []}
use borrow.Author.Tests.{not-false}
use Rattle.listlaws.specs.Sift.{sift}
use Rattle.listlaws.specs.Order.{◌∈◌}
use Rattle.listlaws.proofs.Those.{those-all}
use Rattle.listlaws.proofs.Twice.{sift-same, sift-sift}
use Rattle.clock.specs.declared.Dot.{Dot}
use Rattle.clock.specs.Dots.{dots_of, clock_of, is_empty, cut_dots, join_dots}
use Rattle.clock.specs.Lawful.{Lawful}
use Rattle.clock.proofs.Packs.{dots-of}
use Rattle.clock.proofs.Cuts.{cut-trade, cut-none}
use Rattle.clock.proofs.Joins.{cut-cut}
use Rattle.clock.proofs.Empties.{empty-cut}
use Rattle.register.specs.declared.Value.{Value}
use Rattle.register.specs.Values.{alive, cut_value, cut_values}

-- the dots of a value that was cut
pub dots-cut : (c : List Dot) (v : Value) → dots_of (cut_value c v).clock ≡ cut_dots c (dots_of v.clock)
dots-cut c v = dots-of (cut_dots c (dots_of v.clock)) refl

-- what is not alive does not come back
dead-cut : (c : List Dot) (v : Value) → alive v ≡ false → alive (cut_value c v) ≡ false
dead-cut c v t = ap not (ap is_empty (dots-cut c v) ∙ empty-cut c (dots_of v.clock) (not-false (is_empty (dots_of v.clock)) t))

-- two cuts are one change
twice : (c d : List Dot) (l : List Value) → cut_values d (cut_values c l) ≡ sift alive (λ v. cut_value d (cut_value c v)) l
unfolding cut_values
twice c d l = sift-sift alive (cut_value c) (cut_value d) l (λ v i t. dead-cut d (cut_value c v) t)

value-twice : (c d : List Dot) (v : Value) → cut_value d (cut_value c v)
    ≡ record { clock = clock_of (cut_dots d (cut_dots c (dots_of v.clock))); value = v.value }
value-twice c d v = ap (λ x. record { clock = clock_of (cut_dots d x); value = v.value }) (dots-cut c v)

pub cut-values-cut : {c d : List Dot} → Lawful c → Lawful d → (l : List Value) → cut_values d (cut_values c l) ≡ cut_values (join_dots c d) l
unfolding cut_values
cut-values-cut {c} {d} h k l =
    twice c d l ∙ sift-same alive _ _ l (λ v i. value-twice c d v ∙ ap (λ x. record { clock = clock_of x; value = v.value })
    (cut-cut h k (dots_of v.clock)))

pub cut-values-trade : (c d : List Dot) (l : List Value) → cut_values c (cut_values d l) ≡ cut_values d (cut_values c l)
cut-values-trade c d l =
    twice d c l
    ∙ sift-same alive _ _ l (λ v i. value-twice d c v ∙ ap (λ x. record { clock = clock_of x; value = v.value }) (cut-trade c d (dots_of v.clock))
    ∙ sym (value-twice c d v))
    ∙ sym (twice c d l)

-- a value laid down under a clock that is not empty
abbrev pub Sound : Value → Type 0
Sound v = (v ≡ record { clock = clock_of (dots_of v.clock); value = v.value }) × Lawful (dots_of v.clock) × (is_empty (dots_of v.clock) ≡ false)

pub cut-values-none : (l : List Value) → ((v : Value) → v ∈ l → Sound v) → cut_values [] l ≡ l
unfolding cut_values
cut-values-none l f =
    sift-same alive (cut_value []) (λ v. v) l (λ v i. ap (λ x. record { clock = clock_of x; value = v.value }) (cut-none (f v i).1) ∙ sym (f v i).0)
    ∙ those-all alive l (λ v i. ap not (f v i).2)
