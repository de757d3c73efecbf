-- What stands on both sides: a list woven with itself, and a clock, a register, an entry, a removal met with itself.
use mathlib.Core.Path.{◌≡◌, refl, ap, sym, ◌∙◌}
use mathlib.Core.Bool.{Bool, true, false, not}
use mathlib.Core.List.{List, [], ◌∷◌, ◌++◌, map, map-id, append-nil}
use Prim.Native.Nat.{ℕ}
use native.Mathlib.Omega.{arith}
use borrow.Author.Tests.{eq-eqb, le-ltb}
use Rattle.listlaws.specs.Order.{◌∈◌, by}
use Rattle.listlaws.specs.Weave.{weave}
use Rattle.listlaws.proofs.Somes.{some_holds, false-some}
use Rattle.listlaws.proofs.Those.{those-all, those-none}
use Rattle.listlaws.proofs.Twice.{map_same}
use Rattle.clock.specs.declared.Dot.{Dot}
use Rattle.clock.specs.declared.Order.{Order}
use Rattle.clock.specs.declared.Order.TheVariants.{Equal, Greater, Less, Concurrent}
use Rattle.clock.specs.Dots.{dots_of, counter_in, covers, order_of, cut_dots, common_dots}
use Rattle.clock.specs.Lawful.{Lawful}
use Rattle.clock.proofs.Counters.{same-clock}
use Rattle.clock.proofs.Cuts.{lawful-cut, lawful-common, counter-cut, counter-common}
use Rattle.clock.proofs.Joins.{lawful-join, counter-join, join-again}
use Rattle.clock.proofs.Covers.{covers-means, covers-refl, empty-covered, order-self}
use Rattle.clock.proofs.Empties.{empty-means}
use Rattle.register.specs.declared.Value.{Value}
use Rattle.register.specs.Values.{yielding, yields, outdone, standing, ours_left, merge_values}
use Rattle.entries.specs.declared.Entry.{Entry}
use Rattle.removals.specs.declared.Removal.{Removal}
use Rattle.entries.specs.Model.{values_in}
use Rattle.removals.specs.Model.{keys_as, under_of, listed_in}
use Rattle.entries.specs.Entries.{keep_dots, merge_both, together}
use Rattle.removals.specs.Waits.{removal_before, union_keys, unite, unite_all}
use Rattle.entries.specs.Valid.{ValidEntry}
use Rattle.removals.specs.Valid.{ValidRemoval, ValidWaiting}
use Rattle.entries.proofs.Cuts.{cut-none-values}
use Rattle.removals.proofs.ClockOrder.{before_self}
use Rattle.entries.proofs.ClocksFit.{lawful-keep}
use Rattle.selfmergelaws.specs.Premises.{NoneBelow}

-- each element stands level with itself, and with nothing before it
pub weave-self : {A B : Type 0} (before : A → A → Bool) (first second : A → B) (both : A → A → B) → ((x : A) → before x x ≡ false) → (l : List A)
    → weave before first second both l l ≡ map (λ x. both x x) l
unfolding weave
weave-self before first second both level [] = refl
weave-self before first second both level (x ∷ l) = rw (level x) (ap (λ s. both x x ∷ s) (weave-self before first second both level l))

pub by-self : {A : Type 0} (rank : A → ℕ) (x : A) → by rank x x ≡ false
by-self rank x = le-ltb (rank x) (rank x) (omega arith)

-- a clock cut by itself
pub cut-self : {a : List Dot} → Lawful a → cut_dots a a ≡ []
cut-self {a} h = empty-means (cut_dots a a) (empty-covered a a ∙ covers-refl h)

-- "keep" of a covered clock with itself
pub keep-self : (seen : List Dot) {a : List Dot} → Lawful a → covers seen a ≡ true → keep_dots seen seen a a ≡ a
unfolding keep_dots
keep-self seen {a} h t = same-clock (lawful-keep seen seen h h) h counters
  where
    none : (x : ℕ) → counter_in (cut_dots seen a) x ≡ 0
    none x = rw (le-ltb (counter_in seen x) (counter_in a x) (covers-means seen a t x)) at (counter-cut seen h x)

    all : (x : ℕ) → counter_in (common_dots a a) x ≡ counter_in a x
    all x = rw (eq-eqb (counter_in a x) (counter_in a x) refl) at (counter-common a h x)

    counters : (x : ℕ) → counter_in (keep_dots seen seen a a) x ≡ counter_in a x
    counters x =
        omega (
          arith,
          none x,
          all x,
          counter-join (lawful-join (lawful-common a h) (lawful-cut seen h)) (lawful-cut seen h) x,
          counter-join (lawful-common a h) (lawful-cut seen h) x,
        )

not-less : (o : Order) → (o ≡ Less → ⊥) → yielding false o ≡ false
not-less Equal f = refl
not-less Greater f = refl
not-less Less f = absurd (f refl)
not-less Concurrent f = refl

-- a register merged with itself, in its order
pub merge-values-self : (l : List Value) → NoneBelow l → ((v : Value) → v ∈ l → Lawful (dots_of v.clock)) → merge_values l l ≡ l
unfolding merge_values ours_left outdone yields
merge-values-self l f h =
    rw (those-all (standing false l) l
    (λ v i. ap not (false-some (yields false v) l (λ w j. not-less (order_of (dots_of v.clock) (dots_of w.clock)) (f v w i j)))))
    (ap (λ s. l ++ s) (those-none (standing true l) l (λ v i. ap not (some_holds (yields true v) i (itself v (h v i))))) ∙ append-nil l)
  where
    itself : (v : Value) → Lawful (dots_of v.clock) → yields true v v ≡ true
    itself v k = ap (yielding true) (order-self k)

-- an entry of a map met with itself
pub together-self : {seen : List Dot} {e : Entry} → ValidEntry seen e → NoneBelow (values_in e) → together seen seen e e ≡ e ∷ []
unfolding together merge_both
together-self {seen} {e} h f =
    rw (
      keep-self seen h.clock h.covered,
      h.some,
      join-again h.clock,
      cut-self h.clock,
      merge-values-self (values_in e) f (λ v i. (h.values v i).clock),
      cut-none-values (values_in e) h.values,
    )
    (ap (λ x. x ∷ []) (sym h.laid))

-- a removal united with itself, and those that wait
pub union_self : (k : List ℕ) → union_keys k k ≡ k
unfolding union_keys
union_self k = weave-self (by (λ x. x)) (λ x. x) (λ x. x) (λ x y. x) (by-self (λ x. x)) k ∙ map-id k

unite-self : {r : Removal} → ValidRemoval r → unite r r ≡ r
unite-self {r} h = ap (λ k. record { clock = r.clock; keys = keys_as k }) (union_self (listed_in r))
    ∙ λ i. record { clock = r.clock; keys = (sym h.laid i).keys }

pub unite-all-self : {w : List Removal} → ValidWaiting w → unite_all w w ≡ w
unfolding unite_all
unite-all-self {w} h =
    weave-self removal_before (λ x. x) (λ x. x) unite (λ x. before_self (under_of x)) w
    ∙ map_same (λ x. x) (λ x. unite x x) w (λ r i. unite-self (h.each r i)) ∙ map-id w
