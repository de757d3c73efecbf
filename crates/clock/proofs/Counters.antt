-- A clock is its counters: what a list of dots holds at an actor, and that a clock has nothing else.
use mathlib.Core.Path.{◌≡◌, refl, sym, ◌∙◌}
use mathlib.Core.Bool.{cond}
use mathlib.Core.Logic.{◌⊎◌, inl, inr, ⊎_elim}
use mathlib.Core.List.Memᴰ
use mathlib.Core.List.{List, [], ◌∷◌}
use Prim.Native.Nat.{ℕ, ◌≤◌, ◌<◌}
use native.Mathlib.Omega.{arith}
use borrow.Author.Tests.{eqb-true, eqb-false, ne_eqb}
use lib.Dec.{eqb}
use lib.ListN.{length}
use Rattle.listlaws.specs.First.{first_in}
use Rattle.listlaws.specs.Order.{◌∈◌}
use Rattle.listlaws.proofs.Orders.{by-strict, same-members}
use Rattle.listlaws.proofs.Firsts.{first-cases, first-none}
use Rattle.listlaws.proofs.Ranks.{first_member, no-longer-by}
use Rattle.clock.specs.declared.Dot.{Dot}
use Rattle.clock.specs.Dots.{counter_in}
use Rattle.clock.specs.Lawful.{Lawful}

-- the dot of an actor
abbrev pub dot_in : List Dot → ℕ → Dot
dot_in l a = record { actor = a; counter = counter_in l a }

-- a dot of a clock is its actor's counter
pub counter-member : {l : List Dot} {d : Dot} → Lawful l → d ∈ l → counter_in l d.actor ≡ d.counter
unfolding counter_in
counter-member h i = first_member (λ d. d.actor) (λ d. d.counter) 0 h.rising i

-- an actor has its dot, or no dot at all
pub counter-cases : (l : List Dot) (a : ℕ) → (dot_in l a ∈ l) ⊎ ((d : Dot) → d ∈ l → d.actor ≡ a → ⊥)
unfolding counter_in
counter-cases l a =
    ⊎_elim
    (λ h. inl (Memᴰ.cast (λ i. record { actor = sym (eqb-true h.found.actor a h.passes) i; counter = h.given i }) h.stands))
    (λ f. inr (λ d i. eqb-false d.actor a (f d i)))
    (first-cases (λ d. eqb d.actor a) (λ d. d.counter) 0 l)

-- an actor without a dot has 0
pub counter-absent : (l : List Dot) (a : ℕ) → ((d : Dot) → d ∈ l → d.actor ≡ a → ⊥) → counter_in l a ≡ 0
unfolding counter_in
counter-absent l a f = first-none (λ d. eqb d.actor a) (λ d. d.counter) 0 l (λ d i. ne_eqb d.actor a (f d i))

pub counter-nil : (a : ℕ) → counter_in [] a ≡ 0
counter-nil a = counter-absent [] a (λ d i. absurd (Memᴰ.not-nil i))

pub counter-one : (d : Dot) (a : ℕ) → counter_in (d ∷ []) a ≡ cond (eqb d.actor a) d.counter 0
unfolding counter_in first_in
counter-one d a = refl

-- an actor with a counter has its dot
pub counter_holds : (l : List Dot) (a : ℕ) → 0 < counter_in l a → dot_in l a ∈ l
counter_holds l a h = ⊎_elim (λ i. i) (λ f. absurd (omega (arith, counter-absent l a f))) (counter-cases l a)

-- a dot that says its actor's counter is one of the clock's
pub member-counter : (l : List Dot) (d : Dot) → counter_in l d.actor ≡ d.counter → 0 < d.counter → d ∈ l
member-counter l d e h =
    Memᴰ.cast (λ i. record { actor = d.actor; counter = sym e i }) (counter_holds l d.actor (omega arith))

-- a clock has no dot of an actor whose counter is 0
pub absent-counter : {l : List Dot} {a : ℕ} → Lawful l → counter_in l a ≡ 0 → (d : Dot) → d ∈ l → d.actor ≡ a → ⊥
absent-counter h e d i q = omega (arith, counter-member h i, rw (← q) at e, h.positive d i)

-- a clock is its counters
pub same-clock : {a b : List Dot} → Lawful a → Lawful b → ((x : ℕ) → counter_in a x ≡ counter_in b x) → a ≡ b
same-clock {a} {b} h k e =
    same-members (by-strict (λ d. d.actor)) a b h.rising k.rising
    (λ d i. member-counter b d (sym (e d.actor) ∙ counter-member h i) (h.positive d i))
    (λ d i. member-counter a d (e d.actor ∙ counter-member k i) (k.positive d i))

-- one whose actors stand in another is no longer than it
pub among : {a b : List Dot} → Lawful a → Lawful b → ((x : ℕ) → counter_in b x ≡ 0 → counter_in a x ≡ 0) → length a ≤ length b
among {a} {b} h k e =
    no-longer-by (λ d. d.actor) h.rising k.rising
    (λ d i. ⊎_elim (λ j. (dot_in b d.actor, j, refl)) (λ f. absurd (absent-counter h (e d.actor (counter-absent b d.actor f)) d i refl))
    (counter-cases b d.actor))
