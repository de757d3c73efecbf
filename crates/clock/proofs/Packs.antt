-- A clock as the pack of its dots: it gives them back (`dots-of`), takes one more (`pushed`), and is refused over the limit (`fits`, `exceeds`).
use mathlib.Core.Path.{◌≡◌, refl, ap, ◌∙◌}
use mathlib.Core.Bool.{true, false}
use mathlib.Core.List.{List, [], ◌∷◌, ◌++◌, map-id}
use Prim.Native.Nat.{ℕ, ◌+◌, ◌-◌, ◌≤◌, ◌<◌}
use native.Mathlib.Omega.{arith}
use lib.ListN.{length, take, drop, set, length-drop}
use lib.Seq.{take-length}
use Rattle.listlaws.specs.Order.{by}
use Rattle.listlaws.proofs.Pads.{take-pad, push-pad, length-snoc, length-pad}
use Rattle.listlaws.proofs.Sifts.{length-sift}
use Rattle.listlaws.proofs.Rests.{weave-first-left}
use Rattle.listlaws.proofs.Limits.{within-fits, within-exceeds, flag-set, flag-clear}
use Rattle.listlaws.proofs.Weaves.{weave-longer}
use Rattle.clock.specs.declared.Dot.{Dot}
use Rattle.clock.specs.declared.Clock.{Clock}
use Rattle.clock.specs.declared.Cut.{Cut}
use Rattle.clock.specs.declared.Joined.{Joined}
use Rattle.limits.specs.Limits.{dot_limit}
use Rattle.clock.specs.Dots.{no_dot, dots_of, clock_of, fitted, beyond, cut_dots, cut_of, larger_dot, join_dots}

-- the dots of the clock of a list are the list
pub dots-of : {c : Clock} (l : List Dot) → c ≡ clock_of l → dots_of c ≡ l
dots-of l e = rw e (take-pad no_dot dot_limit l)

-- a dot stored behind the last
pub pushed : {c : Clock} (l : List Dot) (d : Dot) → c ≡ clock_of l → length l < dot_limit
    → ◌≡◌ {A = Clock} (record { dots = set c.dots c.len d; len = c.len + 1 }) (clock_of (l ++ (d ∷ [])))
pushed l d e h = rw (e, push-pad no_dot dot_limit l d h, length-snoc l d)

-- room for one more in a clock that a loop builds in place
pub dot-room : {c : Clock} (l : List Dot) → c ≡ clock_of l → length l < dot_limit → (c.len < dot_limit) × (length c.dots ≡ dot_limit)
dot-room l e h = (omega (arith, ap (λ (x : Clock). x.len) e), ap (λ (x : Clock). length x.dots) e ∙ length-pad no_dot dot_limit l (omega arith))

-- the two answers of what can grow
abbrev good : List Dot → Joined
good d = record { over = false; clock = clock_of d }

abbrev bad : Joined
bad = record { over = true; clock = clock_of [] }

pub fits : (l : List Dot) → length l ≤ dot_limit → fitted l ≡ record { over = false; clock = clock_of l }
fits l h = within-fits dot_limit good bad l h

pub exceeds : (l : List Dot) → dot_limit < length l → fitted l ≡ record { over = true; clock = clock_of [] }
exceeds l h = within-exceeds dot_limit good bad l h

-- what the flag says of the list
pub over-means : {j : Joined} (l : List Dot) → j ≡ fitted l → j.over ≡ true → dot_limit < length l
over-means l e t = flag-set dot_limit good bad (λ j. j.over) (λ d. refl) refl l e t

pub within-means : {j : Joined} (l : List Dot) → j ≡ fitted l → j.over ≡ false → length l ≤ dot_limit
within-means l e t = flag-clear dot_limit good bad (λ j. j.over) (λ d. refl) refl l e t

-- the clock of an answer that is within the limit
pub within-clock : {j : Joined} (l : List Dot) → j ≡ fitted l → j.over ≡ false → j.clock ≡ clock_of l
within-clock l e t = ap (λ k. k.clock) (e ∙ fits l (within-means l e t))

pub cut-length : (c x : List Dot) → length (cut_dots c x) ≤ length x
unfolding cut_dots
cut-length c x = length-sift (beyond c) (λ d. d) x

-- what a cut answers: the clock that is left, and as many dots deleted as are missing from it
pub cut_left : {r : Cut} (c x : List Dot) → r ≡ cut_of c x → r.clock ≡ clock_of (cut_dots c x)
cut_left c x e = ap (λ k. k.clock) e

pub cut-deleted : {r : Cut} (c x : List Dot) → r ≡ cut_of c x → length (cut_dots c x) + r.deleted ≡ length x
cut-deleted c x e = omega (arith, ap (λ k. k.deleted) e, cut-length c x)

-- nothing joined is the clock itself
pub join-nil : (a : List Dot) → join_dots a [] ≡ a
unfolding join_dots
join-nil a = weave-first-left (by (λ d. d.actor)) (λ d. d) (λ d. d) larger_dot a [] 0 (omega arith) ∙ map-id a

pub join-longer : (a b : List Dot) → length a ≤ length (join_dots a b)
unfolding join_dots
join-longer a b = weave-longer (by (λ d. d.actor)) (λ d. d) (λ d. d) larger_dot a b

-- what a slice from place i to the end holds
pub to-end : {A : Type 0} (i : ℕ) (l : List A) → take (length l - i) (drop i l) ≡ drop i l
to-end i l = rw (← length-drop i l) (take-length (drop i l))
