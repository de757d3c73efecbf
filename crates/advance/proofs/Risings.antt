-- Dots that rise, as the loop meets them, and as a clock; and what an added dot does to the number of dots.
use mathlib.Core.Path.{◌≡◌, refl, ap, ◌∙◌}
use mathlib.Core.Bool.{Bool, true, false, not, ◌&&◌}
use mathlib.Core.Logic.{⊎_elim}
use mathlib.Core.List.Memᴰ
use mathlib.Core.List.{List, [], ◌∷◌}
use Prim.Native.Nat.{ℕ, ◌+◌, ◌≤◌, ◌<◌}
use native.Mathlib.Omega.{arith}
use lib.Dec.{leb, ltb}
use lib.ListN.{length, drop, get_or, length-map}
use borrow.Author.Tests.{lt-ltb, le-ltb, ltb-true, leb-true, le-leb}
use Rattle.listlaws.specs.Order.{◌∈◌, Ascending, nil, next, by}
use Rattle.listlaws.proofs.SliceRests.{drop-step, drop-end, weave-first-left}
use Rattle.listlaws.proofs.SliceRising.{stops, goes}
use Rattle.clock.specs.declared.Dot.{Dot}
use Rattle.clock.specs.Dots.{counter_in, add_dot, join_dots}
use Rattle.clock.specs.Lawful.{Lawful}
use Rattle.scan.proofs.Eachs.{both_left, both_right}
use Rattle.advance.specs.Advancing.{rising_dots}

-- at each dot the loop stops or goes on
module _ (xs : List Dot) (i low : ℕ) (z : Dot) (h : i < length xs) {whole : Bool} (e : whole ≡ rising_dots low (drop i xs)) where
  abbrev good : Bool
  good = leb low (get_or xs i z).actor && ltb 0 (get_or xs i z).counter

  abbrev rest : Bool
  rest = rising_dots ((get_or xs i z).actor + 1) (drop (i + 1) xs)

  split : whole ≡ (good && rest)
  unfolding rising_dots
  split = e ∙ ap (rising_dots low) (drop-step xs i z h)

  pub rising-stops : not good ≡ true → false ≡ whole
  rising-stops f = stops good rest split f

  pub rising-goes : not good ≡ false → whole ≡ rest
  rising-goes f = goes good rest split f

pub rising-end : (l : List Dot) (i low : ℕ) → length l ≤ i → rising_dots low (drop i l) ≡ true
unfolding rising_dots
rising-end l i low h = ap (rising_dots low) (drop-end l i h)

-- a dot that is not beyond a clock adds none
pub none-added : (l : List Dot) (d : Dot) → d.counter ≤ counter_in l d.actor → length (add_dot l d) ≡ length l
unfolding add_dot join_dots
none-added l d h = rw (le-ltb _ _ h) (ap length (weave-first-left _ _ _ _ l [] 0 (omega arith)) ∙ length-map l _)

-- what rises is a clock
low_of : (low : ℕ) (l : List Dot) → rising_dots low l ≡ true → (d : Dot) → d ∈ l → low ≤ d.actor
unfolding rising_dots
low_of low [] r d i = absurd (Memᴰ.not-nil i)
low_of low (x ∷ l) r d i =
    let b = leb-true low x.actor (both_left (leb low x.actor) (ltb 0 x.counter)
    (both_left (leb low x.actor && ltb 0 x.counter) (rising_dots (x.actor + 1) l) r)) in
    ⊎_elim (λ (q : d ≡ x). omega (arith, ap (λ (y : Dot). y.actor) q))
    (λ j. let h = low_of (x.actor + 1) l (both_right (leb low x.actor && ltb 0 x.counter) (rising_dots (x.actor + 1) l) r) d j in
    omega arith) (Memᴰ.cases_cons i)

-- an end theorem, with the one below: what rises is a clock, and every clock rises, so that a lent clock is refused exactly where it is none
pub rising-lawful : (low : ℕ) (l : List Dot) → rising_dots low l ≡ true → Lawful l
unfolding rising_dots
rising-lawful low [] r = record { rising = nil; positive = λ d i. absurd (Memᴰ.not-nil i) }
rising-lawful low (x ∷ l) r =
    let first = leb low x.actor && ltb 0 x.counter in
    let rest = both_right first (rising_dots (x.actor + 1) l) r in
    let tail = rising-lawful (x.actor + 1) l rest in
    record {
      rising = next (λ y i. lt-ltb x.actor y.actor (omega (arith, low_of (x.actor + 1) l rest y i))) tail.rising;
      positive = λ d i. ⊎_elim (λ (q : d ≡ x). rw q (ltb-true 0 x.counter
          (both_right (leb low x.actor) (ltb 0 x.counter) (both_left first (rising_dots (x.actor + 1) l) r)))) (λ j. tail.positive d j)
          (Memᴰ.cases_cons i);
    }

pub lawful-rising : (low : ℕ) {l : List Dot} → Lawful l → ((d : Dot) → d ∈ l → low ≤ d.actor) → rising_dots low l ≡ true
unfolding rising_dots
lawful-rising low {l} w h = go low l w.rising w.positive h
  where
    go : (low : ℕ) (l : List Dot) → Ascending (by (λ d. d.actor)) l → ((d : Dot) → d ∈ l → 0 < d.counter) → ((d : Dot) → d ∈ l → low ≤ d.actor)
        → rising_dots low l ≡ true
    go low [] a p h = refl
    go low (x ∷ l) (next b a) p h =
        rw (le-leb low x.actor (h x (Memᴰ.head refl)), lt-ltb 0 x.counter (p x (Memᴰ.head refl)))
        (go (x.actor + 1) l a (λ d i. p d (Memᴰ.tail i)) (λ d i. omega (arith, ltb-true x.actor d.actor (b d i))))
