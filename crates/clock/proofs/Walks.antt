-- Two clocks walked side by side: what the one has for each actor of the other, and whether it covers what was met.
use mathlib.Core.Path.{◌≡◌, refl, sym}
use mathlib.Core.Bool.{Bool, true, false, not, ◌&&◌, ◌||◌}
use mathlib.Core.Logic.{◌⊎◌, inl, inr}
use mathlib.Core.List.{List}
use Prim.Native.Nat.{ℕ, ◌+◌, ◌≤◌, ◌<◌}
use native.Mathlib.Omega.{arith}
use borrow.Author.Tests.{ltb-true, leb-true, leb-false, lt-ltb, le-ltb}
use lib.Dec.{leb, ltb}
use lib.ListN.{length, take, get_or}
use Rattle.listlaws.specs.Order.{Ascending, by}
use Rattle.listlaws.proofs.Orders.{apart}
use Rattle.listlaws.proofs.Rests.{in_list}
use Rattle.listlaws.proofs.Rising.{rising-good, rising-ascends}
use Rattle.listlaws.proofs.Beside.{Beside, beside-start, beside-next, beside-past, beside-both, beside-found, beside-missed, beside_end}
use Rattle.listlaws.proofs.Checking.{Checking, checking-start, checking-fails, checking-on, checking-end, checking-all, checking-gone}
use Rattle.clock.specs.declared.Dot.{Dot}
use Rattle.clock.specs.declared.Order.{Order}
use Rattle.clock.specs.declared.Order.TheVariants.{Equal, Greater, Less, Concurrent}
use Rattle.clock.specs.Dots.{no_dot, counter_in, beyond, covers, outcome, order_of}
use Rattle.clock.specs.Lawful.{Lawful}
use Rattle.clock.specs.Walking.{is_lawful}

-- what the test of a clock tells
pub lawful-told : {l : List Dot} → is_lawful l ≡ true → Lawful l
unfolding is_lawful
lawful-told {l} r = record {
  rising = rising-ascends (λ d. d.actor) (λ d. ltb 0 d.counter) 0 l r;
  positive = λ d i. ltb-true 0 d.counter (rising-good (λ e. e.actor) (λ e. ltb 0 e.counter) 0 l r d i);
}

-- i of the n dots of xs and j of the m dots of ys are passed
abbrev pub Walk : List Dot → ℕ → ℕ → List Dot → ℕ → ℕ → Type 0
Walk xs n i ys m j = Beside (λ d. d.actor) (λ d. d.counter) 0 xs n i ys m j

module _ {xs : List Dot} {n : ℕ} {ys : List Dot} {m : ℕ} where
  module _ {i j : ℕ} (g : Walk xs n i ys m j) (k : j < length (take m ys)) where
    -- what the first clock has for the second's actor, where its own dot is of that actor, of a later one, or none is left
    pub walk-found : i < length (take n xs) → (get_or xs i no_dot).actor ≡ (get_or ys j no_dot).actor
        → counter_in (take n xs) (get_or ys j no_dot).actor ≡ (get_or xs i no_dot).counter
    unfolding counter_in
    walk-found h e = beside-found no_dot g k h e

    pub walk-missed : (i < length (take n xs) → (get_or ys j no_dot).actor < (get_or xs i no_dot).actor)
        → counter_in (take n xs) (get_or ys j no_dot).actor ≡ 0
    unfolding counter_in
    walk-missed f = go (leb (length (take n xs)) i) refl
      where
        go : (t : Bool) → leb (length (take n xs)) i ≡ t → counter_in (take n xs) (get_or ys j no_dot).actor ≡ 0
        go true e = beside_end no_dot g k (leb-true _ _ e)
        go false e = let h = leb-false (length (take n xs)) i e in beside-missed no_dot g k h (f h)

-- the flag says whether the first clock covers those of the second's dots that are passed
pub record Covering (xs : List Dot) (n i : ℕ) (ys : List Dot) (m j : ℕ) (flag : Bool) : Type 0 where
  pub walk : Walk xs n i ys m j
  pub checking : Checking (beyond (take n xs)) ys m j flag

-- a counter that is at most another
pub not_beyond : (a b : ℕ) → ltb a b ≡ not (leb b a)
not_beyond a b = go (leb b a) refl
  where
    go : (t : Bool) → leb b a ≡ t → ltb a b ≡ not t
    go true e = le-ltb a b (leb-true b a e)
    go false e = lt-ltb a b (leb-false b a e)

module _ {xs : List Dot} {n : ℕ} {ys : List Dot} {m : ℕ} where
  pub covering-start : Ascending (by (λ d. d.actor)) (take n xs) → Ascending (by (λ d. d.actor)) (take m ys) → Covering xs n 0 ys m 0 true
  covering-start a b = record { walk = beside-start a b; checking = checking-start }

  module _ {i j : ℕ} {flag : Bool} (g : Covering xs n i ys m j flag) where
    module _ (h : i < length (take n xs)) (k : j < length (take m ys)) where
      -- an actor that only the first clock has
      pub covering-past : (get_or xs i no_dot).actor < (get_or ys j no_dot).actor → Covering xs n (i + 1) ys m j flag
      covering-past e = record { walk = beside-past no_dot g.walk k h e; checking = g.checking }

      -- an actor that both have
      pub covering-both : (get_or xs i no_dot).actor ≡ (get_or ys j no_dot).actor
          → Covering xs n (i + 1) ys m (j + 1) (flag && leb (get_or ys j no_dot).counter (get_or xs i no_dot).counter)
      covering-both e = record {
        walk = beside-both no_dot g.walk k h e;
        checking =
            checking-on no_dot g.checking k _
            (rw (walk-found g.walk k h e) (not_beyond (get_or xs i no_dot).counter (get_or ys j no_dot).counter));
      }

    module _ (p : Lawful (take m ys)) where
      missed : (k : j < length (take m ys)) → (i < length (take n xs) → (get_or ys j no_dot).actor < (get_or xs i no_dot).actor)
          → beyond (take n xs) (get_or ys j no_dot) ≡ true
      missed k f = rw (walk-missed g.walk k f) (lt-ltb 0 _ (p.positive (get_or ys j no_dot) (in_list ys m j no_dot k)))

      -- an actor that only the second clock has
      pub covering-missed : (h : i < length (take n xs)) (k : j < length (take m ys)) → (get_or ys j no_dot).actor < (get_or xs i no_dot).actor
          → Covering xs n i ys m (j + 1) false
      covering-missed h k e = record { walk = beside-next no_dot g.walk k; checking = checking-fails no_dot g.checking k (missed k (λ q. e)) }

      -- one of the two is used up
      pub covering-end : (length (take n xs) ≤ i) ⊎ (length (take m ys) ≤ j) → (flag && leb (length (take m ys)) j) ≡ covers (take n xs) (take m ys)
      unfolding covers
      covering-end (inl q) = checking-end no_dot g.checking (λ k. missed k (λ h. absurd (omega arith)))
      covering-end (inr q) = checking-end no_dot g.checking (λ k. absurd (omega arith))

    -- all of the second's dots are passed
    pub covering-all : length (take m ys) ≤ j → flag ≡ covers (take n xs) (take m ys)
    unfolding covers
    covering-all q = checking-all g.checking q

    pub covering-gone : flag ≡ false → covers (take n xs) (take m ys) ≡ false
    unfolding covers
    covering-gone e = checking-gone g.checking e

-- neither flag is left
pub both-gone : (s t : Bool) → not (s || t) ≡ true → (s ≡ false) × (t ≡ false)
both-gone true t e = apart (sym e)
both-gone false true e = apart (sym e)
both-gone false false e = (refl, refl)

-- what an outcome says of the first covering
abbrev pub over-of : Order → Bool
over-of Equal = true
over-of Greater = true
over-of Less = false
over-of Concurrent = false

pub over-told : (a b : List Dot) → over-of (order_of a b) ≡ covers a b
unfolding order_of
over-told a b = go (covers a b) (covers b a)
  where
    go : (s t : Bool) → over-of (outcome s t) ≡ s
    go true true = refl
    go true false = refl
    go false true = refl
    go false false = refl
