-- Two lists of dots walked side by side, as `Walks` says it of two clocks: what the one has for each actor of the other, and whether it covers it.
use mathlib.Core.Path.{◌≡◌, refl, ap, sym, ◌∙◌}
use mathlib.Core.Bool.{Bool, true, false, ◌&&◌}
use mathlib.Core.Logic.{◌⊎◌, inl, inr}
use mathlib.Core.List.{List, ◌∷◌}
use Prim.Native.Nat.{ℕ, ◌+◌, ◌≤◌, ◌<◌}
use native.Mathlib.Omega.{arith}
use borrow.Author.Tests.{leb-true, leb-false, lt-ltb}
use lib.Dec.{leb}
use lib.ListN.{length, drop, get_or, length-drop}
use Rattle.listlaws.specs.Order.{Ascending, by}
use Rattle.listlaws.proofs.SliceRests.{in_list, drop-step}
use Rattle.listlaws.proofs.SliceBeside.{Beside, beside-start, beside-next, beside-past, beside-both, beside-found, beside-missed, beside_end}
use Rattle.listlaws.proofs.SliceChecking.{Checking, checking-start, checking-fails, checking-on, checking-end, checking-all, checking-gone}
use Rattle.clock.specs.declared.Dot.{Dot}
use Rattle.clock.specs.Dots.{no_dot, counter_in, beyond, covers}
use Rattle.clock.specs.Lawful.{Lawful}
use Rattle.clock.proofs.Walks.{not_beyond}

-- i of the dots of xs and j of the dots of ys are passed
abbrev pub Walk : List Dot → ℕ → List Dot → ℕ → Type 0
Walk xs i ys j = Beside (λ d. d.actor) (λ d. d.counter) 0 xs i ys j

module _ {xs ys : List Dot} where
  module _ {i j : ℕ} (g : Walk xs i ys j) (k : j < length ys) where
    -- what the first clock has for the second's actor, where its own dot is of that actor, of a later one, or none is left
    pub walk-found : i < length xs → (get_or xs i no_dot).actor ≡ (get_or ys j no_dot).actor
        → counter_in xs (get_or ys j no_dot).actor ≡ (get_or xs i no_dot).counter
    unfolding counter_in
    walk-found h e = beside-found no_dot g k h e

    pub walk-missed : (i < length xs → (get_or ys j no_dot).actor < (get_or xs i no_dot).actor)
        → counter_in xs (get_or ys j no_dot).actor ≡ 0
    unfolding counter_in
    walk-missed f = go (leb (length xs) i) refl
      where
        go : (t : Bool) → leb (length xs) i ≡ t → counter_in xs (get_or ys j no_dot).actor ≡ 0
        go true e = beside_end no_dot g k (leb-true _ _ e)
        go false e = let h = leb-false (length xs) i e in beside-missed no_dot g k h (f h)

-- the flag says whether the first clock covers those of the second's dots that are passed
pub record Covering (xs : List Dot) (i : ℕ) (ys : List Dot) (j : ℕ) (flag : Bool) : Type 0 where
  pub walk : Walk xs i ys j
  pub checking : Checking (beyond xs) ys j flag

module _ {xs ys : List Dot} where
  pub covering-start : Ascending (by (λ d. d.actor)) xs → Ascending (by (λ d. d.actor)) ys → Covering xs 0 ys 0 true
  covering-start a b = record { walk = beside-start a b; checking = checking-start }

  module _ {i j : ℕ} {flag : Bool} (g : Covering xs i ys j flag) where
    module _ (h : i < length xs) (k : j < length ys) where
      -- an actor that only the first clock has
      pub covering-past : (get_or xs i no_dot).actor < (get_or ys j no_dot).actor → Covering xs (i + 1) ys j flag
      covering-past e = record { walk = beside-past no_dot g.walk k h e; checking = g.checking }

      -- an actor that both have
      pub covering-both : (get_or xs i no_dot).actor ≡ (get_or ys j no_dot).actor
          → Covering xs (i + 1) ys (j + 1) (flag && leb (get_or ys j no_dot).counter (get_or xs i no_dot).counter)
      covering-both e = record {
        walk = beside-both no_dot g.walk k h e;
        checking =
            checking-on no_dot g.checking k _
            (rw (walk-found g.walk k h e) (not_beyond (get_or xs i no_dot).counter (get_or ys j no_dot).counter));
      }

    module _ (p : Lawful ys) where
      missed : (k : j < length ys) → (i < length xs → (get_or ys j no_dot).actor < (get_or xs i no_dot).actor)
          → beyond xs (get_or ys j no_dot) ≡ true
      missed k f = rw (walk-missed g.walk k f) (lt-ltb 0 _ (p.positive (get_or ys j no_dot) (in_list ys j no_dot k)))

      -- an actor that only the second clock has
      pub covering-missed : (h : i < length xs) (k : j < length ys) → (get_or ys j no_dot).actor < (get_or xs i no_dot).actor
          → Covering xs i ys (j + 1) false
      covering-missed h k e = record { walk = beside-next no_dot g.walk k; checking = checking-fails no_dot g.checking k (missed k (λ q. e)) }

      -- one of the two is used up
      pub covering-end : (length xs ≤ i) ⊎ (length ys ≤ j) → (flag && leb (length ys) j) ≡ covers xs ys
      unfolding covers
      covering-end (inl q) = checking-end no_dot g.checking (λ k. missed k (λ h. absurd (omega arith)))
      covering-end (inr q) = checking-end no_dot g.checking (λ k. absurd (omega arith))

    -- all of the second's dots are passed
    pub covering-all : length ys ≤ j → flag ≡ covers xs ys
    unfolding covers
    covering-all q = checking-all g.checking q

    pub covering-gone : flag ≡ false → covers xs ys ≡ false
    unfolding covers
    covering-gone e = checking-gone g.checking e

-- what the next of the dots that are left tells of the place
pub dropped : (xs : List Dot) (i : ℕ) (x : Dot) (l : List Dot) → drop i xs ≡ x ∷ l
    → (i < length xs) × (get_or xs i no_dot ≡ x) × (l ≡ drop (i + 1) xs)
dropped xs i x l e =
    let h : i < length xs = omega (arith, length-drop i xs, ap length e) in
    let f = sym (drop-step xs i no_dot h) ∙ e in
    (h, ap (λ k. get_or k 0 no_dot) f, sym (ap (drop 1) f))
