-- A loop that walks a clock beside a run of dots, and clears the marks of those dots that the clock has seen.
use mathlib.Core.Path.{◌≡◌, refl}
use mathlib.Core.Bool.{Bool, true, false}
use mathlib.Core.List.{List}
use mathlib.Core.Logic.{◌⊎◌, inl, inr}
use Prim.Native.Nat.{ℕ, zero, suc, ◌+◌, ◌≤◌, ◌<◌}
use native.Mathlib.Omega.{arith}
use borrow.Author.Tests.{leb-true, leb-false, lt-ltb, le-ltb}
use lib.Dec.{leb}
use lib.ListN.{length, take, get_or, set}
use lib.Seq.{take-length}
use Rattle.listlaws.proofs.Rests.{in_list}
use Rattle.listlaws.proofs.Beside.{beside-start, beside-past, beside-both, beside-next}
use Rattle.clock.specs.declared.Dot.{Dot}
use Rattle.clock.specs.Dots.{no_dot, beyond, cut_dots}
use Rattle.clock.specs.Lawful.{Lawful}
use Rattle.clock.proofs.Walks.{Walk, walk-found, walk-missed}
use Rattle.marks.specs.Marks.{picked}
use Rattle.marks.proofs.Marking.{Marking, marking-start, marking-off, marking-skip, marking-end}

-- i of the dots of l are passed, and j of the m of ys; `left` is what became of the marks
pub record Cutting (ys : List Dot) (m : ℕ) (l : List Dot) (before : List Bool) (i j : ℕ) (left : List Bool) : Type 0 where
  pub lawful : Lawful l
  pub walk : Walk ys m j l (length l) i
  pub marking : Marking (beyond (take m ys)) no_dot l before i left

module _ {ys : List Dot} {m : ℕ} {l : List Dot} {before : List Bool} where
  pub cutting-start : Lawful (take m ys) → Lawful l → Cutting ys m l before 0 0 before
  cutting-start h k = record {
    lawful = k;
    walk = beside-start h.rising (rw (take-length l) k.rising);
    marking = marking-start;
  }

  module _ {i j : ℕ} {left : List Bool} (g : Cutting ys m l before i j left) (h : i < length l) where
    used : i < length (take (length l) l)
    used = rw (take-length l) h

    -- an actor that only the run has: its dot stays
    pub cutting-alone : (j < length (take m ys) → (get_or l i no_dot).actor < (get_or ys j no_dot).actor) → Cutting ys m l before (i + 1) j left
    cutting-alone f = record {
      lawful = g.lawful;
      walk = beside-next no_dot g.walk used;
      marking = marking-skip g.marking
          (rw (walk-missed g.walk used f)
          (lt-ltb 0 _ (g.lawful.positive (get_or l i no_dot) (rw (take-length l) at (in_list l (length l) i no_dot used)))));
    }

    module _ (k : j < length (take m ys)) where
      -- an actor that only the clock has
      pub cutting-past : (get_or ys j no_dot).actor < (get_or l i no_dot).actor → Cutting ys m l before i (j + 1) left
      cutting-past e = record { lawful = g.lawful; walk = beside-past no_dot g.walk used k e; marking = g.marking }

      -- an actor that both have: its dot was seen, or stays
      module _ (e : (get_or ys j no_dot).actor ≡ (get_or l i no_dot).actor) where
        pub cutting-off : (get_or l i no_dot).counter ≤ (get_or ys j no_dot).counter → i < length before
            → Cutting ys m l before (i + 1) (j + 1) (set left i false)
        cutting-off t q = record {
          lawful = g.lawful;
          walk = beside-both no_dot g.walk used k e;
          marking = marking-off g.marking q (rw (walk-found g.walk used k e) (le-ltb _ _ t));
        }

        pub cutting-on : (get_or ys j no_dot).counter < (get_or l i no_dot).counter → Cutting ys m l before (i + 1) (j + 1) left
        cutting-on t = record {
          lawful = g.lawful;
          walk = beside-both no_dot g.walk used k e;
          marking = marking-skip g.marking (rw (walk-found g.walk used k e) (lt-ltb _ _ t));
        }

  -- the clock is used up: all dots that are left stay
  rest : (more i j : ℕ) {left : List Bool} → length l ≤ i + more → length (take m ys) ≤ j → length l ≤ length before
      → Cutting ys m l before i j left → picked left l ≡ cut_dots (take m ys) (picked before l)
  unfolding cut_dots
  rest zero i j h q n g = marking-end g.marking (omega arith) n
  rest (suc more) i j {left} h q n g = go (leb (length l) i) refl (λ w. rest more (i + 1) j (omega arith) q n w)
    where
      go : (b : Bool) → leb (length l) i ≡ b → (Cutting ys m l before (i + 1) j left → picked left l ≡ cut_dots (take m ys) (picked before l))
          → picked left l ≡ cut_dots (take m ys) (picked before l)
      go true t f = marking-end g.marking (leb-true _ _ t) n
      go false t f = f (cutting-alone g (leb-false (length l) i t) (λ k. absurd (omega arith)))

  pub cutting-end : {i j : ℕ} {left : List Bool} → Cutting ys m l before i j left → (length l ≤ i) ⊎ (length (take m ys) ≤ j)
      → length l ≤ length before → picked left l ≡ cut_dots (take m ys) (picked before l)
  unfolding cut_dots
  cutting-end g (inl h) n = marking-end g.marking h n
  cutting-end {i} {j} g (inr h) n = rest (length l) i j (omega arith) h n g
