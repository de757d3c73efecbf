-- `cut_listed` meets its contract: a removal a turn.
use mathlib.Core.Path.{◌≡◌}
use mathlib.Core.List.{List}
use Prim.Native.Nat.{ℕ}
use Rattle.clock.specs.declared.Dot.{Dot}
use Rattle.clock.specs.Dots.{clock_of}
use Rattle.removals.specs.declared.Removal.{Removal}
use Rattle.queued.specs.Queue.{Queued, Marked}
use Rattle.queued.proofs.Cutting.{Cutting}
use Rattle.queued.proofs.cut_listed.Given as goal

abbrev pub invariant-loop-k : goal.invariant-loop-k
invariant-loop-k l = (w : List Removal) (key : ℕ) (d : List Dot) → Queued l.s l.q w → Marked w key l.under → l.initial.out ≡ clock_of d
    → Cutting w key d l.k l.out
