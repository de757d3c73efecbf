-- `rank_of` meets its contract: the loop counts the leading indexes whose clock stands before.
use mathlib.Core.Path.{◌≡◌}
use mathlib.Core.Bool.{◌&&◌}
use Prim.Native.Nat.{◌≤◌}
use lib.Dec.{eqb}
use lib.ListN.{length, get_or}
use Rattle.listlaws.specs.Sift.{those}
use Rattle.removals.specs.Waits.{clock_before}
use Rattle.maprecords.specs.Reading.{numbers_below}
use Rattle.salvagerules.specs.Indexes.{waiting_clock}
use Rattle.mending.specs.Tables.{fourth_of}
use Rattle.mending.proofs.rank_of.Given as goal

abbrev pub invariant-loop-i : goal.invariant-loop-i
invariant-loop-i l = (l.count ≤ l.i) × (l.count ≡ length (those
    (λ j. eqb (get_or l.leads j 0) j && clock_before (waiting_clock (fourth_of l.marks l.image) j)
    (waiting_clock (fourth_of l.marks l.image) l.index))
    (numbers_below l.i)))
