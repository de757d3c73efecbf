-- `lead_of` meets its contract: the loop looks for the first lead below with the same clock.
use mathlib.Core.Path.{◌≡◌}
use mathlib.Core.Bool.{◌&&◌, false}
use Prim.Native.Nat.{ℕ, ◌<◌}
use lib.Dec.{eqb}
use lib.ListN.{get_or}
use Rattle.salvagerules.specs.Indexes.{waiting_clock, same_dots}
use Rattle.mending.specs.Tables.{fourth_of}
use Rattle.mending.proofs.lead_of.Given as goal

abbrev pub invariant-loop-i : goal.invariant-loop-i
invariant-loop-i l = (l.index < 256) × ((j : ℕ) → j < l.i → (eqb (get_or l.leads j 0) j
    && same_dots (waiting_clock (fourth_of l.marks l.image) j) (waiting_clock (fourth_of l.marks l.image) l.index)) ≡ false)
