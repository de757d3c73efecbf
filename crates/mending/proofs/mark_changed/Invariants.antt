-- `mark_changed` meets its contract: the loop gives each record that stays its index.
use Prim.Native.Nat.{ℕ, ◌<◌}
use lib.ListN.{get_or}
use Rattle.records.specs.Records.{records_of}
use Rattle.salvagerules.specs.Fates.{staying}
use Rattle.culling.specs.Marks.{marked_of, after_four}
use Rattle.mending.proofs.Changing.{Changing}
use Rattle.mending.proofs.mark_changed.Given as goal

abbrev pub invariant-loop-i : goal.invariant-loop-i
invariant-loop-i l = Changing (staying (after_four (records_of l.image))) (marked_of l.initial.marks l.image) l.i (marked_of l.marks l.image)
    × ((j : ℕ) → j < l.i → get_or l.marks j 0 < 264)
