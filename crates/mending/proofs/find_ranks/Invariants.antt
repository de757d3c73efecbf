-- `find_ranks` meets its contract: the table is filled index by index.
use mathlib.Core.Path.{◌≡◌}
use Prim.Native.Nat.{ℕ, ◌<◌}
use lib.ListN.{length, get_or}
use Rattle.listlaws.specs.Order.{◌∈◌}
use Rattle.salvagerules.specs.Indexes.{waiting_indexes, waiting_index}
use Rattle.mending.specs.Tables.{fourth_of}
use Rattle.mending.proofs.find_ranks.Given as goal

abbrev pub invariant-loop-i : goal.invariant-loop-i
invariant-loop-i l = (length l.ranks ≡ 256)
    × ((w : ℕ) → w < l.i → w ∈ waiting_indexes (fourth_of l.marks l.image) → get_or l.ranks w 0 ≡ waiting_index (fourth_of l.marks l.image) w)
