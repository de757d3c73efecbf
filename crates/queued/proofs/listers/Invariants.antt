-- `listers` meets its contract: a record of the key marks the removal of its index.
use mathlib.Core.List.{List}
use Prim.Native.Nat.{ℕ, ◌≤◌}
use lib.ListN.{length}
use mathlib.Core.Path.{◌≡◌}
use Rattle.removals.specs.declared.Removal.{Removal}
use Rattle.limits.specs.Limits.{waiting_limit}
use Rattle.mapimage.specs.MapImage.{key_number}
use Rattle.queued.specs.Queue.{Keyed}
use Rattle.queued.proofs.Marking.{Marking}
use Rattle.queued.proofs.listers.Given as goal

abbrev pub invariant-loop-i : goal.invariant-loop-i
invariant-loop-i l = (length l.under ≡ waiting_limit)
    × ((low : ℕ) (w : List Removal) → Keyed l.s l.fn.at l.end low w → low ≤ key_number 0 l.key → Marking l.s l.end l.key w l.i l.under)
