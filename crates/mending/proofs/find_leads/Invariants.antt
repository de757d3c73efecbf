-- `find_leads` meets its contract: the table is filled index by index.
use mathlib.Core.Path.{◌≡◌}
use Prim.Native.Nat.{ℕ, ◌<◌}
use lib.ListN.{length, get_or}
use Rattle.mending.specs.Tables.{fourth_of, Led}
use Rattle.mending.proofs.find_leads.Given as goal

abbrev pub invariant-loop-i : goal.invariant-loop-i
invariant-loop-i l = (length l.leads ≡ 256) × ((w : ℕ) → w < l.i → Led (fourth_of l.marks l.image) w (get_or l.leads w 0))
