-- `any_long` meets its contract: a removal a turn.
use mathlib.Core.Path.{◌≡◌}
use mathlib.Core.List.{List}
use Prim.Native.Nat.{ℕ, ◌<◌}
use lib.ListN.{length, drop, get_or}
use Rattle.listlaws.specs.First.{some}
use Rattle.removals.specs.declared.Removal.{Removal}
use Rattle.limits.specs.Limits.{waiting_limit}
use Rattle.removals.specs.Counted.{overlong}
use Rattle.queued.specs.Rowed.{keys_at}
use Rattle.queued.proofs.rows.any_long.Given as goal

abbrev pub invariant-loop-c : goal.invariant-loop-c
invariant-loop-c l = (result : List Removal) → ((p : ℕ) → p < waiting_limit → get_or l.c-items p 0 ≡ length (keys_at result p))
    → some overlong result ≡ some overlong (drop l.c-index result)
