-- `compare_runs` meets its contract: the loop walks both runs side by side, and keeps what each covers of the other.
use Prim.Native.Nat.{◌≤◌, ◌-◌, ◌+◌}
use lib.ListN.{length}
use Rattle.clock.proofs.Walks.{Covering}
use Rattle.runs.specs.Run.{run_dots}
use Rattle.comparing.proofs.compare_runs.Given as goal

abbrev pub invariant-loop-i : goal.invariant-loop-i
invariant-loop-i l =
    let a = run_dots l.x in
    let b = run_dots l.y in
    (l.i ≤ l.n) × (l.j ≤ l.m) × Covering a (length a) l.i b (length b) l.j l.over × Covering b (length b) l.j a (length a) l.i l.under

abbrev pub decreases-loop-i : goal.decreases-loop-i
decreases-loop-i l = (l.n - l.i) + (l.m - l.j)
