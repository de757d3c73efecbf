-- `keeps` meets its contract: the loop walks both entries' clocks side by side, with both maps' clocks beside them.
use Prim.Native.Nat.{ℕ, ◌≤◌, ◌-◌, ◌+◌}
use Rattle.clock.specs.declared.Clock.{Clock}
use Rattle.keeping.proofs.Walked.{Walked, Keeps, Deletes}
use Rattle.keeping.proofs.keeps.Given as goal

-- how far the walk has come
pub record Passed (x y mine yours : Clock) (i j p q : ℕ) (keep gone : Clock) : Type 0 where
  pub t : ℕ
  pub walked : Walked x y mine yours i j p q t
  pub keeps : Keeps x y mine yours t keep
  pub deletes : Deletes x y mine yours t gone

abbrev pub invariant-loop-i : goal.invariant-loop-i
invariant-loop-i l = (l.i ≤ l.n) × (l.j ≤ l.m) × Passed l.x l.y l.mine l.yours l.i l.j l.p l.q l.keep l.gone

abbrev pub decreases-loop-i : goal.decreases-loop-i
decreases-loop-i l = (l.n - l.i) + (l.m - l.j)
