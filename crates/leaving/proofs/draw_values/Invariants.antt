-- `draw_values` meets its contract: a value a turn.
use mathlib.Core.Path.{◌≡◌}
use mathlib.Core.Bool.{cond}
use mathlib.Core.List.{List, ◌++◌}
use Prim.Native.Nat.{ℕ, ◌+◌, ◌-◌, ◌≤◌}
use lib.ListN.{length, drop}
use Rattle.listlaws.specs.Sift.{sift}
use Rattle.clock.specs.declared.Dot.{Dot}
use Rattle.clock.specs.Dots.{dots_of}
use Rattle.register.specs.declared.Value.{Value}
use Rattle.limits.specs.Limits.{value_limit}
use Rattle.register.specs.Values.{alive}
use Rattle.entries.specs.declared.Entry.{Entry}
use Rattle.removals.specs.declared.Removal.{Removal}
use Rattle.entries.specs.Model.{values_in}
use Rattle.marks.specs.Marks.{picked}
use Rattle.queued.specs.Queue.{Queued, Marked}
use Rattle.entrywalk.specs.Walking.{LiesAt}
use Rattle.sketch.specs.Drawn.{Draws}
use Rattle.leaving.specs.Left.{value_left}
use Rattle.leaving.proofs.Growing.{Grown}
use Rattle.leaving.proofs.draw_values.Given as goal

abbrev pub invariant-loop-k : goal.invariant-loop-k
invariant-loop-k live =
    ((live.n ≤ value_limit) × ((live.n ≡ live.x.values.to - live.x.values.from)
    × ((live.initial.out.len ≤ value_limit) × ((live.out.len ≤ live.initial.out.len + live.k)
    × ((length live.stand ≡ value_limit) × (length live.out.sources ≡ 4))))))
    × ((a b : List ℕ) (key : ℕ) (d : List Dot) (l : List Value) (e : Entry) (u w : List Removal) → cond live.second b a ≡ live.v
    → Draws a b key d l live.initial.out
    → LiesAt live.v e live.x → Queued live.t live.ds u → Queued live.s live.cs w
    → Marked u e.key live.theirs → Marked w e.key live.ours
    → Grown (Draws a b key d) (l ++ sift alive (value_left w u e.key (dots_of live.gone)) (picked live.stand (values_in e)))
    (sift alive (value_left w u e.key (dots_of live.gone)) (picked (drop live.k live.stand) (drop live.k (values_in e)))) live.out)
