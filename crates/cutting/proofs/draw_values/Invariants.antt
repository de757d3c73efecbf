-- `draw_values` meets its contract: one value after the other.
use mathlib.Core.Path.{◌≡◌}
use mathlib.Core.Bool.{cond}
use mathlib.Core.List.{List}
use Prim.Native.Nat.{ℕ, ◌+◌, ◌≤◌, ◌-◌}
use lib.ListN.{length}
use Rattle.clock.specs.declared.Dot.{Dot}
use Rattle.clock.specs.Dots.{dots_of}
use Rattle.register.specs.declared.Value.{Value}
use Rattle.limits.specs.Limits.{value_limit}
use Rattle.entries.specs.declared.Entry.{Entry}
use Rattle.entries.specs.Model.{values_in}
use Rattle.walks.specs.declared.Span.{Span}
use Rattle.entrywalk.specs.declared.Cursor.{Cursor}
use Rattle.entrywalk.specs.Walking.{LiesAt}
use Rattle.sketch.specs.Drawn.{Draws}
use Rattle.cutting.proofs.Valued.{Drawing}
use Rattle.cutting.proofs.draw_values.Given as goal

abbrev pub invariant-loop-k : goal.invariant-loop-k
invariant-loop-k live =
    ((live.n ≤ value_limit) × ((live.initial.out.len ≤ value_limit)
    × ((live.out.len ≤ live.initial.out.len + live.k) × ((length live.stand ≡ 4) × (length live.out.sources ≡ 4)))))
    × ((s t : List ℕ) (own : ℕ) (dots : Span) (end : ℕ) (next : Cursor) (x : Entry) (key : ℕ) (d : List Dot) (l : List Value) → live.v
    ≡ cond live.second t s
    → LiesAt live.v x (record { key = own; dots = dots; values = record { from = live.first; to = end }; starts = live.starts; next = next })
    → end - live.first ≡ live.n
    → Draws s t key d l live.initial.out → Drawing s t key d l (dots_of live.gone) live.stand (values_in x) live.k live.out)
