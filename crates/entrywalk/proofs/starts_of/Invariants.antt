-- `starts_of` meets its contract: the run of one value a turn.
use mathlib.Core.Path.{◌≡◌}
use mathlib.Core.List.{List}
use Prim.Native.Nat.{ℕ, ◌≤◌}
use lib.ListN.{length}
use Rattle.register.specs.declared.Value.{Value}
use Rattle.walks.specs.Walk.{part}
use Rattle.layout.proofs.Values.{fours}
use Rattle.entrywalk.proofs.Starts.{Started}
use Rattle.entrywalk.proofs.starts_of.Given as goal

abbrev pub invariant-loop-i : goal.invariant-loop-i
invariant-loop-i v =
    ((v.at ≤ v.end) × (length v.starts ≡ 5))
    × ((key : ℕ) (l : List Value) → v.n ≡ length l → part v.s v.from v.end ≡ fours key 0 l → Started v.s key v.end l v.i v.at v.starts)
