-- `choose` meets its contract: a value that is below no other is reported, one a turn.
use mathlib.Core.Path.{◌≡◌}
use mathlib.Core.Bool.{not}
use mathlib.Core.List.{List}
use Prim.Native.Nat.{ℕ, ◌≤◌}
use lib.ListN.{take}
use Rattle.listlaws.specs.Sift.{those}
use Rattle.register.specs.declared.Value.{Value}
use Rattle.limits.specs.Limits.{value_limit}
use Rattle.mapimage.specs.MapImage.{flat_from, value_records}
use Rattle.keyed.specs.Keyed.{RecordsLie}
use Rattle.comparing.specs.Registers.{RunsOf}
use Rattle.loader.specs.Choice.{is_below, report_on}
use mathlib.Core.Bool.{not}
use Rattle.loader.proofs.choose.Given as goal

-- what is left of the first i values
abbrev pub left : List Value → ℕ → List Value
left l i = those (λ v. not (is_below l v)) (take i l)

abbrev pub invariant-loop-i : goal.invariant-loop-i
invariant-loop-i v =
    ((v.r.count ≤ v.i) × (v.n ≤ value_limit))
    × ((key : ℕ) (l : List Value) → RecordsLie v.map (flat_from (value_records 3 key) 0 l) v.values → RunsOf v.map v.starts v.n l → v.r
    ≡ report_on (left l v.i))
