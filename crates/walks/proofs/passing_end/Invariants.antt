-- `passing_end` meets its contract: the loop follows the definition.
use mathlib.Core.Path.{◌≡◌}
use mathlib.Core.Bool.{Bool}
use Rattle.records.specs.declared.Record.{Record}
use Rattle.walks.proofs.Loops.{Running}
use Rattle.walks.proofs.passing_end.Given as goal

abbrev pub invariant-loop-i : goal.invariant-loop-i
invariant-loop-i g l = (test : Record → Bool) → ((r : Record) (b : Bool) → goal.F-post g l.passes r b → b ≡ test r)
    → Running test l.s l.at l.end l.i l.low
