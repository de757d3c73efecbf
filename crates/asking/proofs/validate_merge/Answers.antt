-- `validate_merge` meets its contract: the loop looks for an entry of ours that shares a dot.
use mathlib.Core.Path.{sym, ◌∙◌}
use Rattle.entries.proofs.Packs.{none_read}
use Rattle.asking.specs.Asking.{validate_merge}
use Rattle.asking.proofs.Askings.{searching-here, searching-on, searching-end}
use native.Mathlib.Omega.{arith}
use Rattle.asking.proofs.validate_merge.Goals as goal

pub returns-then-twice : goal.returns-then-twice
unfolding validate_merge
returns-then-twice c =
    rw (← c.as_slice-e-items.ensures)
    (searching-here none_read c.loop-e.invariant c.loop-e-test.true c.spent_among-s.ensures (sym c.twice.ensures ∙ c.if-twice.true))

pub loop-e-preserved : goal.loop-e-preserved
loop-e-preserved c =
    searching-on none_read c.loop-e.invariant c.loop-e-test.true c.spent_among-s.ensures (sym c.twice.ensures ∙ c.if-twice.false)

pub returns : goal.returns
unfolding validate_merge
returns c = rw (← c.as_slice-e-items.ensures) (searching-end c.loop-e.invariant (omega arith))
