-- `spent_among` meets its contract: the loop looks for an entry that shares a dot.
use mathlib.Core.Path.{sym, ◌∙◌}
use Rattle.entries.proofs.Packs.{none_read}
use Rattle.asking.proofs.Askings.{searching-here, searching-on, searching-end}
use native.Mathlib.Omega.{arith}
use Rattle.asking.proofs.spent_among.Goals as goal

pub returns-then-twice : goal.returns-then-twice
returns-then-twice c =
    rw (← c.as_slice-f-items.ensures)
    (searching-here none_read c.loop-f.invariant c.loop-f-test.true c.spent_by-s.ensures (sym c.twice.ensures ∙ c.if-twice.true))

pub loop-f-preserved : goal.loop-f-preserved
loop-f-preserved c =
    searching-on none_read c.loop-f.invariant c.loop-f-test.true c.spent_by-s.ensures (sym c.twice.ensures ∙ c.if-twice.false)

pub returns : goal.returns
returns c = rw (← c.as_slice-f-items.ensures) (searching-end c.loop-f.invariant (omega arith))
