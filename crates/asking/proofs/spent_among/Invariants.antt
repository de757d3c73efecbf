-- `spent_among` meets its contract: the loop looks for an entry that shares a dot.
use Rattle.asking.specs.Asking.{spent_by}
use Rattle.asking.proofs.Askings.{Searching}
use Rattle.asking.proofs.spent_among.Given as goal

abbrev pub invariant-loop-f : goal.invariant-loop-f
invariant-loop-f l = Searching (spent_by l.ours) l.f-items l.f-index
