-- `validate_merge` meets its contract: the loop looks for an entry of ours that shares a dot.
use Rattle.entries.specs.Model.{entries_of}
use Rattle.asking.specs.Asking.{spent_by, first_spent}
use Rattle.asking.proofs.Askings.{Searching}
use Rattle.asking.proofs.validate_merge.Given as goal

abbrev pub invariant-loop-e : goal.invariant-loop-e
invariant-loop-e l = Searching (λ e. first_spent (spent_by e) (entries_of l.theirs)) l.e-items l.e-index
