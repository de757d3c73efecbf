-- `take` meets its contract.
use Rattle.listlaws.proofs.SliceFolding.{Folding}
use Rattle.mailbox.specs.Machine.{byte_in}
use Rattle.mailbox.proofs.take.Given as goal

abbrev pub invariant-loop-b : goal.invariant-loop-b
invariant-loop-b l = Folding (λ w. w) byte_in l.initial.mem l.piece l.b-index l.mem
