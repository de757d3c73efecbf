-- `dot_at` meets its contract: the two numbers of the record that a dot has.
use Rattle.records.specs.Records.{record_from}
use Rattle.marks.proofs.dot_at.Goals as goal

pub returns : goal.returns
unfolding record_from
returns c = λ i. record { actor = c.read16-actor.ensures i; counter = c.read64-counter.ensures i }
