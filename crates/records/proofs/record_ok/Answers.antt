-- `record_ok` meets its contract.
use Rattle.records.specs.Kinds.{record_ok}
use Rattle.records.proofs.record_ok.Goals as goal

pub returns : goal.returns
unfolding record_ok
returns c = cc
