-- `read_record` meets its contract.
use Rattle.records.specs.Records.{record_from}
use Rattle.records.proofs.read_record.Goals as goal

pub returns : goal.returns
unfolding record_from
returns c = cc
