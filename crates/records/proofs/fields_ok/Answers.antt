-- `fields_ok` meets its contract.
use Rattle.records.proofs.fields_ok.Goals as goal

pub returns : goal.returns
returns c = cc
