-- `dot_at` meets its contract.
use Rattle.delivery.proofs.dot_at.Goals as goal

pub returns : goal.returns
returns c = cc
