-- `equals` meets its contract, by that of `as_often`, over both.
use Rattle.equality.specs.Equality.{equal_values}
use Rattle.equality.proofs.equals.Goals as goal

pub returns : goal.returns
unfolding equal_values
returns c = cc
