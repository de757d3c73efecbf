-- `own_test` meets its contract.
use Rattle.walks.specs.Walk.{own_test}
use Rattle.walks.proofs.own_test.Goals as goal

pub returns : goal.returns
unfolding own_test
returns c = cc
