-- `value_test` meets its contract.
use borrow.Author.Rules.{rules}
use Rattle.walks.specs.Walk.{value_test}
use Rattle.walks.proofs.value_test.Goals as goal

pub returns : goal.returns
unfolding value_test
returns c = search rules
