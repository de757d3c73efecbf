-- `dot_test` meets its contract.
use borrow.Author.Rules.{rules}
use Rattle.walks.specs.Walk.{dot_test}
use Rattle.walks.proofs.dot_test.Goals as goal

pub returns : goal.returns
unfolding dot_test
returns c = search rules
