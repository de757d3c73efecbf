-- `key_test` meets its contract: the loop follows the definition.
use borrow.Author.Rules.{rules}
use Rattle.walks.specs.Walk.{key_test}
use Rattle.walks.proofs.key_test.Goals as goal

pub returns : goal.returns
unfolding key_test
returns c = search rules
