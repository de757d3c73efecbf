-- `map_length` meets its contract.
use native.Mathlib.Omega.{arith}
use Rattle.answers.specs.Sizes.{map_size}
use borrow.Author.Rules.{rules}
use Rattle.answers.proofs.map_length.Goals as goal

pub size-requires : goal.size-requires
size-requires c = search rules

pub count_entries-requires : goal.count_entries-requires
count_entries-requires c = search rules

pub count_waiting-requires : goal.count_waiting-requires
count_waiting-requires c = search rules

pub overflow_add-result : goal.overflow_add-result
overflow_add-result c = search rules

pub overflow_add-result-2 : goal.overflow_add-result-2
overflow_add-result-2 c = search rules

pub overflow_mul-result : goal.overflow_mul-result
overflow_mul-result c = search rules

pub returns : goal.returns
unfolding map_size
returns c = (omega arith, (omega arith, c.count_waiting.ensures.1.1))
