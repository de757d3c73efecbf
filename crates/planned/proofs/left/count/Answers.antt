-- `count` meets its contract: the marks of the run's dots are counted.
use Rattle.planned.proofs.Lefts.{left-count}
use borrow.Author.Rules.{rules}
use native.Mathlib.Omega.{arith}
use Rattle.planned.proofs.left.count.Goals as goal

pub overflow_sub-x : goal.overflow_sub-x
overflow_sub-x c = search rules

pub count_marks-requires : goal.count_marks-requires
count_marks-requires c = search rules

pub returns : goal.returns
returns c =
    let e = c.count_marks.ensures in
    let h = c.requires.1 in
    let a = h.few in
    let b = h.order in
    (omega arith, λ s k. left-count k e.0)
