-- `next` meets its contract: each way out is a branch of `next_of`.
use mathlib.Core.Path.{refl}
use borrow.Author.Tests.{eq-eqb, ne_eqb}
use Rattle.flooring.specs.Steps.{next_of}
use Rattle.flooring.proofs.next.Goals as goal

pub returns-then-f-ne0 : goal.returns-then-f-ne0
unfolding next_of
returns-then-f-ne0 c = rw (ne_eqb _ 0 c.if-f-ne0.true) refl

pub returns-then-number-ne0 : goal.returns-then-number-ne0
unfolding next_of
returns-then-number-ne0 c =
    let n = c.lent_number-number.ensures.0 in
    rw (c.word.ensures, eq-eqb _ 0 c.if-f-ne0.false, ← n, ne_eqb _ 0 c.if-number-ne0.true) refl

pub returns-then-f : goal.returns-then-f
unfolding next_of
returns-then-f c =
    let n = c.lent_number-number.ensures.0 in
    rw (c.lower-clock.ensures, c.if-f-ne0.false, ← n, eq-eqb _ 0 c.if-number-ne0.false, c.if-f.true) refl

pub returns-else-f : goal.returns-else-f
unfolding next_of
returns-else-f c =
    let n = c.lent_number-number.ensures.0 in
    rw (c.lower-clock-else-f.ensures, c.if-f-ne0.false, ← n, eq-eqb _ 0 c.if-number-ne0.false, c.if-f.false) refl
