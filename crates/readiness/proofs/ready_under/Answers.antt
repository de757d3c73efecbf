-- `ready_under` meets its contract: the put clock's own dot, then the map clock's counter, then every actor of the put clock.
use mathlib.Core.Path.{◌∙◌}
use borrow.Author.Tests.{eq-eqb, ne_eqb, le-leb, lt-leb}
use Rattle.readiness.specs.Ready.{ready_under}
use Rattle.readiness.proofs.ready_under.Goals as goal

pub returns-then-get-own : goal.returns-then-get-own
unfolding ready_under
returns-then-get-own c = rw (ne_eqb _ _ (rw c.get.ensures at c.if-get-own.true))

pub returns-then-own-get : goal.returns-then-own-get
unfolding ready_under
returns-then-own-get c =
    let a = c.before.before.before in
    rw (
      eq-eqb _ _ (rw a.get.ensures at a.if-get-own.false),
      le-leb _ _ (rw c.get-2.ensures at c.if-own-get.true),
    )

pub returns : goal.returns
unfolding ready_under
returns c =
    let b = c.before in
    let a = b.before.before.before in
    c.first_lacking.ensures
    ∙ rw (
      eq-eqb _ _ (rw a.get.ensures at a.if-get-own.false),
      lt-leb _ _ (rw b.get-2.ensures at b.if-own-get.false),
    )
