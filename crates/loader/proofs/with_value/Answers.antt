-- `with_value` meets its contract: the first value, a smaller one, or another.
use mathlib.Core.Path.{refl}
use native.Mathlib.Omega.{arith}
use borrow.Author.Tests.{not-true, not-false}
use Rattle.loader.proofs.Adding.{first_more, lower-more, upper-more}
use Rattle.loader.proofs.with_value.Goals as goal

pub returns-then-not-r : goal.returns-then-not-r
returns-then-not-r c = (refl, λ l v e f. first_more l v e f (not-true _ c.if-not-r.true))

pub returns-then-value-r : goal.returns-then-value-r
returns-then-value-r c = (refl, λ l v e f. lower-more l v e f (not-false _ c.if-not-r.false) c.if-value-r.true)

pub returns : goal.returns
returns c = (
  refl,
  λ l v e f. upper-more l v e f (not-false _ c.if-not-r.false)
      (omega (arith, c.if-value-r.false)),
)
