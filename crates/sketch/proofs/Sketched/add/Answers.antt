-- `Sketched::add` meets its contract.
use mathlib.Core.Path.{◌≡◌}
use lib.ListN.{length}
use native.Mathlib.Omega.{arith}
use borrow.Author.Rules.{rules}
use borrow.Author.Tests.{not-true, not-false}
use Rattle.listlaws.proofs.Pads.{unmapped}
use Rattle.sketch.proofs.Adding.{add_none, add-one, add-over}
use mathlib.Core.Bool.{not}
use mathlib.Core.Path.{ap}
use Rattle.sketch.proofs.Sketched.add.Goals as goal

pub returns-then-not-some_marks : goal.returns-then-not-some_marks
returns-then-not-some_marks c = (
  omega arith,
  λ s t key d l h p. add_none h c.args.x p c.some_marks.ensures
      (not-true _ (ap not c.if-not-some_marks.true)),
)

pub returns-then-n-lt-VALUES : goal.returns-then-n-lt-VALUES
returns-then-n-lt-VALUES c =
    let a = c.args in
    let room : length a.self.sources ≡ 4 = search (rules, unmapped) in (
      omega arith,
      λ s t key d l h p. add-one h a.x p c.some_marks.ensures (not-false _ (ap not c.if-not-some_marks.false)) room
          c.if-n-lt-VALUES.true,
    )

pub returns : goal.returns
returns c =
    let a = c.args in
    (omega arith, λ s t key d l h p. add-over h a.x p c.some_marks.ensures (not-false _ (ap not c.if-not-some_marks.false)) (omega arith))
