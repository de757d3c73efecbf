-- `entries_whole` meets its contract: the loop stops at an entry that is not whole.
use mathlib.Core.Path.{refl, sym, ◌∙◌}
use borrow.Author.Tests.{not-true, not-false}
use Rattle.scan.specs.Each.{every}
use Rattle.delivery.proofs.Views.{entries-left, entries-end}
use native.Mathlib.Omega.{arith}
use mathlib.Core.Bool.{not}
use mathlib.Core.Path.{ap}
use Rattle.delivery.proofs.entries_whole.Goals as goal

pub returns-then-not-whole_at : goal.returns-then-not-whole_at
unfolding every
returns-then-not-whole_at c =
    let w = c.args.mem.now in
    let t = sym c.whole_at.ensures ∙ not-true _ (ap not c.if-not-whole_at.true) in
    sym (c.loop-j.invariant ∙ rw (entries-left w c.loop-j.j (omega arith), t))

pub loop-j-preserved : goal.loop-j-preserved
unfolding every
loop-j-preserved c =
    let w = c.args.mem.now in
    let t = sym c.whole_at.ensures ∙ not-false _ (ap not c.if-not-whole_at.false) in
    c.loop-j.invariant ∙ rw (entries-left w c.loop-j.j (omega arith), t)

pub returns : goal.returns
unfolding every
returns c =
    let w = c.args.mem.now in
    sym (c.loop-j.invariant ∙ rw (entries-end w c.loop-j.j (omega arith)))

pub loop-j-init : goal.loop-j-init
loop-j-init c = refl
