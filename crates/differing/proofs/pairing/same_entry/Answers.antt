-- `same_entry` meets its contract: the clocks, then every value of either entry.
use mathlib.Core.Path.{refl, ap₂, sym, ◌∙◌}
use mathlib.Core.Bool.{◌&&◌}
use borrow.Author.Tests.{not-true, not-false}
use Rattle.entries.specs.Model.{values_in}
use Rattle.equality.specs.Equality.{equal_values}
use Rattle.differences.specs.Differences.{same_entry}
use Rattle.differences.proofs.Turned.{often-turned}
use mathlib.Core.Bool.{not}
use mathlib.Core.Path.{ap}
use Rattle.differing.proofs.pairing.same_entry.Goals as goal

pub same_clock-requires : goal.same_clock-requires
same_clock-requires c = c.requires

pub as_often-requires : goal.as_often-requires
as_often-requires c = c.requires

pub as_often-requires-2 : goal.as_often-requires-2
as_often-requires-2 c = let p = c.requires in (p.1, p.0)

pub returns-then-not-same_clock : goal.returns-then-not-same_clock
unfolding same_entry
returns-then-not-same_clock c = λ e f h k. rw (sym (c.same_clock.ensures e f h k) ∙ not-true _ (ap not c.if-not-same_clock.true)) refl

pub returns : goal.returns
unfolding same_entry equal_values
returns c = λ e f h k.
    rw (sym (c.same_clock.ensures e f h k) ∙ not-false _ (ap not c.if-not-same_clock.false))
    (ap₂ ◌&&◌ (c.as_often.ensures e f h k) (c.as_often-2.ensures f e k h ∙ often-turned (values_in e) (values_in f) (values_in f)))
