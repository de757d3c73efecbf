-- `removal_waits` meets its contract, by that of the comparison.
use mathlib.Core.Path.{◌≡◌, ap₂, ◌∙◌}
use native.Mathlib.Omega.{arith}
use Rattle.clock.specs.Dots.{order_of}
use Rattle.removals.specs.declared.Removal.{Removal}
use Rattle.removals.specs.Model.{under_of}
use Rattle.removals.specs.Waits.{waits}
use Rattle.map.specs.Model.{seen_by}
use Rattle.maprecords.specs.Related.{read_map}
use Rattle.drafting.specs.Drafted.{RemovalLies}
use Rattle.drafting.proofs.Asked.{seen-run, under-room, under-run}
use Rattle.drafting.proofs.held.removal_waits.Goals.{After-compare_runs-o}
use Rattle.drafting.proofs.held.removal_waits.Goals as goal

pub compare_runs-o-requires : goal.compare_runs-o-requires
compare_runs-o-requires c =
    let p = c.requires in
    (rw (seen-run p.0) p.0.within.valid.clock, rw (under-run p.1.1) p.1.1.within.valid.clock)

-- how the two clocks stand
stands : (c : After-compare_runs-o) (r : Removal) → let a = c.args in
    RemovalLies a.op.now a.dots r → c.compare_runs-o.result ≡ order_of (seen_by (read_map a.map.now).map) (under_of r)
stands c r h = c.compare_runs-o.ensures ∙ ap₂ order_of (seen-run c.requires.0) (under-run h)

pub returns-in-Less : goal.returns-in-Less
unfolding waits
returns-in-Less c = λ r h. rw (← stands (goal.at.returns-in-Less c).After-compare_runs-o r h, c.in-Less.is)

pub returns-in-Concurrent : goal.returns-in-Concurrent
unfolding waits
returns-in-Concurrent c = λ r h. rw (← stands (goal.at.returns-in-Concurrent c).After-compare_runs-o r h, c.in-Concurrent.is)

pub returns-in-Equal : goal.returns-in-Equal
unfolding waits
returns-in-Equal c = λ r h. rw (← stands (goal.at.returns-in-Equal c).After-compare_runs-o r h, c.in-Equal.is)

pub returns-in-Greater : goal.returns-in-Greater
unfolding waits
returns-in-Greater c = λ r h. rw (← stands (goal.at.returns-in-Greater c).After-compare_runs-o r h, c.in-Greater.is)

pub slice_bounds-compare_runs-end-2 : goal.slice_bounds-compare_runs-end-2
slice_bounds-compare_runs-end-2 c = omega (arith, under-room c.requires.1.1)
