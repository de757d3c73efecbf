-- `is_below` meets its contract: the loop looks for a value whose clock is above.
use mathlib.Core.Path.{◌≡◌, refl, ap, sym, ◌∙◌}
use mathlib.Core.Bool.{false}
use mathlib.Core.List.{List}
use native.Mathlib.Omega.{arith}
use lib.ListN.{get_or}
use Rattle.listlaws.proofs.SlicePassing.{passing-start, passing-here, passing-on, passing-end}
use Rattle.clock.specs.declared.Order.{Order}
use Rattle.clock.specs.declared.Order.TheVariants.{Less, Equal, Greater, Concurrent}
use Rattle.register.specs.declared.Value.{Value}
use Rattle.register.specs.Values.{no_value, yielding, yields}
use Rattle.comparing.specs.Registers.{RunsOf}
use Rattle.loader.specs.Choice.{is_below}
use Rattle.loader.proofs.is_below.Goals.{After-compare_runs}
use Rattle.loader.proofs.is_below.Goals as goal

pub loop-j-init : goal.loop-j-init
loop-j-init c = λ l r. passing-start

pub compare_runs-requires : goal.compare_runs-requires
compare_runs-requires c =
    let r = c.requires.1.1 in
    ((c.value_run-run.ensures _ _ c.requires.0 r).1, (c.value_run.ensures _ _ c.loop-j-test.true r).1)

-- what the comparison of two runs says of their values
met : (c : After-compare_runs) (l : List Value) → RunsOf c.args.map.now c.args.starts c.args.n l
    → yields false (get_or l c.args.k no_value) (get_or l c.loop-j.j no_value) ≡ yielding false c.compare_runs.result
unfolding yields
met c l r = rw (← (c.value_run-run.ensures _ l c.requires.0 r).0, ← (c.value_run.ensures _ l c.loop-j-test.true r).0)
    (ap (yielding false) (sym c.compare_runs.ensures))

pub returns-in-Less : goal.returns-in-Less
unfolding is_below
returns-in-Less c = λ l r. passing-here no_value (c.loop-j.invariant l r) (omega (arith, r.count))
    (met (goal.at.returns-in-Less c).After-compare_runs l r ∙ ap (yielding false) c.in-Less.is)

not-less : (o : Order) → (o ≡ Less → ⊥) → yielding false o ≡ false
not-less Less f = absurd (f refl)
not-less Equal f = refl
not-less Greater f = refl
not-less Concurrent f = refl

pub loop-j-preserved : goal.loop-j-preserved
loop-j-preserved c = λ l r. passing-on no_value (c.loop-j.invariant l r) (omega (arith, r.count))
    (met (goal.at.loop-j-preserved c).After-compare_runs l r ∙ not-less c.compare_runs.result c.in_default.not-Less)

pub returns : goal.returns
unfolding is_below
returns c = λ l r. passing-end (c.loop-j.invariant l r) (omega (arith, r.count))
