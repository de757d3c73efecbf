-- `against` meets its contract: the loop compares the run with one value after the other.
use mathlib.Core.Path.{◌≡◌, refl, sym, ◌∙◌}
use mathlib.Core.List.{List}
use mathlib.Core.Logic.{inl, inr}
use lib.ListN.{get_or}
use Rattle.clock.specs.Dots.{dots_of, order_of}
use Rattle.register.specs.declared.Value.{Value}
use Rattle.register.specs.Values.{no_value}
use Rattle.runs.specs.Run.{run_dots}
use Rattle.comparing.specs.Registers.{RunsOf}
use Rattle.standing.proofs.Standings.{passed_start, passed_on, passed-off, passed-stops, passed-end}
use borrow.Author.Rules.{rules}
use native.Mathlib.Omega.{arith}
use Rattle.standing.proofs.against.Goals.{After-compare_runs, in-Equal, in-Concurrent}
use Rattle.standing.proofs.against.Goals as goal

pub loop-j-init : goal.loop-j-init
loop-j-init c = (search rules, λ v l e r. passed_start)

pub compare_runs-requires : goal.compare_runs-requires
compare_runs-requires c = (c.requires.0, (c.value_run.ensures _ _ c.loop-j-test.true c.requires.1.1).1)

-- how the run's value stands to the one that the walk has come to
met : (c : After-compare_runs) (v : Value) (l : List Value) → run_dots c.args.run.now ≡ dots_of v.clock
    → RunsOf c.args.s.now c.args.starts c.args.n l
    → order_of (dots_of v.clock) (dots_of (get_or l c.loop-j.j no_value).clock) ≡ c.compare_runs.result
met c v l e r = rw (← e, ← (c.value_run.ensures _ l c.loop-j-test.true r).0) (sym c.compare_runs.ensures)

pub loop-j-preserved : goal.loop-j-preserved
loop-j-preserved c = (
  c.loop-j.invariant.0,
  λ v l e r.
      let g = c.loop-j.invariant.1 v l e r in
      let m = met (goal.at.loop-j-preserved c).After-compare_runs v l e r in
      elim c.match-compare_runs.branch [
        | in-Equal w ↦ rw w.left-is (elim w.in-Equal.is [
          | inl t ↦ passed-off g (omega (arith, r.count)) (m ∙ t) refl refl (omega (arith, r.count, r.few, c.loop-j.invariant.0))
          | inr t ↦ passed-off g (omega (arith, r.count)) (m ∙ t) refl refl (omega (arith, r.count, r.few, c.loop-j.invariant.0))
        ])
        | in-Concurrent w ↦ rw w.left-is (passed_on g (omega (arith, r.count)) (m ∙ w.in-Concurrent.is) refl refl)
      ],
)

pub returns-in-Less : goal.returns-in-Less
returns-in-Less c = λ v l e r. sym (passed-stops (c.loop-j.invariant.1 v l e r) (omega (arith, r.count))
    (met (goal.at.returns-in-Less c).After-compare_runs v l e r ∙ c.in-Less.is) refl)

pub returns : goal.returns
returns c = λ v l e r.
    let p = passed-end (c.loop-j.invariant.1 v l e r) (omega (arith, r.count)) (omega (arith, r.few, c.loop-j.invariant.0)) in
    (sym p.0, p.1)
