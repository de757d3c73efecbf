-- `put_stands` meets its contract: the loop compares one value after the other with the put.
use mathlib.Core.Path.{◌≡◌, refl, sym, ◌∙◌}
use mathlib.Core.Bool.{or-true, or-false}
use mathlib.Core.List.{List}
use mathlib.Core.Logic.{inl, inr}
use lib.ListN.{get_or}
use Rattle.clock.specs.Dots.{dots_of, order_of}
use Rattle.register.specs.declared.Value.{Value}
use Rattle.register.specs.Values.{no_value}
use Rattle.runs.specs.Run.{run_dots}
use Rattle.comparing.specs.Registers.{RunsOf}
use Rattle.standing.proofs.Registers.{putting-start, putting-on, putting-off, putting-end}
use native.Mathlib.Omega.{arith}
use Rattle.standing.proofs.put_stands.Goals.{After-compare_runs, in-Less, in-Greater, in-Concurrent}
use Rattle.standing.proofs.put_stands.Goals as goal

pub loop-i-init : goal.loop-i-init
loop-i-init c = λ l v r e. putting-start

pub compare_runs-requires : goal.compare_runs-requires
compare_runs-requires c = ((c.value_run.ensures _ _ c.loop-i-test.true c.requires.0.1).1, c.requires.1)

-- how the value that the walk has come to stands to the put
met : (c : After-compare_runs) (l : List Value) (v : Value) → RunsOf c.args.s.now c.args.starts c.args.n l
    → run_dots c.args.put.now ≡ dots_of v.clock
    → order_of (dots_of (get_or l c.loop-i.i no_value).clock) (dots_of v.clock) ≡ c.compare_runs.result
met c l v r e = rw (← e, ← (c.value_run.ensures _ l c.loop-i-test.true r).0) (sym c.compare_runs.ensures)

pub loop-i-preserved : goal.loop-i-preserved
loop-i-preserved c = λ l v r e.
    let g = c.loop-i.invariant l v r e in
    let m = met (goal.at.loop-i-preserved c).After-compare_runs l v r e in
    elim c.match-compare_runs.branch [
      | in-Less w ↦ rw (w.remain-is, w.yields-is) (elim w.in-Less.is [
        | inl t ↦ putting-off g (omega (arith, r.count)) (m ∙ t) refl (omega (arith, r.count, r.few))
        | inr t ↦ putting-off g (omega (arith, r.count)) (m ∙ t) refl (omega (arith, r.count, r.few))
      ])
      | in-Greater w ↦ rw (w.remain-is, w.yields-is)
          (putting-on g (omega (arith, r.count)) (m ∙ w.in-Greater.is) refl (sym (or-true c.loop-i.yields)))
      | in-Concurrent w ↦ rw (w.remain-is, w.yields-is)
          (putting-on g (omega (arith, r.count)) (m ∙ w.in-Concurrent.is) refl (sym (or-false c.loop-i.yields)))
    ]

pub returns : goal.returns
returns c = λ l v r e. putting-end (c.loop-i.invariant l v r e) (omega (arith, r.count)) r.few
