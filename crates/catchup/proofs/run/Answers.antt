-- `run` meets its contract: what is left of the run from the running map is the run.
use mathlib.Core.Path.{refl, ap, ◌∙◌}
use native.Mathlib.Omega.{arith}
use borrow.Author.Rules.{rules}
use lib.ListN.{take}
use Rattle.listlaws.proofs.Rests.{drop-end}
use Rattle.promises.specs.CatchUp.{operations_of, outcome_from}
use Rattle.promises.proofs.Cuts.{cut-nothing}
use Rattle.catchup.proofs.Runs.{ran-stop, ran_on, ran-end}
use Rattle.catchup.proofs.run.Goals as goal

pub loop-at-init : goal.loop-at-init
loop-at-init c = let z = c.before.before.before in
    ((omega arith, omega arith), (z.requires.0, (z.requires.1.0, z.requires.1.1)), refl)

pub operation_end-next-requires : goal.operation_end-next-requires
operation_end-next-requires c = search rules

pub slice_bounds-step-count : goal.slice_bounds-step-count
slice_bounds-step-count c = omega (arith, c.operation_end-next.ensures.past)

pub slice_bounds-step-start : goal.slice_bounds-step-start
slice_bounds-step-start c = omega (arith, c.operation_end-next.ensures.past, c.operation_end-next.ensures.within)

pub slice_bounds-step-end : goal.slice_bounds-step-end
slice_bounds-step-end c = omega (arith, c.operation_end-next.ensures.past, c.operation_end-next.ensures.within)

pub step-w-requires : goal.step-w-requires
step-w-requires c = let i = c.loop-at.invariant.1 in (i.0, (i.1.0, i.1.1))

pub shape_of-here-then-w-ge4294967296 : goal.shape_of-here-then-w-ge4294967296
shape_of-here-then-w-ge4294967296 c = search rules

pub shape_of-there-then-w-ge4294967296 : goal.shape_of-there-then-w-ge4294967296
shape_of-there-then-w-ge4294967296 c = search rules

pub returns-then-w-ge4294967296 : goal.returns-then-w-ge4294967296
returns-then-w-ge4294967296 c =
    let l = c.loop-at in
    let n = c.operation_end-next in
    ran-stop l.place _ _ _ (l.invariant.2 ∙ ap (outcome_from l.place (take l.left l.here)) n.ensures.cut)
    c.step-w.ensures c.if-w-ge4294967296.true

pub overflow_add-place : goal.overflow_add-place
overflow_add-place c = omega arith

pub loop-at-smaller : goal.loop-at-smaller
loop-at-smaller c = let n = c.operation_end-next in
    omega (arith, n.ensures.past, n.ensures.within)

pub loop-at-preserved : goal.loop-at-preserved
loop-at-preserved c =
    let l = c.loop-at in
    let n = c.operation_end-next in
    let t = c.step-w in (
      (n.ensures.within, omega (arith, n.ensures.past, l.invariant.0.1)),
      (t.ensures.short c.if-w-ge4294967296.false, (omega (arith, t.auto.here, l.invariant.1), omega (arith, t.auto.there, l.invariant.1))),
      ran_on l.place _ _ _ (l.invariant.2 ∙ ap (outcome_from l.place (take l.left l.here)) n.ensures.cut) t.ensures c.if-w-ge4294967296.false,
    )

pub shape_of-here : goal.shape_of-here
shape_of-here c = search rules

pub shape_of-there : goal.shape_of-there
shape_of-there c = search rules

pub returns : goal.returns
returns c =
    let l = c.loop-at in
    let list = c.args.list.now in
    ran-end l.place l.left l.here l.invariant.1.0 l.invariant.2
    (ap operations_of (drop-end list l.at (omega arith)) ∙ cut-nothing)
