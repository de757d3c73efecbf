-- `stands` meets its contract: the loop takes our values one after the other.
use Rattle.register.specs.Values.{no_value}
use lib.ListN.{get_or}
use Rattle.standing.proofs.Registers.{merging_start, merging-on, merging-off, merging-end}
use native.Mathlib.Omega.{arith}
use Rattle.standing.proofs.stands.Goals.{in-Some, in-None}
use Rattle.standing.proofs.stands.Goals as goal

pub loop-i-init : goal.loop-i-init
loop-i-init c = λ l k p q. merging_start q.few

pub against-requires : goal.against-requires
against-requires c = ((c.value_run.ensures _ _ c.loop-i-test.true c.requires.0.1).1, c.requires.1)

pub loop-i-preserved : goal.loop-i-preserved
loop-i-preserved c = λ l k p q.
    let g = c.loop-i.invariant l k p q in
    let e = (c.value_run.ensures _ l c.loop-i-test.true p).0 in
    elim c.match-against.branch [
      | in-Some w ↦
          let f = w.in-Some.ensures (get_or l c.loop-i.i no_value) k e q in
          rw (w.ours-is, w.theirs-is) (merging-on g (omega (arith, p.count)) f.0 f.1)
      | in-None w ↦
          let f = w.in-None.ensures (get_or l c.loop-i.i no_value) k e q in
          rw (w.ours-is, w.theirs-is) (merging-off g (omega (arith, p.count)) f (omega (arith, p.count, p.few)))
    ]

pub returns : goal.returns
returns c = λ l k p q. merging-end (c.loop-i.invariant l k p q) (omega (arith, p.count)) p.few
