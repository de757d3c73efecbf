-- `join_plan` meets its contract: the loop walks both queues side by side.
use mathlib.Core.Path.{ap}
use mathlib.Core.Bool.{true, false, cond}
use mathlib.Core.List.{List}
use Prim.Native.Nat.{◌+◌, ◌≤◌, ◌<◌, ◌-◌}
use borrow.Author.Tests.{ltb-true}
use lib.ListN.{length-set}
use Rattle.listlaws.proofs.Weaving.{both-past}
use Rattle.clock.specs.Dots.{dots_of}
use Rattle.removals.specs.declared.Removal.{Removal}
use Rattle.queued.specs.Queue.{Queued}
use Rattle.planned.specs.declared.Held.{Held}
use Rattle.planned.specs.Planned.{HeldLies}
use Rattle.planned.specs.Left.{left_in}
use Rattle.planned.proofs.Lefts.{queue-places, run-clear, run-left}
use Rattle.planned.proofs.Joining.{Turned, turned, nearer, join-start, found-on, found-off, stay-rise, held-lies}
use Rattle.planned.proofs.Results.{join-plans}
use borrow.Author.Rules.{rules}
use native.Mathlib.Omega.{arith}
use Rattle.planned.proofs.join_plan.Goals.{After-next_turn-r, After-passed-j}
use Rattle.planned.proofs.join_plan.Goals as goal

pub loop-i-init : goal.loop-i-init
loop-i-init c = ((search rules, search rules, search rules, search rules, search rules, search rules), λ w v q p a b. join-start)

pub next_turn-r-requires : goal.next_turn-r-requires
next_turn-r-requires c =
    let t = c.before.before.before.before.before.before.before.before.before in
    let p = t.requires in
    let n = queue-places p.0.1 t.places-n.ensures in
    let m = queue-places p.1.0.1 t.places-m.ensures in (
      (
        λ e. run-clear p.0.1 false c.whole-x.ensures
            c.place-a.ensures.1
            (let k = ltb-true t.loop-i.i t.places-n.result e in omega arith),
        λ e. run-clear p.1.0.1 true c.whole-y.ensures c.place-b.ensures.1
            (let k = ltb-true t.loop-i.j t.places-m.result e in omega arith),
      ),
      (c.loop-i-test.true, p.1.1),
    )

-- what is in turn, of any removals that lie so
turn-of : (c : After-next_turn-r) → let t = c.before.before.before.before.before.before.before.before.before.before in
    let a = t.args in
    (w v : List Removal) → Queued a.s.now a.q w → Queued a.t.now a.p v
    → Turned w v t.loop-i.i t.loop-i.j c.next_turn-r.result.first c.next_turn-r.result.second
    (cond c.next_turn-r.result.first (left_in a.s.now c.whole-x.result)
    (left_in a.t.now c.whole-y.result))
turn-of c w v q p =
    let t = c.before.before.before.before.before.before.before.before.before.before in
    let e = c.next_turn-r.ensures in
    turned w v t.loop-i.i t.loop-i.j (queue-places q t.places-n.ensures)
    (queue-places p t.places-m.ensures) _ _
    (λ h. run-left q false c.whole-x.ensures
    c.place-a.ensures.1 h)
    (λ h. run-left p true c.whole-y.ensures c.place-b.ensures.1 h)
    c.loop-i-test.true e.0.0 e.0.1

-- where it lies
lies-of : (c : After-next_turn-r) → let t = c.before.before.before.before.before.before.before.before.before.before in
    let a = t.args in
    (w v : List Removal) → Queued a.s.now a.q w → Queued a.t.now a.p v
    → HeldLies a.s.now a.t.now c.next_turn-r.result.held
    (cond c.next_turn-r.result.first (left_in a.s.now c.whole-x.result)
    (left_in a.t.now c.whole-y.result))
lies-of c w v q p =
    let n = turn-of c w v q p in
    held-lies c.next_turn-r.result.first c.next_turn-r.ensures.1.0
    (λ e. (run-clear q false c.whole-x.ensures
    c.place-a.ensures.1 (n.first e).0).placed)
    (λ e. (run-clear p true c.whole-y.ensures c.place-b.ensures.1 (n.other e)
    ).placed)
    (ap (λ (x : Held). x.second) c.whole-x.ensures) (ap (λ (x : Held). x.second) c.whole-y.ensures)

-- the walk comes nearer to the end
near : (c : After-passed-j) → let n = c.places-n.result in let m = c.places-m.result in
    let o = c.passed-i.result in let p = c.passed-j.result in
    ((o ≤ n) × (p ≤ m)) × (((n - o) + (m - p) < (n - c.loop-i.i) + (m - c.loop-i.j)) × (c.loop-i.i + c.loop-i.j < o + p))
near c =
    let p = c.requires in
    let e = c.next_turn-r.ensures in
    nearer (turned p.0.0 p.1.0.0 c.loop-i.i c.loop-i.j (queue-places p.0.1 c.places-n.ensures)
    (queue-places p.1.0.1 c.places-m.ensures) _ _
    (λ h. run-left p.0.1 false c.whole-x.ensures c.place-a.ensures.1 h)
    (λ h. run-left p.1.0.1 true c.whole-y.ensures c.place-b.ensures.1 h)
    c.loop-i-test.true e.0.0 e.0.1)
    (queue-places p.0.1 c.places-n.ensures) (queue-places p.1.0.1 c.places-m.ensures)
    c.loop-i.invariant.0.0 c.loop-i.invariant.0.1 c.passed-i.ensures c.passed-j.ensures

pub loop-i-preserved-then-r : goal.loop-i-preserved-then-r
loop-i-preserved-then-r c =
    let d = c.before.before in
    let u = d.before.before.before.before.before.before.before in
    let t = u.before.before.before.before.before.before.before.before.before.before in
    let a = t.args in
    let z = near (goal.at.loop-i-preserved-then-r c).After-passed-j in
    let g = t.loop-i.invariant in
    let x = u.place-a.ensures in
    let y = u.place-b.ensures in
    let k = d.place-k.ensures in
    let m = g.0.2 in
    let lo = g.0.3 in
    let lt = g.0.4 in
    let li = g.0.5 in (
      (
        z.0.0,
        z.0.1,
        omega (arith, z.1.1),
        simp length-set (omega (arith, lo)),
        simp length-set (omega (arith, lt)),
        simp length-set
            (omega (arith, li)),
      ),
      λ w v q p b c'.
          let few = q.few in
          let more = p.few in
          let n = turn-of (goal.at.loop-i-preserved-then-r c).After-next_turn-r w v q p in
          found-on (g.1 w v q p b c') n (stay-rise (dots_of a.seen) b.rising c'.rising)
          u.place-a.result
          u.place-b.result 0
          d.place-k.result
          (omega (arith, x.0, lo)) (omega (arith, y.0, lt)) (λ e. x.1 (let h = (n.first e).0 in omega arith))
          (λ e. y.1 (let h = (n.second e).0 in omega arith))
          d.passed-i.ensures d.passed-j.ensures d.told.ensures d.told-in-loop-i.ensures
          u.next_turn-r.ensures.1.1 c.if-r.true
          k.1 u.next_turn-r.result.held
          (lies-of (goal.at.loop-i-preserved-then-r c).After-next_turn-r w v q p) (omega (arith, k.0, li)),
    )

pub loop-i-preserved : goal.loop-i-preserved
loop-i-preserved c =
    let d = c.before in
    let u = d.before.before.before.before.before.before.before in
    let t = u.before.before.before.before.before.before.before.before.before.before in
    let a = t.args in
    let z = near (goal.at.loop-i-preserved c).After-passed-j in
    let g = t.loop-i.invariant in
    let x = u.place-a.ensures in
    let y = u.place-b.ensures in
    let k = d.place-k.ensures in
    let m = g.0.2 in
    let lo = g.0.3 in
    let lt = g.0.4 in
    let li = g.0.5 in (
      (z.0.0, z.0.1, omega (arith, z.1.1), simp length-set (omega (arith, lo)), simp length-set (omega (arith, lt)), li),
      λ w v q p b c'.
          let few = q.few in
          let more = p.few in
          let n = turn-of (goal.at.loop-i-preserved c).After-next_turn-r w v q p in
          found-off (g.1 w v q p b c') n (stay-rise (dots_of a.seen) b.rising c'.rising)
          u.place-a.result
          u.place-b.result 0
          d.place-k.result
          (omega (arith, x.0, lo)) (omega (arith, y.0, lt)) (λ e. x.1 (let h = (n.first e).0 in omega arith))
          (λ e. y.1 (let h = (n.second e).0 in omega arith))
          d.passed-i.ensures d.passed-j.ensures d.told.ensures d.told-in-loop-i.ensures
          u.next_turn-r.ensures.1.1 c.if-r.false,
    )

pub returns : goal.returns
returns c =
    let t = c.before in
    let a = t.args in
    let o = both-past t.loop-i.i t.places-n.result t.loop-i.j t.places-m.result c.loop-i-test.false
    in
    λ w v q p b d.
    let n = queue-places q t.places-n.ensures in
    let m = queue-places p t.places-m.ensures in
    join-plans (dots_of a.seen) b d q.few p.few (t.loop-i.invariant.1 w v q p b d) (omega (arith, o.0)) (omega (arith, o.1))

pub loop-i-smaller-then-r : goal.loop-i-smaller-then-r
loop-i-smaller-then-r c = (near (goal.at.loop-i-smaller-then-r c).After-passed-j).1.0

pub loop-i-smaller : goal.loop-i-smaller
loop-i-smaller c = (near (goal.at.loop-i-smaller c).After-passed-j).1.0

pub bounds-theirs-b-in-loop-i : goal.bounds-theirs-b-in-loop-i
bounds-theirs-b-in-loop-i c = omega (
  arith,
  c.place-b.ensures.0,
  c.loop-i.invariant.0.4,
)

pub passed-i-requires : goal.passed-i-requires
passed-i-requires c = omega (
  arith,
  c.loop-i.invariant.0.0,
  c.places-n.ensures.0.0,
)

pub passed-j-requires : goal.passed-j-requires
passed-j-requires c = omega (
  arith,
  c.loop-i.invariant.0.1,
  c.places-m.ensures.0.0,
)

pub bounds-items-k : goal.bounds-items-k
bounds-items-k c = omega (
  arith,
  c.place-k.ensures.0,
  c.loop-i.invariant.0.5,
)

pub overflow_add-count : goal.overflow_add-count
overflow_add-count c =
    let t = c.before.before.before.before.before.before.before.before.before.before.before.before.before.before.before.before.before.before.before in
    omega (
      arith,
      t.loop-i.invariant.0.0,
      t.loop-i.invariant.0.1,
      t.loop-i.invariant.0.2,
      t.places-m.ensures.0.0,
      t.places-n.ensures.0.0,
    )
