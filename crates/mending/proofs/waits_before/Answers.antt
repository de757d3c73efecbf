-- `waits_before` meets its contract: the loop passes equal dots.
use Prim.Native.Nat.{◌<◌, ◌/◌}
use native.Mathlib.Omega.{arith}
use lib.ListN.{length}
use borrow.Author.Tests.{ltb-true, lt-ltb}
use Rattle.mending.proofs.Dots.{compare-start, compare-actor, compare-counter, compare-on, compare-first, compare-second}
use Rattle.mending.proofs.waits_before.Goals.{then-loop-i-test+else-j-n, else-loop-i-test}
use Rattle.mending.proofs.waits_before.Goals as goal

pub loop-i-init : goal.loop-i-init
loop-i-init c = (
  c.dot_from-i.ensures.inside,
  c.dot_from-j.ensures.inside,
  compare-start c.dot_from-i.ensures
      c.dot_from-j.ensures,
)

pub overflow_mul-j : goal.overflow_mul-j
overflow_mul-j c = omega (arith, ltb-true)

pub read_record-y-requires : goal.read_record-y-requires
read_record-y-requires c = omega (arith, ltb-true)

pub returns-then-x-y : goal.returns-then-x-y
returns-then-x-y c =
    let s = c.before.before.before.before.before.before.before.before.before in
    let a = c.args in
    let k : s.loop-i.j < length a.image.now / 16 = c.if-j-n.true in
    compare-actor s.loop-i.invariant.2 (omega (arith, c.loop-i-test.true)) k
    c.read_record-x.ensures
    c.read_record-y.ensures c.if-x-y.true

pub returns-then-x-y-2 : goal.returns-then-x-y-2
returns-then-x-y-2 c =
    let s = c.before.before.before.before.before.before.before.before.before.before.before.before in
    let a = c.args in
    let k : s.loop-i.j < length a.image.now / 16 = ltb-true _ _
    (lt-ltb _ _ c.if-j-n.true) in
    compare-counter s.loop-i.invariant.2 (omega (
      arith,
      c.loop-i-test.true,
    )) k
    c.read_record-x.ensures
    c.read_record-y.ensures
    c.if-x-y.false
    c.if-x-y-2.true

pub overflow_add-i : goal.overflow_add-i
overflow_add-i c = omega (
  arith,
  c.loop-i-test.true,
  c.well_formed,
)

pub dot_from-i-requires-in-loop-i : goal.dot_from-i-requires-in-loop-i
dot_from-i-requires-in-loop-i c = (
  omega (arith, c.loop-i-test.true),
  c.requires,
)

pub overflow_add-j : goal.overflow_add-j
overflow_add-j c =
    let a = c.args in
    let k : c.loop-i.j < length
    a.image.now / 16 = c.if-j-n.true in
    omega (
      arith,
      k,
      c.well_formed,
    )

pub dot_from-j-requires-in-loop-i : goal.dot_from-j-requires-in-loop-i
dot_from-j-requires-in-loop-i c =
    let a = c.args in
    let k : c.loop-i.j < length
    a.image.now / 16 = c.if-j-n.true in (
      omega (arith, k),
      c.requires,
    )

pub loop-i-smaller : goal.loop-i-smaller
loop-i-smaller c = omega (
  arith,
  c.dot_from-i-in-loop-i.ensures.above,
  c.dot_from-i-in-loop-i.ensures.inside,
  c.loop-i-test.true,
)

pub loop-i-preserved : goal.loop-i-preserved
loop-i-preserved c =
    let s = c.before.before.before.before.before.before.before.before.before.before.before.before in
    let a = c.args in
    let k : s.loop-i.j < length a.image.now / 16 = ltb-true _ _
    (lt-ltb _ _ c.if-j-n.true) in (
      c.dot_from-i-in-loop-i.ensures.inside,
      c.dot_from-j-in-loop-i.ensures.inside,
      compare-on s.loop-i.invariant.2 (omega (
        arith,
        c.loop-i-test.true,
      )) k
          c.read_record-x.ensures
          c.read_record-y.ensures
          c.if-x-y.false
          c.if-x-y-2.false c.dot_from-i-in-loop-i.ensures c.dot_from-j-in-loop-i.ensures,
    )

pub returns : goal.returns
returns c =
    let s = c.before in
    elim c.loop-i-test.branch [
      | then-loop-i-test+else-j-n w ↦ compare-second c.requires s.loop-i.invariant.2 w.if-j-n.false
      | else-loop-i-test w ↦ compare-first c.requires s.loop-i.invariant.2 (omega (arith, w.loop-i-test.false))
    ]
