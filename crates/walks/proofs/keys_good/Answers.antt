-- `keys_good` meets its contract: the loop follows the definition.
use Prim.Native.Nat.{◌+◌, ◌*◌}
use borrow.Author.Rules.{rules}
use borrow.Author.Tests.{not-true, not-false}
use native.Mathlib.Omega.{arith}
use lib.ListN.{get_or}
use Rattle.walks.proofs.Loops.{keys-start, keys-fail, keys-lack, keys_on, keys-stop}
use Rattle.walks.proofs.Keys.{key-index, count_room}
use lib.ListN.{length-set}
use mathlib.Core.Bool.{not}
use mathlib.Core.Path.{ap}
use Rattle.walks.proofs.keys_good.Goals as goal

pub loop-i-init : goal.loop-i-init
loop-i-init c = (search rules, keys-start _ _ _ _)

pub returns-then-not-key_test : goal.returns-then-not-key_test
returns-then-not-key_test c = keys-fail _ _ _ _ c.loop-i.invariant.1 _ _ c.read_record-r.ensures
    c.key_test.ensures (omega arith) (not-true _ (ap not c.if-not-key_test.true))

pub bounds-counts-k : goal.bounds-counts-k
bounds-counts-k c = let k = key-index c.args.n
    c.read_record-r.result c.key_test.ensures
    (not-false _ (ap not c.if-not-key_test.false)) in omega arith

pub returns-then-not-low-x : goal.returns-then-not-low-x
returns-then-not-low-x c = keys-lack _ _ _ _ c.loop-i.invariant.1 _ _
    c.read_record-r.ensures c.key_test.ensures (omega arith)
    (not-false _ (ap not c.if-not-key_test.false)) (not-true _ (ap not c.if-not-low-x.true))

pub overflow_add-counts : goal.overflow_add-counts
overflow_add-counts c =
    let s = c.before.before.before.before.before.before.before.before in
    let r = c.read_record-r.result in
    let k = count_room s.loop-i.low (r.key * 256 + r.index) (get_or s.loop-i.counts r.index 0)
    (not-false _ (ap not c.if-not-low-x.false)) in omega arith

pub bounds-counts-k-in-loop-i : goal.bounds-counts-k-in-loop-i
bounds-counts-k-in-loop-i c = let k = key-index c.args.n
    c.read_record-r.result c.key_test.ensures
    (not-false _ (ap not c.if-not-key_test.false)) in omega arith

pub loop-i-preserved : goal.loop-i-preserved
loop-i-preserved c = (
  simp length-set (omega arith),
  keys_on _ _ _ _ c.loop-i.invariant.1 _ _
      c.read_record-r.ensures c.key_test.ensures (omega arith)
      (not-false _ (ap not c.if-not-key_test.false)) (not-false _ (ap not c.if-not-low-x.false)),
)

pub returns : goal.returns
returns c = keys-stop _ _ _ _ c.loop-i.invariant.1 (omega arith)
