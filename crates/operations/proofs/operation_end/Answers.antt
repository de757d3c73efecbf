-- `operation_end` meets its contract: no head comes before it stops.
use mathlib.Core.Path.{sym, ◌∙◌}
use Prim.Native.Nat.{◌+◌, ◌*◌}
use native.Mathlib.Omega.{arith}
use Rattle.promises.proofs.Cuts.{head_at}
use Rattle.operations.proofs.Walks.{walked_start, walked_on, walked-head, walked_end, short-end}
use Rattle.operations.proofs.operation_end.Goals as goal

pub returns-then-n-at-lt16 : goal.returns-then-n-at-lt16
returns-then-n-at-lt16 c = let a = c.args in short-end a.list.now a.at c.requires (omega arith)

pub loop-k-init : goal.loop-k-init
loop-k-init c = let a = c.args in walked_start a.list.now a.at (omega arith)

pub returns-then-is_head : goal.returns-then-is_head
returns-then-is_head c =
    let a = c.args in
    let p = a.at + c.loop-k.k * 16 in
    walked-head a.list.now a.at p (omega arith) c.loop-k.invariant (omega arith)
    (head_at a.list.now p (omega arith) ∙ sym c.is_head.ensures ∙ c.if-is_head.true)

pub loop-k-preserved : goal.loop-k-preserved
loop-k-preserved c =
    let a = c.args in
    let p = a.at + c.loop-k.k * 16 in
    walked_on a.list.now a.at p (omega arith) c.loop-k.invariant (omega arith) (omega arith)
    (head_at a.list.now p (omega arith) ∙ sym c.is_head.ensures ∙ c.if-is_head.false)

pub returns : goal.returns
returns c =
    let a = c.args in
    walked_end a.list.now a.at (a.at + c.loop-k.k * 16) (omega arith) (omega arith) (omega arith) c.loop-k.invariant
