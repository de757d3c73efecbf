-- `row` meets its contract: the lower of both heads, and the marks of both lists.
use mathlib.Core.Logic.{⊎_elim}
use Prim.Native.Nat.{◌+◌, ◌<◌}
use native.Mathlib.Omega.{arith}
use Rattle.queued.proofs.Rowing.{headed, heads-first, heads-second, head_of, head_small, lower, row-above, row-marked, row_lies}
use borrow.Author.Rules.{rules}
use Rattle.queued.proofs.rows.row.Goals as goal

pub overflow_cast-key : goal.overflow_cast-key
overflow_cast-key c =
    let z = c.args in
    let a = c.head-a.ensures in
    let b = c.head-b.ensures in
    let h = head_small (headed z.s.now z.i z.n _ a.0 a.1) (headed z.t.now z.j z.m _ b.0 b.1) c.requires.1.1 (lower _ _ c.min-key.ensures) in
    search rules

pub returns : goal.returns
returns c =
    let z = c.args in
    let a = c.head-a.ensures in
    let b = c.head-b.ensures in
    let ha = headed z.s.now z.i z.n _ a.0 a.1 in
    let hb = headed z.t.now z.j z.m _ b.0 b.1 in
    let some = c.requires.1.1 in
    let least = lower _ _ c.min-key.ensures in
    let of = head_of ha hb some least in
    let first = heads-first ha hb some least in
    let second = heads-second ha hb some least in
    let one = c.listers-x.ensures in
    let two = c.listers-y.ensures in
    let onward : z.i + z.j < c.listers-x.result.next + c.listers-y.result.next =
    ⊎_elim (λ h. let q = h.1 in let p = one.0.1.1 h.0 (omega arith) in omega arith) (λ h. let q = h.1 in
    let p = two.0.1.1 h.0 (omega arith) in omega arith) of in (
      (one.0.0, (one.0.1.0, (two.0.0, (two.0.1.0, onward)))),
      λ low w v result kw kv mv.
          let up = row-above kw kv mv first second of in
          let p = one.1 _ w kw (omega arith) in
          let q = two.1 _ v kv (omega arith) in
          row_lies kw kv mv first second of
          c.carry-under.ensures.whole (row-marked mv p.0 q.0 c.carry-first.ensures c.carry-under.ensures) _ _ p.1 q.1,
    )
