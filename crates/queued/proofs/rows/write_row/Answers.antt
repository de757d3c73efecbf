-- `write_row` meets its contract: a mark a turn.
use mathlib.Core.Path.{◌≡◌}
use mathlib.Core.List.{[], ◌∷◌}
use lib.ListN.{length}
use native.Mathlib.Omega.{arith}
use Rattle.limits.specs.Limits.{waiting_limit}
use Rattle.records.proofs.Writing.{write-start, write-room, write-on, write-end, wrote_one}
use Rattle.opimage.specs.OpImage.{key_record}
use Rattle.queued.proofs.Rowing.{row-yes, row-no, row-end}
use borrow.Author.Rules.{rules}
use Rattle.queued.proofs.rows.write_row.Goals.{then-listed, else-listed}
use Rattle.queued.proofs.rows.write_row.Goals as goal

pub loop-k-init : goal.loop-k-init
loop-k-init c = write-start _ _ _ c.requires

pub write_record-next-requires : goal.write_record-next-requires
write_record-next-requires c =
    let a = c.args in
    let i = c.loop-k.k in
    let n : length a.under ≡ waiting_limit = search rules in
    let e = row-yes a.key a.under i (omega arith) c.if-listed.true in
    omega (arith, (write-room _ _ _ (key_record 6 i a.key ∷ []) _ c.loop-k.invariant e).0)

pub loop-k-preserved : goal.loop-k-preserved
loop-k-preserved c =
    let a = c.args in
    let i = c.loop-k.k in
    let n : length a.under ≡ waiting_limit = search rules in
    let g = c.loop-k.invariant in
    elim c.if-listed.branch [
      | then-listed z ↦ rw (z.out-is, z.next-is) (write-on _ _ _ (key_record 6 i a.key ∷ []) g
          (row-yes a.key a.under i (omega arith) z.if-listed.true) (wrote_one _ _ _ _ _ z.write_record-next.ensures))
      | else-listed z ↦ rw (z.out-is, z.next-is) (rw (row-no a.key a.under i (omega arith) z.if-listed.false) at g)
    ]

pub returns : goal.returns
returns c = write-end _ _ _ c.loop-k.invariant (row-end c.args.key c.args.under c.loop-k.k (omega arith))
