-- `find_ranks` meets its contract: the table is filled index by index.
use mathlib.Core.Path.{◌≡◌, ◌∙◌}
use native.Mathlib.Omega.{arith}
use lib.ListN.{length-set}
use Rattle.listlaws.specs.Order.{◌∈◌}
use Rattle.salvagerules.specs.Indexes.{waiting_indexes, waiting_index}
use Rattle.mending.specs.Tables.{fourth_of}
use Rattle.mending.proofs.Leading.{table-set, table-skip}
use Rattle.mending.proofs.find_ranks.Goals.{then-leads-i, else-leads-i}
use Rattle.mending.proofs.find_ranks.Goals as goal

pub returns : goal.returns
returns c =
    let p = c.requires in
    record { long = c.loop-i.invariant.0; each = λ w m. c.loop-i.invariant.1 w (omega (arith, p.2.bytes w m, c.loop-i-test.false)) m }

pub loop-i-preserved : goal.loop-i-preserved
loop-i-preserved c =
    let a = c.args in
    let k = fourth_of a.marks.now a.image.now in
    elim c.if-leads-i.branch [
      | then-leads-i w ↦
          rw w.ranks-is (
            length-set c.loop-i.ranks c.loop-i.i _ ∙ c.loop-i.invariant.0,
            table-set (λ v x. v ∈ waiting_indexes k → x ≡ waiting_index k v) c.loop-i.ranks c.loop-i.i c.loop-i.invariant.1 _
                (omega (arith, c.loop-i-test.true, c.loop-i.invariant.0)) (λ _. w.rank_of.ensures),
          )
      | else-leads-i w ↦
          rw w.ranks-is (
            c.loop-i.invariant.0,
            table-skip (λ v x. v ∈ waiting_indexes k → x ≡ waiting_index k v) c.loop-i.ranks c.loop-i.i c.loop-i.invariant.1
                (λ m. let r = (c.requires.2.each c.loop-i.i (omega (arith, c.loop-i-test.true))).waits m in
                absurd (omega (arith, r.3, w.if-leads-i.false, c.loop-i-test.true))),
          )
    ]
