-- `rank_of` meets its contract: the loop counts the leading indexes whose clock stands before.
use mathlib.Core.Path.{◌≡◌, refl, ap, ap₂, sym, ◌∙◌}
use mathlib.Core.Bool.{◌&&◌, and-false}
use native.Mathlib.Omega.{arith}
use lib.Dec.{eqb}
use lib.ListN.{length, get_or}
use Rattle.listlaws.specs.Sift.{sift, those}
use Rattle.scan.proofs.Eachs.{both}
use Rattle.removals.specs.Waits.{clock_before}
use Rattle.maprecords.specs.Reading.{numbers_below}
use Rattle.salvagerules.specs.Indexes.{waiting_clock}
use Rattle.mending.specs.Tables.{fourth_of}
use Rattle.mending.proofs.Leading.{number_more, number-other, rank_is}
use Rattle.mending.proofs.rank_of.Goals.{then-is_lead+then-waits_before, else-is_lead}
use Rattle.mending.proofs.rank_of.Goals.{else-is_lead-via-then-is_lead+else-waits_before, else-is_lead-via-else-is_lead}
use Rattle.mending.proofs.rank_of.Goals as goal

pub loop-i-init : goal.loop-i-init
unfolding sift numbers_below
loop-i-init c = (omega arith, refl)

pub returns : goal.returns
returns c =
    let a = c.args in
    let p = c.requires in
    let e : c.loop-i.i ≡ 256 = omega (arith, c.loop-i.auto.i-end, c.loop-i-test.false) in
    c.loop-i.invariant.1
    ∙ ap (λ n. length (those (λ j. eqb (get_or a.leads.now j 0) j && clock_before (waiting_clock (fourth_of a.marks.now a.image.now) j)
    (waiting_clock (fourth_of a.marks.now a.image.now) a.index)) (numbers_below n))) e
    ∙ rank_is (fourth_of a.marks.now a.image.now) p.1 a.leads.now p.2 a.index

pub loop-i-preserved : goal.loop-i-preserved
loop-i-preserved c =
    let a = c.args in
    let clock = waiting_clock (fourth_of a.marks.now a.image.now) in
    elim c.if-is_lead.branch [
      | then-is_lead+then-waits_before w ↦
          rw w.count-is (
            omega (arith, c.loop-i.invariant.0),
            number_more _ c.loop-i.invariant.1
                (both _ _ (sym c.is_lead.ensures ∙ w.if-is_lead.true) (sym w.waits_before.ensures ∙ w.if-waits_before.true)),
          )
      | else-is_lead w ↦
          rw w.count-is (
            omega (arith, c.loop-i.invariant.0),
            number-other _ c.loop-i.invariant.1
                (elim w.else-is_lead.branch [
                  | else-is_lead-via-then-is_lead+else-waits_before v ↦
                      ap₂ (λ x y. x && y) (sym c.is_lead.ensures) (sym v.waits_before.ensures ∙ v.if-waits_before.false)
                      ∙ and-false c.is_lead.result
                  | else-is_lead-via-else-is_lead v ↦
                      ap (λ x. x && clock_before (clock c.loop-i.i) (clock a.index)) (sym c.is_lead.ensures ∙ v.if-is_lead.false)
                ]),
          )
    ]
