-- `lead_of` meets its contract: the loop looks for the first lead below with the same clock.
use mathlib.Core.Path.{ap, ap₂, sym, ◌∙◌}
use mathlib.Core.Bool.{◌&&◌, and-false}
use native.Mathlib.Omega.{arith}
use borrow.Author.Tests.{not-true, not-false}
use Rattle.salvagerules.specs.Indexes.{waiting_clock, same_dots}
use Rattle.mending.specs.Tables.{fourth_of}
use Rattle.mending.proofs.Leading.{used-told, used-means, unused-means, passed_on, led-found, led-own, led-none}
use mathlib.Core.Bool.{not}
use Rattle.mending.proofs.lead_of.Goals.{else-is_lead-via-then-is_lead+else-waits_same, else-is_lead-via-else-is_lead}
use Rattle.mending.proofs.lead_of.Goals as goal

pub returns-then-not-has_left : goal.returns-then-not-has_left
returns-then-not-has_left c =
    let a = c.args in
    let p = c.requires in
    led-none (fourth_of a.marks.now a.image.now) p.2 a.index
    (unused-means (fourth_of a.marks.now a.image.now) p.2 a.index
    (used-told a.marks.now a.image.now p.0 a.index c.of_index.ensures c.has_left.ensures
    ∙ not-true _ (ap not c.if-not-has_left.true)))

pub returns-then-waits_same : goal.returns-then-waits_same
returns-then-waits_same c =
    let a = c.args in
    let p = c.requires in
    let k = fourth_of a.marks.now a.image.now in
    led-found k p.2 a.leads.now a.index c.loop-i.invariant.0 p.3 c.loop-i.i c.loop-i-test.true
    (sym c.is_lead.ensures ∙ c.if-is_lead.true) (sym c.waits_same.ensures ∙ c.if-waits_same.true)
    (used-means k p.2 a.index
    (used-told a.marks.now a.image.now p.0 a.index
    c.of_index.ensures
    c.has_left.ensures ∙ not-false _
    (ap not c.if-not-has_left.false)))

pub returns : goal.returns
returns c =
    let a = c.args in
    let p = c.requires in
    let k = fourth_of a.marks.now a.image.now in
    led-own k p.2 a.leads.now a.index c.loop-i.invariant.0 p.3
    (λ j h. c.loop-i.invariant.1 j (omega (arith, c.loop-i-test.false)))
    (used-means k p.2 a.index
    (used-told a.marks.now a.image.now p.0 a.index c.of_index.ensures
    c.has_left.ensures ∙ not-false _ (ap not c.if-not-has_left.false)))

pub loop-i-preserved : goal.loop-i-preserved
loop-i-preserved c =
    let a = c.args in
    let k = fourth_of a.marks.now a.image.now in (
      c.loop-i.invariant.0,
      passed_on k c.requires.2 a.leads.now a.index c.loop-i.invariant.0 c.requires.3 c.loop-i.invariant.1
          (elim c.else-is_lead.branch [
            | else-is_lead-via-then-is_lead+else-waits_same w ↦
                ap₂ (λ x y. x && y) (sym c.is_lead.ensures) (sym w.waits_same.ensures ∙ w.if-waits_same.false) ∙ and-false c.is_lead.result
            | else-is_lead-via-else-is_lead w ↦
                ap (λ x. x && same_dots (waiting_clock k c.loop-i.i) (waiting_clock k a.index)) (sym c.is_lead.ensures ∙ w.if-is_lead.false)
          ]),
    )
