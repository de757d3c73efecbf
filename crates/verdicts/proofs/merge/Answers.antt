-- `merge` meets its contract: a refused image's number, or what both say.
use mathlib.Core.Path.{ap, sym, ◌∙◌}
use Rattle.asking.specs.declared.CvRDTValidation.TheVariants.{Once}
use Rattle.asking.specs.Asking.{spent_number}
use Rattle.answers.proofs.Answers.{number-first, number-second, both-pass, one-fails, other-fails}
use Rattle.verdicts.proofs.Carrying.{number_passed, nothing-found, found}
use Rattle.verdicts.proofs.merge.Goals as goal

pub returns-then-l-ne0 : goal.returns-then-l-ne0
returns-then-l-ne0 c =
    let m = c.lay_out-l.ensures.0 in
    let p = sym (number-first _ _ m c.if-l-ne0.true) in
    let q = nothing-found _ _ _ Once (one-fails _ _ (λ e. c.if-l-ne0.true (m ∙ e))) in
    λ i. record { number = p i; spent = q i }

pub returns-then-o-ne0 : goal.returns-then-o-ne0
returns-then-o-ne0 c =
    let m = sym c.lay_out-l.ensures.0 ∙ c.if-l-ne0.false in
    let o = c.lay_out-o.ensures.0 in
    let p = sym (number-second _ _ m o c.if-o-ne0.true) in
    let q = nothing-found _ _ _ Once (other-fails _ _ m (λ e. c.if-o-ne0.true (o ∙ e))) in
    λ i. record { number = p i; spent = q i }

pub spent_between-spent-requires : goal.spent_between-spent-requires
spent_between-spent-requires c =
    let first = (c.lay_out-l.ensures.1 c.if-l-ne0.false).lies in
    let second = (c.lay_out-o.ensures.1 c.if-o-ne0.false).lies in
    (first, second)

pub returns : goal.returns
returns c =
    let mm = c.lay_out-l.ensures in
    let oo = c.lay_out-o.ensures in
    let m = sym mm.0 ∙ c.if-l-ne0.false in
    let o = sym oo.0 ∙ c.if-o-ne0.false in
    let v = c.spent_between-spent.ensures in
    let p = c.spent_number.ensures ∙ ap spent_number v ∙ number_passed _ _ _ m o in
    let q = v ∙ found _ _ _ Once (both-pass _ _ m o) in
    λ i. record { number = p i; spent = q i }
