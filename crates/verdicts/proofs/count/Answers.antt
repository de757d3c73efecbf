-- `count` meets its contract.
use mathlib.Core.Path.{refl, sym, ◌∙◌}
use Rattle.asking.specs.Asking as asking
use Rattle.answers.proofs.Answers.{both-pass, one-fails}
use Rattle.verdicts.proofs.Carrying.{carried-not, carried_here}
use Rattle.verdicts.proofs.count.Goals as goal

pub returns-then-l-ne0 : goal.returns-then-l-ne0
returns-then-l-ne0 c = carried-not 0 _ _ (one-fails _ 0 (λ e. c.if-l-ne0.true (c.lay_out-l.ensures.0 ∙ e)))

pub returns : goal.returns
unfolding asking.count
returns c =
    let m = c.lay_out-l.ensures in
    (m.1 c.if-l-ne0.false).entries ∙ carried_here 0 _ _ (both-pass _ 0 (sym m.0 ∙ c.if-l-ne0.false) refl) refl
