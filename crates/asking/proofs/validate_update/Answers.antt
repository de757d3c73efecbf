-- `validate_update` meets its contract.
use mathlib.Core.Path.{◌∙◌}
use Rattle.asking.specs.Asking.{validate_update}
use Rattle.asking.proofs.Askings.{clock-at}
use Rattle.asking.proofs.validate_update.Goals as goal

pub returns : goal.returns
unfolding validate_update
returns c =
    let z = c.args in
    c.follow.ensures ∙ rw (c.at-e.ensures, clock-at z.map z.u.key)
