-- `Wide::narrow` meets its contract: the values go into a new register.
use mathlib.Core.Path.{◌≡◌, ◌∙◌}
use Rattle.register.specs.InHand.{wide_values}
use Rattle.register.proofs.Packs.{laid}
use Rattle.register.proofs.Wide.narrow.Goals as goal

pub returns : goal.returns
returns c =
    let l : c.copy_from_slice.new.self ≡ wide_values c.args.self = c.copy_from_slice.ensures.after ∙ c.as_slice.ensures in
    rw (l, c.new-out.ensures, c.size-n.ensures.0) (laid (wide_values c.args.self))
