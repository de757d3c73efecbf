-- `Wide::trail` meets its contract: the register's values go behind the last.
use mathlib.Core.Path.{◌≡◌, ◌∙◌}
use Rattle.register.specs.Values.{values_of}
use Rattle.register.proofs.Packs.{wide-trailed}
use Rattle.register.proofs.Wide.trail.Goals as goal

pub returns : goal.returns
returns c = λ l e.
    let m : c.copy_from_slice.new.self ≡ values_of c.args.from = c.copy_from_slice.ensures.after ∙ c.as_slice.ensures in
    rw (e, m, c.size.ensures.0) (wide-trailed l (values_of c.args.from))
