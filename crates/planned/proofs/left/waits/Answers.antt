-- `waits` meets its contract: something is left behind the cut.
use mathlib.Core.Path.{ap, ◌∙◌}
use mathlib.Core.Bool.{not}
use Rattle.clock.specs.Dots.{is_empty}
use Rattle.planned.proofs.Lefts.{within_same, some_left}
use Rattle.planned.proofs.left.waits.Goals as goal

pub count-n-requires : goal.count-n-requires
count-n-requires c =
    let e = c.cut-rest.ensures.0.1 in
    (_, within_same c.requires.0.placed e.0 e.1)

pub returns : goal.returns
returns c =
    let k = c.cut-rest.ensures in
    let h = within_same c.requires.0.placed k.0.1.0 k.0.1.1 in
    some_left _ (c.count-n.ensures.1 _ h) ∙ ap (λ d. not (is_empty d)) k.1
