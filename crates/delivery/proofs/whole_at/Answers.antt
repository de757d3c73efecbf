-- `whole_at` meets its contract.
use mathlib.Core.Path.{ap, ap₂, sym, ◌∙◌}
use mathlib.Core.Bool.{◌&&◌}
use Rattle.clock.specs.Dots.{covers}
use Rattle.scan.specs.Each.{every}
use Rattle.maprecords.specs.Related.{dotted}
use Rattle.delivery.proofs.Views.{entry-dots, entry-values}
use Rattle.delivery.proofs.whole_at.Goals as goal

pub returns : goal.returns
returns c =
    let a = c.args in
    ap₂ (λ x y. x && y) (c.covers_at.ensures ∙ ap (covers _) (sym (entry-dots a.mem.now a.j)))
    (c.dotted_at.ensures ∙ ap (every dotted) (sym (entry-values a.mem.now a.j)))
