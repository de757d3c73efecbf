-- `rm_read_ctx` meets its contract: the map clock is laid down.
use mathlib.Core.Path.{ap, ◌∙◌}
use mathlib.Core.Bool.{false}
use mathlib.Core.List.{[], ◌∷◌}
use Rattle.removals.specs.Model.{keys_as}
use Rattle.entries.specs.Model.{no_update}
use Rattle.asking.proofs.rm_read_ctx.Goals as goal

pub returns : goal.returns
returns c =
    let z = c.before in
    c.rm.ensures ∙ ap (λ m. record { up = false; removal = record { clock = m.clock; keys = keys_as (z.args.key ∷ []) }; update = no_update })
    z.requires.valid.laid
