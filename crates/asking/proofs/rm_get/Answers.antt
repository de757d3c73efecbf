-- `rm_get` meets its contract: the entry's clock is laid down, and empty where there is none.
use mathlib.Core.Path.{◌≡◌, ap, ◌∙◌}
use mathlib.Core.Bool.{false}
use mathlib.Core.List.{[], ◌∷◌}
use Rattle.clock.specs.Dots.{clock_of}
use Rattle.entries.specs.Model.{dots_in, no_update}
use Rattle.removals.specs.Model.{keys_as}
use Rattle.entries.proofs.Puts.{at_every}
use Rattle.entries.proofs.Packs.{dots-in}
use Rattle.map.specs.Model.{entries_in}
use Rattle.asking.proofs.Askings.{clock-at}
use Rattle.asking.proofs.rm_get.Goals as goal

pub returns : goal.returns
returns c =
    let z = c.before.before in
    let m = z.args.map in
    let k = z.args.key in
    let laid = at_every (λ e. e.clock ≡ clock_of (dots_in e)) k (entries_in m) (λ e i q. ap (λ x. x.clock) (z.requires.valid.entries.each e i).laid)
    (rw (dots-in k [] [])) in
    c.rm.ensures ∙ ap (λ x. record { up = false; removal = record { clock = x; keys = keys_as (k ∷ []) }; update = no_update })
    (ap (λ e. e.clock) c.at-e.ensures ∙ laid ∙ ap clock_of (clock-at m k))
