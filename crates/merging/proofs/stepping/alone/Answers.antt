-- `alone` meets its contract: the entry's clock cut, and the other map's clock cut by what is left.
use mathlib.Core.Path.{refl, ap, ap₂, ◌∙◌}
use Rattle.clock.specs.Dots.{clock_of, cut_dots}
use Rattle.clock.proofs.Packs.{dots-of, cut_left}
use Rattle.merging.proofs.stepping.alone.Goals as goal

pub own_left-keep-requires : goal.own_left-keep-requires
own_left-keep-requires c =
    let p = c.requires in
    let g = c.entry_at-entry.ensures p.1.0.0 p.1.0.1 in
    ((g.entry, g.lies), p.1.1)

pub returns : goal.returns
returns c = λ es h.
    let g = c.entry_at-entry.ensures es h in
    let k = c.own_left-keep.ensures g.entry g.lies in
    record { steps = g; keep = k; gone = cut_left _ _ c.cut.ensures ∙ ap clock_of (ap₂ cut_dots (dots-of _ k) refl) }
