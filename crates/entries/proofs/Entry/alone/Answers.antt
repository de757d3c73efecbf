-- `Entry::alone` meets its contract.
use Rattle.std.specs.Prelude.{Some}
use mathlib.Core.Path.{ap, sym, ◌∙◌}
use Rattle.clock.proofs.Packs.{dots-of, cut_left}
use Rattle.register.proofs.Packs.{wide-values}
use Rattle.entries.specs.Entries.{cut_alone, alone}
use Rattle.entries.proofs.Packs.{wide-as}
use Rattle.entries.proofs.Entry.alone.Goals as goal

pub returns-then-covers : goal.returns-then-covers
unfolding alone
returns-then-covers c = rw (sym c.covers.ensures ∙ c.if-covers.true)

pub returns : goal.returns
unfolding alone cut_alone
returns c =
    let w = c.before in
    let d = w.before.before in
    let k = d.before.before in
    let i = k.before in
    let left = cut_left _ _ k.cut.ensures in
    rw (sym i.covers.ensures ∙ i.if-covers.false)
    (rw (left, c.cut-wide.ensures, wide-values _ w.wide.ensures, dots-of _ (cut_left _ _ d.cut-2.ensures), dots-of _ left)
    (ap Some (sym (wide-as _ _ _))))
