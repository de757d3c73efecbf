-- `cut_at` meets its contract: the removal's whole run is cut.
use mathlib.Core.Bool.{false}
use Rattle.planned.proofs.Lefts.{whole-clear, cut_left}
use Rattle.planned.proofs.seating.cut_at.Goals as goal

pub cut-requires : goal.cut-requires
cut-requires c =
    let p = c.requires in
    (rw c.whole-x.ensures (whole-clear false (p.0.1.each _ p.0.2)), p.1)

pub returns : goal.returns
returns c = λ w q h. cut_left w _ _ h (q.each _ h) c.whole-x.ensures c.cut.ensures.0 c.cut.ensures.1
