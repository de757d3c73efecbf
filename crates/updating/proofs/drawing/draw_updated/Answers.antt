-- `draw_updated` meets its contract: where nothing waits, no removals lie anywhere.
use mathlib.Core.Path.{sym, subst}
use native.Mathlib.Omega.{arith}
use Rattle.queued.specs.Queue.{Keyed, Queued}
use Rattle.queued.proofs.Starts.{none-queued, keyed-image, keyed-none}
use Rattle.updating.proofs.drawing.draw_updated.Goals as goal

pub draw_keys-requires : goal.draw_keys-requires
draw_keys-requires c =
    let p = c.requires in
    let none = sym (none-queued _ p.0.1 c.if-q-eq0.true) in (
      (p.0.0, subst (Queued _ _) none (c.none-none.ensures _)),
      (p.1.0, (p.1.1.0, (p.1.1.1.0, (p.1.1.1.1, subst (Keyed _ _ _ _) none (keyed-none _ 0 (omega arith)))))),
    )

pub draw_keys-requires-2 : goal.draw_keys-requires-2
draw_keys-requires-2 c =
    let p = c.requires in
    (p.0, (p.1.0, (p.1.1.0, (p.1.1.1.0, (p.1.1.1.1, keyed-image p.0.0)))))
