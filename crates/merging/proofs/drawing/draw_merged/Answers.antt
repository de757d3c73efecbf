-- `draw_merged` meets its contract: where nothing waits, no removals lie anywhere.
use mathlib.Core.Path.{sym, subst}
use native.Mathlib.Omega.{arith}
use Rattle.queued.specs.Queue.{Queued}
use Rattle.queued.proofs.Starts.{none-queued}
use Rattle.merging.proofs.drawing.draw_merged.Goals as goal

pub draw_keys-requires : goal.draw_keys-requires
draw_keys-requires c =
    let p = c.requires in
    let q = p.1.0 in
    let k = c.if-cs-ds-eq0.true in (
      p.0,
      (
        (
          subst (Queued _ _) (sym (none-queued _ q.0 (omega arith))) (c.none-none.ensures _),
          subst (Queued _ _) (sym (none-queued _ q.1 (omega arith))) (c.none-none.ensures _),
        ),
        p.1.1,
      ),
    )
