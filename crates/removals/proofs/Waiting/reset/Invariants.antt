-- `Waiting::reset` meets its contract: the loop cuts each removal, and unites those that are left.
use Rattle.clock.specs.Dots.{dots_of}
use Rattle.removals.proofs.Resetting.{Resetting}
use Rattle.removals.proofs.Waiting.reset.Given as goal

abbrev pub invariant-loop-w : goal.invariant-loop-w
invariant-loop-w l = Resetting (dots_of l.by) l.w-items l.w-index l.out
