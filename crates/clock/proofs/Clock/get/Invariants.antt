-- `Clock::get` meets its contract: the loop looks for the actor's dot.
use lib.Dec.{eqb}
use Rattle.listlaws.proofs.SlicePassing.{Passing}
use Rattle.clock.proofs.Clock.get.Given as goal

abbrev pub invariant-loop-d : goal.invariant-loop-d
invariant-loop-d l = Passing (λ d. eqb d.actor l.actor) (λ d. d.counter) 0 l.d-items l.d-index
