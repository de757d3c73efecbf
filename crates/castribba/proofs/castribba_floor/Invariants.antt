-- `castribba_floor` meets its contract: after each turn the walk has the floor of the peers that it has read.
use Rattle.std.proofs.Common.{◌≡◌}
use Rattle.flooring.specs.Steps.{floored_to}
use Rattle.castribba.proofs.castribba_floor.Given as goal

abbrev pub invariant-loop-peer : goal.invariant-loop-peer
invariant-loop-peer l = l.f ≡ floored_to l.fn.peers l.peer-index
