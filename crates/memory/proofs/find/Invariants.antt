-- `find` meets its contract.
use Rattle.memory.proofs.Looking.{Looking}
use Rattle.memory.proofs.find.Given as goal

abbrev pub invariant-loop-j : goal.invariant-loop-j
invariant-loop-j l = Looking l.mem l.n l.key l.j
