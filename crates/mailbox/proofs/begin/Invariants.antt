-- `begin` meets its contract.
use mathlib.Core.Path.{◌≡◌}
use lib.ListN.{length}
use Rattle.records.specs.Bytes.{placed}
use Rattle.memory.specs.Memory.{reader_room, length_place}
use Rattle.mailbox.specs.Machine.{zeros}
use Rattle.mailbox.proofs.begin.Given as goal

abbrev pub invariant-loop-i : goal.invariant-loop-i
invariant-loop-i l = (length l.initial.mem ≡ reader_room) × (l.mem ≡ placed length_place (zeros l.i) l.initial.mem)
