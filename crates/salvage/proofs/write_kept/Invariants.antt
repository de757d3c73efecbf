-- `write_kept` meets its contract: the least record above the last, again and again.
use Prim.Native.Nat.{◌-◌}
use Rattle.records.proofs.Writing.{Writing}
use Rattle.opimage.specs.OpImage.{no_record}
use Rattle.culling.specs.Marks.{marked_of}
use Rattle.salvage.specs.Selecting.{kept_of, select_from}
use Rattle.salvage.proofs.write_kept.Given as goal

abbrev pub invariant-loop : goal.invariant-loop
invariant-loop l = Writing (select_from l.n no_record (kept_of (marked_of l.marks l.image)))
    (select_from (l.n - l.counter) l.last (kept_of (marked_of l.marks l.image))) 0 l.initial.out l.out l.next
