-- `times` meets its contract: the loop sifts the other entry's values, and only their number is kept.
use mathlib.Core.List.{[]}
use Prim.Native.Nat.{◌≤◌, ◌<◌}
use lib.ListN.{length, get_or}
use Rattle.listlaws.proofs.SliceSifting.{Sifting}
use Rattle.register.specs.Values.{no_value}
use Rattle.entries.specs.declared.Entry.{Entry}
use Rattle.entries.specs.Model.{values_in}
use Rattle.equality.specs.Equality.{same_pair}
use Rattle.entrywalk.specs.Walking.{LiesAt}
use Rattle.differing.proofs.pairing.times.Given as goal

abbrev pub invariant-loop-k : goal.invariant-loop-k
invariant-loop-k l = (l.count ≤ l.k) × ((e f : Entry) → LiesAt l.s e l.x → l.i < length (values_in e) → LiesAt l.t f l.y
    → Sifting length (same_pair (get_or (values_in e) l.i no_value)) (λ w. w) [] (values_in f) l.k l.count)
