-- `first_twice` meets its contract: the walk looks for an entry at which something is spent twice.
use mathlib.Core.Path.{◌≡◌}
use mathlib.Core.List.{List}
use Prim.Native.Nat.{◌-◌}
use Rattle.keyed.specs.Keyed.{Owned}
use Rattle.clock.specs.Dots.{dots_of}
use Rattle.entries.specs.declared.Entry.{Entry}
use Rattle.entries.specs.Model.{dots_in}
use Rattle.map.specs.Model.{entries_in}
use Rattle.keyed.specs.declared.Stop.{Stop}
use Rattle.asking.specs.declared.CvRDTValidation.{CvRDTValidation}
use Rattle.maprecords.specs.Related.{read_map}
use Rattle.direct.proofs.Seeking.{Seeking}
use Rattle.direct.proofs.validating.first_twice.Given as goal

abbrev pub invariant-loop-at : goal.invariant-loop-at
invariant-loop-at g l = ((rest : List Entry) × Owned l.image l.at l.end rest)
    × ((f : Entry → CvRDTValidation)
    → ((e : Entry) (x : Stop) (p : CvRDTValidation) → x.key ≡ e.key → dots_of x.clock ≡ dots_in e → goal.F-post g l.spent x p → p ≡ f e)
    → Seeking f (entries_in (read_map l.image).map) l.image l.end l.at)

abbrev pub decreases-loop-at : goal.decreases-loop-at
decreases-loop-at g l = l.end - l.at
