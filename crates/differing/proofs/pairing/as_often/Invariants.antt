-- `as_often` meets its contract: the loop looks for a value that stands in one entry more often.
use mathlib.Core.Bool.{true, false, not}
use lib.Dec.{eqb}
use Rattle.listlaws.proofs.SlicePassing.{Passing}
use Rattle.entries.specs.declared.Entry.{Entry}
use Rattle.entries.specs.Model.{values_in}
use Rattle.equality.specs.Equality.{times_in}
use Rattle.entrywalk.specs.Walking.{LiesAt}
use Rattle.differing.proofs.pairing.as_often.Given as goal

abbrev pub invariant-loop-i : goal.invariant-loop-i
invariant-loop-i l = (e f : Entry) → LiesAt l.s e l.x → LiesAt l.t f l.y
    → Passing (λ v. not (eqb (times_in (values_in e) v) (times_in (values_in f) v))) (λ v. false) true (values_in e) l.i
