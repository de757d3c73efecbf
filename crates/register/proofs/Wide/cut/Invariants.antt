-- `Wide::cut` meets its contract: the loop sifts the values, each cut.
use mathlib.Core.List.{[]}
use Prim.Native.Nat.{◌≤◌}
use Rattle.listlaws.proofs.SliceSifting.{Sifting}
use Rattle.clock.specs.Dots.{dots_of}
use Rattle.register.specs.InHand.{wide_of}
use Rattle.register.specs.Values.{alive, cut_value}
use Rattle.register.proofs.Wide.cut.Given as goal

abbrev pub invariant-loop-v : goal.invariant-loop-v
invariant-loop-v l = (l.out.len ≤ l.v-index) × Sifting wide_of alive (cut_value (dots_of l.by)) [] l.v-items l.v-index l.out
