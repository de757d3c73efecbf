-- `Register::standing` meets its contract: the loop sifts the values.
use mathlib.Core.List.{[]}
use Prim.Native.Nat.{◌≤◌}
use Rattle.listlaws.proofs.SliceSifting.{Sifting}
use Rattle.register.specs.Values.{values_of, register_of, standing}
use Rattle.register.proofs.Register.standing.Given as goal

abbrev pub invariant-loop-v : goal.invariant-loop-v
invariant-loop-v l = (l.out.len ≤ l.v-index) × Sifting register_of (standing l.equal_too (values_of l.over)) (λ v. v) [] l.v-items l.v-index l.out
