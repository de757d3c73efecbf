-- `Register::contents` meets its contract: the loop adds one value after the other.
use mathlib.Core.List.{map}
use Rattle.listlaws.proofs.SliceTrailing.{Trailing}
use Rattle.register.specs.Values.{contents_of}
use Rattle.register.proofs.Register.contents.Given as goal

abbrev pub invariant-loop-v : goal.invariant-loop-v
invariant-loop-v l = Trailing contents_of (λ v. v.value) (map (λ v. v.value) l.v-items) l.v-items l.v-index l.out
