-- `Register::clock_over` meets its contract: the loop joins one clock after the other.
use Rattle.listlaws.proofs.SliceFolding.{folding-start, folding-on, folding-end}
use Rattle.register.specs.Values.{clock_over}
use Rattle.register.proofs.Packs.{none_read}
use native.Mathlib.Omega.{arith}
use Rattle.register.proofs.Register.clock_over.Goals as goal

pub loop-v-init : goal.loop-v-init
loop-v-init c = folding-start c.new-out.ensures

pub loop-v-preserved : goal.loop-v-preserved
loop-v-preserved c = folding-on none_read c.loop-v.invariant c.loop-v-test.true c.join-out.ensures

pub returns : goal.returns
unfolding clock_over
returns c = rw (← c.as_slice-v-items.ensures) (folding-end c.loop-v.invariant (omega arith))
