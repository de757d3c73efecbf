-- `Register::contents` meets its contract: the loop adds one value after the other.
use mathlib.Core.Path.{refl}
use mathlib.Core.List.{[]}
use Rattle.listlaws.specs.Pad.{pad}
use Rattle.listlaws.proofs.SliceTrailing.{trailing-start}
use Rattle.register.proofs.Register.contents.Goals as goal

pub loop-v-init : goal.loop-v-init
unfolding pad
loop-v-init c = trailing-start [] refl refl
