-- The longest operation, computed: a removal with every place in use.
use mathlib.Core.Path.{◌≡◌, refl}
use Prim.Native.Nat.{◌*◌}
use lib.ListN.{length, replicate}
use Rattle.listlaws.specs.Pad.{pad}
use Rattle.limits.specs.Limits.{dot_limit, key_limit}
use Rattle.clock.specs.Dots.{no_dot}
use Rattle.removals.specs.Model.{removal_as}
use Rattle.opimage.specs.OpImage.{op_longest, removal_records}

-- end theorems, both
full-longest : length (removal_records (removal_as (replicate dot_limit no_dot) (replicate key_limit 0))) * 16 ≡ op_longest
unfolding pad
full-longest = refl

longest : op_longest ≡ 400
longest = refl
