-- The longest clock, computed: every place in use.
use mathlib.Core.Path.{◌≡◌, refl}
use Prim.Native.Nat.{◌*◌}
use lib.ListN.{length, replicate}
use Rattle.limits.specs.Limits.{dot_limit}
use Rattle.clock.specs.Dots.{no_dot}
use Rattle.clockimage.specs.ClockImage.{clock_longest, clock_records}

-- end theorems, both
full-longest : length (clock_records (replicate dot_limit no_dot)) * 16 ≡ clock_longest
full-longest = refl

longest : clock_longest ≡ 128
longest = refl
