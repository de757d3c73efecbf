-- `none` meets its contract: there is no removal whose dots would lie somewhere.
use mathlib.Core.Path.{refl}
use native.Mathlib.Omega.{arith}
use Rattle.queued.proofs.Queue.none.Goals as goal

pub returns : goal.returns
returns c = λ s. record { count = refl; few = omega arith; each = λ j h. absurd (omega arith) }
