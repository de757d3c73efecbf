-- `image_length` meets its contract.
use Rattle.delivery.proofs.Lengths.{length-image}
use native.Mathlib.Omega.{arith}
use Rattle.delivery.proofs.image_length.Goals as goal

pub returns : goal.returns
returns c = omega (arith, length-image c.args.mem.now)
