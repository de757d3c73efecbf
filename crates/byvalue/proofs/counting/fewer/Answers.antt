-- `fewer` meets its contract: each way out is a law of the counting calls.
use mathlib.Core.Path.{refl}
use Rattle.answers.proofs.Lengths.{length-image}
use Rattle.promises.specs.Deleted.{entry_dots}
use Rattle.promises.proofs.Ways.{short-uncounted, own-counted}
use native.Mathlib.Omega.{arith}
use Rattle.byvalue.proofs.counting.fewer.Goals as goal

pub returns-then-room-map_length : goal.returns-then-room-map_length
returns-then-room-map_length c =
    let e = length-image c.requires.0 c.map_length.ensures.1.1 in
    λ n f. short-uncounted refl refl refl (omega arith)

pub overflow_sub-result : goal.overflow_sub-result
unfolding entry_dots
overflow_sub-result c = omega (arith, c.count_dots-2.ensures.0, c.count_dots.ensures.0, c.requires.1)

pub returns : goal.returns
unfolding entry_dots
returns c =
    let e = length-image c.requires.0 c.map_length.ensures.1.1 in
    λ n f. own-counted refl refl refl (omega arith) (omega (arith, f, c.count_dots-2.ensures.0, c.count_dots.ensures.0))
