-- `Sums::new` meets its contract.
use mathlib.Core.Path.{refl}
use native.Mathlib.Omega.{arith}
use Rattle.listlaws.specs.First.{first_in}
use Rattle.listlaws.specs.Fold.{total_of}
use Rattle.sketch.proofs.Sums.new.Goals as goal

pub returns : goal.returns
unfolding first_in total_of
returns c = (
  refl,
  record {
    count = refl;
    wide = refl;
    dots = λ n thin. refl;
    records = λ n thin. refl;
    few = λ n. omega arith;
    room = omega arith;
  },
)
