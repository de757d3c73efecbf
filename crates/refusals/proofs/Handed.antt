-- What a `?` hands on is the refusal itself, and no refusal has the number 0.
use mathlib.Core.Path.{◌≡◌, ap}
use native.Mathlib.Omega.{arith}
use Rattle.std.specs.Prelude.{IsErrAnd}
use Rattle.std.specs.declared.result.Result.{Result}
use Rattle.std.specs.declared.result.Result.TheVariants.{Ok, Err}
use Rattle.refusals.specs.declared.Refusal.{Refusal}
use Rattle.refusals.specs.declared.Refusal.TheVariants as R
use Rattle.refusals.specs.Numbers.{number_for, number_told, done_or}

pub handed : {T : Type 0} (r : Result T Refusal) (e : Refusal) → IsErrAnd r (λ y. y ≡ e) → r ≡ Err e
handed (Ok x) e h = absurd h
handed (Err y) e h = ap Err h

pub number-some : (r : Refusal) → number_for r ≡ 0 → ⊥
number-some R.Malformed e = omega arith
number-some R.OverLimit e = omega arith
number-some R.Unrelated e = omega arith
number-some R.TooManyDots e = omega arith
number-some R.TooManyEntries e = omega arith
number-some R.TooManyValues e = omega arith
number-some R.TooManyWaiting e = omega arith
number-some R.TooManyKeys e = omega arith
number-some R.CounterSpent e = omega arith
number-some R.ShortBuffer e = omega arith
number-some R.Gap e = omega arith
number-some R.DoubleSpent e = omega arith
number-some R.Ended e = omega arith
number-some R.NoBay e = omega arith
number-some R.EndsElsewhere e = omega arith
number-some R.TooManyOperations e = omega arith
number-some R.TooManyPeers e = omega arith
number-some R.Foreign e = omega arith
number-some R.Seen e = omega arith
number-some R.Hold e = omega arith

-- what is done has the number 0, and a result with the number 0 is done
pub done-zero : {T : Type 0} (r : Result T Refusal) (x : T) → r ≡ Ok x → number_told r ≡ 0
done-zero r x e = ap number_told e
