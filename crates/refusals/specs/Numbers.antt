-- 01 "Numbers returned": the number of each refusal, and of what a function answers in place of a word.
use Rattle.std.specs.Prelude.{ℕ}
use Rattle.std.specs.declared.result.Result.{Result}
use Rattle.std.specs.declared.result.Result.TheVariants.{Ok, Err}
use Rattle.refusals.specs.declared.Refusal.{Refusal}
use Rattle.refusals.specs.declared.Refusal.TheVariants as R

abbrev pub number_for : Refusal → ℕ
number_for R.Malformed = 1
number_for R.OverLimit = 2
number_for R.Unrelated = 3
number_for R.TooManyDots = 4
number_for R.TooManyEntries = 5
number_for R.TooManyValues = 6
number_for R.TooManyWaiting = 7
number_for R.TooManyKeys = 8
number_for R.CounterSpent = 9
number_for R.ShortBuffer = 10
number_for R.Gap = 11
number_for R.DoubleSpent = 12
number_for R.Ended = 13
number_for R.NoBay = 14
number_for R.EndsElsewhere = 16
number_for R.TooManyOperations = 17
number_for R.TooManyPeers = 18
number_for R.Foreign = 19
number_for R.Seen = 20
number_for R.Hold = 21

-- 0 stands for what is done
abbrev pub number_told : {A : Type 0} → Result A Refusal → ℕ
number_told (Ok x) = 0
number_told (Err r) = number_for r

-- what is done, or what stands in its place where a call refuses
abbrev pub done_or : {A : Type 0} → A → Result A Refusal → A
done_or none (Ok x) = x
done_or none (Err r) = none
