-- `sum` stays within a word: its two halves are below 65521.
use Rattle.std.proofs.Common.{◌<◌}
use Rattle.questions.proofs.sum.Given as goal

abbrev pub invariant-loop-b : goal.invariant-loop-b
invariant-loop-b l = (l.low < 65521) × (l.high < 65521)
