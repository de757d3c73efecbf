-- `number_at` meets its contract: a value's record says its number.
use mathlib.Core.Path.{ap, ◌∙◌}
use native.Mathlib.Omega.{arith}
use Rattle.records.specs.Records.{record_from}
use Rattle.entrywalk.proofs.Lying.{content-there, inside-there}
use Rattle.loader.proofs.number_at.Goals as goal

pub returns : goal.returns
unfolding record_from
returns c = λ key l h k. c.read64.ensures ∙ ap (λ x. x.number) (content-there key l h _ k)

pub overflow_add-values : goal.overflow_add-values
overflow_add-values c = let p = c.requires in omega (arith, inside-there p.0 p.1 p.2 _ p.3)

pub overflow_mul-values : goal.overflow_mul-values
overflow_mul-values c = let p = c.requires in omega (arith, inside-there p.0 p.1 p.2 _ p.3)

pub overflow_add-values-2 : goal.overflow_add-values-2
overflow_add-values-2 c = let p = c.requires in omega (arith, inside-there p.0 p.1 p.2 _ p.3)

pub read64-requires : goal.read64-requires
read64-requires c = let p = c.requires in omega (arith, inside-there p.0 p.1 p.2 _ p.3)
