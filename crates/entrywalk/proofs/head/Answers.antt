-- `head` meets its contract: a key has 32 bits.
use mathlib.Core.Path.{ap}
use native.Mathlib.Omega.{arith}
use borrow.Author.Rules.{rules}
use Rattle.records.specs.declared.Record.{Record}
use Rattle.entrywalk.proofs.head.Goals as goal

pub returns-then-at-end : goal.returns-then-at-end
returns-then-at-end c = (search rules, (λ h. (search rules, ap (λ (r : Record). r.key) c.read_record-r.ensures), λ e. absurd (omega arith)))

pub returns : goal.returns
returns c = (search rules, (λ h. absurd (omega arith), λ e. search rules))
