-- `Entry::removed` meets its contract.
use mathlib.Core.Path.{sym, ◌∙◌}
use Rattle.entries.specs.Entries.{remove_from}
use Rattle.entries.proofs.Entry.removed.Goals as goal

pub returns-then-contains : goal.returns-then-contains
unfolding remove_from
returns-then-contains c = c.cut.ensures ∙ rw (sym c.contains.ensures ∙ c.if-contains.true)

pub returns : goal.returns
unfolding remove_from
returns c = rw (sym c.contains.ensures ∙ c.if-contains.false)
