-- `Value::yields` meets its contract, by that of `compare`.
use mathlib.Core.Logic.{inl, inr}
use Rattle.register.specs.Values.{yields}
use Rattle.register.proofs.Value.yields.Goals as goal

pub returns-in-Less : goal.returns-in-Less
unfolding yields
returns-in-Less c = rw (← c.compare.ensures, c.in-Less.is)

pub returns-in-Equal : goal.returns-in-Equal
unfolding yields
returns-in-Equal c = rw (← c.compare.ensures, c.in-Equal.is)

pub returns-in-Greater : goal.returns-in-Greater
unfolding yields
returns-in-Greater c = elim c.in-Greater.is [ inl e ↦ rw (← c.compare.ensures, e) | inr e ↦ rw (← c.compare.ensures, e) ]
