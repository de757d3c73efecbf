-- `same_pair` meets its contract, by that of `compare`.
use mathlib.Core.Logic.{inl, inr}
use Rattle.equality.specs.Equality.{same_pair}
use Rattle.equality.proofs.same_pair.Goals as goal

pub returns-in-Equal : goal.returns-in-Equal
unfolding same_pair
returns-in-Equal c = rw (← c.compare.ensures, c.in-Equal.is) c.eq.ensures

pub returns-in-Less : goal.returns-in-Less
unfolding same_pair
returns-in-Less c =
    elim c.in-Less.is [
      | inl e ↦ rw (← c.compare.ensures, e)
      | inr e ↦ elim e [ inl f ↦ rw (← c.compare.ensures, f) | inr f ↦ rw (← c.compare.ensures, f) ]
    ]
