-- `Register::outdoes` meets its contract, by that of `any`.
use mathlib.Core.Path.{◌∙◌}
use Rattle.std.proofs.Common.{tests}
use Rattle.std.proofs.lemmas.Iterator.{YieldsList-from_slice}
use Rattle.std.proofs.lemmas.Iterator.Search.{any_from_yields_List}
use Rattle.register.specs.Values.{values_of, yields, outdone}
use Rattle.register.proofs.Packs.{some-is}
use borrow.Author.Rules.{rules}
use Rattle.register.proofs.Register.outdoes.Goals as goal

pub returns : goal.returns
unfolding outdone
returns c =
    any_from_yields_List (yields c.args.equal_too c.args.v) _ _ _ c.any.ensures.ran (YieldsList-from_slice (values_of c.args.self) cc)
    (λ x b q k. search (rules, tests))
    ∙ some-is (yields c.args.equal_too c.args.v) (values_of c.args.self)
