-- `as_often` meets its contract, by that of `all`.
use mathlib.Core.Path.{◌∙◌}
use lib.Dec.{eqb}
use Rattle.std.proofs.Common.{tests}
use Rattle.std.proofs.lemmas.Iterator.{YieldsList-from_slice}
use Rattle.std.proofs.lemmas.Iterator.Search.{all_from_yields_List}
use Rattle.register.specs.Values.{values_of}
use Rattle.equality.specs.Equality.{times_in, as_often}
use Rattle.equality.proofs.Library.{none-is}
use borrow.Author.Rules.{rules}
use Rattle.equality.proofs.as_often.Goals as goal

pub returns : goal.returns
unfolding as_often
returns c =
    let l = values_of c.args.register in
    let m = values_of c.args.other in
    let here = values_of c.args.here in
    all_from_yields_List (λ v. eqb (times_in l v) (times_in m v)) _ _ _ c.all.ensures.ran (YieldsList-from_slice here cc)
    (λ x b q k. search (rules, tests))
    ∙ none-is (λ v. eqb (times_in l v) (times_in m v)) here
