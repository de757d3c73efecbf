-- `times` meets its contract, by those of `filter` and `count`.
use mathlib.Core.Path.{◌≡◌, ap, ◌∙◌}
use lib.ListN.{length}
use Rattle.std.proofs.Common.{tests}
use Rattle.std.proofs.lemmas.Iterator.{YieldsList-from_slice}
use Rattle.std.proofs.lemmas.Iterator.Consumers.{YieldsList-from_filter, count_from_yields_List}
use Rattle.listlaws.proofs.Pads.{unmapped, used}
use Rattle.listlaws.proofs.Sifts.{length-sift}
use Rattle.limits.specs.Limits.{value_limit}
use Rattle.register.specs.Values.{values_of}
use Rattle.equality.specs.Equality.{same_pair, times_in}
use Rattle.equality.proofs.Library.{those-is}
use borrow.Author.Rules.{rules}
use native.Mathlib.Omega.{arith}
use Rattle.equality.proofs.times.Goals as goal

pub returns : goal.returns
unfolding times_in
returns c =
    let r = c.args.register in
    let test = same_pair c.args.v in
    let e : c.count.result ≡ times_in (values_of r) c.args.v =
    count_from_yields_List _ _ c.count.ensures.ran
    (YieldsList-from_filter _ test (YieldsList-from_slice (values_of r) cc) c.filter.ensures.closure (λ x b q k. search (rules, tests)))
    ∙ ap length (those-is test (values_of r)) in
    let h : length r.values ≡ value_limit = search (rules, unmapped) in
    (e, omega (arith, e, length-sift test (λ w. w) (values_of r), used r.len value_limit r.values h))
