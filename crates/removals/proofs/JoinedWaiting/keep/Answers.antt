-- `JoinedWaiting::keep` meets its contract: a removal's own keys are within the limit.
use mathlib.Core.Path.{◌≡◌, refl, ap, sym, ◌∙◌}
use lib.ListN.{length}
use Rattle.std.specs.Prelude.{Some}
use Rattle.listlaws.proofs.Pads.{unmapped, used}
use Rattle.limits.specs.Limits.{key_limit}
use Rattle.removals.specs.Model.{listed_in}
use Rattle.removals.proofs.KeyLimits.{keys-fit}
use borrow.Author.Rules.{rules}
use Rattle.removals.proofs.JoinedWaiting.keep.Goals as goal

pub returns : goal.returns
returns c =
    let r = c.args.r in
    let room : length r.keys.items ≡ key_limit = search (rules, unmapped) in (
      c.add.ensures.0,
      λ l q laid.
          c.add.ensures.1 l r q refl laid (ap (λ k. Some k) laid ∙ sym (keys-fit (listed_in r) (used r.keys.len key_limit r.keys.items room))),
    )
