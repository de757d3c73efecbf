-- `spent_among` meets its contract: what is asked of each entry is what is spent under its key.
use Rattle.std.proofs.Common.{rules, of_calls, ◌≡◌, ◌∙◌}
use Rattle.clock.specs.Dots.{dots_of}
use Rattle.entries.specs.Model.{dots_in}
use Rattle.asking.specs.Asking.{spent_under}
use Rattle.direct.proofs.validating.spent_among.Goals as goal

pub returns : goal.returns
returns c =
    let a = c.args in
    c.first_twice.ensures (λ f. spent_under a.key (dots_of a.ours) f.key (dots_in f)) (λ e x p k d h.
    let u : p ≡ spent_under a.key (dots_of a.ours) x.key (dots_of x.clock) = search (rules, of_calls) in
    u ∙ rw (k, d))
