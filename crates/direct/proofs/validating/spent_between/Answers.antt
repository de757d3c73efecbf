-- `spent_between` meets its contract: what is asked of each entry of ours is which of theirs shares a dot with it.
use Rattle.std.proofs.Common.{rules, of_calls, ◌≡◌, ◌∙◌}
use Rattle.clock.specs.Dots.{dots_of}
use Rattle.entries.specs.Model.{dots_in}
use Rattle.map.specs.Model.{entries_in}
use Rattle.asking.specs.Asking.{spent_by, spent_under, first_spent, validate_merge}
use Rattle.maprecords.specs.Related.{read_map}
use Rattle.direct.proofs.validating.spent_between.Goals as goal

pub returns : goal.returns
unfolding validate_merge
returns c =
    let theirs = entries_in (read_map c.args.other.now).map in
    c.first_twice.ensures (λ e. first_spent (spent_by e) theirs) (λ e x p k d h.
    let u : p ≡ first_spent (λ f. spent_under x.key (dots_of x.clock) f.key (dots_in f)) theirs = search (rules, of_calls) in
    u ∙ rw (k, d))
