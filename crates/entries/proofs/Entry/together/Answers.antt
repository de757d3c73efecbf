-- `Entry::together` meets its contract: both joins fit.
use Rattle.std.specs.Prelude.{Some}
use mathlib.Core.Path.{◌≡◌, ap, sym, ◌∙◌}
use Rattle.clock.specs.Dots.{dots_of, clock_of, fitted, is_empty}
use Rattle.clock.proofs.Packs.{fits, dots-of, cut_left}
use Rattle.register.proofs.Packs.{wide-values}
use Rattle.entries.specs.Model.{dots_in}
use Rattle.entries.specs.Entries.{keep_dots, merge_both, together}
use Rattle.entries.proofs.Packs.{wide-as}
use Rattle.entries.proofs.Entry.together.Goals.{After-join-keep}
use Rattle.entries.proofs.Entry.together.Goals as goal

-- both joins, as one
joined : (c : After-join-keep) → let a = c.before.before.before.before.before.before.before in
    c.join-keep.result ≡ fitted (keep_dots (dots_of a.args.ours) (dots_of a.args.theirs) (dots_in a.args.self) (dots_in a.args.other))
unfolding keep_dots
joined c =
    let j = c.before in
    let y = j.before.before in
    let m = y.before.before in
    c.join-keep.ensures _ j.join.ensures ∙ rw (
      dots-of _ (cut_left _ _ y.cut-2.ensures),
      dots-of _ (cut_left _ _ m.cut.ensures),
      dots-of _ m.common-common.ensures,
    )

-- what is kept, in a clock
kept : (c : After-join-keep) → let a = c.before.before.before.before.before.before.before in
    c.join-keep.result.clock ≡ clock_of (keep_dots (dots_of a.args.ours) (dots_of a.args.theirs) (dots_in a.args.self)
    (dots_in a.args.other))
kept c = ap (λ r. r.clock) (joined c ∙ fits _ c.requires.0)

pub returns-then-is_empty : goal.returns-then-is_empty
unfolding together
returns-then-is_empty c =
    rw (ap is_empty (sym (dots-of _ (kept c.before.before.before))) ∙ sym c.is_empty.ensures ∙ c.if-is_empty.true)

pub returns : goal.returns
unfolding together merge_both
returns c =
    let m = c.before in
    let d = m.before.before in
    let j = d.before in
    let i = j.before in
    let q = i.before.before.before in
    let a = q.before.before.before.before.before.before.before in
    let k = kept q.before.before.before.before.before in
    let all = ap (λ r. r.clock) (j.join-all.ensures ∙ fits _ a.requires.1) in
    rw (ap is_empty (sym (dots-of _ k)) ∙ sym i.is_empty.ensures ∙ i.if-is_empty.false)
    (rw (k, c.cut-wide.ensures, wide-values _ m.merge.ensures, dots-of _ (cut_left _ _ d.cut-3.ensures), dots-of _ all, dots-of _ k)
    (ap Some (sym (wide-as _ _ _))))
