-- `Map::reset_remove` meets its contract: every part cut, judged.
use mathlib.Core.Path.{ap, sym, ◌∙◌}
use mathlib.Core.Bool.{true, false}
use Prim.Native.Nat.{◌≤◌}
use lib.ListN.{length}
use Rattle.clock.specs.Dots.{dots_of}
use Rattle.clock.proofs.Packs.{cut_left}
use Rattle.limits.specs.Limits.{waiting_limit}
use Rattle.removals.specs.Waits.{reset_waiting}
use Rattle.removals.proofs.Resetting.{reset-short, reset-over}
use Rattle.removals.proofs.Lengths.{reset-few}
use Rattle.map.specs.Model.{waiting_in}
use Rattle.map.proofs.Accepts.{fits-means}
use Rattle.map.proofs.Outcomes.{reset-outcome}
use native.Mathlib.Omega.{arith}
use Rattle.map.proofs.Map.reset_remove.Goals as goal

pub reset-left-requires : goal.reset-left-requires
reset-left-requires c = c.requires.valid.waiting

pub returns-then-left : goal.returns-then-left
returns-then-left c =
    let l = c.before in
    let z = l.before.before.before.before in
    let m = z.args.self in
    let w = reset_waiting (dots_of z.args.by) (waiting_in m) in
    let few : length w ≤ waiting_limit = omega (arith, reset-few (dots_of z.args.by) (waiting_in m), (fits-means m z.requires.limits).number) in
    sym (reset-outcome z.requires (dots_of z.args.by) few true
    (sym (ap (λ h. h.over) l.reset-left.ensures ∙ reset-over w) ∙ c.if-left.true))

pub returns : goal.returns
returns c =
    let i = c.before in
    let l = i.before in
    let z = l.before.before.before.before in
    let m = z.args.self in
    let w = reset_waiting (dots_of z.args.by) (waiting_in m) in
    let few : length w ≤ waiting_limit = omega (arith, reset-few (dots_of z.args.by) (waiting_in m), (fits-means m z.requires.limits).number) in
    let short = sym (ap (λ h. h.over) l.reset-left.ensures ∙ reset-over w) ∙ i.if-left.false in
    let left = ap (λ h. h.waiting) (l.reset-left.ensures ∙ reset-short w short) in
    (λ k. record {
      number = 0;
      map = record {
        clock = cut_left _ _ l.cut.ensures k;
        entries = l.reset-entries.ensures
            k;
        waiting = left k;
      };
    })
    ∙ sym (reset-outcome z.requires (dots_of z.args.by) few false short)
