-- `Map::apply_keyset_rm` meets its contract: the entries, and what waits then, judged.
use mathlib.Core.Path.{◌≡◌, refl, ap, sym, ◌∙◌}
use mathlib.Core.Bool.{true, false}
use mathlib.Core.List.Memᴰ
use mathlib.Core.List.{[]}
use borrow.Author.Tests.{lt-ltb, le-ltb, not-true, not-false}
use Rattle.limits.specs.Limits.{waiting_limit}
use Rattle.removals.specs.Counted.{joined_as}
use Rattle.removals.proofs.Packs.{waiting-from}
use Rattle.removals.proofs.Joining.{joined-count, joined-long, joined-open}
use Rattle.map.specs.Model.{seen_by, waiting_in}
use Rattle.map.proofs.Kept.{held_after}
use Rattle.map.proofs.Accepts.{fits-means, not-over}
use Rattle.map.proofs.Verdicts.{none-overlong}
use Rattle.map.proofs.Outcomes.{remove-outcome}
use native.Mathlib.Omega.{arith}
use mathlib.Core.Bool.{not}
use Rattle.map.proofs.Map.apply_keyset_rm.Goals.{After-join-g}
use Rattle.map.proofs.Map.apply_keyset_rm.Goals as goal

pub returns-then-not-waits : goal.returns-then-not-waits
unfolding held_after
returns-then-not-waits c =
    let w = c.before.before in
    let z = w.before.before.before in
    let m = z.args.self in
    let t = sym w.waits.ensures ∙ not-true _ (ap not c.if-not-waits.true) in
    let f = fits-means m z.requires.0.limits in
    (λ k. record {
      number = 0;
      map = record {
        clock = (z.requires.0.valid.laid k).clock;
        entries = w.remove-entries.ensures k;
        waiting = (z.requires.0.valid.laid k).waiting;
      };
    })
    ∙ sym (remove-outcome z.requires.0 z.requires.1 (waiting_in m) (rw t) false false (not-over waiting_limit (waiting_in m) f.number)
    (none-overlong (waiting_in m) (λ r i. (f.waiting r i).keys)))

pub push-one-requires : goal.push-one-requires
push-one-requires c = omega (arith, ap (λ k. k.len) c.new.ensures)

pub join-g-requires : goal.join-g-requires
join-g-requires c =
    let z = c.before.before.before.before.before.before in
    let e = waiting-from _ (c.push-one.ensures.1 [] c.new.ensures) in (
      λ r i. ap (λ x. x.keys) (z.requires.0.valid.waiting.each r i).laid,
      λ r i. rw (Memᴰ.eq_of_singleton (rw e at i)) (ap (λ x. x.keys) z.requires.1.valid.laid),
    )

-- what waits then
held : (c : After-join-g) → let z = c.before.before.before.before.before.before.before in
    c.join-g.result ≡ joined_as (held_after (seen_by z.args.self) (waiting_in z.args.self) z.args.r)
unfolding held_after
held c =
    let p = c.before in
    let i = p.before.before in
    let t = sym i.waits.ensures ∙ not-false _ (ap not i.if-not-waits.false) in
    c.join-g.ensures ∙ rw (waiting-from _ (p.push-one.ensures.1 [] p.new.ensures), t)

pub returns-then-g-gt-WAITING : goal.returns-then-g-gt-WAITING
returns-then-g-gt-WAITING c =
    let j = c.before.before in
    let z = j.before.before.before.before.before.before.before in
    sym (remove-outcome z.requires.0 z.requires.1 _ refl true _
    (lt-ltb _ _ (rw (joined-count _ (held j)) at c.if-g-gt-WAITING.true)) refl)

pub returns-then-g : goal.returns-then-g
returns-then-g c =
    let j = c.before.before.before in
    let z = j.before.before.before.before.before.before.before in
    sym (remove-outcome z.requires.0 z.requires.1 _ refl false true
    (le-ltb _ _ (rw (joined-count _ (held j)) at c.if-g-gt-WAITING.false)) (sym (joined-long _ (held j)) ∙ c.if-g.true))

pub returns : goal.returns
returns c =
    let j = c.before.before.before.before in
    let z = j.before.before.before.before.before.before.before in
    let few = rw (joined-count _ (held j)) at c.if-g-gt-WAITING.false in
    let short = sym (joined-long _ (held j)) ∙ c.if-g.false in
    (λ k. record {
      number = 0;
      map = record {
        clock = (z.requires.0.valid.laid k).clock;
        entries = j.remove-entries.ensures k;
        waiting = joined-open _ (held j) few short k;
      };
    })
    ∙ sym (remove-outcome z.requires.0 z.requires.1 _ refl false false (le-ltb _ _ few) short)
