-- `Map::merge` meets its contract: the joined clock, the finished entries, and what waits still, judged.
use mathlib.Core.Path.{◌≡◌, refl, ap, sym, ◌∙◌}
use mathlib.Core.Bool.{Bool, true, false}
use Prim.Native.Nat.{◌≤◌}
use borrow.Author.Tests.{lt-ltb, le-ltb}
use lib.ListN.{length}
use Rattle.listlaws.specs.Order.{◌∈◌}
use Rattle.listlaws.specs.Sift.{those}
use Rattle.listlaws.proofs.Those.{those-means}
use Rattle.limits.specs.Limits.{dot_limit}
use Rattle.clock.specs.Dots.{dots_of, join_dots}
use Rattle.clock.proofs.Packs.{over-means, within-means, within-clock, dots-of}
use Rattle.removals.specs.declared.Removal.{Removal}
use Rattle.removals.specs.Model.{listed_in, keys_as}
use Rattle.removals.specs.Counted.{joined_as}
use Rattle.removals.specs.Waits.{waits, unite_all}
use Rattle.removals.proofs.Packs.{waiting-from}
use Rattle.entries.proofs.ClocksFit.{both-fit, keep-fits}
use Rattle.entries.proofs.Finishing.{finish-open}
use Rattle.removals.proofs.Joining.{joined-count, joined-long, joined-open}
use Rattle.map.specs.declared.Map.{Map}
use Rattle.map.specs.Model.{seen_by, waiting_in}
use Rattle.map.specs.Valid.{Within}
use Rattle.map.proofs.Outcomes.{merge-outcome}
use Rattle.map.proofs.Map.merge.Goals.{After-join-united, Else-joined}
use Rattle.map.proofs.Map.merge.Goals as goal

pub returns-then-joined : goal.returns-then-joined
returns-then-joined c =
    let j = c.before in
    let z = j.before.before.before in
    sym (merge-outcome z.requires.0 z.requires.1 true _ _ _ _
    (lt-ltb _ _ (over-means _ j.join-joined.ensures c.if-joined.true)) refl refl refl refl)

-- the joined clock is within the limit
room : (c : Else-joined) → let z = c.before.before.before.before in
    length (join_dots (seen_by z.args.self) (seen_by z.args.other)) ≤ dot_limit
room c = within-means _ c.join-joined.ensures c.if-joined.false

pub merge-both-requires : goal.merge-both-requires
merge-both-requires c =
    let i = c.before.before.before in
    let z = i.before.before.before.before in
    λ x y p q.
    let u = z.requires.0.valid.clock in
    let v = z.requires.1.valid.clock in
    let e = z.requires.0.valid.entries.each x p in
    let f = z.requires.1.valid.entries.each y q in
    (keep-fits u v e f (room i.before.before), both-fit u v e f (room i.before.before))

pub returns-then-both-gt-ENTRIES : goal.returns-then-both-gt-ENTRIES
returns-then-both-gt-ENTRIES c =
    let e = c.before.before in
    let i = e.before.before.before.before in
    let z = i.before.before.before.before in
    sym (merge-outcome z.requires.0 z.requires.1 false true _ _ _ (le-ltb _ _ (room i.before.before))
    (lt-ltb _ _ (rw e.merge-both.ensures.count at c.if-both-gt-ENTRIES.true)) refl refl refl)

pub returns-then-both : goal.returns-then-both
returns-then-both c =
    let e = c.before.before.before in
    let i = e.before.before.before.before in
    let z = i.before.before.before.before in
    sym (merge-outcome z.requires.0 z.requires.1 false false true _ _ (le-ltb _ _ (room i.before.before))
    (le-ltb _ _ (rw e.merge-both.ensures.count at c.if-both-gt-ENTRIES.false))
    (sym e.merge-both.ensures.wide ∙ c.if-both.true) refl refl)

-- the clock of the merged map
clock : (c : Else-joined) → let z = c.before.before.before.before in
    dots_of c.join-joined.result.clock ≡ join_dots (seen_by z.args.self) (seen_by z.args.other)
clock c = dots-of _ (within-clock _ c.join-joined.ensures c.if-joined.false)

-- the keys of what waits are laid down
laid : {m : Map} → Within m → (p : Removal → Bool) (r : Removal) → r ∈ those p (waiting_in m) → r.keys ≡ keys_as (listed_in r)
laid {m} i p r k = ap (λ x. x.keys) (i.valid.waiting.each r (those-means p (waiting_in m) k).0).laid

pub join-united-requires : goal.join-united-requires
join-united-requires c =
    let u = c.before in
    let i = u.before.before.before.before.before.before.before.before in
    let z = i.before.before.before.before in (
      λ r k. laid z.requires.0 _ r (rw (waiting-from _ u.uncovered-left.ensures) at k),
      λ r k. laid z.requires.1 _ r (rw (waiting-from _ c.uncovered.ensures) at k),
    )

-- what waits still
held : (c : After-join-united) → let z = c.before.before.before.before.before.before.before.before.before.before.before.before.before.before in
    c.join-united.result ≡ joined_as (unite_all (those (waits (join_dots (seen_by z.args.self) (seen_by z.args.other))) (waiting_in z.args.self))
    (those (waits (join_dots (seen_by z.args.self) (seen_by z.args.other))) (waiting_in z.args.other)))
held c =
    let v = c.before in
    let u = v.before in
    let i = u.before.before.before.before.before.before.before.before in
    c.join-united.ensures ∙ rw (waiting-from _ u.uncovered-left.ensures, waiting-from _ v.uncovered.ensures, clock i.before.before)

pub returns-then-united-gt-WAITING : goal.returns-then-united-gt-WAITING
returns-then-united-gt-WAITING c =
    let j = c.before.before in
    let k = j.before.before.before in
    let e = k.before.before.before in
    let i = e.before.before.before.before in
    let z = i.before.before.before.before in
    sym (merge-outcome z.requires.0 z.requires.1 false false false true _ (le-ltb _ _ (room i.before.before))
    (le-ltb _ _ (rw e.merge-both.ensures.count at k.if-both-gt-ENTRIES.false)) (sym e.merge-both.ensures.wide ∙ k.if-both.false)
    (lt-ltb _ _ (rw (joined-count _ (held j)) at c.if-united-gt-WAITING.true)) refl)

pub returns-then-united : goal.returns-then-united
returns-then-united c =
    let j = c.before.before.before in
    let k = j.before.before.before in
    let e = k.before.before.before in
    let i = e.before.before.before.before in
    let z = i.before.before.before.before in
    sym (merge-outcome z.requires.0 z.requires.1 false false false false true (le-ltb _ _ (room i.before.before))
    (le-ltb _ _ (rw e.merge-both.ensures.count at k.if-both-gt-ENTRIES.false)) (sym e.merge-both.ensures.wide ∙ k.if-both.false)
    (le-ltb _ _ (rw (joined-count _ (held j)) at c.if-united-gt-WAITING.false)) (sym (joined-long _ (held j)) ∙ c.if-united.true))

pub returns : goal.returns
returns c =
    let l = c.before.before in
    let j = l.before.before.before in
    let k = j.before.before.before in
    let e = k.before.before.before in
    let i = e.before.before.before.before in
    let z = i.before.before.before.before in
    let few = rw e.merge-both.ensures.count at k.if-both-gt-ENTRIES.false in
    let thin = sym e.merge-both.ensures.wide ∙ k.if-both.false in
    let less = rw (joined-count _ (held j)) at l.if-united-gt-WAITING.false in
    let short = sym (joined-long _ (held j)) ∙ l.if-united.false in
    let time = within-clock _ i.join-joined.ensures i.if-joined.false in
    let done = finish-open e.merge-both.ensures few thin in
    let wait = joined-open _ (held j) less short in
    (λ x. record { number = 0; map = record { clock = time x; entries = done x; waiting = wait x } })
    ∙ sym (merge-outcome z.requires.0 z.requires.1 false false false false false (le-ltb _ _ (room i.before.before))
    (le-ltb _ _ few) thin (le-ltb _ _ less) short)
