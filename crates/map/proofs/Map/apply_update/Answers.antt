-- `Map::apply_update` meets its contract: a seen dot changes nothing; else the finished entries, and what still waits, judged.
use mathlib.Core.Path.{◌≡◌, refl, ap, sym, ◌∙◌}
use mathlib.Core.Bool.{true, false}
use mathlib.Core.List.{[], ◌∷◌, ◌++◌, append_assoc}
use Prim.Native.Nat.{◌≤◌, ◌<◌}
use borrow.Author.Tests.{lt-ltb, le-ltb, le-leb}
use lib.ListN.{length}
use Rattle.listlaws.specs.Order.{◌∈◌}
use Rattle.listlaws.specs.Sift.{sift, those}
use Rattle.listlaws.proofs.Sifts.{sift-append, sift-one}
use Rattle.limits.specs.Limits.{dot_limit}
use Rattle.clock.specs.Dots.{counter_in, add_dot}
use Rattle.clock.proofs.Packs.{over-means, within-means, within-clock, dots-of}
use Rattle.entries.specs.declared.Entry.{Entry}
use Rattle.entries.specs.Model.{LaidDown}
use Rattle.entries.specs.Steps.{Finishes}
use Rattle.removals.specs.Model.{waiting_as}
use Rattle.removals.specs.Waits.{waits}
use Rattle.entries.specs.Entries.{stays, run, aside, put_entry, entry_at, put_entries}
use Rattle.entries.proofs.Runs.{run-laid}
use Rattle.entries.proofs.Packs.{laid-put}
use Rattle.entries.proofs.Finishing.{finish-open}
use Rattle.map.specs.Model.{seen_by, entries_in, waiting_in}
use Rattle.map.specs.Updating.{update}
use Rattle.map.proofs.Verdicts.{judged-within}
use Rattle.map.proofs.Outcomes.{update-outcome, put-fits}
use native.Mathlib.Omega.{arith}
use Rattle.map.proofs.Map.apply_update.Goals.{After-side-all-2, Else-d-get}
use Rattle.map.proofs.Map.apply_update.Goals as goal

pub returns-then-d-get : goal.returns-then-d-get
unfolding update
returns-then-d-get c =
    let g = c.before.before in
    let z = g.before.before in
    rw (le-leb _ _ (rw g.get.ensures at c.if-d-get.true)) (sym (judged-within z.requires.0.limits))

-- the dot is new
new : (c : Else-d-get) → let z = c.before.before.before.before in
    counter_in (seen_by z.args.self) z.args.u.dot.actor < z.args.u.dot.counter
new c = rw c.get.ensures at c.if-d-get.false

pub returns-then-grown : goal.returns-then-grown
returns-then-grown c =
    let a = c.before in
    let n = a.before in
    let z = n.before.before.before.before in
    sym (update-outcome z.requires.0 z.requires.1 (new n.before) true _ _
    (lt-ltb _ _ (over-means _ a.add-grown.ensures c.if-grown.true)) refl refl)

pub side-all-requires : goal.side-all-requires
side-all-requires c = omega (arith, c.new-all.ensures.0)

pub put-requires : goal.put-requires
put-requires c =
    let i = c.before.before.before in
    let a = i.before in
    let n = a.before in
    let z = n.before.before.before.before in
    rw c.at.ensures (put-fits z.requires.0 z.requires.1 (new n.before.before.before.before) (within-means _ a.add-grown.ensures i.if-grown.false))

pub add-all-requires : goal.add-all-requires
add-all-requires c =
    let s = c.before.before.before in
    omega (arith, s.side-all.ensures.0, s.new-all.ensures.0)

pub side-all-requires-2 : goal.side-all-requires-2
side-all-requires-2 c =
    let s = c.before.before.before.before in
    omega (arith, c.add-all.ensures.0, s.side-all.ensures.0, s.new-all.ensures.0)

-- the finished entries
all : (c : After-side-all-2) → let z = c.before.before.before.before.before.before.before.before.before.before.before.before.before in
    Finishes (sift stays (run (waiting_in z.args.self)) (put_entries z.args.u (entries_in z.args.self))) c.side-all-2.result
unfolding put_entries
all c =
    let a = c.before in
    let r = a.before in
    let p = r.before in
    let t = p.before in
    let s = t.before in
    let n = s.before in
    let z = n.before.before.before.before.before.before.before in
    let m = z.args.self in
    let u = z.args.u in
    let ws = waiting_in m in
    let laid : (e : Entry) → e ∈ entries_in m → LaidDown e = λ e i. (z.requires.0.valid.entries.each e i).laid in
    let put = put_entry u (entry_at u.key (entries_in m)) in
    let before = those (aside true u.key) (entries_in m) in
    let behind = those (aside false u.key) (entries_in m) in
    let parts : sift stays (run ws) (before ++ (put ∷ behind)) ≡ (sift stays (run ws) before ++ those stays (run ws put ∷ [])) ++ sift stays
    (run ws) behind =
    sift-append stays (run ws) before (put ∷ behind)
    ∙ ap (λ x. sift stays (run ws) before ++ x) (sift-one stays (run ws) put behind)
    ∙ sym (append_assoc (sift stays (run ws) before) (those stays (run ws put ∷ [])) (sift stays (run ws) behind)) in
    let below = s.side-all.ensures.1 [] laid n.new-all.ensures.1 in
    let with = a.add-all.ensures.1 _ (run ws put) (run-laid ws (laid-put u _)) below (r.run.ensures _ (p.put.ensures ∙ rw t.at.ensures)) in
    rw parts (c.side-all-2.ensures.1 _ laid with)

-- the map clock has room for the dot
room : (c : After-side-all-2) → let z = c.before.before.before.before.before.before.before.before.before.before.before.before.before in
    length (add_dot (seen_by z.args.self) z.args.u.dot) ≤ dot_limit
room c = let i = c.before.before.before.before.before.before.before in within-means _ i.add-grown.ensures i.if-grown.false

pub returns-then-all-gt-ENTRIES : goal.returns-then-all-gt-ENTRIES
returns-then-all-gt-ENTRIES c =
    let s = c.before.before in
    let n = s.before.before.before.before.before.before.before.before.before in
    let z = n.before.before.before.before in
    sym (update-outcome z.requires.0 z.requires.1
    (new n.before.before.before.before.before.before.before) false true _ (le-ltb _ _ (room s))
    (lt-ltb _ _ (rw (all s).count at c.if-all-gt-ENTRIES.true)) refl)

pub returns-then-all : goal.returns-then-all
returns-then-all c =
    let s = c.before.before.before in
    let n = s.before.before.before.before.before.before.before.before.before in
    let z = n.before.before.before.before in
    sym (update-outcome z.requires.0 z.requires.1
    (new n.before.before.before.before.before.before.before) false false true (le-ltb _ _ (room s))
    (le-ltb _ _ (rw (all s).count at c.if-all-gt-ENTRIES.false)) (sym (all s).wide ∙ c.if-all.true))

pub returns : goal.returns
returns c =
    let o = c.before in
    let k = o.before.before in
    let s = k.before.before.before in
    let i = s.before.before.before.before.before.before.before in
    let n = i.before.before in
    let z = n.before.before.before.before in
    let few = rw (all s.before).count at k.if-all-gt-ENTRIES.false in
    let thin = sym (all s.before).wide ∙ k.if-all.false in
    let clock = within-clock _ i.add-grown.ensures i.if-grown.false in
    let left = o.uncovered-left.ensures ∙ ap (λ d. waiting_as (those (waits d) (waiting_in z.args.self))) (dots-of _ clock) in
    (λ x. record { number = 0; map = record { clock = clock x; entries = finish-open (all s.before) few thin x; waiting = left x } })
    ∙ sym (update-outcome z.requires.0 z.requires.1 (new n.before.before.before.before.before.before.before.before) false false false
    (le-ltb _ _ (room s.before)) (le-ltb _ _ few) thin)
