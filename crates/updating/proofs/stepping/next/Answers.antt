-- `next` meets its contract: the entries come in their order, and the put at its key.
use mathlib.Core.Path.{◌≡◌, refl, subst}
use mathlib.Core.Bool.{Bool, true, false, not, ◌||◌}
use mathlib.Core.List.{[]}
use native.Mathlib.Omega.{arith}
use borrow.Author.Tests.{ltb-true}
use Rattle.entries.specs.Model.{entry_as}
use Rattle.entrywalk.specs.Walking.{LiesAt}
use Rattle.entrywalk.proofs.Fronts.{front-first, front_above}
use Rattle.updating.proofs.Nexts.{comes-behind, comes-before, comes-on, comes-new, comes-told}
use Rattle.updating.proofs.stepping.next.Goals as goal

-- where the put is done, an entry is to come
still : (a b : Bool) → (a || not b) ≡ true → b ≡ true → a ≡ true
still true b t u = refl
still false true t u = t
still false false t u = u

pub entry_at-entry-requires : goal.entry_at-entry-requires
entry_at-entry-requires c = let p = c.requires in (ltb-true _ _ (still _ _ p.0 c.if-done.true), p.1)

pub returns-then-done : goal.returns-then-done
returns-then-done c = λ u es k h. comes-told c.if-done.true (comes-behind u h (c.entry_at-entry.ensures es h))

pub returns-then-goal-p : goal.returns-then-goal-p
returns-then-goal-p c =
    let i = c.before.before.before in
    let a = i.args in
    λ u es k h.
    let n = c.none_at-entry.ensures in
    comes-told i.if-done.false
    (comes-new u h _ (λ e j. omega (arith, k, front_above h c.head-p.ensures c.if-goal-p.true e j))
    (subst (λ z. LiesAt a.s.now (entry_as z [] []) c.none_at-entry.result) k (n.1 a.s.now)) n.0.1)

pub entry_at-entry-requires-2 : goal.entry_at-entry-requires-2
entry_at-entry-requires-2 c =
    let z = c.before.before.before.before in
    ((c.head-p.ensures.1.0 (omega (arith, c.if-goal-p.false, z.ranges))).0, z.requires.1)

pub returns-then-p-goal : goal.returns-then-p-goal
returns-then-p-goal c =
    let f = c.before.before.before in
    let i = f.before in
    let z = i.before.before in
    λ u es k h.
    let g = c.entry_at-entry-2.ensures es h in
    let same = front-first h f.head-p.ensures (omega (arith, c.if-p-goal.true, z.ranges)) g.entry g.more g.parts in
    comes-told i.if-done.false (comes-before u h g (omega (arith, k, same, g.lies.key, c.if-p-goal.true)))

pub returns : goal.returns
returns c =
    let f = c.before.before.before in
    let i = f.before in
    let z = i.before.before in
    λ u es k h.
    let g = c.entry_at-entry-2.ensures es h in
    let same = front-first h f.head-p.ensures (omega (arith, c.if-goal-p.false, z.ranges)) g.entry g.more g.parts in
    comes-told i.if-done.false (comes-on u h g (omega (arith, k, same, g.lies.key, c.if-p-goal.false, c.if-goal-p.false)))
