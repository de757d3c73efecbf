-- `fewer` meets its contract: by the number of the call beside it, and by the sums over what is drawn.
use mathlib.Core.Path.{sym, ◌∙◌}
use native.Mathlib.Omega.{arith}
use Rattle.drafting.proofs.Numbers.{over-limit, short-room, done-room, settled}
use Rattle.drafting.proofs.Drafts.{counted}
use Rattle.deleted.proofs.Counts.{refused-uncounted, done-counted}
use Rattle.deleted.proofs.fewer.Goals as goal

pub weigh-waits-requires : goal.weigh-waits-requires
weigh-waits-requires f = let p = f.requires.1.1.1 in (p.0, p.1.0.waiting)

pub returns-then-waits-ne0 : goal.returns-then-waits-ne0
returns-then-waits-ne0 f items c l w n d e =
    let x = f.weigh-waits.ensures.0 l w d.entries.sums.count d.entries.sums.wide d.waiting in
    refused-uncounted (λ out q. over-limit c l w d.dots out x.0 f.if-waits-ne0.true) f.if-waits-ne0.true

pub overflow_add-records : goal.overflow_add-records
overflow_add-records f = let r = f.requires.1.1.1.1.0.entries.sums.room in omega arith

pub overflow_add-records-2 : goal.overflow_add-records-2
overflow_add-records-2 f = let r = f.requires.1.1.1.1.0.entries.sums.room in
    omega (arith, f.weigh-waits.ensures.1)

pub overflow_add-records-3 : goal.overflow_add-records-3
overflow_add-records-3 f = let r = f.requires.1.1.1.1.0.entries.sums.room in
    omega (arith, f.weigh-waits.ensures.1, f.size.ensures.1)

pub returns-then-room-records : goal.returns-then-room-records
returns-then-room-records f items c l w n d e =
    let i = f.before.before.before.before in
    let x = i.weigh-waits.ensures.0 _ _ d.entries.sums.count d.entries.sums.wide d.waiting in
    let z = sym x.0 ∙ i.if-waits-ne0.false in
    let k = counted d z f.size.ensures.0 (x.1 i.if-waits-ne0.false) in
    refused-uncounted (λ out q. short-room c l w d.dots out z (omega (arith, k, f.if-room-records.true, q))) (λ y. omega arith)

pub overflow_sub-result : goal.overflow_sub-result
overflow_sub-result f =
    let o = f.requires.1.1 in
    let p = o.1.1 in
    let d = p.0 in
    let i = f.before.before.before.before.before in
    let x = i.weigh-waits.ensures.0 _ _ d.entries.sums.count d.entries.sums.wide d.waiting in
    let z = sym x.0 ∙ i.if-waits-ne0.false in
    let h = settled o.0 o.1.0 z in
    omega (arith, d.entries.sums.dots h.few h.narrow, p.1)

pub returns : goal.returns
returns f items c l w n d e =
    let i = f.before.before.before.before.before in
    let x = i.weigh-waits.ensures.0 _ _ d.entries.sums.count d.entries.sums.wide d.waiting in
    let z = sym x.0 ∙ i.if-waits-ne0.false in
    let k = counted d z f.size.ensures.0 (x.1 i.if-waits-ne0.false) in
    let h = settled l w z in
    done-counted (λ out q. done-room c l w d.dots out z (omega (arith, k, f.if-room-records.false, q)))
    (omega (arith, d.entries.sums.dots h.few h.narrow, e))
