-- `next` meets its contract: the lower key comes first, and an equal one from both sides.
use mathlib.Core.Path.{◌≡◌}
use Prim.Native.Nat.{◌<◌}
use native.Mathlib.Omega.{arith}
use Rattle.entrywalk.specs.Walking.{beyond_keys}
use Rattle.entrywalk.proofs.Fronts.{front-first, front_above, some_key, first-in}
use Rattle.merging.proofs.Comings.{comes-ours, comes-theirs, comes-both}
use Rattle.merging.proofs.stepping.next.Goals as goal

pub head-p-requires : goal.head-p-requires
head-p-requires c = c.requires.1.1.2.own.within

pub head-q-requires : goal.head-q-requires
head-q-requires c = c.requires.1.1.3.own.within

pub alone-a-requires : goal.alone-a-requires
alone-a-requires c =
    let z = c.before.before in
    let p = z.requires in
    let q = c.head-q.ensures.0 in
    ((z.head-p.ensures.1.0 (omega (arith, q, c.if-p-q.true))).0, ((p.1.1.0, p.1.1.2), p.1.0.1))

pub alone-a-requires-then-q-p : goal.alone-a-requires-then-q-p
alone-a-requires-then-q-p c =
    let z = c.before.before.before in
    let p = z.requires in
    let q = z.head-p.ensures.0 in
    ((c.head-q.ensures.1.0 (omega (arith, q, c.if-q-p.true))).0, ((p.1.1.1, p.1.1.3), p.1.0.0))

pub returns-then-p-q : goal.returns-then-p-q
returns-then-p-q c = λ es fs h k.
    let a = c.before.before.before.before in
    let n = c.none_at-none.ensures in
    let i = a.before in
    let f = i.head-p.ensures in
    let q = i.head-q.ensures in
    let low : i.head-p.result < beyond_keys = omega (arith, q.0, i.if-p-q.true) in
    let g = a.alone-a.ensures es h in
    let same = front-first h f low g.steps.entry g.steps.more g.steps.parts in
    comes-ours _ _ _ _ _ _ _ _ es fs h k _ _ g i.requires.1.0.1
    (λ e j. omega (arith, g.steps.lies.key, same, front_above k q i.if-p-q.true e j)) (n.1 _) n.0.1

pub returns-then-q-p : goal.returns-then-q-p
returns-then-q-p c = λ es fs h k.
    let a = c.before.before.before.before in
    let n = c.none_at-none-then-q-p.ensures in
    let i = a.before in
    let f = i.head-p.ensures in
    let q = i.head-q.ensures in
    let low : i.head-q.result < beyond_keys = omega (arith, f.0, i.if-q-p.true) in
    let g = a.alone-a-then-q-p.ensures fs k in
    let same = front-first k q low g.steps.entry g.steps.more g.steps.parts in
    comes-theirs _ _ _ _ _ _ _ _ es fs h k _ _ g i.requires.1.0.0
    (λ e j. omega (arith, g.steps.lies.key, same, front_above h f i.if-q-p.true e j)) (n.1 _) n.0.0 n.0.1

pub entry_at-e-requires : goal.entry_at-e-requires
entry_at-e-requires c =
    let z = c.before.before.before in
    let p = z.requires in (
      (z.head-p.ensures.1.0 (some_key p.0 z.head-p.ensures.0 z.head-p.ensures.1.1 c.head-q.ensures.1.1
          (omega arith))).0,
      (p.1.1.0, p.1.1.2),
    )

pub entry_at-f-requires : goal.entry_at-f-requires
entry_at-f-requires c =
    let z = c.before.before.before.before in
    let p = z.requires in
    let q = c.head-q.ensures in
    let e = some_key p.0 z.head-p.ensures.0 z.head-p.ensures.1.1 q.1.1 (omega arith) in
    ((q.1.0 (omega (arith, e))).0, (p.1.1.1, p.1.1.3))

pub meet-kept-requires : goal.meet-kept-requires
meet-kept-requires c =
    let p = c.requires in
    let g = c.entry_at-e.ensures p.1.1.0 p.1.1.2 in
    let i = c.entry_at-f.ensures p.1.1.1 p.1.1.3 in
    ((g.entry, i.entry, g.lies, i.lies, p.1.1.4 g.entry i.entry (first-in p.1.1.2 g) (first-in p.1.1.3 i)), p.1.0)

pub returns : goal.returns
returns c = λ es fs h k.
    let o = c.before.before.before in
    let z = c.before.before.before.before.before.before.before in
    let f = z.head-p.ensures in
    let q = z.head-q.ensures in
    let g = o.entry_at-e.ensures es h in
    let i = o.entry_at-f.ensures fs k in
    let j = o.before.before in
    let e : z.head-p.result ≡ z.head-q.result = omega (arith, j.if-q-p.false, j.if-p-q.false) in
    let low = some_key z.requires.0 f.0 f.1.1 q.1.1 e in
    let r = c.meet-kept.ensures g.entry i.entry g.lies i.lies in
    comes-both _ _ _ _ _ _ _ _ es fs h k g i (omega (
      arith,
      e,
      front-first h f low g.entry g.more g.parts,
      front-first k q (omega (arith, low, e)) i.entry i.more i.parts,
    ))
    r.0 r.1
