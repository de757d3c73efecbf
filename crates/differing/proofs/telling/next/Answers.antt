-- `next` meets its contract: an entry of the first map alone, of the second alone, or of both.
use mathlib.Core.Path.{◌≡◌, ap, ◌∙◌}
use mathlib.Core.Bool.{Bool, cond}
use Prim.Native.Nat.{ℕ, ◌<◌}
use native.Mathlib.Omega.{arith}
use Rattle.entrywalk.specs.Walking.{beyond_keys}
use Rattle.entrywalk.proofs.Fronts.{front-first, front_above, some_key}
use Rattle.differing.proofs.Coming.{comes-first, comes-second, comes-both}
use Rattle.differing.proofs.telling.next.Goals as goal

pub head-p-requires : goal.head-p-requires
head-p-requires c = c.requires.1.2.own.within

pub head-q-requires : goal.head-q-requires
head-q-requires c = c.requires.1.3.own.within

pub entry_at-e-requires : goal.entry_at-e-requires
entry_at-e-requires c =
    let z = c.before.before in
    let p = z.requires in
    let q = c.head-q.ensures.0 in
    ((z.head-p.ensures.1.0 (omega (arith, q, c.if-p-q.true))).0, (p.1.0, p.1.2))

pub entry_at-f-requires : goal.entry_at-f-requires
entry_at-f-requires c =
    let z = c.before.before.before in
    let p = z.requires in
    let q = z.head-p.ensures.0 in
    ((c.head-q.ensures.1.0 (omega (arith, q, c.if-q-p.true))).0, (p.1.1, p.1.3))

pub entry_at-e-requires-2 : goal.entry_at-e-requires-2
entry_at-e-requires-2 c =
    let z = c.before.before.before in
    let p = z.requires in (
      (z.head-p.ensures.1.0 (some_key p.0 z.head-p.ensures.0 z.head-p.ensures.1.1 c.head-q.ensures.1.1
          (omega arith))).0,
      (p.1.0, p.1.2),
    )

pub entry_at-f-requires-2 : goal.entry_at-f-requires-2
entry_at-f-requires-2 c =
    let z = c.before.before.before.before in
    let p = z.requires in
    let q = c.head-q.ensures in
    let e = some_key p.0 z.head-p.ensures.0 z.head-p.ensures.1.1 q.1.1 (omega arith) in
    ((q.1.0 (omega (arith, e))).0, (p.1.1, p.1.3))

pub same_entry-same-requires : goal.same_entry-same-requires
same_entry-same-requires c =
    let p = c.requires in
    let g = c.entry_at-e-2.ensures p.1.0 p.1.2 in
    let i = c.entry_at-f-2.ensures p.1.1 p.1.3 in
    ((g.entry, g.lies), (i.entry, i.lies))

pub returns-then-p-q : goal.returns-then-p-q
returns-then-p-q c = λ es fs h k.
    let a = c.before in
    let i = a.before in
    let f = i.head-p.ensures in
    let q = i.head-q.ensures in
    let low : i.head-p.result < beyond_keys = omega (arith, q.0, i.if-p-q.true) in
    let g = a.entry_at-e.ensures es h in
    let same = front-first h f low g.entry g.more g.parts in
    comes-first h k g (λ e j. omega (arith, same, front_above k q i.if-p-q.true e j))

pub returns-then-q-p : goal.returns-then-q-p
returns-then-q-p c = λ es fs h k.
    let a = c.before in
    let i = a.before in
    let f = i.head-p.ensures in
    let q = i.head-q.ensures in
    let low : i.head-q.result < beyond_keys = omega (arith, f.0, i.if-q-p.true) in
    let g = a.entry_at-f.ensures fs k in
    let same = front-first k q low g.entry g.more g.parts in
    comes-second h k g (λ e j. omega (arith, same, front_above h f i.if-q-p.true e j))

pub returns : goal.returns
returns c = λ es fs h k.
    let b = c.before.before in
    let o = b.before.before in
    let j = o.before.before in
    let z = j.before.before in
    let f = z.head-p.ensures in
    let q = z.head-q.ensures in
    let g = o.entry_at-e-2.ensures es h in
    let i = o.entry_at-f-2.ensures fs k in
    let e : z.head-p.result ≡ z.head-q.result = omega (arith, j.if-q-p.false, j.if-p-q.false) in
    let low = some_key z.requires.0 f.0 f.1.1 q.1.1 e in
    let level : g.entry.key ≡ i.entry.key = omega (
      arith,
      e,
      front-first h f low g.entry g.more g.parts,
      front-first k q (omega (arith, low, e)) i.entry i.more i.parts,
    ) in
    comes-both h k g i level (b.class_of.ensures ∙ ap (λ (u : Bool). cond {A = ℕ} u 0 3) (b.same_entry-same.ensures g.entry
    i.entry g.lies i.lies))
