-- `follow` meets its contract: the map clock first, then the entry's.
use mathlib.Core.Path.{sym, ◌∙◌}
use Prim.Native.Nat.{◌+◌}
use borrow.Author.Tests.{ltb-true}
use Rattle.asking.specs.Asking.{following}
use native.Mathlib.Omega.{arith}
use Rattle.asking.proofs.follow.Goals as goal

pub missing-requires : goal.missing-requires
missing-requires c =
    let h = c.before in
    let g = h.before in
    omega (arith, ltb-true (g.get-s.result + 1) g.args.d.counter (sym h.too_high.ensures ∙ c.if-too_high.true))

pub missing-requires-then-too_high-2 : goal.missing-requires-then-too_high-2
missing-requires-then-too_high-2 c =
    let h = c.before in
    let g = h.before in
    omega (arith, ltb-true (g.get-h.result + 1) g.args.d.counter (sym h.too_high-2.ensures ∙ c.if-too_high-2.true))

pub returns-then-too_high : goal.returns-then-too_high
unfolding following
returns-then-too_high c =
    let i = c.before in
    let h = i.before in
    c.missing.ensures ∙ rw (← h.get-s.ensures, sym h.too_high.ensures ∙ i.if-too_high.true)

pub returns-then-too_high-2 : goal.returns-then-too_high-2
unfolding following
returns-then-too_high-2 c =
    let j = c.before in
    let h = j.before in
    let g = h.before in
    let i = g.before in
    c.missing-then-too_high-2.ensures
    ∙ rw (
      ← i.get-s.ensures,
      sym i.too_high.ensures ∙ i.if-too_high.false,
      ← g.get-h.ensures,
      sym h.too_high-2.ensures
          ∙ j.if-too_high-2.true,
    )

pub returns : goal.returns
unfolding following
returns c =
    let h = c.before in
    let g = h.before in
    let i = g.before in
    rw (
      ← i.get-s.ensures,
      sym i.too_high.ensures ∙ i.if-too_high.false,
      ← g.get-h.ensures,
      sym h.too_high-2.ensures
          ∙ c.if-too_high-2.false,
    )
