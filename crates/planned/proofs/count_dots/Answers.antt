-- `count_dots` meets its contract: a removal a turn.
use mathlib.Core.Path.{◌≡◌, ap, subst}
use mathlib.Core.List.{List}
use Prim.Native.Nat.{ℕ, ◌<◌}
use lib.ListN.{length, length-take}
use lib.Seq.{get_or-take}
use Rattle.limits.specs.Limits.{waiting_limit}
use Rattle.listlaws.proofs.Pads.{unmapped}
use Rattle.planned.specs.declared.Held.{Held}
use Rattle.planned.specs.Left.{left_in, RunWithin}
use Rattle.planned.specs.Planned.{no_held}
use Rattle.planned.proofs.Planning.{plan-places, plan-within, plan-count, dots-end}
use borrow.Author.Rules.{rules}
use native.Mathlib.Omega.{arith}
use Rattle.planned.proofs.count_dots.Goals as goal

pub count-total-requires : goal.count-total-requires
count-total-requires c =
    let p = c.requires in
    let h = p.1.5 in
    let n = c.places.result in
    let items = c.args.p.items in
    let i = c.loop-x.x-index in
    let k : i < n = omega (arith, c.loop-x-test.true, length-take n items) in
    let e = plan-places h p.0 c.places.ensures in
    rw (get_or-take n items i no_held k) (_, plan-within h p.0 (omega arith))

pub loop-x-preserved : goal.loop-x-preserved
loop-x-preserved c =
    let p = c.requires in
    let n = c.places.result in
    let items = c.args.p.items in
    let i = c.loop-x.x-index in
    let k : i < n = omega (arith, c.loop-x-test.true, length-take n items) in
    let e = c.count-total.ensures in
    let of = subst (λ (x : Held). (s : List ℕ) → RunWithin s x → c.count-total.result ≡ length (left_in s x))
    (get_or-take n items i no_held k) e.1 in (
      omega (arith, e.0, c.loop-x.invariant.0),
      λ s t w v result h.
          let m = plan-places h p.0 c.places.ensures in
          let inside : i < length result = omega arith in
          plan-count h p.0 inside _ _ (c.loop-x.invariant.1 s t w v result h) (of _ (plan-within h p.0 inside)),
    )

pub returns : goal.returns
returns c = λ s t w v result h.
    let items = c.args.p.items in
    let room : length items ≡ waiting_limit = search (rules, unmapped) in
    let m = plan-places h c.requires.0 c.places.ensures in
    omega (
      arith,
      c.loop-x.invariant.1 s t w v result h,
      ap length (dots-end result c.loop-x.x-index (omega (arith, c.loop-x-test.false, length-take c.places.result items, c.places.ensures.0))),
    )
