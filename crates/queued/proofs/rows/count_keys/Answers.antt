-- `count_keys` meets its contract: a key a turn.
use Prim.Native.Nat.{ℕ}
use lib.ListN.{get_or-replicate}
use native.Mathlib.Omega.{arith}
use Rattle.limits.specs.Limits.{waiting_limit}
use Rattle.queued.proofs.Counting.{count-start, count-on, count-end, each-end, tally-most}
use Rattle.queued.proofs.rows.count_keys.Goals as goal

pub loop-i-init : goal.loop-i-init
loop-i-init c =
    let p = c.requires in (
      (p.3.order, p.3.within),
      (
        (p.4.order, p.4.within),
        (
          omega arith,
          (
            λ q h. omega (arith, get_or-replicate {A = ℕ} waiting_limit q 0 0 h),
            λ w v result a b mv few sound. count-start a b,
          ),
        ),
      ),
    )

pub row-r-requires : goal.row-r-requires
row-r-requires c = let v = c.loop-i.invariant in (v.0, (v.1.0, c.loop-i-test.true))

pub add_row-more-requires : goal.add_row-more-requires
add_row-more-requires c = λ p h. let k = c.loop-i.invariant.1.1.1.0 p h in omega arith

pub loop-i-preserved : goal.loop-i-preserved
loop-i-preserved c =
    let t = c.before.before.before.before.before in
    let e = c.row-r.ensures in
    let r = e.0 in
    let k = c.count_row-total.ensures.0 in
    let v = t.loop-i.invariant.1.1.1 in (
      (omega arith, omega arith),
      (
        (omega arith, omega arith),
        (
          omega arith,
          (
            λ p h. omega (arith, tally-most c.row-r.result.under p _ _ (v.0 p h) (c.add_row-more.ensures p h)),
            λ w v result a b mv few sound.
                let k = t.loop-i.invariant.1.1.1.1 w v result a b mv few sound in
                count-on k few sound (e.1 k.low w v result k.first k.second mv) (c.count_row-total.ensures.1 _) c.add_row-more.ensures,
          ),
        ),
      ),
    )

pub returns : goal.returns
returns c = λ w v result a b mv few sound.
    let t = c.before.before in
    let k = t.loop-i.invariant.1.1.1.1 w v result a b mv few sound in
    let f = c.loop-i-test.false in
    (c.any_long-over.ensures result few (each-end k few mv f), count-end k few mv f)
