-- `weigh` meets its contract: 5, 6, 7, 8, then how many records there are.
use mathlib.Core.Path.{sym, ◌∙◌}
use lib.ListN.{length-append}
use native.Mathlib.Omega.{arith}
use borrow.Author.Tests.{ltb-false, lt-ltb, le-ltb}
use Rattle.mapimage.specs.MapImage.{flat_from, waiting_dots, waiting_keys}
use Rattle.drafting.proofs.Waits.{few-dots, few-keys}
use Rattle.drafting.proofs.waiting.weigh.Goals as goal

pub returns-then-count-gt-ENTRIES : goal.returns-then-count-gt-ENTRIES
returns-then-count-gt-ENTRIES f =
    let x = f.refused.ensures in
    (λ l w e n p. (x.0 ∙ rw (lt-ltb _ _ (rw e at f.if-count-gt-ENTRIES.true)), λ z. omega (arith, x.0)), omega (arith, x.1))

pub returns-then-wide : goal.returns-then-wide
returns-then-wide f =
    let x = f.refused-then-wide.ensures in (
      λ l w e n p. (x.0 ∙ rw (le-ltb _ _ (rw e at f.if-count-gt-ENTRIES.false), sym n ∙ f.if-wide.true), λ z. omega (arith, x.0)),
      omega (arith, x.1),
    )

pub returns-then-plan : goal.returns-then-plan
returns-then-plan f =
    let x = f.refused-then-plan.ensures in (
      λ l w e n p. (
        x.0 ∙ rw (
          le-ltb _ _ (rw e at f.if-count-gt-ENTRIES.false),
          sym n ∙ f.if-wide.false,
          sym p.made.over
              ∙ f.if-plan.true,
        ),
        λ z. omega (arith, x.0),
      ),
      omega (arith, x.1),
    )

pub count_keys-keys-requires : goal.count_keys-keys-requires
count_keys-keys-requires f =
    let z = f.requires in
    let p = z.1 in
    let n = f.if-plan.false in
    (p.first, p.second, z.0, p.in_first, p.in_second, p.made.moves n, ltb-false _ _ (sym p.made.over ∙ n))

pub returns-then-keys : goal.returns-then-keys
returns-then-keys f =
    let x = f.refused-then-keys.ensures in
    let c = f.before.before in
    let n = c.if-plan.false in (
      λ l w e o p.
          let few = ltb-false _ _ (sym p.made.over ∙ n) in
          let k = c.count_keys-keys.ensures p.first p.second w p.in_first p.in_second (p.made.moves n) few p.valid.each in (
            x.0 ∙ rw (
              le-ltb _ _ (rw e at c.if-count-gt-ENTRIES.false),
              sym o
                  ∙ c.if-wide.false,
              sym p.made.over ∙ n,
              sym k.0 ∙ f.if-keys.true,
            ),
            λ z. omega (arith, x.0),
          ),
      omega (arith, x.1),
    )

pub count_dots-requires : goal.count_dots-requires
count_dots-requires f =
    let z = f.requires in
    (f.if-plan.false, (_, _, z.1.first, z.1.second, z.0, z.1.made))

pub overflow_add-records : goal.overflow_add-records
overflow_add-records f =
    let c = f.before.before.before in
    let n = c.if-plan.false in
    let z = c.requires in
    let p = z.1 in
    let few = ltb-false _ _ (sym p.made.over ∙ n) in
    let k = c.count_keys-keys.ensures p.first p.second z.0 p.in_first p.in_second (p.made.moves n) few p.valid.each in
    omega (
      arith,
      k.1,
      few-keys p.valid few (sym k.0 ∙ f.if-keys.false),
      f.count_dots.ensures _ _ _ _ _ p.made,
      few-dots p.small few,
    )

pub returns : goal.returns
returns f =
    let c = f.before.before.before in
    let n = c.if-plan.false in
    let z = c.requires in
    let p = z.1 in
    let few = ltb-false _ _ (sym p.made.over ∙ n) in
    let k = c.count_keys-keys.ensures p.first p.second z.0 p.in_first p.in_second (p.made.moves n) few p.valid.each in (
      λ l w e o p.
          let few = ltb-false _ _ (sym p.made.over ∙ n) in
          let k = c.count_keys-keys.ensures p.first p.second w p.in_first p.in_second (p.made.moves n) few p.valid.each in (
            rw (
              le-ltb _ _ (rw e at c.if-count-gt-ENTRIES.false),
              sym o ∙ c.if-wide.false,
              sym p.made.over ∙ n,
              sym k.0 ∙ f.if-keys.false,
            ),
            λ z. omega (arith, k.1, f.count_dots.ensures _ _ _ _ _ p.made, length-append (flat_from waiting_dots 0 w) (waiting_keys w)),
          ),
      omega (
        arith,
        k.1,
        few-keys p.valid few (sym k.0 ∙ f.if-keys.false),
        f.count_dots.ensures _ _ _ _ _ p.made,
        few-dots p.small few,
      ),
    )
