-- `insert` meets its contract: one a turn moves up.
use mathlib.Core.Path.{◌≡◌}
use lib.ListN.{length}
use lib.Seq.{get_or-set_same}
use Rattle.limits.specs.Limits.{waiting_limit}
use Rattle.listlaws.proofs.Pads.{unmapped}
use Rattle.planned.specs.Planned.{no_held}
use Rattle.planned.proofs.Inserting.{moved-start, moved_on, moved-end}
use borrow.Author.Rules.{rules}
use native.Mathlib.Omega.{arith}
use Rattle.planned.proofs.seating.insert.Goals as goal

pub bounds-out-k : goal.bounds-out-k
bounds-out-k c = search (rules, unmapped)

pub loop-i-init : goal.loop-i-init
loop-i-init c = (search rules, moved-start _ _ _ (search (rules, unmapped)) (omega arith))

pub bounds-all-i : goal.bounds-all-i
bounds-all-i c = search (rules, unmapped)

pub bounds-out-i : goal.bounds-out-i
bounds-out-i c = let m = c.loop-i.invariant.1.long in omega (arith, m)

pub loop-i-preserved : goal.loop-i-preserved
loop-i-preserved c = let g = c.loop-i.invariant in (omega arith, moved_on g.1 g.0 (omega arith))

pub returns : goal.returns
returns c =
    let a = c.args in
    let n : length a.all.items ≡ waiting_limit = search (rules, unmapped) in (
      search rules,
      λ s l d h x. let e = h.count in
          moved-end h x (omega arith) (omega arith) e (omega arith)
          (get_or-set_same a.all.items a.k a.x no_held (omega arith)) c.loop-i.invariant.1,
    )
