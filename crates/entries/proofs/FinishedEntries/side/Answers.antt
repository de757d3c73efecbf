-- `FinishedEntries::side` meets its contract: the loop adds the entries on the side, each finished.
use mathlib.Core.Path.{◌≡◌, ap, sym, ◌∙◌}
use mathlib.Core.Bool.{true, false, not}
use Prim.Native.Nat.{◌<◌}
use lib.ListN.{length, get_or}
use Rattle.listlaws.proofs.Pads.{unmapped, used}
use Rattle.limits.specs.Limits.{entry_limit}
use Rattle.listlaws.specs.Sift.{sift, those}
use Rattle.listlaws.proofs.SliceRests.{in_list, sift-yes, sift-no, drop-end}
use Rattle.removals.specs.Model.{waiting_of}
use Rattle.entries.specs.Entries.{stays, run, aside}
use Rattle.entries.proofs.Runs.{run-laid}
use Rattle.entries.proofs.Packs.{none_read}
use Rattle.entries.proofs.Finishing.{go-start, go-keep, go-skip, go-end, finish-one, one-stays, one-goes}
use borrow.Author.Rules.{rules}
use native.Mathlib.Omega.{arith}
use mathlib.Core.Bool.{not}
use Rattle.entries.proofs.FinishedEntries.side.Goals.{then-aside+then-not-is_empty, then-aside+else-not-is_empty, else-aside}
use Rattle.entries.proofs.FinishedEntries.side.Goals as goal

pub loop-x-init : goal.loop-x-init
loop-x-init c = (search rules, λ l laid q. go-start l q)

pub loop-x-preserved : goal.loop-x-preserved
loop-x-preserved c =
    let a = c.args in
    let ws = waiting_of a.waiting in
    let xs = c.as_slice-x-items.result.now in
    let i = c.loop-x.x-index in
    let x = get_or xs i none_read in
    let h : i < length xs = c.loop-x-test.true in
    let yes = λ (t : aside a.below a.key x ≡ true). ap (sift stays (run ws)) (sift-yes xs i none_read h (aside a.below a.key) (λ e. e) t) in
    elim c.if-aside.branch [
      | then-aside+then-not-is_empty w ↦
          let q = w.run-h.ensures x w.widened.ensures in
          let u : stays (run ws x) ≡ true = rw (ap (λ o. o.clock) q) at (ap not (sym w.is_empty.ensures ∙ w.if-not-is_empty.true)) in
          rw w.out-is (
            omega (arith, c.loop-x.invariant.0),
            λ l laid p.
                go-keep (c.loop-x.invariant.1 l laid p) (yes (sym c.aside.ensures ∙ w.if-aside.true) ∙ one-stays (run ws) x _ u)
                (λ m f. finish-one m (run ws x) f q (run-laid ws (laid x (in_list xs i none_read h))) w.lay-laid.ensures w.slot-k.ensures.1),
          )
      | then-aside+else-not-is_empty w ↦
          let q = w.run-h.ensures x w.widened.ensures in
          let u : stays (run ws x) ≡ false = rw (ap (λ o. o.clock) q) at (ap not (sym w.is_empty.ensures ∙ w.if-not-is_empty.false)) in
          rw w.out-is (
            omega (arith, c.loop-x.invariant.0),
            λ l laid p.
                go-skip (c.loop-x.invariant.1 l laid p) (yes (sym c.aside.ensures ∙ w.if-aside.true) ∙ one-goes (run ws) x _ u),
          )
      | else-aside w ↦ rw w.out-is (
        omega (arith, c.loop-x.invariant.0),
        λ l laid p.
            go-skip (c.loop-x.invariant.1 l laid p) (ap (sift stays (run ws))
            (sift-no xs i none_read h (aside a.below a.key) (λ e. e) (sym c.aside.ensures ∙ w.if-aside.false))),
      )
    ]

pub returns : goal.returns
unfolding sift
returns c =
    let a = c.args in
    let e = c.as_slice-x-items.ensures in
    let h : length a.from.items ≡ entry_limit = search (rules, unmapped) in (
      omega (arith, c.loop-x.invariant.0, ap length e, used a.from.len entry_limit a.from.items h),
      λ l laid p.
          rw (← e) (go-end (c.loop-x.invariant.1 l (λ x i. laid x (rw e at i)) p)
          (ap (λ r. sift stays (run (waiting_of a.waiting)) (those (aside a.below a.key) r))
          (drop-end c.as_slice-x-items.result.now c.loop-x.x-index (omega arith)))),
    )
