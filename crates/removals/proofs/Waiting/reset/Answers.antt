-- `Waiting::reset` meets its contract: the loop cuts each removal, and unites those that are left.
use mathlib.Core.Path.{◌≡◌, refl, ap, sym, ◌∙◌}
use mathlib.Core.Bool.{not}
use mathlib.Core.List.{[]}
use borrow.Author.Tests.{not-true}
use lib.ListN.{length}
use Rattle.listlaws.specs.First.{first_in}
use Rattle.listlaws.specs.Fold.{fold}
use Rattle.listlaws.specs.Sift.{sift}
use Rattle.listlaws.proofs.Pads.{unmapped, used}
use Rattle.listlaws.proofs.SliceRests.{in_list, drop-end}
use Rattle.clock.specs.Dots.{dots_of}
use Rattle.limits.specs.Limits.{waiting_limit}
use Rattle.removals.specs.Counted.{reset_as}
use Rattle.removals.specs.Waits.{unite_into, cut_removal, remains, reset_waiting}
use Rattle.removals.specs.Valid.{ValidRemoval}
use Rattle.removals.proofs.Packs.{no_removal_read}
use Rattle.removals.proofs.WaitingValid.{valid-cut-removal, valid-none, valid-one}
use Rattle.removals.proofs.Resetting.{reset-short, stored-few, stored-in, reset-next, reset-skip}
use borrow.Author.Rules.{rules}
use native.Mathlib.Omega.{arith}
use Rattle.removals.proofs.Waiting.reset.Goals.{After-cut-left, then-not-is_empty, else-not-is_empty}
use Rattle.removals.proofs.Waiting.reset.Goals as goal

pub loop-w-init : goal.loop-w-init
unfolding first_in
loop-w-init c = record {
  state = [];
  packed = rw c.new-none.ensures (sym (reset-short [] refl));
  left = refl;
  few = omega arith;
  valid = valid-none;
}

-- what is left of the removal is valid
valid-left : (c : After-cut-left) → ValidRemoval c.cut-left.result
valid-left c =
    let v = rw (← c.as_slice-w-items.ensures) at c.requires in
    rw c.cut-left.ensures (valid-cut-removal (v.each _ (in_list _ c.loop-w.w-index no_removal_read c.loop-w-test.true)) (dots_of c.args.by))

pub unite-out-requires : goal.unite-out-requires
unite-out-requires c =
    let u = c.loop-w.invariant in
    let s = c.args.self in
    let w : length s.items ≡ waiting_limit = search (rules, unmapped) in (
      omega (
        arith,
        ap (λ h. h.waiting.len) u.packed,
        stored-few u.state,
        u.few,
        ap length c.as_slice-w-items.ensures,
        used s.len waiting_limit s.items w,
      ),
      λ w i. ap (λ r. r.keys) (u.valid.each w (stored-in u.state w (rw u.packed at i))).laid,
      ap (λ r. r.keys) (valid-left c.before.before.before).laid,
    )

pub loop-w-preserved : goal.loop-w-preserved
loop-w-preserved c =
    let u = c.loop-w.invariant in
    elim c.if-not-is_empty.branch [
      | then-not-is_empty w ↦
          let v = valid-left c.before.before.before in
          let t = ap not (sym c.is_empty.ensures) ∙ (ap not w.if-not-is_empty.true) in
          let e = not-true _ t in
          rw w.out-is
          (reset-next u c.loop-w-test.true c.cut-left.ensures t v e (w.unite-out.ensures u.state u.valid (valid-one v e) u.packed))
      | else-not-is_empty w ↦
          rw w.out-is
          (reset-skip u c.loop-w-test.true c.cut-left.ensures (ap not (sym c.is_empty.ensures) ∙ (ap not w.if-not-is_empty.false)))
    ]

pub returns : goal.returns
unfolding reset_waiting fold sift
returns c =
    let u = c.loop-w.invariant in
    let ws = c.as_slice-w-items in
    rw (← ws.ensures) (u.packed ∙ ap reset_as (sym (u.left ∙ ap (λ r. fold unite_into u.state (sift remains (cut_removal (dots_of c.args.by)) r))
    (drop-end ws.result.now c.loop-w.w-index (omega arith)))))
