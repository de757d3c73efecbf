-- `Wide::cut` meets its contract: the loop sifts the values, each cut.
use mathlib.Core.Path.{ap, sym, ◌∙◌}
use mathlib.Core.Bool.{not}
use Prim.Native.Nat.{◌<◌}
use Rattle.listlaws.proofs.Pads.{unmapped}
use Rattle.listlaws.proofs.SliceSifting.{sifting-start, sifting-keep, sifting-drop, sifting-end}
use Rattle.register.specs.InHand.{wide_room}
use Rattle.register.specs.Values.{cut_values}
use Rattle.register.proofs.Packs.{none_read, in_room, wide-pushed}
use borrow.Author.Rules.{rules}
use native.Mathlib.Omega.{arith}
use Rattle.register.proofs.Wide.cut.Goals.{In-loop-v, then-not-is_empty, else-not-is_empty}
use Rattle.register.proofs.Wide.cut.Goals as goal

-- there is room for one more
room : (c : In-loop-v) → c.loop-v.out.len < wide_room
room c = in_room c.args.self.len c.args.self.values c.loop-v.invariant.0 c.loop-v-test.true c.as_slice-v-items.ensures (search (rules, unmapped))

pub loop-v-init : goal.loop-v-init
loop-v-init c = (omega (arith, ap (λ r. r.len) c.new-out.ensures), sifting-start c.new-out.ensures)

pub loop-v-preserved : goal.loop-v-preserved
loop-v-preserved c =
    elim c.if-not-is_empty.branch [
      | then-not-is_empty w ↦ rw w.out-is (
        omega (arith, c.loop-v.invariant.0),
        sifting-keep none_read c.loop-v.invariant.1 c.loop-v-test.true c.cut-left.ensures
            (ap not (sym c.is_empty.ensures ∙ w.if-not-is_empty.true))
            (λ l e. wide-pushed l _ e (omega (arith, ap (λ k. k.len) e, room c.before.before.before.before.before))),
      )
      | else-not-is_empty w ↦ rw w.out-is (
        omega (arith, c.loop-v.invariant.0),
        sifting-drop none_read c.loop-v.invariant.1 c.loop-v-test.true c.cut-left.ensures
            (ap not (sym c.is_empty.ensures ∙ w.if-not-is_empty.false)),
      )
    ]

pub returns : goal.returns
unfolding cut_values
returns c = rw (← c.as_slice-v-items.ensures) (sifting-end c.loop-v.invariant.1 (omega arith))

pub offset_bounds-out-k : goal.offset_bounds-out-k
offset_bounds-out-k c = omega (arith, room c.before.before.before.before.before)

pub bounds-out-k : goal.bounds-out-k
bounds-out-k c = room c.before.before.before.before.before

pub overflow_add-out : goal.overflow_add-out
overflow_add-out c = omega (arith, room c.before.before.before.before.before)
