-- `Register::standing` meets its contract: the loop sifts the values.
use mathlib.Core.Path.{refl, ap, sym, ◌∙◌}
use mathlib.Core.Bool.{not}
use Prim.Native.Nat.{◌<◌}
use Rattle.listlaws.proofs.Pads.{unmapped}
use Rattle.listlaws.proofs.SliceSifting.{sifting-start, sifting-keep, sifting-drop, sifting-end}
use Rattle.limits.specs.Limits.{value_limit}
use Rattle.register.proofs.Packs.{none_read, in_room, pushed}
use borrow.Author.Rules.{rules}
use native.Mathlib.Omega.{arith}
use Rattle.register.proofs.Register.standing.Goals.{In-loop-v, then-not-outdoes, else-not-outdoes}
use Rattle.register.proofs.Register.standing.Goals as goal

-- there is room for one more
room : (c : In-loop-v) → c.loop-v.out.len < value_limit
room c = in_room c.args.self.len c.args.self.values c.loop-v.invariant.0 c.loop-v-test.true c.as_slice-v-items.ensures (search (rules, unmapped))

pub loop-v-init : goal.loop-v-init
loop-v-init c = (omega (arith, ap (λ r. r.len) c.new-out.ensures), sifting-start c.new-out.ensures)

pub loop-v-preserved : goal.loop-v-preserved
loop-v-preserved c =
    elim c.if-not-outdoes.branch [
      | then-not-outdoes w ↦ rw w.out-is (
        omega (arith, c.loop-v.invariant.0),
        sifting-keep none_read c.loop-v.invariant.1 c.loop-v-test.true refl (ap not (sym c.outdoes.ensures ∙ w.if-not-outdoes.true))
            (λ l e. pushed l _ e (omega (arith, ap (λ k. k.len) e, room c.before.before.before))),
      )
      | else-not-outdoes w ↦ rw w.out-is (
        omega (arith, c.loop-v.invariant.0),
        sifting-drop none_read c.loop-v.invariant.1 c.loop-v-test.true refl (ap not (sym c.outdoes.ensures ∙ w.if-not-outdoes.false)),
      )
    ]

pub returns : goal.returns
returns c = rw (← c.as_slice-v-items.ensures) (sifting-end c.loop-v.invariant.1 (omega arith))

pub offset_bounds-out-k : goal.offset_bounds-out-k
offset_bounds-out-k c = omega (arith, room c.before.before.before.before)

pub bounds-out-k : goal.bounds-out-k
bounds-out-k c = room c.before.before.before.before

pub overflow_add-out : goal.overflow_add-out
overflow_add-out c = omega (arith, room c.before.before.before.before)
