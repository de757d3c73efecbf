-- `Entries::only` meets its contract: the loop sifts the entries.
use mathlib.Core.Path.{refl, ap}
use Prim.Native.Nat.{◌<◌}
use borrow.Author.Tests.{eq-eqb, ne_eqb}
use Rattle.listlaws.proofs.Pads.{unmapped}
use Rattle.listlaws.proofs.SliceSifting.{sifting-start, sifting-keep, sifting-drop, sifting-end}
use Rattle.limits.specs.Limits.{entry_limit}
use Rattle.register.proofs.Packs.{in_room}
use Rattle.entries.proofs.Packs.{none_read, entry-pushed}
use borrow.Author.Rules.{rules}
use native.Mathlib.Omega.{arith}
use Rattle.entries.proofs.Entries.only.Goals.{In-loop-e, then-e-key, else-e-key}
use Rattle.entries.proofs.Entries.only.Goals as goal

-- there is room for one more
room : (c : In-loop-e) → c.loop-e.out.len < entry_limit
room c = in_room c.args.self.len c.args.self.items c.loop-e.invariant.0 c.loop-e-test.true c.as_slice-e-items.ensures (search (rules, unmapped))

pub loop-e-init : goal.loop-e-init
loop-e-init c = (omega (arith, ap (λ r. r.len) c.new-out.ensures), sifting-start c.new-out.ensures)

pub loop-e-preserved : goal.loop-e-preserved
loop-e-preserved c =
    elim c.if-e-key.branch [
      | then-e-key w ↦ rw w.out-is (
        omega (arith, c.loop-e.invariant.0),
        sifting-keep none_read c.loop-e.invariant.1 c.loop-e-test.true refl (eq-eqb _ _ w.if-e-key.true)
            (λ l e. entry-pushed l _ e (omega (arith, ap (λ k. k.len) e, room c.before.before))),
      )
      | else-e-key w ↦ rw w.out-is (
        omega (arith, c.loop-e.invariant.0),
        sifting-drop none_read c.loop-e.invariant.1 c.loop-e-test.true refl (ne_eqb _ _ w.if-e-key.false),
      )
    ]

pub returns : goal.returns
returns c = rw (← c.as_slice-e-items.ensures) (sifting-end c.loop-e.invariant.1 (omega arith))

pub offset_bounds-out-k : goal.offset_bounds-out-k
offset_bounds-out-k c = omega (arith, room c.before.before.before)

pub bounds-out-k : goal.bounds-out-k
bounds-out-k c = room c.before.before.before

pub overflow_add-out : goal.overflow_add-out
overflow_add-out c = omega (arith, room c.before.before.before)
