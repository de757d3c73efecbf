-- `Entries::remove` meets its contract: the loop sifts the entries, each with the removal.
use mathlib.Core.Path.{ap, sym, ◌∙◌}
use mathlib.Core.Bool.{not}
use Prim.Native.Nat.{◌<◌}
use Rattle.listlaws.proofs.Pads.{unmapped}
use Rattle.listlaws.proofs.SliceSifting.{sifting-start, sifting-keep, sifting-drop, sifting-end}
use Rattle.limits.specs.Limits.{entry_limit}
use Rattle.entries.specs.Entries.{remove_entries}
use Rattle.register.proofs.Packs.{in_room}
use Rattle.entries.proofs.Packs.{none_read, entry-pushed}
use borrow.Author.Rules.{rules}
use native.Mathlib.Omega.{arith}
use Rattle.entries.proofs.Entries.remove.Goals.{In-loop-e, then-not-is_empty, else-not-is_empty}
use Rattle.entries.proofs.Entries.remove.Goals as goal

-- there is room for one more
room : (c : In-loop-e) → c.loop-e.out.len < entry_limit
room c = in_room c.args.self.len c.args.self.items c.loop-e.invariant.0 c.loop-e-test.true c.as_slice-e-items.ensures (search (rules, unmapped))

pub loop-e-init : goal.loop-e-init
loop-e-init c = (omega (arith, ap (λ r. r.len) c.new-out.ensures), sifting-start c.new-out.ensures)

pub loop-e-preserved : goal.loop-e-preserved
loop-e-preserved c =
    elim c.if-not-is_empty.branch [
      | then-not-is_empty w ↦ rw w.out-is (
        omega (arith, c.loop-e.invariant.0),
        sifting-keep none_read c.loop-e.invariant.1 c.loop-e-test.true c.removed-left.ensures
            (ap not (sym c.is_empty.ensures ∙ w.if-not-is_empty.true))
            (λ l e. entry-pushed l _ e (omega (arith, ap (λ k. k.len) e, room c.before.before.before.before.before))),
      )
      | else-not-is_empty w ↦ rw w.out-is (
        omega (arith, c.loop-e.invariant.0),
        sifting-drop none_read c.loop-e.invariant.1 c.loop-e-test.true c.removed-left.ensures
            (ap not (sym c.is_empty.ensures ∙ w.if-not-is_empty.false)),
      )
    ]

pub returns : goal.returns
unfolding remove_entries
returns c = rw (← c.as_slice-e-items.ensures) (sifting-end c.loop-e.invariant.1 (omega arith))

pub offset_bounds-out-k : goal.offset_bounds-out-k
offset_bounds-out-k c = omega (arith, room c.before.before.before.before.before)

pub bounds-out-k : goal.bounds-out-k
bounds-out-k c = room c.before.before.before.before.before

pub overflow_add-out : goal.overflow_add-out
overflow_add-out c = omega (arith, room c.before.before.before.before.before)
