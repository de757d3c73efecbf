-- `first_from` meets its contract: the loop follows the definition.
use mathlib.Core.Path.{◌≡◌, ap, ◌∙◌}
use Prim.Native.Nat.{ℕ}
use borrow.Author.Rules.{rules}
use native.Mathlib.Omega.{arith}
use Rattle.records.specs.declared.Record.{Record}
use Rattle.walks.specs.Walk.{field_of}
use Rattle.walks.proofs.Loops.{split-above, split_below}
use Rattle.walks.proofs.first_from.Goals as goal

field_is : (field : ℕ) {n : ℕ} {r q : Record} → n ≡ field_of field r → r ≡ q → n ≡ field_of field q
field_is field e f = e ∙ ap (field_of field) f

pub loop-low-init : goal.loop-low-init
loop-low-init c = (search rules, λ at k. (k.above, k.within))

pub loop-low-preserved-then-field_of-bound : goal.loop-low-preserved-then-field_of-bound
loop-low-preserved-then-field_of-bound c =
    let s = c.before.before.before.before in
    let e = field_is s.args.field c.field_of.ensures c.read_record-r.ensures in
    (omega arith, λ at k. let v = s.loop-low.invariant.1 at k in (split-above k _ (omega arith) (rw e at c.if-field_of-bound.true), v.1))

pub loop-low-preserved : goal.loop-low-preserved
loop-low-preserved c =
    let s = c.before.before.before.before in
    let e = field_is s.args.field c.field_of.ensures c.read_record-r.ensures in
    (omega arith, λ at k. let v = s.loop-low.invariant.1 at k in (v.0, split_below k _ (omega arith) (rw e at c.if-field_of-bound.false)))

pub returns : goal.returns
returns c = (omega arith, (omega arith, λ at k. let v = c.loop-low.invariant.1 at k in omega arith))
