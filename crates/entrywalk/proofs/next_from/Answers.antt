-- `next_from` meets its contract: what is passed lies below, and the walk ends at the first place that does not.
use mathlib.Core.Path.{◌≡◌, ap, ◌∙◌}
use Prim.Native.Nat.{ℕ}
use native.Mathlib.Omega.{arith}
use Rattle.records.specs.declared.Record.{Record}
use Rattle.walks.specs.Walk.{field_of}
use Rattle.walks.proofs.Loops.{split-above, split_below}
use Rattle.entrywalk.proofs.next_from.Goals as goal

field_is : (field : ℕ) {n : ℕ} {r q : Record} → n ≡ field_of field r → r ≡ q → n ≡ field_of field q
field_is field e f = e ∙ ap (field_of field) f

pub loop-i-init : goal.loop-i-init
loop-i-init c = λ at k. k.above

pub returns-then-bound-field_of : goal.returns-then-bound-field_of
returns-then-bound-field_of c =
    let s = c.before.before.before.before in
    let e = field_is s.args.field c.field_of.ensures c.read_record-r.ensures in (
      omega arith,
      (
        omega arith,
        λ at k.
            let v = s.loop-i.invariant at k in
            let w = split_below k _ (omega arith) (rw e at c.if-bound-field_of.true) in
            omega arith,
      ),
    )

pub loop-i-preserved : goal.loop-i-preserved
loop-i-preserved c =
    let s = c.before.before.before.before in
    let e = field_is s.args.field c.field_of.ensures c.read_record-r.ensures in
    λ at k. split-above k _ (omega arith) (rw e at c.if-bound-field_of.false)

pub returns : goal.returns
returns c = (omega arith, (omega arith, λ at k. let v = c.loop-i.invariant at k in let w = k.within in omega arith))
