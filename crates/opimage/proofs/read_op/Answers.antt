-- `read_op` meets its contract: every record is handed to the reader, which is then asked.
use mathlib.Core.Path.{refl}
use borrow.Author.Tests.{lt-ltb, le-ltb, eq-eqb, ne_eqb}
use Rattle.records.proofs.Feeding.{feed-start, feed-on, feed-end}
use Rattle.opimage.specs.OpImage.{read_op}
use native.Mathlib.Omega.{arith}
use Rattle.opimage.proofs.read_op.Goals as goal

pub returns-then-len-gt-OP_LONGEST : goal.returns-then-len-gt-OP_LONGEST
unfolding read_op
returns-then-len-gt-OP_LONGEST c = rw (lt-ltb _ _ c.if-len-gt-OP_LONGEST.true) refl

pub returns-then-len-ne0 : goal.returns-then-len-ne0
unfolding read_op
returns-then-len-ne0 c = rw (le-ltb _ _ c.if-len-gt-OP_LONGEST.false, ne_eqb _ _ c.if-len-ne0.true) refl

pub loop-i-init : goal.loop-i-init
loop-i-init c = feed-start _ c.new-reader.ensures

pub take-reader-requires : goal.take-reader-requires
take-reader-requires c = (c.loop-i.invariant.done, c.loop-i.invariant.fed)

pub loop-i-preserved : goal.loop-i-preserved
loop-i-preserved c =
    feed-on _ c.loop-i.invariant c.loop-i-test.true (λ l f. rw (← c.read_record-r.ensures) (c.take-reader.ensures l f))

pub returns : goal.returns
unfolding read_op
returns c =
    let f = feed-end _ c.loop-i.invariant (omega arith) in
    rw (le-ltb _ _ c.if-len-gt-OP_LONGEST.false, eq-eqb _ _ c.if-len-ne0.false, ← f.2) (c.verdict.ensures f.0 f.1)
