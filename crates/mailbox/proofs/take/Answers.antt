-- `take` meets its contract.
use mathlib.Core.Path.{refl, ap, ◌∙◌}
use borrow.Author.Tests.{eq-eqb}
use native.Mathlib.Omega.{arith}
use lib.ListN.{get_or}
use Rattle.listlaws.proofs.SliceFolding.{folding-on, folding-end}
use Rattle.mailbox.specs.Machine.{byte_in, piece_in}
use Rattle.mailbox.proofs.take.Goals as goal

pub loop-b-preserved : goal.loop-b-preserved
loop-b-preserved c =
    folding-on 0 c.loop-b.invariant c.loop-b-test.true
    (λ w e. c.take_byte.ensures ∙ ap (λ m. byte_in m (get_or c.args.piece.now c.loop-b.b-index 0)) e)

pub returns : goal.returns
unfolding piece_in
returns c = rw (eq-eqb _ 1 c.if-mem-ne1.false) (refl, folding-end c.loop-b.invariant (omega arith))
