-- `find` meets its contract.
use mathlib.Core.Path.{sym, ◌∙◌}
use borrow.Author.Tests.{eq-eqb, ne_eqb}
use native.Mathlib.Omega.{arith}
use Rattle.memory.proofs.Looking.{look-here, look-on, look-end}
use Rattle.memory.proofs.find.Goals as goal

pub returns-then-read32-key : goal.returns-then-read32-key
returns-then-read32-key c =
    look-here _ _ _ _ c.loop-j.invariant c.loop-j-test.true c.requires (eq-eqb _ _ (sym c.read32.ensures ∙ c.if-read32-key.true))

pub loop-j-preserved : goal.loop-j-preserved
loop-j-preserved c =
    look-on c.args.mem.now c.args.n c.args.key c.loop-j.j c.loop-j.invariant c.loop-j-test.true
    (ne_eqb _ _ (λ e. c.if-read32-key.false (c.read32.ensures ∙ e)))

pub returns : goal.returns
returns c = look-end _ _ _ _ c.loop-j.invariant c.requires (omega arith)
