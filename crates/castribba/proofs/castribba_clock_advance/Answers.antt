-- `castribba_clock_advance` meets its contract, by that of `advance`: where the dot took no effect, the clock is as it was.
use mathlib.Core.Path.{ap}
use Rattle.advance.specs.declared.Advanced.{Advanced}
use Rattle.advance.proofs.Advances.{as-given}
use Rattle.castribba.proofs.castribba_clock_advance.Goals as goal

pub returns-then-a : goal.returns-then-a
returns-then-a c = (
  ap (λ (a : Advanced). a.word) c.advance-a.ensures,
  ap (λ (a : Advanced). a.clock) c.advance-a.ensures,
)

pub returns-else-a : goal.returns-else-a
returns-else-a c = (
  ap (λ (a : Advanced). a.word) c.advance-a.ensures,
  as-given c.args.clock.now c.args.actor c.args.counter c.advance-a.ensures c.if-a.false,
)
