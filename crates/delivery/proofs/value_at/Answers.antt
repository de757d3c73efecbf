-- `value_at` meets its contract.
use Rattle.delivery.proofs.value_at.Goals as goal

pub returns : goal.returns
returns c = rw (c.read16-origin.ensures, c.clock_at-clock.ensures, c.read64-number.ensures)
