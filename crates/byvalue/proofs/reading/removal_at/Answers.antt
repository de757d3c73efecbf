-- `removal_at` meets its contract.
use Rattle.byvalue.proofs.reading.removal_at.Goals as goal

pub returns : goal.returns
returns c = λ i. record { clock = c.clock_at-clock.ensures i; keys = c.keys_at-keys.ensures i }
