-- `entry_at` meets its contract.
use Rattle.delivery.proofs.entry_at.Goals as goal

pub returns : goal.returns
returns c = λ i. record { key = c.read32-key.ensures i; clock = c.clock_at-clock.ensures i; register = c.register_at-register.ensures i }
