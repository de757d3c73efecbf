-- `map_of` meets its contract.
use Rattle.byvalue.proofs.reading.map_of.Goals as goal

pub returns : goal.returns
returns c =
    λ i. record { clock = c.clock_at-clock.ensures i; entries = c.entries_of-entries.ensures i; waiting = c.waiting_of-waiting.ensures i }
