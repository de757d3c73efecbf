-- `scan_of` meets its contract.
use Rattle.memory.proofs.scan_of.Goals as goal

pub returns : goal.returns
returns c = rw (
  c.read16-inner.ensures,
  c.read16-middle.ensures,
  c.read16-outer.ensures,
  c.read_record-last.ensures,
)
