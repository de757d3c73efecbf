-- `put_scan` meets its contract.
use Rattle.memory.specs.Putting.{scan_put}
use Rattle.memory.proofs.put_scan.Goals as goal

pub returns : goal.returns
unfolding scan_put
returns c = rw (
  c.put16-3.ensures,
  c.put16-2.ensures,
  c.put16.ensures,
  c.write_record.ensures.left,
  c.put8-2.ensures,
  c.flag.ensures,
  c.put8.ensures,
)
