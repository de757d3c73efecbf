-- `take_record` meets its contract.
use borrow.Author.Tests.{eq-eqb, ne_eqb}
use Rattle.mailbox.specs.Machine.{record_in}
use Rattle.mailbox.proofs.take_record.Goals as goal

pub returns-then-lost-eq0 : goal.returns-then-lost-eq0
unfolding record_in
returns-then-lost-eq0 c = let at = c.before.before.before.before.before in
    let s = rw (
      at.scan_of-old.ensures,
      c.wide-at.ensures,
    ) at
    at.next-s.ensures in
    rw (
      ← s,
      eq-eqb _ _ c.if-s-eq0.true,
      eq-eqb _ _ c.if-lost-eq0.true,
      c.put_record.ensures,
      at.put_scan.ensures,
      at.put8.ensures,
      at.under.ensures,
      c.wide-at.ensures,
    )

pub returns-else-lost-eq0 : goal.returns-else-lost-eq0
unfolding record_in
returns-else-lost-eq0 c = let at = c.before.before.before in
    let s = rw (
      at.scan_of-old.ensures,
      c.wide-at.ensures,
    ) at
    at.next-s.ensures in
    rw (
      ← s,
      eq-eqb _ _ c.if-s-eq0.true,
      ne_eqb _ _ c.if-lost-eq0.false,
      at.put_scan.ensures,
      at.put8.ensures,
      at.under.ensures,
      c.wide-at.ensures,
    )

pub returns-else-s-eq0 : goal.returns-else-s-eq0
unfolding record_in
returns-else-s-eq0 c = let at = c.before.before in
    let s = rw (
      at.scan_of-old.ensures,
      c.wide-at.ensures,
    ) at
    at.next-s.ensures in
    rw (
      ← s,
      ne_eqb _ _ c.if-s-eq0.false,
      at.put_scan.ensures,
      at.put8.ensures,
      at.under.ensures,
      c.wide-at.ensures,
    )
