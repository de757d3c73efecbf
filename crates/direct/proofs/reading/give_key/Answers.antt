-- `give_key` meets its contract: what is copied is the image of the map clock and the entry.
use mathlib.Core.Path.{refl}
use native.Mathlib.Omega.{arith}
use Rattle.records.proofs.RoundTrips.{length-bytes}
use Rattle.answers.proofs.Answers.{number_short, number-done, refuses, writes}
use Rattle.direct.specs.Reading.{key_records}
use Rattle.direct.proofs.Copied.{clock_span, key-is, spans-inside, key-length}
use Rattle.direct.proofs.reading.give_key.Goals as goal

pub returns-then-out-n : goal.returns-then-out-n
returns-then-out-n c =
    let k = c.before.before.before.before.before.before in
    let z = k.before.before.before in
    let e = k.spans_of-at.ensures in
    rw c.word.ensures (refuses _ _ (number_short _ _ refl refl refl
    (rw (key-is z.args.key z.requires e)
    (omega (
      arith,
      length-bytes (key_records z.args.map.now (clock_span z.args.l) k.spans_of-at.result),
      key-length z.args.key z.requires e,
    )))) (omega arith))

pub copy_key-requires : goal.copy_key-requires
copy_key-requires c =
    let k = c.before.before.before.before.before.before in
    let z = k.before.before.before in
    let e = k.spans_of-at.ensures in
    (spans-inside z.args.key z.requires e, omega (arith, key-length z.args.key z.requires e))

pub returns : goal.returns
returns c =
    let k = c.before.before.before.before.before.before.before.before.before in
    let z = k.before.before.before in
    let e = k.spans_of-at.ensures in
    let same = key-is z.args.key z.requires e in
    let b = c.before.before.before.before in
    let q1 = b.size-4.ensures in
    let q2 = b.size-3.ensures in
    let q3 = b.size-2.ensures in
    let q4 = b.size.ensures in
    writes _ _ (number-done _ _ refl refl refl
    (rw same (omega (
      arith,
      b.if-out-n.false,
      q1,
      q2,
      q3,
      q4,
      length-bytes
          (key_records z.args.map.now (clock_span z.args.l) k.spans_of-at.result),
      key-length z.args.key z.requires e,
    ))))
    (rw same c.copy_key.ensures)
