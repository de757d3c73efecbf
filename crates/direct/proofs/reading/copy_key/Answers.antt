-- `copy_key` meets its contract: four spans, one behind the other.
use mathlib.Core.Path.{refl}
use native.Mathlib.Omega.{arith}
use Rattle.records.proofs.Writing.{write-start, write-room, write-on, last-room, write-last}
use Rattle.direct.specs.Reading.{records_at, key_records}
use Rattle.direct.proofs.reading.copy_key.Goals as goal

pub copy_span-second-requires : goal.copy_span-second-requires
copy_span-second-requires c =
    let z = c.before.before.before in
    let s = z.args.s.now in
    let at = z.args.at in
    let w0 = write-start (key_records s z.args.clock at) 0 z.args.out.now (omega (arith, z.requires.1)) in
    (z.requires.0.0, (write-room _ _ _ (records_at s z.args.clock) _ w0 refl).0)

pub copy_span-third-requires : goal.copy_span-third-requires
copy_span-third-requires c =
    let z = c.before.before.before.before.before.before.before in
    let s = z.args.s.now in
    let at = z.args.at in
    let w0 = write-start (key_records s z.args.clock at) 0 z.args.out.now (omega (arith, z.requires.1)) in
    let w1 = write-on _ _ _ (records_at s z.args.clock) w0 refl c.copy_span-second.ensures in
    (z.requires.0.1.0, (write-room _ _ _ (records_at s at.dots) _ w1 refl).0)

pub copy_span-fourth-requires : goal.copy_span-fourth-requires
copy_span-fourth-requires c =
    let z = c.before.before.before.before.before.before.before.before.before.before.before in
    let s = z.args.s.now in
    let at = z.args.at in
    let w0 = write-start (key_records s z.args.clock at) 0 z.args.out.now (omega (arith, z.requires.1)) in
    let w1 = write-on _ _ _ (records_at s z.args.clock) w0 refl c.copy_span-second.ensures in
    let w2 = write-on _ _ _ (records_at s at.dots) w1 refl c.copy_span-third.ensures in
    (z.requires.0.1.1.0, (write-room _ _ _ (records_at s at.values) _ w2 refl).0)

pub copy_span-requires : goal.copy_span-requires
copy_span-requires c =
    let z = c.before.before.before.before.before.before.before.before.before.before.before.before.before.before.before in
    let s = z.args.s.now in
    let at = z.args.at in
    let w0 = write-start (key_records s z.args.clock at) 0 z.args.out.now (omega (arith, z.requires.1)) in
    let w1 = write-on _ _ _ (records_at s z.args.clock) w0 refl
    c.copy_span-second.ensures in
    let w2 = write-on _ _ _ (records_at s at.dots) w1 refl c.copy_span-third.ensures in
    let w3 = write-on _ _ _ (records_at s at.values) w2 refl c.copy_span-fourth.ensures in
    (z.requires.0.1.1.1, last-room _ _ _ _ w3)

pub returns : goal.returns
returns c =
    let z = c.before.before.before.before.before.before.before.before.before.before.before.before.before.before.before.before.before.before in
    let s = z.args.s.now in
    let at = z.args.at in
    let w0 = write-start (key_records s z.args.clock at) 0 z.args.out.now (omega (arith, z.requires.1)) in
    let w1 = write-on _ _ _ (records_at s z.args.clock) w0 refl
    c.copy_span-second.ensures in
    let w2 = write-on _ _ _ (records_at s at.dots) w1 refl
    c.copy_span-third.ensures in
    let w3 = write-on _ _ _ (records_at s at.values) w2 refl c.copy_span-fourth.ensures in
    write-last _ _ _ _ w3 c.copy_span.ensures
