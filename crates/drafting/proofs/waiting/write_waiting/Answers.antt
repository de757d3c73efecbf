-- `write_waiting` meets its contract: dots, then keys.
use mathlib.Core.Path.{refl}
use Rattle.records.proofs.Writing.{write-start, write-room, write-on, write-last, last-room}
use Rattle.mapimage.specs.MapImage.{flat_from, waiting_dots, waiting_keys}
use Rattle.drafting.specs.Drafted.{waiting_records}
use Rattle.drafting.proofs.Waits.{few-waiting, not-over}
use Rattle.drafting.proofs.waiting.write_waiting.Goals as goal

pub write_clocks-next-requires : goal.write_clocks-next-requires
write_clocks-next-requires f =
    let z = f.requires in
    let a = f.args in
    let w = z.0 in
    let p = z.1 in (
      not-over p z.2.0,
      (
        p.first,
        p.second,
        w,
        p.made,
        (write-room (waiting_records w) a.at a.out.now (flat_from waiting_dots 0 w)
            (waiting_keys w) (write-start (waiting_records w) a.at a.out.now z.2.1) refl).0,
      ),
    )

pub write_keys-requires : goal.write_keys-requires
write_keys-requires f =
    let z = f.requires in
    let w = z.0 in
    let p = z.1 in
    let a = f.args in
    let w0 = write-start (waiting_records w) a.at a.out.now z.2.1 in
    let few = few-waiting w z.2.0 in
    let w1 = write-on _ _ _ {now = waiting_keys w} (flat_from waiting_dots 0 w) w0 refl
    (f.write_clocks-next.ensures _ _ w p.made (write-room _ _ _ (flat_from waiting_dots 0 w) (waiting_keys w) w0 refl).0) in
    (p.first, p.second, w, p.in_first, p.in_second, p.made.moves (not-over p z.2.0), few, last-room _ _ _ _ w1)

pub returns : goal.returns
returns f w p n r =
    let a = f.args in
    let w0 = write-start (waiting_records w) a.at a.out.now r in
    let few = few-waiting w n in
    let w1 = write-on _ _ _ {now = waiting_keys w} (flat_from waiting_dots 0 w) w0 refl
    (f.write_clocks-next.ensures _ _ w p.made
    (write-room _ _ _ (flat_from waiting_dots 0 w) (waiting_keys w) w0 refl).0) in
    write-last _ _ _ _ w1 (f.write_keys.ensures p.first p.second w p.in_first p.in_second
    (p.made.moves (not-over p n)) few (last-room _ _ _ _ w1))
