-- `write_map` meets its contract: one kind of record behind the other.
use mathlib.Core.Path.{refl}
use mathlib.Core.List.{List}
use Prim.Native.Nat.{ℕ, ◌+◌, ◌*◌, ◌≤◌}
use lib.ListN.{length, length-map}
use Rattle.map.specs.declared.Map.{Map}
use Rattle.map.specs.Model.{seen_by, entries_in, waiting_in}
use Rattle.clockimage.specs.Image.{dot_record, dot_records}
use Rattle.records.proofs.RoundTrips.{length-bytes}
use Rattle.records.proofs.Writing.{write-start, write-room, write-on, write-last, last-room}
use Rattle.mapimage.specs.MapImage.{flat_from, entry_records, waiting_dots, map_records, map_image}
use native.Mathlib.Omega.{arith}
use Rattle.mapimage.proofs.write_map.Goals as goal

-- there is room for all records
room : (m : Map) (out : List ℕ) → length (map_image m) ≤ length out → 0 + length (map_records m) * 16 ≤ length out
room m out h = omega (arith, length-bytes (map_records m))

pub write_dots-first-requires : goal.write_dots-first-requires
write_dots-first-requires c =
    let m = c.args.map in
    let w0 = write-start (map_records m) 0 c.args.out.now
    (room m c.args.out.now c.requires) in
    omega (arith, (write-room _ _ _ (dot_records 1 0 0 (seen_by m)) _ w0 refl).0, length-map (seen_by m) (dot_record 1 0 0))

pub write_entries-second-requires : goal.write_entries-second-requires
write_entries-second-requires c =
    let m = c.args.map in
    let w0 = write-start (map_records m) 0 c.args.out.now
    (room m c.args.out.now
    c.requires) in
    let w1 = write-on _ _ _ (dot_records 1 0 0 (seen_by m)) w0 refl c.write_dots-first.ensures in
    (write-room _ _ _ (flat_from (entry_records 2) 0 (entries_in m)) _ w1 refl).0

pub write_entries-third-requires : goal.write_entries-third-requires
write_entries-third-requires c =
    let m = c.args.map in
    let w0 = write-start (map_records m) 0
    c.args.out.now
    (room m c.args.out.now
    c.requires) in
    let w1 = write-on _ _ _ (dot_records 1 0 0 (seen_by m)) w0 refl c.write_dots-first.ensures in
    let w2 = write-on _ _ _ (flat_from (entry_records 2) 0 (entries_in m)) w1 refl c.write_entries-second.ensures in
    (write-room _ _ _ (flat_from (entry_records 3) 0 (entries_in m)) _ w2 refl).0

pub write_entries-fourth-requires : goal.write_entries-fourth-requires
write_entries-fourth-requires c =
    let m = c.args.map in
    let w0 = write-start (map_records m) 0
    c.args.out.now (room m c.args.out.now
    c.requires) in
    let w1 = write-on _ _ _ (dot_records 1 0 0 (seen_by m)) w0 refl
    c.write_dots-first.ensures in
    let w2 = write-on _ _ _ (flat_from (entry_records 2) 0 (entries_in m)) w1 refl
    c.write_entries-second.ensures in
    let w3 = write-on _ _ _ (flat_from (entry_records 3) 0 (entries_in m)) w2 refl c.write_entries-third.ensures in
    (write-room _ _ _ (flat_from (entry_records 4) 0 (entries_in m)) _ w3 refl).0

pub write_waiting-fifth-requires : goal.write_waiting-fifth-requires
write_waiting-fifth-requires c =
    let m = c.args.map in
    let w0 = write-start (map_records m) 0
    c.args.out.now
    (room m c.args.out.now
    c.requires) in
    let w1 = write-on _ _ _ (dot_records 1 0 0 (seen_by m)) w0 refl
    c.write_dots-first.ensures in
    let w2 = write-on _ _ _ (flat_from (entry_records 2) 0 (entries_in m)) w1 refl
    c.write_entries-second.ensures in
    let w3 = write-on _ _ _ (flat_from (entry_records 3) 0 (entries_in m)) w2 refl
    c.write_entries-third.ensures in
    let w4 = write-on _ _ _ (flat_from (entry_records 4) 0 (entries_in m)) w3 refl c.write_entries-fourth.ensures in
    (write-room _ _ _ (flat_from waiting_dots 0 (waiting_in m)) _ w4 refl).0

pub write_waiting_keys-requires : goal.write_waiting_keys-requires
write_waiting_keys-requires c =
    let m = c.args.map in
    let w0 = write-start (map_records m) 0
    c.args.out.now
    (room m c.args.out.now
    c.requires) in
    let w1 = write-on _ _ _ (dot_records 1 0 0 (seen_by m)) w0 refl
    c.write_dots-first.ensures in
    let w2 = write-on _ _ _ (flat_from (entry_records 2) 0 (entries_in m)) w1 refl
    c.write_entries-second.ensures in
    let w3 = write-on _ _ _ (flat_from (entry_records 3) 0 (entries_in m)) w2 refl
    c.write_entries-third.ensures in
    let w4 = write-on _ _ _ (flat_from (entry_records 4) 0 (entries_in m)) w3 refl
    c.write_entries-fourth.ensures in
    let w5 = write-on _ _ _ (flat_from waiting_dots 0 (waiting_in m)) w4 refl c.write_waiting-fifth.ensures in
    last-room _ _ _ _ w5

pub returns : goal.returns
returns c =
    let m = c.args.map in
    let w0 = write-start (map_records m) 0
    c.args.out.now
    (room m c.args.out.now
    c.requires) in
    let w1 = write-on _ _ _ (dot_records 1 0 0 (seen_by m)) w0 refl
    c.write_dots-first.ensures in
    let w2 = write-on _ _ _ (flat_from (entry_records 2) 0 (entries_in m)) w1 refl
    c.write_entries-second.ensures in
    let w3 = write-on _ _ _ (flat_from (entry_records 3) 0 (entries_in m)) w2 refl
    c.write_entries-third.ensures in
    let w4 = write-on _ _ _ (flat_from (entry_records 4) 0 (entries_in m)) w3 refl
    c.write_entries-fourth.ensures in
    let w5 = write-on _ _ _ (flat_from waiting_dots 0 (waiting_in m)) w4 refl
    c.write_waiting-fifth.ensures in
    write-last _ _ _ _ w5 c.write_waiting_keys.ensures
