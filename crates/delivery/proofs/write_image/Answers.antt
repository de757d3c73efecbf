-- `write_image` meets its contract: one kind after the other.
use mathlib.Core.Path.{◌≡◌, refl, ap, ◌∙◌}
use mathlib.Core.List.{List, [], ◌++◌}
use Prim.Native.Nat.{ℕ}
use lib.ListN.{length-map}
use Rattle.listlaws.proofs.Pads.{take-pad}
use Rattle.limits.specs.Limits.{dot_limit}
use Rattle.clock.specs.Dots.{no_dot, dots_of}
use Rattle.records.specs.declared.Record.{Record}
use Rattle.records.proofs.Writing.{Writing, write-start, write-room, write-on, last-room, write-last}
use Rattle.clockimage.specs.Image.{dot_record, dot_records}
use Rattle.mapimage.specs.MapImage.{flat_from, entry_records, waiting_dots, waiting_keys}
use Rattle.memory.specs.Memory.{clock_place, dots_at, entries_at, waiting_at}
use Rattle.delivery.specs.Delivery.{image_at}
use Rattle.delivery.proofs.Lengths.{length-records}
use native.Mathlib.Omega.{arith}
use Rattle.delivery.proofs.write_image.Goals.{After-write_dots-arg-1, After-write_dots-first, After-write_entries-fourth, After-write_entries-second}
use Rattle.delivery.proofs.write_image.Goals.{After-write_entries-third, After-write_waiting-fifth, Start}
use Rattle.delivery.proofs.write_image.Goals as goal

-- of each kind the records, and those from it on
abbrev dots : List ℕ → List Record
dots w = dot_records 1 0 0 (dots_at w clock_place)

abbrev entries : ℕ → List ℕ → List Record
entries kind w = flat_from (entry_records kind) 0 (entries_at w)

abbrev from5 : List ℕ → List Record
from5 w = flat_from waiting_dots 0 (waiting_at w) ++ waiting_keys (waiting_at w)

abbrev from4 : List ℕ → List Record
from4 w = entries 4 w ++ from5 w

abbrev from3 : List ℕ → List Record
from3 w = entries 3 w ++ from4 w

abbrev from2 : List ℕ → List Record
from2 w = entries 2 w ++ from3 w

abbrev from1 : List ℕ → List Record
from1 w = dots w ++ from2 w

-- what is written when each call is done
abbrev start : After-write_dots-arg-1 → Start
start c = c.before.before.before

none : (c : After-write_dots-arg-1) → let a = (start c).args in Writing (from1 a.mem.now) (from1 a.mem.now) 0 a.out.now a.out.now 0
none c = let w = (start c).args.mem.now in write-start (from1 w) 0 _ (omega (arith, length-records w, (start c).requires))

clock-dots : (c : After-write_dots-arg-1) → dots_of c.clock_at-clock.result ≡ dots_at (start c).args.mem.now clock_place
clock-dots c = ap dots_of c.clock_at-clock.ensures ∙ take-pad no_dot dot_limit (dots_at (start c).args.mem.now clock_place)

first : (c : After-write_dots-first) → let a = (start c.before).args in
    Writing (from1 a.mem.now) (from2 a.mem.now) 0 a.out.now c.write_dots-first.new.out c.write_dots-first.result
first c = let w = (start c.before).args.mem.now in write-on _ _ _ (dots w) (none c.before) refl
    (rw (clock-dots c.before) at c.write_dots-first.ensures)

abbrev back2 : After-write_entries-second → After-write_dots-first
back2 c = c.before.before.before.before

second : (c : After-write_entries-second) → let a = (start (back2 c).before).args in
    Writing (from1 a.mem.now) (from3 a.mem.now) 0 a.out.now c.write_entries-second.new.out c.write_entries-second.result
second c = let w = (start (back2 c).before).args.mem.now in write-on _ _ _ (entries 2 w) (first (back2 c)) refl c.write_entries-second.ensures

abbrev back3 : After-write_entries-third → After-write_entries-second
back3 c = c.before.before.before.before

third : (c : After-write_entries-third) → let a = (start (back2 (back3 c)).before).args in
    Writing (from1 a.mem.now) (from4 a.mem.now) 0 a.out.now c.write_entries-third.new.out c.write_entries-third.result
third c = let w = (start (back2 (back3 c)).before).args.mem.now in write-on _ _ _ (entries 3 w) (second (back3 c)) refl c.write_entries-third.ensures

abbrev back4 : After-write_entries-fourth → After-write_entries-third
back4 c = c.before.before.before.before

fourth : (c : After-write_entries-fourth) → let a = (start (back2 (back3 (back4 c))).before).args in
    Writing (from1 a.mem.now) (from5 a.mem.now) 0 a.out.now c.write_entries-fourth.new.out c.write_entries-fourth.result
fourth c = let w = (start (back2 (back3 (back4 c))).before).args.mem.now in
    write-on _ _ _ (entries 4 w) (third (back4 c)) refl c.write_entries-fourth.ensures

abbrev back5 : After-write_waiting-fifth → After-write_entries-fourth
back5 c = c.before.before.before.before

fifth : (c : After-write_waiting-fifth) → let a = (start (back2 (back3 (back4 (back5 c)))).before).args in
    Writing (from1 a.mem.now) (waiting_keys (waiting_at a.mem.now)) 0 a.out.now c.write_waiting-fifth.new.out c.write_waiting-fifth.result
fifth c = let w = (start (back2 (back3 (back4 (back5 c)))).before).args.mem.now in
    write-on _ _ _ (flat_from waiting_dots 0 (waiting_at w)) (fourth (back5 c)) refl c.write_waiting-fifth.ensures

pub write_dots-first-requires : goal.write_dots-first-requires
write_dots-first-requires c =
    let w = (start c).args.mem.now in
    rw (clock-dots c) (omega (arith, (write-room _ _ _ (dots w) _ (none c) refl).0, length-map (dots_at w clock_place) (dot_record 1 0 0)))

pub write_entries-second-requires : goal.write_entries-second-requires
write_entries-second-requires c = (write-room _ _ _ (entries 2 _) _ (first c.before.before.before) refl).0

pub write_entries-third-requires : goal.write_entries-third-requires
write_entries-third-requires c = (write-room _ _ _ (entries 3 _) _ (second c.before.before.before) refl).0

pub write_entries-fourth-requires : goal.write_entries-fourth-requires
write_entries-fourth-requires c = (write-room _ _ _ (entries 4 _) _ (third c.before.before.before) refl).0

pub write_waiting-fifth-requires : goal.write_waiting-fifth-requires
write_waiting-fifth-requires c = (write-room _ _ _ (flat_from waiting_dots 0 _) _ (fourth c.before.before.before) refl).0

pub write_waiting_keys-requires : goal.write_waiting_keys-requires
write_waiting_keys-requires c = last-room _ _ _ _ (fifth c.before.before.before)

pub shape_of-out : goal.shape_of-out
shape_of-out c =
    let k = c.before.before in
    k.write_waiting_keys.auto.out ∙ (write-room _ _ _ [] _ (fifth k.before.before.before.before.before) refl).1

pub returns : goal.returns
unfolding image_at
returns c =
    let k = c.before.before in
    write-last _ _ _ _ (fifth k.before.before.before.before.before) k.write_waiting_keys.ensures
