-- A run of removals deletes the same total in any order; and 01's examples: W2 counts 1, W6 waits only, W3 is an update.
use mathlib.Core.Path.{◌≡◌, refl, ap, ◌∙◌}
use mathlib.Core.Bool.{true, false}
use mathlib.Core.List.Memᴰ
use mathlib.Core.List.{List, [], ◌∷◌}
use Prim.Native.Nat.{ℕ, ◌+◌, ◌≤◌}
use native.Mathlib.Omega.{arith}
use lib.ListN.{replicate, length-replicate}
use Rattle.listlaws.specs.Pad.{pad}
use Rattle.listlaws.specs.Sift.{sift}
use Rattle.listlaws.specs.Fold.{fold, total_of}
use Rattle.listlaws.specs.First.{first_in}
use Rattle.listlaws.proofs.Perms.{perm_in}
use Rattle.clock.specs.Dots.{clock_of, is_empty, counter_in, cut_dots}
use Rattle.removals.specs.declared.Removal.{Removal}
use Rattle.entries.specs.declared.Update.{Update}
use Rattle.removals.specs.Model.{keys_as}
use Rattle.entries.specs.Entries.{cut_entry, remove_from, remove_entries}
use Rattle.removals.specs.Waits.{listed}
use Rattle.map.specs.declared.Op.{Op}
use Rattle.map.specs.Removing.{remove}
use Rattle.map.specs.Applying.{apply}
use Rattle.mapimage.specs.MapImage.{map_longest}
use Rattle.opimage.specs.OpImage.{read_op}
use Rattle.maprecords.specs.Related.{read_map}
use Rattle.maplaws.proofs.Examples.{one, M}
use Rattle.promises.specs.Deleted.{entry_dots, apply_deletes, apply_deleted}
use Rattle.promises.specs.Promises.{ApplyDeletedPromise}
use Rattle.promises.proofs.Deletes.{apply-deletes}
use Rattle.anyorderlaws.specs.Calls.{Done, AllDone, none, more, end, MapImage, RemovalImages}
use Rattle.anyorderlaws.specs.Deleted.{Counts, nothing, next, DeletedInAnyOrder}
use Rattle.anyorderlaws.proofs.Images.{start, reads, image-accepted, done-means, image-next}
use Rattle.anyorderlaws.proofs.AnyOrder.{in-any-order}

-- the count beside a call that is accepted
counted : (s o : List ℕ) {room count : ℕ} → Done s o → map_longest ≤ room → ApplyDeletedPromise s o room count → count ≡ apply_deleted s o
counted s o {room = room} d n q = q.counts (replicate room 0) (length-replicate room 0) ∙ rw
    (d (replicate room 0) (omega (arith, length-replicate {A = ℕ} room 0))) refl

total-of : {s : List ℕ} {ops : List (List ℕ)} {n : ℕ} → MapImage s → RemovalImages ops → AllDone s ops → Counts s ops n
    → entry_dots (read_map (end s ops)).map + n ≡ entry_dots (read_map s).map
unfolding fold
total-of h f none nothing = omega arith
total-of {s = s} {ops = o ∷ ops} h f (more d p) (next q l t) =
    let i = f o (Memᴰ.head refl) in
    let r = start h in
    let j = image-next r i.image (done-means r i.image d) in
    let e = total-of (image-accepted j) (λ v k. f v (Memᴰ.tail k)) p t in
    let c = counted s o d l q in
    let k = apply-deletes (read_map s).map (read_op o).op i.removes in
    let g = ap (λ x. entry_dots x.map) (reads j) in
    omega arith

-- an end theorem: the sentence of the request
pub deleted-in-any-order : {s : List ℕ} {ops : List (List ℕ)} → MapImage s → RemovalImages ops → DeletedInAnyOrder s ops
deleted-in-any-order {s} {ops} h f = record {
  total = total-of h f;
  same_total = λ {others} d p q t.
      let a = in-any-order h f in
      let x = total-of h f p q in
      let y = total-of h (λ o i. f o (perm_in d o i)) (a.every-order d p) t in
      let e = ap (λ m. entry_dots (read_map m).map) (a.same_map d p) in
      omega arith;
}

-- a removal as an operation, whatever stands in the unused half
abbrev removing : Removal → Update → Op
removing r unused = record { up = false; removal = r; update = unused }

pub record Examples : Type 0 where
  -- "A removal that waits and cuts as well reports what it cut (W2: 1)"
  pub w2 : (unused : Update) → apply_deletes M (removing (record { clock = clock_of (one 1 2); keys = keys_as (5 ∷ []) }) unused) ≡ 1
  -- "zero .. for a removal that only waits"
  pub w6 : (unused : Update) → apply_deletes M (removing (record { clock = clock_of (one 2 1); keys = keys_as [] }) unused) ≡ 0
  -- "zero for an update (also where it sets off a waiting removal)"
  pub w3 : (unused r : Removal) (u : Update) → apply_deletes (remove M r) (record { up = true; removal = unused; update = u }) ≡ 0

-- an end theorem, as the one above
pub examples : Examples
unfolding pad sift first_in is_empty counter_in cut_dots cut_entry listed remove_from remove_entries remove apply total_of entry_dots apply_deletes
examples = record { w2 = λ unused. refl; w6 = λ unused. refl; w3 = λ unused r u. refl }
