-- What the end answers of an image that came whole: the number, and the image of the map, of the image read at once.
use mathlib.Core.Path.{◌≡◌, refl, ap, sym, ◌∙◌}
use mathlib.Core.Bool.{cond}
use mathlib.Core.List.{List, [], ◌∷◌}
use Prim.Native.Nat.{ℕ, ◌+◌, ◌%◌, ◌≤◌}
use native.Mathlib.Omega.{arith}
use lib.Dec.{eqb, ltb}
use lib.ListN.{length}
use borrow.Author.Tests.{ltb-false}
use Rattle.listlaws.proofs.Pads.{take-pad}
use Rattle.limits.specs.Limits.{dot_limit}
use Rattle.clock.specs.Dots.{no_dot}
use Rattle.entries.proofs.Packs.{entries-of}
use Rattle.removals.proofs.Packs.{waiting-of}
use Rattle.map.specs.Model.{map_as}
use Rattle.records.specs.declared.Record.{Record}
use Rattle.records.specs.Bytes.{num_at}
use Rattle.records.specs.Records.{records_of}
use Rattle.scan.specs.Formed.{well_formed}
use Rattle.scan.specs.Limits.{within}
use Rattle.scan.specs.Numbers.{scan_number}
use Rattle.scan.proofs.Eachs.{decide}
use Rattle.clockimage.proofs.RoundTrip.{accepted}
use Rattle.mapimage.specs.MapImage.{map_longest, map_image}
use Rattle.maprecords.specs.Related.{refused_map, judged_map, read_map}
use Rattle.maprecords.specs.SoFar.{MapSoFar, related_so_far}
use Rattle.maprecords.proofs.Readers.{judged-number, judged-map}
use Rattle.answers.specs.Answer.{first_of}
use Rattle.memory.specs.Memory.{length_place, lost_place, clock_place, dots_at, entries_at, waiting_at}
use Rattle.memory.specs.Reader.{reader_at}
use Rattle.mailbox.specs.Held.{Came}
use Rattle.delivery.specs.Delivery.{scanned_at, related_at, end_number, image_at}

scan-most : (l : List Record) → scan_number 1 6 l ≤ 2
unfolding scan_number
scan-most l = decide (well_formed 1 6 l) (λ t. rw t (decide (within l) (λ u. rw u (omega arith)) (λ u. rw u (omega arith)))) (λ f. rw f (omega arith))

module _ (w : List ℕ) where
  related_same : related_so_far (reader_at w) ≡ related_at w
  related_same = decide (eqb (num_at 0 lost_place w) 0) (λ t. rw t) (λ f. rw f)

  -- the image of the map that stands in the memory
  image-same : map_image (map_as (dots_at w clock_place) (entries_at w) (waiting_at w)) ≡ image_at w
  unfolding image_at
  image-same = rw (take-pad no_dot dot_limit (dots_at w clock_place), entries-of (entries_at w), waiting-of (waiting_at w))

-- the records, judged
module _ (l : List Record) (w : List ℕ) (m : MapSoFar l (reader_at w)) where
  scanned-same : scanned_at w ≡ (reader_at w).scan.number
  scanned-same = omega (arith, scan-most l, m.scanned.number)

  judged-same : first_of (0 ∷ scanned_at w ∷ cond (related_at w) 0 3 ∷ []) ≡ (judged_map l).number
  unfolding first_of
  judged-same =
      let n = judged-number l (reader_at w) m in
      decide (related_at w) (λ t. rw (scanned-same, t) (rw (related_same w, t) at n)) (λ f. rw (scanned-same, f) (rw (related_same w, f) at n))

-- s is all that came
module _ {s w : List ℕ} (c : Came s w) where
  so_far : length s ≤ map_longest → MapSoFar (records_of s) (reader_at w)
  so_far h = rw (c.whole h) at c.so_far

  pub ends-as-read : end_number w ≡ (read_map s).number
  unfolding end_number read_map first_of
  ends-as-read =
      decide (ltb map_longest (length s))
      (λ t. let e : num_at 2 length_place w ≡ map_longest + 1 = c.len ∙ rw t in rw (e, t))
      (λ f. let e : num_at 2 length_place w ≡ length s = c.len ∙ rw f in
      decide (eqb (length s % 16) 0)
      (λ t. rw (e, f, t) (judged-same (records_of s) w (so_far (ltb-false map_longest (length s) f))))
      (λ g. rw (e, f, g)))

  -- the map that stands in the memory
  pub holds-as-read : (read_map s).number ≡ 0 → read_map s ≡ record { number = 0; map = map_as (dots_at w clock_place) (entries_at w) (waiting_at w) }
  unfolding read_map
  holds-as-read z =
      let a = accepted (λ r. r.number) map_longest refused_map judged_map s (λ n. refl) z in
      a.same ∙ judged-map (records_of s) (reader_at w) (so_far a.short) (ap (λ r. r.number) (sym a.same) ∙ z)

  pub writes-as-read : (read_map s).number ≡ 0 → image_at w ≡ map_image (read_map s).map
  writes-as-read z = sym (ap (λ r. map_image r.map) (holds-as-read z) ∙ image-same w)
