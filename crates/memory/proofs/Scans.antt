-- The scan and the waiting keys under each index, with one record more.
use mathlib.Core.Path.{◌≡◌, refl, ap, sym, ◌∙◌}
use mathlib.Core.Bool.{Bool, true, false, ◌&&◌}
use mathlib.Core.List.{List, [], ◌∷◌, ◌++◌, map}
use Prim.Native.Nat.{ℕ, ◌+◌, ◌%◌, ◌^◌, ◌≤◌, ◌<◌}
use native.Mathlib.Omega.{arith}
use lib.Dec.{eqb, ltb}
use lib.ListN.{length, get_or, set, take, drop}
use lib.Seq.{length-take-le}
use borrow.Author.Tests.{lt-ltb, ltb-true, ltb-false, eq-eqb, ne_eqb}
use Rattle.records.specs.declared.Record.{Record}
use Rattle.records.specs.Bytes.{num_at, placed, Bytes, flag_of}
use Rattle.records.specs.Records.{record_from, record_bytes}
use Rattle.records.proofs.RoundTrips.{Fitting, read-record, read_fits}
use Rattle.scan.specs.declared.Scan.{Scan}
use Rattle.scan.specs.Formed.{well_formed}
use Rattle.scan.specs.Limits.{within}
use Rattle.scan.specs.Numbers.{scan_number}
use Rattle.scan.specs.Scanned.{Scanned, CountedUnder}
use Rattle.scan.specs.Stepping.{behind_last, scan_on, under_on}
use Rattle.scan.proofs.Eachs.{decide, both_right}
use Rattle.scan.proofs.Scanning.{scanned-more}
use Rattle.maprecords.specs.Reading.{numbers_below}
use Rattle.maprecords.specs.SoFar.{MapSoFar}
use Rattle.maprecords.proofs.Readers.{counted, recounted}
use Rattle.memory.specs.Memory.{reader_room, number_place, any_place, last_place, counts_place, under_place, lost_place, scan_at}
use Rattle.memory.specs.Putting.{put, scan_put}
use Rattle.memory.specs.Reader.{under_at, reader_at}
use Rattle.memory.proofs.Regions.{Same, same-num, same-record, Touched, touched-then, touched-wide, below-touched, above-touched, touched-put}
use Rattle.memory.proofs.Regions.{put-read, touched-record}
use Rattle.memory.proofs.Views.{below-same, length-of, below_set, below_at}

-- they depend on the bytes where they stand
pub scan-same : {u v : List ℕ} {a n : ℕ} → Same a n u v → a ≤ number_place → lost_place ≤ a + n → scan_at u ≡ scan_at v
scan-same s h k =
    let a = same-num 0 number_place s h (omega arith) in
    let b = same-num 0 any_place s (omega arith) (omega arith) in
    let c = same-record last_place s (omega arith) (omega arith) in
    let d = same-num 1 counts_place s (omega arith) (omega arith) in
    let e = same-num 1 (counts_place + 2) s (omega arith) (omega arith) in
    let f = same-num 1 (counts_place + 4) s (omega arith) (omega arith) in
    λ i. record { number = a i; any = eqb (b i) 1; last = c i; outer = d i; middle = e i; inner = f i }

pub under_same : {u v : List ℕ} {a n : ℕ} → Same a n u v → a ≤ under_place → lost_place ≤ a + n → under_at u ≡ under_at v
unfolding under_at
under_same {u} {v} s h k =
    below-same (λ i. num_at 0 (under_place + i) u) (λ i. num_at 0 (under_place + i) v) 256
    (λ i l. same-num 0 (under_place + i) s (omega arith) (omega arith))

-- a scan that was put in place
module _ (s : Scan) (w : List ℕ) (long : length w ≡ reader_room) (small : s.number < 256) (f : Fitting s.last) where
  abbrev one : List ℕ
  one = put 0 number_place s.number w

  abbrev two : List ℕ
  two = put 0 any_place (flag_of s.any) one

  abbrev three : List ℕ
  three = placed last_place (record_bytes s.last) two

  abbrev four : List ℕ
  four = put 1 counts_place (s.outer % 2 ^ 16) three

  abbrev five : List ℕ
  five = put 1 (counts_place + 2) (s.middle % 2 ^ 16) four

  flag_small : (b : Bool) → flag_of b < 256
  flag_small true = omega arith
  flag_small false = omega arith

  flag-read : (b : Bool) → eqb (flag_of b) 1 ≡ b
  flag-read true = refl
  flag-read false = refl

  t1 : Touched number_place 1 w one
  t1 = touched-put 0 number_place s.number w small (omega arith)

  t2 : Touched any_place 1 one two
  t2 = touched-put 0 any_place (flag_of s.any) one (flag_small s.any) (omega (arith, t1.long))

  long2 : length two ≡ reader_room
  long2 = t2.long ∙ t1.long ∙ long

  t3 : Touched last_place 16 two three
  t3 = touched-record last_place s.last two f (omega (arith, long2))

  long3 : length three ≡ reader_room
  long3 = t3.long ∙ long2

  t4 : Touched counts_place 2 three four
  t4 = touched-put 1 counts_place (s.outer % 2 ^ 16) three (omega arith) (omega (arith, long3))

  long4 : length four ≡ reader_room
  long4 = t4.long ∙ long3

  t5 : Touched (counts_place + 2) 2 four five
  t5 = touched-put 1 (counts_place + 2) (s.middle % 2 ^ 16) four (omega arith) (omega (arith, long4))

  long5 : length five ≡ reader_room
  long5 = t5.long ∙ long4

  t6 : Touched (counts_place + 4) 2 five (scan_put s w)
  unfolding scan_put
  t6 = touched-put 1 (counts_place + 4) (s.inner % 2 ^ 16) five (omega arith) (omega (arith, long5))

  pub scan-touched : Touched number_place 24 w (scan_put s w)
  scan-touched =
      touched-then (touched-wide number_place 24 t1 (omega arith) (omega arith))
      (touched-then (touched-wide number_place 24 t2 (omega arith) (omega arith))
      (touched-then (touched-wide number_place 24 t3 (omega arith) (omega arith))
      (touched-then (touched-wide number_place 24 t4 (omega arith) (omega arith))
      (touched-then (touched-wide number_place 24 t5 (omega arith) (omega arith)) (touched-wide number_place 24 t6 (omega arith) (omega arith))))))

  -- what stands before a place that is touched later
  upto5 : (k p : ℕ) → p + 2 ^ k ≤ counts_place + 4 → num_at k p (scan_put s w) ≡ num_at k p five
  upto5 k p h = same-num k p (below-touched p (2 ^ k) t6 h) (omega arith) (omega arith)

  upto4 : (k p : ℕ) → p + 2 ^ k ≤ counts_place + 2 → num_at k p (scan_put s w) ≡ num_at k p four
  upto4 k p h = upto5 k p (omega arith) ∙ same-num k p (below-touched p (2 ^ k) t5 h) (omega arith) (omega arith)

  upto3 : (k p : ℕ) → p + 2 ^ k ≤ counts_place → num_at k p (scan_put s w) ≡ num_at k p three
  upto3 k p h = upto4 k p (omega arith) ∙ same-num k p (below-touched p (2 ^ k) t4 h) (omega arith) (omega arith)

  upto2 : (k p : ℕ) → p + 2 ^ k ≤ last_place → num_at k p (scan_put s w) ≡ num_at k p two
  upto2 k p h = upto3 k p (omega arith) ∙ same-num k p (below-touched p (2 ^ k) t3 h) (omega arith) (omega arith)

  last-read : record_from (scan_put s w) last_place ≡ s.last
  unfolding placed
  last-read =
      same-record last_place (below-touched last_place 16 t6 (omega arith)) (omega arith) (omega arith)
      ∙ same-record last_place (below-touched last_place 16 t5 (omega arith)) (omega arith) (omega arith)
      ∙ same-record last_place (below-touched last_place 16 t4 (omega arith)) (omega arith) (omega arith)
      ∙ read-record s.last last_place three (take last_place two) (drop (last_place + 16) two) refl
      (length-take-le last_place two (omega (arith, long2))) f

  pub scan-read : scan_at (scan_put s w) ≡ record {
    number = s.number;
    any = s.any;
    last = s.last;
    outer = s.outer % 2 ^ 16;
    middle = s.middle % 2
        ^ 16;
    inner = s.inner % 2 ^ 16;
  }
  unfolding scan_put
  scan-read =
      let a = upto2 0 number_place (omega arith) ∙ same-num 0 number_place (below-touched number_place 1 t2 (omega arith)) (omega arith) (omega arith)
      ∙ put-read 0 number_place s.number w small (omega arith) in
      let b = ap (λ x. eqb x 1) (upto2 0 any_place (omega arith) ∙ put-read 0 any_place (flag_of s.any) one (flag_small s.any)
      (omega (arith, t1.long))) ∙ flag-read s.any in
      let d = upto4 1 counts_place (omega arith) ∙ put-read 1 counts_place (s.outer % 2 ^ 16) three (omega arith) (omega (arith, long3)) in
      let e = upto5 1 (counts_place + 2) (omega arith)
      ∙ put-read 1 (counts_place + 2) (s.middle % 2 ^ 16) four (omega arith) (omega (arith, long4)) in
      let g = put-read 1 (counts_place + 4) (s.inner % 2 ^ 16) five (omega arith) (omega (arith, long5)) in
      let c = last-read in
      λ i. record { number = a i; any = b i; last = c i; outer = d i; middle = e i; inner = g i }

-- counts that are small are kept in two bytes
stays : (low high : ℕ) (l : List Record) (s : Scan) → Scanned low high l s
    → Scanned low high l (record {
      number = s.number;
      any = s.any;
      last = s.last;
      outer = s.outer % 2 ^ 16;
      middle = s.middle % 2 ^ 16;
      inner = s.inner % 2 ^ 16;
    })
stays low high l s sc = record {
  number = sc.number;
  ends = sc.ends;
  tallied = λ z.
      let t = sc.tallied z in
      let o : s.outer % 2 ^ 16 ≡ s.outer = omega (arith, t.small.0) in
      let m : s.middle % 2 ^ 16 ≡ s.middle = omega (arith, t.small.1.0) in
      let i : s.inner % 2 ^ 16 ≡ s.inner = omega (arith, t.small.1.1) in
      record { by-outer = o ∙ t.by-outer; by-middle = m ∙ t.by-middle; by-inner = i ∙ t.by-inner; small = rw (o, m, i) t.small };
}

number_small : (low high : ℕ) (l : List Record) → scan_number low high l < 256
unfolding scan_number
number_small low high l = decide (well_formed low high l) (λ a. decide (within l) (λ b. rw (a, b) (omega arith)) (λ b. rw (a, b) (omega arith)))
    (λ a. rw a (omega arith))

fits_on : (low high : ℕ) (s : Scan) (r : Record) (n : ℕ) → Fitting s.last → Fitting r → Fitting (scan_on low high s r n).last
unfolding scan_on
fits_on low high s r n a b =
    decide (eqb s.number 1) (λ t. rw t a)
    (λ t. decide (behind_last low high s r) (λ u. decide (eqb s.number 0) (λ z. rw (t, u, z) b) (λ z. rw (t, u, z) b)) (λ u. rw (t, u) a))

-- a whole record
module _ (l : List Record) (w : List ℕ) (long : length w ≡ reader_room) (bytes : Bytes w) (m : MapSoFar l (reader_at w)) (r : Record)
    (f : Fitting r) where
  abbrev at : ℕ
  at = under_place + r.index

  abbrev more : List ℕ
  more = put 0 at (under_on (num_at 0 at w) r.kind) w

  abbrev pub scanned : Scan
  scanned = scan_on 1 6 (scan_at w) r (num_at 0 at w)

  abbrev pub next : List ℕ
  next = scan_put scanned more

  under-read : get_or (under_at w) r.index 0 ≡ num_at 0 at w
  unfolding under_at
  under-read = below_at (λ i. num_at 0 (under_place + i) w) 256 r.index 0 f.index

  pub scanned-now : Scanned 1 6 (l ++ (r ∷ [])) scanned
  scanned-now = scanned-more 1 6 l r (num_at 0 at w) (scan_at w) m.scanned (λ z. rw under-read at (counted l r (reader_at w) m z))

  under-small : (n kind : ℕ) → n < 256 → under_on n kind < 256
  under-small n kind h =
      decide (eqb kind 6 && ltb n 255) (λ t. rw t (omega (arith, both_right (eqb kind 6) (ltb n 255) t, ltb-true))) (λ t. rw t h)

  more-touched : Touched at 1 w more
  more-touched = touched-put 0 at (under_on (num_at 0 at w) r.kind) w (under-small (num_at 0 at w) r.kind (bytes at)) (omega (arith, f.index))

  more-long : length more ≡ reader_room
  more-long = more-touched.long ∙ long

  small : scanned.number < 256
  small = rw scanned-now.number (number_small 1 6 (l ++ (r ∷ [])))

  last_fits : Fitting scanned.last
  last_fits = fits_on 1 6 (scan_at w) r (num_at 0 at w) (read_fits w last_place bytes) f

  pub next-touched : Touched number_place 280 w next
  next-touched =
      touched-then (touched-wide number_place 280 more-touched (omega arith) (omega (arith, f.index)))
      (touched-wide number_place 280 (scan-touched scanned more more-long small last_fits) (omega arith) (omega arith))

  pub number-now : (scan_at next).number ≡ scanned.number
  number-now = ap (λ s. s.number) (scan-read scanned more more-long small last_fits)

  pub scan-now : Scanned 1 6 (l ++ (r ∷ [])) (scan_at next)
  scan-now = rw (scan-read scanned more more-long small last_fits) (stays 1 6 (l ++ (r ∷ [])) scanned scanned-now)

  under-put : under_at next ≡ set (under_at w) r.index (under_on (num_at 0 at w) r.kind)
  unfolding under_at
  under-put =
      under_same (above-touched under_place 256 (scan-touched scanned more more-long small last_fits) (omega arith)) (omega arith) (omega arith)
      ∙ below_set 0 (λ i. num_at 0 (under_place + i) w) (λ i. num_at 0 (under_place + i) more) 256 r.index f.index others
      ∙ ap (set (map (λ i. num_at 0 (under_place + i) w) (numbers_below 256)) r.index)
      (put-read 0 at (under_on (num_at 0 at w) r.kind) w (under-small (num_at 0 at w) r.kind (bytes at)) (omega (arith, f.index)))
    where
      others : (i : ℕ) → i < 256 → (i ≡ r.index → ⊥) → num_at 0 (under_place + i) more ≡ num_at 0 (under_place + i) w
      others i h n =
          decide (ltb i r.index)
          (λ t. let b = ltb-true i r.index t in same-num 0 (under_place + i) (below-touched (under_place + i) 1 more-touched (omega arith))
          (omega arith) (omega arith))
          (λ t. let b = ltb-false i r.index t in same-num 0 (under_place + i) (above-touched (under_place + i) 1 more-touched (omega (arith, n)))
          (omega arith) (omega arith))

  long-under : length (under_at w) ≡ 256
  unfolding under_at
  long-under = length-of (λ i. num_at 0 (under_place + i) w) 256

  pub under-now : (scan_at next).number ≡ 0 → CountedUnder (l ++ (r ∷ [])) (under_at next)
  under-now z =
      let u = num_at 0 at w in
      rw under-put
      (recounted l r (reader_at w) m scan-now (omega (arith, long-under, f.index)) {n = under_on u r.kind} (
        (λ k h. rw (eq-eqb r.kind 6 k, lt-ltb u 255 (omega (arith, under-read))) (ap (λ x. x + 1) (sym under-read))),
        (λ k. rw (ne_eqb r.kind 6 k) (sym under-read)),
      ) z)
