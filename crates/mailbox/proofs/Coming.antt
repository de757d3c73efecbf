-- What came to a reader, with a record, a byte, a piece more.
use mathlib.Core.Path.{◌≡◌, refl, ap, ap₂, sym, ◌∙◌, subst}
use mathlib.Core.Bool.{true, false, not}
use mathlib.Core.Logic.{inl, inr}
use mathlib.Core.List.{List, [], ◌∷◌, ◌++◌, append-nil, append_assoc}
use Prim.Native.Nat.{ℕ, zero, suc, ◌+◌, ◌*◌, ◌-◌, ◌/◌, ◌%◌, ◌^◌, ◌≤◌, ◌<◌}
use native.Mathlib.Omega.{arith}
use lib.Dec.{eqb, ltb, leb}
use lib.ListN.{length, get_or, length-append, get_or-append}
use lib.Seq.{get_or_at}
use borrow.Author.Tests.{lt-ltb, le-ltb, leb-true, leb-false, le-leb, eqb-true, eqb-false}
use Rattle.listlaws.specs.Fold.{fold}
use Rattle.limits.specs.Limits.{entry_limit, waiting_limit}
use Rattle.records.specs.declared.Record.{Record}
use Rattle.records.specs.Bytes.{num_at, Bytes}
use Rattle.records.specs.Records.{record_from, records_from}
use Rattle.records.proofs.RoundTrips.{Fitting, read_fits}
use Rattle.scan.proofs.Eachs.{decide}
use Rattle.mapimage.specs.MapImage.{map_longest}
use Rattle.maprecords.specs.SoFar.{MapSoFar}
use Rattle.maprecords.proofs.SoFar.{Growable}
use Rattle.maprecords.proofs.Readers as readers
use Rattle.memory.specs.Memory.{reader_room, open_place, length_place, held_place, number_place, lost_place, entries_place, waits_place, clock_place}
use Rattle.memory.specs.Memory.{entry_room, removal_room, entry_place, removal_place, scan_at}
use Rattle.memory.specs.Putting.{put, record_put}
use Rattle.mailbox.specs.Machine.{record_in, byte_in, piece_in}
use Rattle.memory.specs.Reader.{under_at, reader_at}
use Rattle.mailbox.specs.Held.{length_to, Came}
use Rattle.memory.proofs.Regions.{num-like, Same, same-part, same-num, Touched, touched-then, touched-wide, below-touched, above-touched}
use Rattle.memory.proofs.Regions.{touched-put, put-read}
use Rattle.memory.proofs.Views.{same-dots, same_entries, same-waiting}
use Rattle.memory.proofs.Scans.{scan-same, under_same, scanned, next, next-touched, number-now, scan-now, under-now}
use Rattle.memory.proofs.Holding.{map_room, record-grown}

-- the parts of the map depend on the bytes where they stand
record PartsSame (u v : List ℕ) : Type 0 where
  pub lost : (reader_at u).lost ≡ (reader_at v).lost
  pub clock : (reader_at u).clock ≡ (reader_at v).clock
  pub entries : (reader_at u).entries ≡ (reader_at v).entries
  pub waiting : (reader_at u).waiting ≡ (reader_at v).waiting

parts_same : {u v : List ℕ} {a n : ℕ} → Same a n u v → a ≤ lost_place → reader_room ≤ a + n → PartsSame u v
parts_same s h k =
    let count = same-part entries_place 1 s (omega arith) (omega arith) in
    let entries = same-part (entry_place 0) (entry_limit * entry_room) s (omega arith) (omega arith) in
    record {
      lost = ap (λ x. not (eqb x 0)) (same-num 0 lost_place s h (omega arith));
      clock = same-dots s clock_place (omega arith) (omega arith);
      entries = same_entries count entries;
      waiting = same-waiting (same-part waits_place 1 s (omega arith) (omega arith))
          (same-part (removal_place 0) (waiting_limit * removal_room) s (omega arith) (omega arith));
    }

-- and so does the whole reader
reader-same : {u v : List ℕ} {a n : ℕ} → Same a n u v → a ≤ number_place → reader_room ≤ a + n → reader_at u ≡ reader_at v
reader-same s h k =
    let p = parts_same s (omega arith) k in
    let x = scan-same s h (omega arith) in
    let y = under_same s (omega arith) (omega arith) in
    λ i. record { scan = x i; under = y i; lost = p.lost i; clock = p.clock i; entries = p.entries i; waiting = p.waiting i }

-- where the scan and the map stand
abbrev taken_room : ℕ
taken_room = reader_room - number_place

-- u holds what the records l leave, and is w elsewhere
record Stepped (l : List Record) (w u : List ℕ) : Type 0 where
  pub touched : Touched number_place taken_room w u
  pub so_far : MapSoFar l (reader_at u)

module _ (l : List Record) (w : List ℕ) (long : length w ≡ reader_room) (bytes : Bytes w) (m : MapSoFar l (reader_at w)) (r : Record)
    (f : Fitting r) where
  abbrev scan-next : List ℕ
  scan-next = next l w long bytes m r f

  abbrev all : List Record
  all = l ++ (r ∷ [])

  scan-part : Touched number_place taken_room w scan-next
  scan-part = touched-wide number_place taken_room (next-touched l w long bytes m r f) (omega arith) (omega arith)

  kept : PartsSame w scan-next
  kept =
      let p = parts_same (above-touched lost_place map_room (next-touched l w long bytes m r f) (omega arith)) (omega arith) (omega arith) in
      record { lost = sym p.lost; clock = sym p.clock; entries = sym p.entries; waiting = sym p.waiting }

  stops : ((scanned l w long bytes m r f).number ≡ 0 → ⊥) → Stepped all w scan-next
  stops n = record {
    touched = scan-part;
    so_far = readers.scan-stops l r (scan-now l w long bytes m r f)
        (λ z. n (sym (number-now l w long bytes m r f) ∙ z));
  }

  module _ (good : (scanned l w long bytes m r f).number ≡ 0) where
    zero-now : (scan_at scan-next).number ≡ 0
    zero-now = number-now l w long bytes m r f ∙ good

    lost-before : (reader_at w).lost ≡ true → Stepped all w scan-next
    lost-before t =
        let p = kept in
        record {
          touched = scan-part;
          so_far = subst (MapSoFar all) (λ i. record {
            scan = scan_at scan-next;
            under = under_at scan-next;
            lost = p.lost i;
            clock = p.clock i;
            entries = p.entries i;
            waiting = p.waiting i;
          })
              (readers.still-lost l r (reader_at w) m (scan_at scan-next) (under_at scan-next) (scan-now l w long bytes m r f)
              (under-now l w long bytes m r f) zero-now t);
        }

    grows : (reader_at w).lost ≡ false → num_at 0 lost_place w ≡ 0 → Stepped all w (record_put r scan-next)
    grows t z =
        let g = readers.growable l r (reader_at w) m (scan_at scan-next) (under_at scan-next) (scan-now l w long bytes m r f)
        (under-now l w long bytes m r f) zero-now t in
        let p = kept in
        let found = same-num 0 lost_place (above-touched lost_place 1 (next-touched l w long bytes m r f) (omega arith)) (omega arith) (omega arith)
        ∙ z in
        let q : Growable l (reader_at scan-next) (scan_at scan-next) (under_at scan-next) r = record {
          scanned = g.scanned;
          under = g.under;
          good = g.good;
          placed = g.placed;
          parts = record {
            clock = sym p.clock ∙ g.parts.clock;
            entries = sym p.entries ∙ g.parts.entries;
            waiting = sym p.waiting
                ∙ g.parts.waiting;
          };
        } in
        let more = record-grown l scan-next (scan-part.long ∙ long) found r f q in
        record {
          touched = touched-then scan-part (touched-wide number_place taken_room more.touched (omega arith) (omega arith));
          so_far = more.so_far;
        }

  record-in : Stepped all w (record_in w r)
  unfolding record_in
  record-in =
      decide (eqb (scanned l w long bytes m r f).number 0)
      (λ t. let good = eqb-true (scanned l w long bytes m r f).number 0 t in
      decide (eqb (num_at 0 lost_place w) 0)
      (λ u. rw (t, u) (grows good (rw u) (eqb-true (num_at 0 lost_place w) 0 u)))
      (λ u. rw (t, u) (lost-before good (rw u))))
      (λ t. rw t (stops (eqb-false (scanned l w long bytes m r f).number 0 t)))

-- a record depends on its bytes alone; the records of bytes with one record more
record-like : (p q : ℕ) (v w : List ℕ) → ((i : ℕ) → i < 16 → get_or v (p + i) 0 ≡ get_or w (q + i) 0) → record_from v p ≡ record_from w q
unfolding record_from
record-like p q v w h =
    rw (
      num-like 0 p q v w (λ i l. h i (omega arith)),
      further 0 1 (omega arith),
      further 1 2 (omega arith),
      further 2 4 (omega arith),
      further 3 8 (omega arith),
    )
  where
    further : (k d : ℕ) → d + 2 ^ k ≤ 16 → num_at k (p + d) v ≡ num_at k (q + d) w
    further k d l = num-like k (p + d) (q + d) v w (λ i x.
        let a : p + d + i ≡ p + (d + i) = omega arith in
        let b : q + d + i ≡ q + (d + i) = omega arith in
        rw (a, b) (h (d + i) (omega arith)))

records-more : (s : List ℕ) (n p : ℕ) → records_from s p (n + 1) ≡ records_from s p n ++ (record_from s (p + n * 16) ∷ [])
unfolding records_from
records-more s zero p = let e : p + 0 ≡ p = omega arith in rw e
records-more s (suc n) p =
    let a : suc n + 1 ≡ suc (n + 1) = omega arith in
    let b : p + 16 + n * 16 ≡ p + suc n * 16 = omega arith in
    rw (a, records-more s n (p + 16), b)

records-first : (s t : List ℕ) (n p : ℕ) → p + n * 16 ≤ length s → records_from (s ++ t) p n ≡ records_from s p n
unfolding records_from
records-first s t zero p h = refl
records-first s t (suc n) p h =
    ap₂ ◌∷◌ (record-like p p (s ++ t) s (λ i l. get_or-append s t 0 (p + i) (omega arith))) (records-first s t n (p + 16) (omega arith))

-- a length that is counted to one more than the longest
length-within : (n : ℕ) → n ≤ map_longest → length_to n ≡ n
length-within n h = rw (le-ltb map_longest n h)

length_over : (n : ℕ) → map_longest < n → length_to n ≡ map_longest + 1
length_over n h = rw (lt-ltb map_longest n h)

-- a byte
module _ (s w : List ℕ) (c : Came s w) (b : ℕ) (small : b < 256) where
  abbrev k : ℕ
  k = length s

  abbrev more : List ℕ
  more = s ++ (b ∷ [])

  long-more : length more ≡ k + 1
  long-more = length-append s (b ∷ [])

  over : map_longest ≤ k → Came more (put 2 length_place (map_longest + 1) w)
  over h =
      let t = touched-put 2 length_place (map_longest + 1) w (omega arith) (omega (arith, c.long)) in
      record {
        long = t.long ∙ c.long;
        bytes = t.bytes c.bytes;
        is_open = same-num 0 open_place (below-touched open_place 1 t (omega arith)) (omega arith) (omega arith) ∙ c.is_open;
        len = put-read 2 length_place (map_longest + 1) w (omega arith) (omega (arith, c.long))
            ∙ sym (length_over (length more) (omega (arith, long-more)));
        taken = c.taken;
        so_far = subst (MapSoFar c.taken) (sym (reader-same (above-touched number_place taken_room t (omega arith)) (omega arith) (omega arith)))
            c.so_far;
        whole = λ x. absurd (omega (arith, long-more));
        held = λ x. absurd (omega (arith, long-more));
      }

  module _ (h : k < map_longest) where
    abbrev put_in : List ℕ
    put_in = put 0 (held_place + k % 16) b w

    abbrev longer : List ℕ
    longer = put 2 length_place (k + 1) put_in

    byte_put : Touched (held_place + k % 16) 1 w put_in
    byte_put = touched-put 0 (held_place + k % 16) b w small (omega (arith, c.long))

    put-long : length put_in ≡ reader_room
    put-long = byte_put.long ∙ c.long

    length-put : Touched length_place 4 put_in longer
    length-put = touched-put 2 length_place (k + 1) put_in (omega arith) (omega (arith, put-long))

    header-put : Touched length_place 20 w longer
    header-put = touched-then (touched-wide length_place 20 byte_put (omega arith) (omega arith))
        (touched-wide length_place 20 length-put (omega arith) (omega arith))

    longer-long : length longer ≡ reader_room
    longer-long = header-put.long ∙ c.long

    so-far-still : MapSoFar c.taken (reader_at longer)
    so-far-still = subst (MapSoFar c.taken)
        (sym (reader-same (above-touched number_place taken_room header-put (omega arith)) (omega arith) (omega arith))) c.so_far

    still_open : num_at 0 open_place longer ≡ 1
    still_open = same-num 0 open_place (below-touched open_place 1 header-put (omega arith)) (omega arith) (omega arith) ∙ c.is_open

    length-now : num_at 2 length_place longer ≡ length_to (length more)
    length-now = put-read 2 length_place (k + 1) put_in (omega arith) (omega (arith, put-long))
        ∙ sym (length-within (length more) (omega (arith, long-more)) ∙ long-more)

    held-now : (i : ℕ) → i ≤ k % 16 → get_or longer (held_place + i) 0 ≡ get_or more (k / 16 * 16 + i) 0
    held-now i l =
        length-put.else (held_place + i) (inr (omega arith))
        ∙ decide (eqb i (k % 16))
        (λ t. let e = eqb-true i (k % 16) t in
        ap (λ x. get_or put_in (held_place + x) 0) e ∙ put-read 0 (held_place + k % 16) b w small (omega (arith, c.long))
        ∙ sym (get_or_at s b [] 0 (k / 16 * 16 + i) (omega arith)))
        (λ t. let n = eqb-false i (k % 16) t in
        byte_put.else (held_place + i) (inl (omega (arith, n))) ∙ c.held (omega arith) i (omega (arith, n))
        ∙ sym (get_or-append s (b ∷ []) 0 (k / 16 * 16 + i) (omega (arith, n))))

    taken_is : c.taken ≡ records_from more 0 (k / 16)
    taken_is = c.whole (omega arith) ∙ sym (records-first s (b ∷ []) (k / 16) 0 (omega arith))

    part : (k % 16 ≡ 15 → ⊥) → Came more longer
    part n = record {
      long = longer-long;
      bytes = header-put.bytes c.bytes;
      is_open = still_open;
      len = length-now;
      taken = c.taken;
      so_far = so-far-still;
      whole = λ _. let e : k / 16 ≡ length more / 16 = omega (arith, long-more, n) in taken_is ∙ ap (records_from more 0) e;
      held = λ _ i l. let e : k / 16 ≡ length more / 16 = omega (arith, long-more, n) in
          held-now i (omega (arith, long-more, n)) ∙ ap (λ x. get_or more (x * 16 + i) 0) e;
    }

    filled : k % 16 ≡ 15 → Came more (record_in longer (record_from longer held_place))
    filled e =
        let r = record_from longer held_place in
        let bytes = header-put.bytes c.bytes in
        let step = record-in c.taken longer longer-long bytes so-far-still r (read_fits longer held_place bytes) in
        let t = step.touched in
        let n : length more / 16 ≡ k / 16 + 1 = omega (arith, long-more) in
        let same : r ≡ record_from more (0 + k / 16 * 16) = record-like held_place (0 + k / 16 * 16) longer more (λ i l.
        let z : 0 + k / 16 * 16 + i ≡ k / 16 * 16 + i = omega arith in held-now i (omega arith) ∙ ap (λ x. get_or more x 0) (sym z)) in
        record {
          long = t.long ∙ longer-long;
          bytes = t.bytes bytes;
          is_open = same-num 0 open_place (below-touched open_place 1 t (omega arith)) (omega arith) (omega arith) ∙ still_open;
          len = same-num 2 length_place (below-touched length_place 4 t (omega arith)) (omega arith) (omega arith) ∙ length-now;
          taken = c.taken ++ (r ∷ []);
          so_far = step.so_far;
          whole = λ _. ap₂ (λ l x. l ++ (x ∷ [])) taken_is same ∙ sym (ap (records_from more 0) n ∙ records-more more (k / 16) 0);
          held = λ _ i l. absurd (omega (arith, long-more));
        }

  came-byte : Came more (byte_in w b)
  unfolding byte_in
  came-byte =
      decide (leb map_longest k)
      (λ t. let h = leb-true map_longest k t in
      rw (c.len, over-leb h) (over h))
      (λ t. let h = leb-false map_longest k t in
      rw (c.len ∙ length-within k (omega arith), t)
      (decide (eqb (k % 16) 15) (λ u. rw u (filled h (eqb-true (k % 16) 15 u))) (λ u. rw u (part h (eqb-false (k % 16) 15 u)))))
    where
      over-leb : map_longest ≤ k → leb map_longest (length_to k) ≡ true
      over-leb h = decide (ltb map_longest k) (λ t. rw t) (λ t. rw t (le-leb map_longest k h))

-- a piece
pub came-piece : (s w piece : List ℕ) → Came s w → Bytes piece → Came (s ++ piece) (piece_in w piece)
unfolding piece_in fold
came-piece s w [] c h = rw (append-nil s) c
came-piece s w (b ∷ piece) c h =
    let rest = came-piece (s ++ (b ∷ [])) (byte_in w b) piece (came-byte s w c b (h 0)) (λ i. h (suc i)) in
    rw (append_assoc s (b ∷ []) piece) at rest
