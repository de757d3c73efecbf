-- A reader that has taken nothing.
use mathlib.Core.Path.{◌≡◌, refl, ap, sym, ◌∙◌}
use mathlib.Core.Bool.{false}
use mathlib.Core.List.{List, [], ◌∷◌, ◌++◌, map}
use Prim.Native.Nat.{ℕ, zero, suc, ◌+◌, ◌-◌, ◌^◌, ◌≤◌, ◌<◌, min}
use native.Mathlib.Omega.{arith}
use lib.Dec.{eqb}
use lib.ListN.{length, get_or, replicate, length-replicate, get_or-replicate, replicate-append-replicate}
use Rattle.listlaws.specs.Sift.{sift}
use Rattle.listlaws.specs.Fold.{fold}
use Rattle.limits.specs.Limits.{entry_limit, waiting_limit}
use Rattle.records.specs.Bytes.{num_at, Bytes}
use Rattle.records.specs.Records.{record_from, records_from}
use Rattle.scan.specs.Each.{each_after}
use Rattle.scan.proofs.Scanning.{scanned-none, under_none}
use Rattle.clockimage.proofs.Dots.{map_snoc}
use Rattle.maprecords.specs.Reading.{numbers_below, entry_keys, waiting_count}
use Rattle.maprecords.specs.SoFar.{MapSoFar}
use Rattle.memory.specs.Memory.{reader_room, open_place, length_place, number_place, any_place, last_place, counts_place, under_place, lost_place}
use Rattle.memory.specs.Memory.{entries_place, waits_place, clock_place, scan_at, entry_held_at, entries_at, removal_at, waiting_at}
use Rattle.memory.specs.Putting.{put}
use Rattle.mailbox.specs.Machine.{zeros, begun}
use Rattle.memory.specs.Reader.{under_at, reader_at}
use Rattle.mailbox.specs.Held.{Came}
use Rattle.memory.proofs.Regions.{num-like, same-num, Touched, below-touched, touched-put, put-read, touched-placed, placed-within}
use Rattle.memory.proofs.Views.{below-same}
use Rattle.memory.proofs.Puts.{no-dots}

-- a number in no bytes
num-none : (k p : ℕ) → num_at k p [] ≡ 0
num-none zero p = refl
num-none (suc k) p = let a = num-none k p in let b = num-none k (p + 2 ^ k) in rw (a, b) (omega arith)

abbrev nought : ℕ → ℕ
nought i = 0

zero-list : (n : ℕ) → map nought (numbers_below n) ≡ replicate n 0
unfolding numbers_below
zero-list zero = refl
zero-list (suc n) =
    let e : suc n ≡ n + 1 = omega arith in
    map_snoc nought (numbers_below n) n ∙ ap (λ l. l ++ (0 ∷ [])) (zero-list n) ∙ replicate-append-replicate {A = ℕ} n 1 0
    ∙ ap (λ m. replicate {A = ℕ} m 0) (sym e)

pub zeros-small : (n : ℕ) → Bytes (replicate n 0)
zeros-small zero i = omega arith
zeros-small (suc n) zero = omega arith
zeros-small (suc n) (suc i) = zeros-small n i

module _ (w : List ℕ) (long : length w ≡ reader_room) where
  abbrev opened : List ℕ
  opened = put 0 open_place 1 w

  open-put : Touched open_place 1 w opened
  open-put = touched-put 0 open_place 1 w (omega arith) (omega arith)

  zeros-long : length (zeros clock_place) ≡ clock_place
  unfolding zeros
  zeros-long = length-replicate {A = ℕ} clock_place 0

  opened-long : length opened ≡ reader_room
  opened-long = open-put.long ∙ long

  zeros-put : Touched length_place clock_place opened (begun w)
  unfolding begun zeros
  zeros-put = rw zeros-long at (touched-placed length_place (zeros clock_place) opened (omega (arith, zeros-long, opened-long))
      (zeros-small clock_place))

  zero-at : (i : ℕ) → i < clock_place → get_or (begun w) (length_place + i) 0 ≡ 0
  unfolding begun zeros
  zero-at i h = placed-within length_place (zeros clock_place) opened (omega (arith, zeros-long, opened-long)) i (omega (arith, zeros-long))
      ∙ get_or-replicate {A = ℕ} clock_place i 0 0 h

  -- every number of the header but the first is 0
  zero-num : (k p : ℕ) → length_place ≤ p → p + 2 ^ k ≤ length_place + clock_place → num_at k p (begun w) ≡ 0
  zero-num k p a b =
      num-like k p 0 (begun w) [] (λ i l. let e : p + i ≡ length_place + (p + i - length_place) = omega arith in
      ap (λ x. get_or (begun w) x 0) e ∙ zero-at (p + i - length_place) (omega arith))
      ∙ num-none k 0

  scan-none : scan_at (begun w) ≡ record { number = 0; any = false; last = record_from (begun w) last_place; outer = 0; middle = 0; inner = 0 }
  scan-none =
      let a = zero-num 0 number_place (omega arith) (omega arith) in
      let b = zero-num 0 any_place (omega arith) (omega arith) in
      let d = zero-num 1 counts_place (omega arith) (omega arith) in
      let e = zero-num 1 (counts_place + 2) (omega arith) (omega arith) in
      let f = zero-num 1 (counts_place + 4) (omega arith) (omega arith) in
      λ i. record { number = a i; any = eqb (b i) 1; last = record_from (begun w) last_place; outer = d i; middle = e i; inner = f i }

  under-zero : under_at (begun w) ≡ replicate 256 0
  unfolding under_at
  under-zero = below-same (λ i. num_at 0 (under_place + i) (begun w)) nought 256 (λ i h. zero-num 0 (under_place + i) (omega arith) (omega arith))
      ∙ zero-list 256

  no-entries : entries_at (begun w) ≡ []
  unfolding entries_at numbers_below
  no-entries = ap (λ c. map (entry_held_at (begun w)) (numbers_below (min c entry_limit))) (zero-num 0 entries_place (omega arith) (omega arith))

  no-waiting : waiting_at (begun w) ≡ []
  unfolding waiting_at numbers_below
  no-waiting = ap (λ c. map (removal_at (begun w)) (numbers_below (min c waiting_limit))) (zero-num 0 waits_place (omega arith) (omega arith))

  nothing-taken : MapSoFar [] (reader_at (begun w))
  unfolding sift fold each_after entry_keys waiting_count numbers_below
  nothing-taken = record {
    scanned = rw scan-none (scanned-none 1 6 (record_from (begun w) last_place));
    under = λ _. rw under-zero (under_none 256);
    lost = λ _. rw (zero-num 0 lost_place (omega arith) (omega arith));
    parts = λ _ _. record {
      clock = no-dots clock_place (begun w) (zero-num 0 clock_place (omega arith) (omega arith));
      entries = no-entries;
      waiting = no-waiting;
    };
  }

  -- nothing came to a reader that was begun, whatever the memory held
  pub came-none : Bytes w → Came [] (begun w)
  unfolding records_from
  came-none bytes = record {
    long = zeros-put.long ∙ opened-long;
    bytes = zeros-put.bytes (open-put.bytes bytes);
    is_open = same-num 0 open_place (below-touched open_place 1 zeros-put (omega arith)) (omega arith) (omega arith)
        ∙ put-read 0 open_place 1 w (omega arith) (omega arith);
    len = zero-num 2 length_place (omega arith) (omega arith);
    taken = [];
    so_far = nothing-taken;
    whole = λ _. refl;
    held = λ _ i l. absurd (omega arith);
  }
