-- Clocks and their images: what was written reads as it was, what was read writes as it was, and an image is accepted exactly when it is a clock's.
use mathlib.Core.Path.{◌≡◌, refl, ap, ap₂, sym, ◌∙◌}
use mathlib.Core.Bool.{true, false, cond}
use mathlib.Core.List.Memᴰ
use mathlib.Core.List.{List, [], ◌∷◌, map}
use Prim.Native.Nat.{ℕ, ◌*◌, ◌%◌, ◌≤◌, ◌<◌}
use native.Mathlib.Omega.{arith}
use lib.Dec.{eqb, ltb}
use lib.ListN.{length, length-map}
use borrow.Author.Tests.{eq-eqb, le-ltb, lt-ltb, ltb-true, ltb-false, eqb-true}
use Rattle.listlaws.specs.Order.{◌∈◌, Ascending, nil, next, by}
use Rattle.listlaws.specs.Sift.{those}
use Rattle.listlaws.proofs.Orders.{head-before, tail-ascends}
use Rattle.listlaws.proofs.Those.{those-all}
use Rattle.clock.specs.declared.Dot.{Dot}
use Rattle.limits.specs.Limits.{dot_limit}
use Rattle.clock.specs.Dots.{clock_of}
use Rattle.clock.specs.Lawful.{Lawful}
use Rattle.records.specs.declared.Record.{Record}
use Rattle.records.specs.Bytes.{Bytes}
use Rattle.records.specs.Kinds.{before, record_ok}
use Rattle.records.specs.Records.{records_of, bytes_of}
use Rattle.records.proofs.RoundTrips.{Fitting, by-fields, length-bytes, read-written, written_read, read-all-fit}
use Rattle.scan.proofs.Eachs.{decide}
use Rattle.scan.specs.Numbers.{scan_number}
use Rattle.records.proofs.Rule.{is_value}
use Rattle.scan.proofs.Befores.{fields-before, before-fields, before-actor}
use Rattle.scan.proofs.Rooms.{good-at, kind-range, no_index, no_key, counter-from-one}
use Rattle.scan.proofs.Scanning.{scan_good}
use Rattle.scan.proofs.Builds.{Among, scan-of, formed-ascends}
use Rattle.clockimage.specs.Image.{is_kind, dot_record, dot_records, dot_of, DotFits, image_of}
use Rattle.clockimage.specs.ClockImage.{clock_longest, clock_records, clock_in, judged_clock, refused_clock, read_clock}

module _ (kind index key : ℕ) where
  -- dots that ascend give records that ascend
  pub dots-ascend : is_value kind ≡ false → (l : List Dot) → Ascending (by (λ d. d.actor)) l → Ascending before (dot_records kind index key l)
  dots-ascend plain [] a = nil
  dots-ascend plain (d ∷ l) a = next further (dots-ascend plain l (tail-ascends a))
    where
      further : (y : Record) → y ∈ dot_records kind index key l → before (dot_record kind index key d) y ≡ true
      further y i =
          let m = Memᴰ.of_map (dot_record kind index key) l i in
          let h = ltb-true d.actor m.0.actor (head-before a m.0 m.1) in
          rw (← m.2)
          (fields-before (record { kind = omega arith; key = λ _. omega arith; index = λ _ _. omega arith; actor = λ _ _ _. rw plain h }))

  -- a dot's record holds the dot
  pub dots-back : (l : List Dot) → map dot_of (dot_records kind index key l) ≡ l
  dots-back [] = refl
  dots-back (d ∷ l) = ap (λ m. d ∷ m) (dots-back l)

module _ (l : List Dot) where
  all_first : (x : Record) → x ∈ clock_records l → (d : Dot) × (d ∈ l) × (dot_record 1 0 0 d ≡ x)
  all_first x i = Memᴰ.of_map (dot_record 1 0 0) l i

  -- the records of a clock stand for its dots
  pub clock-back : clock_in (clock_records l) ≡ l
  clock-back =
      ap (map dot_of) (those-all (is_kind 1) (clock_records l) (λ x i. ap (λ r. eqb r.kind 1) (sym (all_first x i).2))) ∙ dots-back 1 0 0 l

  among : length l ≤ dot_limit → (r : Record) → r ∈ clock_records l → Among (clock_records l) r
  among h r i = record {
    outers = 0 ∷ [];
    middles = 0 ∷ [];
    inners = map (λ d. d.actor) l;
    in-outers = λ x j _. Memᴰ.head (ap Rattle.scan.specs.Limits.outer (sym (all_first x j).2));
    in-middles = λ x j _. Memᴰ.head (ap Rattle.scan.specs.Limits.middle (sym (all_first x j).2));
    in-inners = λ x j _. let m = all_first x j in rw (← m.2) (Memᴰ.map (λ d. d.actor) m.1);
    few-outers = rw (← (all_first r i).2) (omega arith);
    few-middles = rw (← (all_first r i).2) (omega arith);
    few-inners = rw (← (all_first r i).2, length-map l (λ d. d.actor)) h;
  }

  good : Lawful l → (x : Record) → x ∈ clock_records l → record_ok 1 1 x ≡ true
  unfolding record_ok
  good w x i = let m = all_first x i in rw (← m.2, lt-ltb 0 m.0.counter (w.positive m.0 m.1))

  pub clock-scans : Lawful l → length l ≤ dot_limit → scan_number 1 1 (clock_records l) ≡ 0
  clock-scans w h = scan-of 1 1 (clock_records l) (dots-ascend 1 0 0 refl l w.rising) (good w) (among h)

  fits : ((d : Dot) → d ∈ l → DotFits d) → (x : Record) → x ∈ clock_records l → Fitting x
  fits f x i =
      let m = all_first x i in
      let d = f m.0 m.1 in
      rw (← m.2) (record { kind = omega arith; index = omega arith; actor = d.actor; key = omega arith; number = d.counter })

  -- what was written reads as it was
  pub read-clock-written : Lawful l → ((d : Dot) → d ∈ l → DotFits d) → length l ≤ dot_limit
      → read_clock (bytes_of (clock_records l)) ≡ record { number = 0; clock = clock_of l }
  unfolding read_clock
  read-clock-written w f h =
      let n = length-bytes (clock_records l) ∙ ap (λ k. k * 16) (length-map l (dot_record 1 0 0)) in
      rw (
        le-ltb clock_longest (length (bytes_of (clock_records l))) (omega arith),
        eq-eqb (length (bytes_of (clock_records l)) % 16) 0 (omega arith),
        read-written (clock_records l) (fits f),
        clock-scans w h,
        clock-back,
      )

-- a member of equal lists
moved : {A : Type 0} {l m : List A} → l ≡ m → (x : A) → x ∈ l → x ∈ m
moved e x i = rw e at i

-- an image that is read with number 0 passed every test
pub record Accepted {R : Type 0} (longest : ℕ) (judged : List Record → R) (read : R) (s : List ℕ) : Type 0 where
  pub short : length s ≤ longest
  pub whole : length s % 16 ≡ 0
  pub same : read ≡ judged (records_of s)

pub accepted : {R : Type 0} (number : R → ℕ) (longest : ℕ) (refused : ℕ → R) (judged : List Record → R) (s : List ℕ)
    → ((n : ℕ) → number (refused n) ≡ n) → number (image_of longest refused judged s) ≡ 0
    → Accepted longest judged (image_of longest refused judged s) s
accepted number longest refused judged s r e =
    decide (ltb longest (length s))
    (λ t. absurd (let z : 2 ≡ 0 = sym (r 2) ∙ rw t at e in omega arith))
    (λ f. decide (eqb (length s % 16) 0)
    (λ t. record { short = ltb-false longest (length s) f; whole = eqb-true (length s % 16) 0 t; same = rw (f, t) })
    (λ n. absurd (let z : 1 ≡ 0 = sym (r 1) ∙ rw (f, n) at e in omega arith)))

module _ (l : List Record) (n : scan_number 1 1 l ≡ 0) where
  record First (x : Record) : Type 0 where
    pub kind : x.kind ≡ 1
    pub index : x.index ≡ 0
    pub key : x.key ≡ 0
    pub number : 0 < x.number

  first : (x : Record) → x ∈ l → First x
  first x i =
      let g = good-at 1 1 l (scan_good 1 1 l n).0 x i in
      let h = kind-range 1 1 x g in
      let k : x.kind ≡ 1 = omega arith in
      record {
        kind = k;
        index = no_index 1 1 x g k refl;
        key = no_key 1 1 x g k refl;
        number = counter-from-one 1 1 x g k refl (λ e. omega arith) (λ e. omega arith);
      }

  those-first : those (is_kind 1) l ≡ l
  those-first = those-all (is_kind 1) l (λ x i. eq-eqb x.kind 1 (first x i).kind)

  back : (m : List Record) → ((x : Record) → x ∈ m → First x) → dot_records 1 0 0 (map dot_of m) ≡ m
  back [] h = refl
  back (x ∷ m) h =
      let f = h x (Memᴰ.head refl) in
      ap₂ ◌∷◌ (by-fields (sym f.kind) (sym f.index) refl (sym f.key) refl) (back m (λ y i. h y (Memᴰ.tail i)))

  -- the dots that good records stand for have these records
  pub records-back : clock_records (clock_in l) ≡ l
  records-back = ap (λ m. dot_records 1 0 0 (map dot_of m)) those-first ∙ back l first

  rising : (m : List Record) → ((x : Record) → x ∈ m → First x) → Ascending before m → Ascending (by (λ d. d.actor)) (map dot_of m)
  rising [] h a = nil
  rising (x ∷ m) h a = next further (rising m (λ y i. h y (Memᴰ.tail i)) (tail-ascends a))
    where
      further : (d : Dot) → d ∈ map dot_of m → ltb x.actor d.actor ≡ true
      further d i =
          let y = Memᴰ.of_map dot_of m i in
          let p = h x (Memᴰ.head refl) in
          let q = h y.0 (Memᴰ.tail y.1) in
          let b = before-fields (head-before a y.0 y.1) in
          rw (← y.2) (lt-ltb x.actor y.0.actor (before-actor b (ap is_value p.kind) (p.kind ∙ sym q.kind) (p.key ∙ sym q.key)
          (p.index ∙ sym q.index)))

  pub clock-lawful : Lawful (clock_in l)
  clock-lawful = record {
    rising = rw those-first (rising l first (formed-ascends 1 1 l (scan_good 1 1 l n).0));
    positive = λ d i. let y = Memᴰ.of_map dot_of (those (is_kind 1) l) i in rw (← y.2) (first y.0 (moved those-first y.0 y.1)).number;
  }

-- what an accepted list of bytes is
pub record ClockOfImage (s : List ℕ) (l : List Dot) : Type 0 where
  pub read : read_clock s ≡ record { number = 0; clock = clock_of l }
  pub lawful : Lawful l
  pub few : length l ≤ dot_limit
  pub fit : (d : Dot) → d ∈ l → DotFits d
  pub image : bytes_of (clock_records l) ≡ s

-- what was read writes as it was
pub clock-accepted : (s : List ℕ) → Bytes s → (read_clock s).number ≡ 0 → ClockOfImage s (clock_in (records_of s))
unfolding read_clock
clock-accepted s b e =
    let a = accepted (λ r. r.number) clock_longest refused_clock judged_clock s (λ n. refl) e in
    let l = records_of s in
    let n = good (scan_number 1 1 l) refl (ap (λ r. r.number) (sym a.same) ∙ e) in
    let image = ap bytes_of (records-back l n) ∙ written_read s b a.whole in
    let long = length-bytes (clock_records (clock_in l)) ∙ ap (λ k. k * 16) (length-map (clock_in l) (dot_record 1 0 0)) in
    let same = ap length image in
    let short = a.short in
    record {
      read = a.same ∙ rw n;
      lawful = clock-lawful l n;
      few = omega arith;
      fit = λ d i. let y = Memᴰ.of_map dot_of (those (is_kind 1) l) i in let f = read-all-fit s b _ 0 y.0 (moved (those-first l n) y.0 y.1) in
          rw (← y.2) (record { actor = f.actor; counter = f.number });
      image = image;
    }
  where
    good : (k : ℕ) → k ≡ scan_number 1 1 (records_of s) → (cond (eqb k 0) (record { number = 0; clock = clock_of (clock_in (records_of s)) })
        (refused_clock k)).number ≡ 0 → scan_number 1 1 (records_of s) ≡ 0
    good k q z = decide (eqb k 0) (λ t. sym q ∙ eqb-true k 0 t) (λ f. sym q ∙ rw f at z)
