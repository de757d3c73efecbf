-- The loops follow the definitions, turn by turn.
use mathlib.Core.Path.{◌≡◌, refl, ap, sym, ◌∙◌}
use mathlib.Core.Bool.{Bool, true, false, cond, ◌&&◌}
use mathlib.Core.List.{List, [], ◌∷◌, map}
use Prim.Native.Nat.{ℕ, zero, suc, ◌+◌, ◌*◌, ◌-◌, ◌≤◌, ◌<◌}
use native.Mathlib.Omega.{arith}
use lib.Dec.{eqb, ltb, leb}
use borrow.Author.Tests.{ltb-true, ltb-false, lt-ltb, eqb-true, eqb-false, eq-eqb, ne_eqb}
use Rattle.scan.proofs.Eachs.{decide, both, both_left, both_right}
use lib.ListN.{length, take, drop, get_or, set, replicate}
use Rattle.records.specs.declared.Record.{Record}
use Rattle.records.specs.Records.{record_from, records_from, records_of}
use Rattle.records.proofs.Joined.{length-records, records-slice}
use Rattle.limits.specs.Limits.{value_limit, entry_limit, waiting_limit, key_limit, dot_limit}
use Rattle.runs.specs.Run.{run_dots}
use Rattle.walks.specs.Walk.{Sections, part, field_of, dot_test, value_test, own_test, run_end, values_end, is_none, first_key, entries_end, Splits}
use Rattle.walks.specs.Walk.{waits_end, key_test, keys_good}
use Rattle.clock.specs.declared.Clock.{Clock}
use Rattle.clock.specs.Dots.{dots_of, clock_of}
use Rattle.clock.proofs.Packs.{dots-of}
use Rattle.removals.specs.Waits.{clock_before}
use Rattle.listlaws.proofs.Orders.{apart}
use Rattle.clock.specs.declared.Dot.{Dot}
use Rattle.clockimage.specs.Image.{dot_of}
use Rattle.walks.specs.declared.Layout.{Layout}
use Rattle.walks.specs.declared.Passed.{Passed}

-- the first record of a part, and the rest
pub part-on : (s : List ℕ) (i j : ℕ) → i < j → part s i j ≡ record_from s (i * 16) ∷ part s (i + 1) j
unfolding records_from
part-on s i j h =
    let n : j - i ≡ suc (j - (i + 1)) = omega arith in
    let at : (i + 1) * 16 ≡ i * 16 + 16 = omega arith in
    rw (n, at)

pub part_end : (s : List ℕ) (i j : ℕ) → j ≤ i → part s i j ≡ []
unfolding records_from
part_end s i j h = let n : j - i ≡ 0 = omega arith in rw n

-- each section ends within the bytes
pub record Ends (n : ℕ) (l : Layout) : Type 0 where
  pub second : l.second * 16 ≤ n
  pub third : l.third * 16 ≤ n
  pub fourth : l.fourth * 16 ≤ n
  pub fifth : l.fifth * 16 ≤ n

pub sections-end : {n : ℕ} {l : Layout} → Sections n l → Ends n l
sections-end p =
    let q2 = p.second in
    let q3 = p.third in
    let q4 = p.fourth in
    let q5 = p.fifth in
    let q6 = p.sixth in
    let q7 = p.end in
    record { second = omega arith; third = omega arith; fourth = omega arith; fifth = omega arith }

-- the records of a slice between two places
pub slice-part : (s : List ℕ) (i j : ℕ) → i ≤ j → j * 16 ≤ length s → records_of (take (j * 16 - i * 16) (drop (i * 16) s)) ≡ part s i j
slice-part s i j a b = records-slice s (i * 16) (j * 16 - i * 16) (j - i) (omega arith) (omega arith)

-- and their clock
pub clock-between : (s : List ℕ) (i j : ℕ) → i ≤ j → j * 16 ≤ length s
    → clock_of (run_dots (take (j * 16 - i * 16) (drop (i * 16) s))) ≡ clock_of (map dot_of (part s i j))
clock-between s i j a b = ap (λ l. clock_of (map dot_of l)) (slice-part s i j a b)

-- what is left of a run from place i on
pub record Running (test : Record → Bool) (s : List ℕ) (at end i low : ℕ) : Type 0 where
  pub left : run_end test 0 dot_limit 0 (part s at end) ≡ run_end test low (dot_limit - i) i (part s (at + i) end)

module _ (test : Record → Bool) (s : List ℕ) (at end : ℕ) where
  pub run-start : Running test s at end 0 0
  run-start = let e : at + 0 ≡ at = omega arith in record { left = rw e }

  module _ {i low : ℕ} (h : Running test s at end i low) where
    -- the record at place i, and what the code found of it
    module _ (r : Record) (b : Bool) (e : r ≡ record_from s ((at + i) * 16)) (f : b ≡ test r) (few : i < dot_limit) (inside : at + i < end) where
      pub run_on : b && leb low r.actor ≡ true → Running test s at end (i + 1) (r.actor + 1)
      unfolding run_end
      run_on t =
          let n : dot_limit - i ≡ suc (dot_limit - (i + 1)) = omega arith in
          let k : at + (i + 1) ≡ at + i + 1 = omega arith in
          record { left = h.left ∙ rw (part-on s (at + i) end inside, n, ← e, ← f, t, k) }

      pub run-fails : b && leb low r.actor ≡ false → i ≡ run_end test 0 dot_limit 0 (part s at end)
      unfolding run_end
      run-fails t =
          let n : dot_limit - i ≡ suc (dot_limit - (i + 1)) = omega arith in
          sym (h.left ∙ rw (part-on s (at + i) end inside, n, ← e, ← f, t))

    -- no room, or no record, is left
    pub run-stops : (i < dot_limit → end ≤ at + i) → i ≡ run_end test 0 dot_limit 0 (part s at end)
    unfolding run_end
    run-stops a =
        decide (ltb i dot_limit) (λ t. sym (h.left ∙ rw (part_end s (at + i) end (a (ltb-true i dot_limit t)))))
        (λ f. let k = ltb-false i dot_limit f in let n : dot_limit - i ≡ 0 = omega arith in sym (h.left ∙ rw n (none (part s (at + i) end))))
      where
        none : (l : List Record) → run_end test low 0 i l ≡ i
        none [] = refl
        none (x ∷ l) = refl

-- a part without its first records, and whether there is one left
pub part-drop : (s : List ℕ) (q i j : ℕ) → i + q ≤ j → drop q (part s i j) ≡ part s (i + q) j
part-drop s zero i j h = let e : i + 0 ≡ i = omega arith in rw e
part-drop s (suc q) i j h =
    let e : i + suc q ≡ i + 1 + q = omega arith in rw (part-on s i j (omega arith), e) (part-drop s q (i + 1) j (omega arith))

pub length_part : (s : List ℕ) (i j : ℕ) → length (part s i j) ≡ j - i
length_part s i j = length-records s (i * 16) (j - i)

pub part_none : (s : List ℕ) (i j : ℕ) → i ≤ j → is_none (part s i j) ≡ eqb i j
part_none s i j h =
    let k = length_part s i j in
    decide (eqb i j) (λ t. let q = eqb-true i j t in rw t (eq-eqb (length (part s i j)) 0 (omega arith)))
    (λ f. let q = eqb-false i j f in rw f (ne_eqb (length (part s i j)) 0 (λ e. q (omega arith))))

-- what is left of a key's values from place i on
pub record Valuing (key : ℕ) (s : List ℕ) (at end dots last i p : ℕ) : Type 0 where
  pub left : values_end key value_limit 0 0 (part s at end) (part s dots last) ≡ values_end key (value_limit - i) i p (part s (at + i) end)
      (part s (dots + p) last)

module _ (key : ℕ) (s : List ℕ) (at end dots last : ℕ) where
  abbrev whole : Passed
  whole = values_end key value_limit 0 0 (part s at end) (part s dots last)

  pub values-start : Valuing key s at end dots last 0 0
  values-start = let e : at + 0 ≡ at = omega arith in let f : dots + 0 ≡ dots = omega arith in record { left = rw (e, f) }

  module _ {i p : ℕ} (h : Valuing key s at end dots last i p) where
    module _ (r : Record) (b : Bool) (e : r ≡ record_from s ((at + i) * 16)) (f : b ≡ value_test key i r) (few : i < value_limit)
        (inside : at + i < end) where
      pub values-fail : b ≡ false → record { good = true; values = i; dots = p } ≡ whole
      unfolding values_end
      values-fail t =
          let n : value_limit - i ≡ suc (value_limit - (i + 1)) = omega arith in
          sym (h.left ∙ rw (part-on s (at + i) end inside, n, ← e, ← f, t))

      module _ (q : ℕ) (g : q ≡ run_end (dot_test 4 i key) 0 dot_limit 0 (part s (dots + p) last)) (room : dots + p + q ≤ last) (t : b ≡ true) where
        pub values-lack : q ≡ 0 → record { good = false; values = i; dots = p } ≡ whole
        unfolding values_end
        values-lack z =
            let n : value_limit - i ≡ suc (value_limit - (i + 1)) = omega arith in
            sym (h.left ∙ rw (part-on s (at + i) end inside, n, ← e, ← f, t, ← g, eq-eqb q 0 z))

        pub values-on : (q ≡ 0 → ⊥) → Valuing key s at end dots last (i + 1) (p + q)
        unfolding values_end
        values-on z =
            let n : value_limit - i ≡ suc (value_limit - (i + 1)) = omega arith in
            let k : at + (i + 1) ≡ at + i + 1 = omega arith in
            let m : dots + (p + q) ≡ dots + p + q = omega arith in
            record {
              left = h.left ∙ rw (
                part-on s (at + i) end inside,
                n,
                ← e,
                ← f,
                t,
                ← g,
                ne_eqb q 0 z,
                k,
                m,
                part-drop s q (dots + p) last room,
              );
            }

    pub values-stop : (i < value_limit → end ≤ at + i) → record { good = true; values = i; dots = p } ≡ whole
    unfolding values_end
    values-stop a =
        decide (ltb i value_limit) (λ t. sym (h.left ∙ rw (part_end s (at + i) end (a (ltb-true i value_limit t)))))
        (λ f. let k = ltb-false i value_limit f in let n : value_limit - i ≡ 0 = omega arith in
        sym (h.left ∙ rw n (none (part s (at + i) end) (part s (dots + p) last))))
      where
        none : (l m : List Record) → values_end key 0 i p l m ≡ record { good = true; values = i; dots = p }
        none [] m = refl
        none (x ∷ l) m = refl

-- what is left of the entries
pub record Entering (c : List Dot) (s : List ℕ) (start third fourth fifth own values dots n low : ℕ) : Type 0 where
  pub left : entries_end c entry_limit 0 0 (part s start third) (part s third fourth) (part s fourth fifth) ≡ entries_end c (entry_limit - n) n low
      (part s own third) (part s values fourth) (part s dots fifth)

module _ (c : List Dot) (s : List ℕ) (start third fourth fifth : ℕ) where
  abbrev all : ℕ
  all = entries_end c entry_limit 0 0 (part s start third) (part s third fourth) (part s fourth fifth)

  pub enter-start : Entering c s start third fourth fifth start third fourth 0 0
  enter-start = record { left = refl }

  module _ {own values dots n low : ℕ} (h : Entering c s start third fourth fifth own values dots n low) where
    module _ (r : Record) (q : ℕ) (v : Passed) (e : r ≡ record_from s (own * 16))
        (f : q ≡ run_end (own_test c r.key) 0 dot_limit 0 (part s own third))
        (g : v ≡ values_end r.key value_limit 0 0 (part s values fourth) (part s dots fifth)) (few : n < entry_limit) (inside : own < third) where
      some : is_none (part s own third) ≡ false
      some = part_none s own third (omega arith) ∙ ne_eqb own third (λ e. omega arith)

      its-key : first_key (part s own third) ≡ r.key
      its-key = rw (part-on s own third inside) (ap (λ (x : Record). x.key) (sym e))

      pub enter-fails : ltb 0 q && (leb low r.key && v.good) ≡ false → (entry_limit + 1) ≡ all
      unfolding entries_end
      enter-fails t =
          let k : entry_limit - n ≡ suc (entry_limit - (n + 1)) = omega arith in
          sym (h.left ∙ rw (k, some, its-key, ← f, ← g, t))

      pub enter-on : own + q ≤ third → values + v.values ≤ fourth → dots + v.dots ≤ fifth → ltb 0 q && (leb low r.key && v.good) ≡ true
          → Entering c s start third fourth fifth (own + q) (values + v.values) (dots + v.dots) (n + 1) (r.key + 1)
      unfolding entries_end
      enter-on a b d t =
          let k : entry_limit - n ≡ suc (entry_limit - (n + 1)) = omega arith in
          record {
            left = h.left ∙ rw (
              k,
              some,
              its-key,
              ← f,
              ← g,
              t,
              part-drop s q own third a,
              part-drop s v.values values fourth b,
              part-drop s v.dots dots fifth d,
            );
          }

    pub enter-stops : own ≤ third → values ≤ fourth → dots ≤ fifth → (n < entry_limit → third ≤ own)
        → cond (eqb own third && (eqb values fourth && eqb dots fifth)) n (entry_limit + 1) ≡ all
    unfolding entries_end
    enter-stops a b d z =
        rw (← part_none s own third a, ← part_none s values fourth b, ← part_none s dots fifth d)
        (decide (ltb n entry_limit)
        (λ t. let k : entry_limit - n ≡ suc (entry_limit - (n + 1)) = let m = ltb-true n entry_limit t in omega arith in
        let y = z (ltb-true n entry_limit t) in
        sym (h.left ∙ rw (k, part_none s own third a, eq-eqb own third (omega arith))))
        (λ t. let k : entry_limit - n ≡ 0 = let m = ltb-false n entry_limit t in omega arith in sym (h.left ∙ rw k)))

-- a place of a lower field stands before the split, and one of another does not
module _ {s : List ℕ} {field bound from end at : ℕ} (h : Splits s field bound from end at) (mid : ℕ) where
  pub split-above : mid < end → field_of field (record_from s (mid * 16)) < bound → mid + 1 ≤ at
  split-above a b = decide (ltb mid at) (λ t. omega (arith, ltb-true mid at t)) (λ f. let k = h.higher mid (ltb-false mid at f) a in
      absurd (omega arith))

  pub split_below : from ≤ mid → bound ≤ field_of field (record_from s (mid * 16)) → at ≤ mid
  split_below a b = decide (ltb mid at) (λ t. let k = h.lower mid a (ltb-true mid at t) in absurd (omega arith)) (λ f. ltb-false mid at f)

pub part-take : (s : List ℕ) (q i j : ℕ) → i + q ≤ j → take q (part s i j) ≡ part s i (i + q)
part-take s zero i j h = sym (part_end s i (i + 0) (omega arith))
part-take s (suc q) i j h =
    let e : i + suc q ≡ i + 1 + q = omega arith in
    rw (part-on s i j (omega arith), part-on s i (i + suc q) (omega arith), e)
    (ap (λ l. record_from s (i * 16) ∷ l) (part-take s q (i + 1) j (omega arith)))

-- what is left of the waiting clocks
pub record Queueing (s : List ℕ) (start sixth at n : ℕ) (last : Clock) : Type 0 where
  pub left : waits_end waiting_limit 0 [] (part s start sixth) ≡ waits_end (waiting_limit - n) n (dots_of last) (part s at sixth)

module _ (s : List ℕ) (start sixth : ℕ) where
  pub queue-start : {last : Clock} → last ≡ clock_of [] → Queueing s start sixth start 0 last
  queue-start e = record { left = ap (λ l. waits_end waiting_limit 0 l (part s start sixth)) (sym (dots-of [] e)) }

  module _ {at n : ℕ} {last : Clock} (h : Queueing s start sixth at n last) where
    module _ (q : ℕ) (clock : Clock) (b : Bool) (e : q ≡ run_end (dot_test 5 n 0) 0 dot_limit 0 (part s at sixth)) (room : at + q ≤ sixth)
        (f : clock ≡ clock_of (map dot_of (part s at (at + q))))
        (g : b ≡ clock_before (dots_of last) (dots_of clock)) (few : n < waiting_limit) (inside : at < sixth) where
      left-some : is_none (part s at sixth) ≡ false
      left-some = part_none s at sixth (omega arith) ∙ ne_eqb at sixth (λ e. omega arith)

      its-clock : map dot_of (take q (part s at sixth)) ≡ dots_of clock
      its-clock = ap (map dot_of) (part-take s q at sixth room) ∙ sym (dots-of (map dot_of (part s at (at + q))) f)

      pub queue-fails : b ≡ false → (waiting_limit + 1) ≡ waits_end waiting_limit 0 [] (part s start sixth)
      unfolding waits_end
      queue-fails t =
          let k : waiting_limit - n ≡ suc (waiting_limit - (n + 1)) = omega arith in
          sym (h.left ∙ rw (k, left-some, ← e, its-clock, ← g, t))

      pub queue-on : b ≡ true → Queueing s start sixth (at + q) (n + 1) clock
      unfolding waits_end
      queue-on t =
          let k : waiting_limit - n ≡ suc (waiting_limit - (n + 1)) = omega arith in
          record { left = h.left ∙ rw (k, left-some, ← e, its-clock, ← g, t, part-drop s q at sixth room) }

    pub queue-stops : at ≤ sixth → (n < waiting_limit → sixth ≤ at) → cond (eqb at sixth) n (waiting_limit + 1) ≡ waits_end waiting_limit 0 []
        (part s start sixth)
    unfolding waits_end
    queue-stops a z =
        rw (← part_none s at sixth a)
        (decide (ltb n waiting_limit)
        (λ t. let k : waiting_limit - n ≡ suc (waiting_limit - (n + 1)) = let m = ltb-true n waiting_limit t in omega arith in
        let y = z (ltb-true n waiting_limit t) in
        sym (h.left ∙ rw (k, part_none s at sixth a, eq-eqb at sixth (omega arith))))
        (λ t. let k : waiting_limit - n ≡ 0 = let m = ltb-false n waiting_limit t in omega arith in sym (h.left ∙ rw k)))

-- what is left of the waiting keys
pub record Listing (n : ℕ) (s : List ℕ) (at end i low : ℕ) (counts : List ℕ) : Type 0 where
  pub left : keys_good n (replicate waiting_limit 0) 0 (part s at end) ≡ keys_good n counts low (part s i end)

module _ (n : ℕ) (s : List ℕ) (at end : ℕ) where
  pub keys-start : Listing n s at end at 0 (replicate waiting_limit 0)
  keys-start = record { left = refl }

  module _ {i low : ℕ} {counts : List ℕ} (h : Listing n s at end i low counts) where
    module _ (r : Record) (b : Bool) (e : r ≡ record_from s (i * 16)) (f : b ≡ key_test n r) (inside : i < end) where
      pub keys-fail : b ≡ false → false ≡ keys_good n (replicate waiting_limit 0) 0 (part s at end)
      unfolding keys_good
      keys-fail t = sym (h.left ∙ rw (part-on s i end inside, ← e, ← f, t))

      pub keys-lack : b ≡ true → leb low (r.key * 256 + r.index) && ltb (get_or counts r.index 0) key_limit ≡ false
          → false ≡ keys_good n (replicate waiting_limit 0) 0 (part s at end)
      unfolding keys_good
      keys-lack t u = sym (h.left ∙ rw (part-on s i end inside, ← e, ← f, t, u))

      pub keys_on : b ≡ true → leb low (r.key * 256 + r.index) && ltb (get_or counts r.index 0) key_limit ≡ true
          → Listing n s at end (i + 1) (r.key * 256 + r.index + 1) (set counts r.index (get_or counts r.index 0 + 1))
      unfolding keys_good
      keys_on t u = record { left = h.left ∙ rw (part-on s i end inside, ← e, ← f, t, u) }

    pub keys-stop : end ≤ i → true ≡ keys_good n (replicate waiting_limit 0) 0 (part s at end)
    unfolding keys_good
    keys-stop a = sym (h.left ∙ rw (part_end s i end a))

-- a loop on two tests: both hold, or one does not
pub going : (a b n m : ℕ) → (ltb a b && ltb n m) ≡ true → (a < b) × (n < m)
going a b n m t = (ltb-true a b (both_left (ltb a b) (ltb n m) t), ltb-true n m (both_right (ltb a b) (ltb n m) t))

pub gone : (a b n m : ℕ) → (ltb a b && ltb n m) ≡ false → n < m → b ≤ a
gone a b n m f h = decide (ltb a b) (λ t. apart (sym (both (ltb a b) (ltb n m) t (lt-ltb n m h)) ∙ f)) (λ u. ltb-false a b u)
