-- The records that step 4 left, by their marks: which they are, what is known of them, and the loop that takes step 5 in order.
use mathlib.Core.Path.{◌≡◌, refl, ap, sym, ◌∙◌}
use mathlib.Core.Bool.{Bool, true, false}
use mathlib.Core.List.Memᴰ
use mathlib.Core.List.{List, [], ◌∷◌, ◌++◌, map, append-nil}
use Prim.Native.Nat.{ℕ, ◌+◌, ◌*◌, ◌/◌, ◌≤◌, ◌<◌}
use native.Mathlib.Omega.{arith}
use native.Mathlib.Numerals.{add-one}
use mathlib.Core.Logic.{⊎_elim}
use borrow.Author.Tests.{eq-eqb, lt-ltb}
use lib.Dec.{eqb, ltb}
use lib.ListN.{length, take, get_or, set}
use lib.Seq.{take-length, take-suc}
use Rattle.listlaws.specs.Order.{◌∈◌}
use Rattle.listlaws.specs.Sift.{those}
use Rattle.listlaws.proofs.Rests.{in_list}
use Rattle.listlaws.proofs.Those.{those-means, those-holds}
use Rattle.records.specs.declared.Record.{Record}
use Rattle.records.specs.Bytes.{Bytes}
use Rattle.records.specs.Records.{record_from, records_of}
use Rattle.records.proofs.RoundTrips.{read-all-fit}
use Rattle.listlaws.proofs.Orders.{apart}
use Rattle.listlaws.proofs.Pads.{length-snoc}
use Rattle.scan.proofs.Rooms.{those-yes, those-no}
use Rattle.scan.proofs.Eachs.{decide}
use Rattle.scan.specs.Each.{every}
use Rattle.scan.specs.Numbers.{scan_number}
use Rattle.salvagerules.specs.Fates.{untouched, staying, taken}
use Rattle.salvagerules.specs.Indexes.{kept_by_five, waiting_indexes}
use Rattle.salvagerules.specs.Steps.{step_two, step_three, step_four}
use Rattle.salvagelaws.proofs.Stages.{staying-four}
use Rattle.salvagelaws.proofs.Fourth.{Supplied, four-supplied}
use Rattle.salvagelaws.proofs.Waiting.{index-from}
use Rattle.culling.specs.Marks.{MarkedRecord, beside_marks, marked_of, is_left, is_left_at, left_items, plain_fates}
use Rattle.culling.specs.Marks.{after_four}
use Rattle.culling.proofs.Taking.{steps-after}
use Rattle.culling.proofs.Marked.{no_marked, staying-plain, left-append, left_one, left-none, left-set, marked-at, count-marked}
use Rattle.culling.proofs.Passes.{Pass, pass-start, pass-gone, pass_kept, pass-goes, pass-end}
use Rattle.culling.proofs.Needed.{left-early}
use Rattle.mending.specs.Tables.{fourth_of}
use Rattle.mending.specs.Fated.{united_fates}

-- no record is marked with a step that was not yet taken
steps-none : (n : ℕ) → 0 < n → (l : List Record) → every (λ f. ltb f.step n) (map untouched l) ≡ true
unfolding every
steps-none n h [] = refl
steps-none n h (r ∷ l) = rw (lt-ltb 0 n h) (steps-none n h l)

four-early : (n : ℕ) → 4 < n → (l : List Record) → every (λ f. ltb f.step n) (after_four l) ≡ true
unfolding step_two step_three step_four
four-early n h l =
    steps-after 4 _ n h [] _ (steps-after 3 _ n (omega arith) [] _ (steps-after 2 _ n (omega arith) [] (map untouched l) (steps-none n
    (omega arith) l)))

pub united-early : (l : List Record) → every (λ f. ltb f.step 8) (united_fates l) ≡ true
united-early l = steps-after 5 _ 8 (omega arith) [] (after_four l) (four-early 8 (omega arith) l)

pub fourth-is : (xs : List MarkedRecord) (l : List Record) → plain_fates xs ≡ after_four l → left_items 5 xs ≡ staying (after_four l)
fourth-is xs l e =
    left-early 5 xs (ap (every (λ f. ltb f.step 5)) e ∙ four-early 5 (omega arith) l) ∙ sym (staying-plain xs) ∙ ap staying e

pub supplied : (l : List Record) → Supplied (staying (after_four l))
supplied l = rw (staying-four l) (four-supplied l)

-- a record that is left stands among those that are left
pub left_in : (from n : ℕ) (xs : List MarkedRecord) (i : ℕ) → i < length (take n xs) → is_left from (get_or xs i no_marked).mark ≡ true
    → (get_or xs i no_marked).item ∈ left_items from (take n xs)
left_in from n xs i h t = Memᴰ.map (λ z. z.item) (those-holds (is_left_at from) (in_list xs n i no_marked h) t)

pub left-all : (from : ℕ) (xs : List MarkedRecord) (i : ℕ) → i < length xs → is_left from (get_or xs i no_marked).mark ≡ true
    → (get_or xs i no_marked).item ∈ left_items from xs
left-all from xs i h t =
    Memᴰ.map (λ z. z.item) (those-holds (is_left_at from) (rw (take-length xs) at (in_list xs (length xs) i no_marked (rw (take-length xs) h))) t)

-- what is left of the first places, with one more
module _ (from : ℕ) (xs : List MarkedRecord) (i : ℕ) (h : i < length xs) where
  pub left-more : is_left from (get_or xs i no_marked).mark ≡ true → left_items from (take (i + 1) xs) ≡ left_items from (take i xs)
      ++ ((get_or xs i no_marked).item ∷ [])
  left-more e = rw (add-one i) (ap (left_items from) (take-suc xs i no_marked h) ∙ left-append from (take i xs) _
      ∙ ap (λ l. left_items from (take i xs) ++ l) (left_one from (get_or xs i no_marked) e))

  pub left-skip : is_left from (get_or xs i no_marked).mark ≡ false → left_items from (take (i + 1) xs) ≡ left_items from (take i xs)
  left-skip e = rw (add-one i) (ap (left_items from) (take-suc xs i no_marked h) ∙ left-append from (take i xs) _
      ∙ ap (λ l. left_items from (take i xs) ++ l) (left-none from (get_or xs i no_marked) e) ∙ append-nil _)

-- a mark that says that its record stays leaves it at every step
pub zero_left : (m from : ℕ) → is_left 0 m ≡ true → is_left from m ≡ true
zero_left m from t = decide (eqb m 0) (λ a. rw a refl) (λ a. apart (sym (rw a at t)))

-- the records that are left and pass a test, counted
module _ (from : ℕ) (test : Record → Bool) (marks s : List ℕ) (room : length s / 16 ≤ length marks) where
  abbrev pub Counted : ℕ → ℕ → Type 0
  Counted i count = count ≡ length (those test (left_items from (take i (marked_of marks s))))

  module _ (i : ℕ) (h : i < length s / 16) {count : ℕ} (g : Counted i count) {a : Bool} (e : a ≡ is_left from (get_or marks i 0)) where
    inside : i < length (marked_of marks s)
    inside = omega (arith, count-marked marks s room)

    here : is_left from (get_or (marked_of marks s) i no_marked).mark ≡ a
    here = ap (λ z. is_left from z.mark) (marked-at marks s room i h) ∙ sym e

    pub count-skip : a ≡ false → Counted (i + 1) count
    count-skip f = rw (left-skip from (marked_of marks s) i inside (here ∙ f)) g

    module _ (l : a ≡ true) {r : Record} (w : r ≡ record_from s (i * 16)) where
      item : (get_or (marked_of marks s) i no_marked).item ≡ r
      item = ap (λ z. z.item) (marked-at marks s room i h) ∙ sym w

      pub count-more : test r ≡ true → Counted (i + 1) (count + 1)
      count-more t =
          rw (left-more from (marked_of marks s) i inside (here ∙ l))
          (ap (λ n. n + 1) g ∙ sym (ap length (those-yes test (left_items from (take i (marked_of marks s))) _ (ap test item ∙ t))
          ∙ length-snoc (those test (left_items from (take i (marked_of marks s)))) _))

      pub count-other : test r ≡ false → Counted (i + 1) count
      count-other t =
          rw (left-more from (marked_of marks s) i inside (here ∙ l))
          (g ∙ sym (ap length (those-no test (left_items from (take i (marked_of marks s))) _ (ap test item ∙ t))))

-- indexes are bytes
beside-from : (ms : List ℕ) (l : List Record) {z : MarkedRecord} → z ∈ beside_marks ms l → z.item ∈ l
unfolding beside_marks
beside-from [] l i = absurd (Memᴰ.not-nil i)
beside-from (m ∷ ms) [] i = absurd (Memᴰ.not-nil i)
beside-from (m ∷ ms) (r ∷ l) {z} i =
    ⊎_elim
    (λ (e : z ≡ record { mark = m; item = r }). Memᴰ.head (ap (λ y. y.item) e))
    (λ j. Memᴰ.tail (beside-from ms l j)) (Memᴰ.cases_cons i)

pub byte-indexes : (marks s : List ℕ) → Bytes s → scan_number 1 6 (fourth_of marks s) ≡ 0 → (w : ℕ) → w ∈ waiting_indexes (fourth_of marks s)
    → w < 256
byte-indexes marks s b z w m =
    let (r, i, u) = index-from (fourth_of marks s) z w m in
    let (y, j, e) = Memᴰ.of_map (λ x. x.item) (those (is_left_at 5) (marked_of marks s)) i in
    let k = (those-means (is_left_at 5) (marked_of marks s) j).0 in
    let f = read-all-fit s b (length s / 16) 0 y.item (beside-from marks (records_of s) k) in
    omega (arith, f.index, ap (λ x. x.index) e, u.1)

-- step 5, what goes: i of the records are passed
pub record Uniting (l : List Record) (xs₀ : List MarkedRecord) (i : ℕ) (xs : List MarkedRecord) : Type 0 where
  pub pass : Pass 5 (kept_by_five (staying (after_four l))) xs₀ i xs
  pub fourth : left_items 5 xs ≡ staying (after_four l)

module _ (l : List Record) (xs₀ : List MarkedRecord) (from : plain_fates xs₀ ≡ after_four l) where
  pub unite-start : Uniting l xs₀ 0 xs₀
  unite-start = record { pass = pass-start; fourth = fourth-is xs₀ l from }

  pub unite-end : {i : ℕ} {xs : List MarkedRecord} → Uniting l xs₀ i xs → length xs₀ ≤ i → plain_fates xs ≡ united_fates l
  unite-end g h = pass-end g.pass h ∙ ap (taken 5 (kept_by_five (staying (after_four l)))) from

module _ {l : List Record} {xs₀ : List MarkedRecord} {i : ℕ} {xs : List MarkedRecord} (g : Uniting l xs₀ i xs) (h : i < length xs₀) where
  pub unite-skip : ((get_or xs i no_marked).mark ≡ 0 → ⊥) → Uniting l xs₀ (i + 1) xs
  unite-skip k = record { pass = pass-gone g.pass h k; fourth = g.fourth }

  module _ {b : Bool} (e : b ≡ kept_by_five (left_items 5 xs) (left_items 0 (take i xs)) (get_or xs i no_marked).item) where
    test : kept_by_five (staying (after_four l)) (left_items 0 (take i xs)) (get_or xs i no_marked).item ≡ b
    test = ap (λ k. kept_by_five k (left_items 0 (take i xs)) (get_or xs i no_marked).item) (sym g.fourth) ∙ sym e

    pub unite-keep : b ≡ true → Uniting l xs₀ (i + 1) xs
    unite-keep t = record { pass = pass_kept g.pass h (test ∙ t); fourth = g.fourth }

    pub unite-go : (z : MarkedRecord) → (get_or xs i no_marked).mark ≡ 0 → b ≡ false → z.mark ≡ 5 → z.item ≡ (get_or xs i no_marked).item
        → Uniting l xs₀ (i + 1) (set xs i z)
    unite-go z k t m w = record {
      pass = pass-goes g.pass h z k (test ∙ t) m w (λ q. omega arith);
      fourth = left-set 5 xs i z (rw (eq-eqb _ 0 k)) (rw m) (sym w) ∙ g.fourth;
    }
