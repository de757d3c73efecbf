-- Demand 1, call by call: each number by its table, refusals that write nothing, and what 0 writes.
use mathlib.Core.Path.{◌≡◌, refl, ap, sym, ◌∙◌}
use mathlib.Core.Bool.{Bool, true, false, not, cond, ◌&&◌, ◌||◌}
use mathlib.Core.Logic.{◌⊎◌, inl, inr, ⊎_elim}
use mathlib.Core.List.{List, [], ◌∷◌, ◌++◌}
use Prim.Native.Nat.{ℕ, ◌*◌, ◌%◌, ◌^◌, ◌≤◌, ◌<◌, min}
use native.Mathlib.Omega.{arith}
use lib.Dec.{eqb, ltb}
use lib.ListN.{length}
use borrow.Author.Tests.{eqb-true, eqb-false, ne_eqb, ltb-false}
use Rattle.limits.specs.Limits.{dot_limit}
use Rattle.clock.specs.declared.Clock.{Clock}
use Rattle.clock.specs.Dots.{dots_of, add_dot}
use Rattle.map.specs.declared.Map.{Map}
use Rattle.map.specs.declared.Op.{Op}
use Rattle.map.specs.Model.{seen_by}
use Rattle.map.specs.Judging.{exceeding, over_keys, over_number, judged}
use Rattle.map.proofs.Verdicts.{judged-number, judged-map}
use Rattle.asking.specs.declared.Made.{Made}
use Rattle.asking.specs.declared.CmRDTValidation.{CmRDTValidation}
use Rattle.asking.specs.declared.CmRDTValidation.TheVariants.{Fits, Missing}
use Rattle.asking.specs.declared.CvRDTValidation.{CvRDTValidation}
use Rattle.asking.specs.declared.CvRDTValidation.TheVariants.{Once, Twice}
use Rattle.asking.specs.Asking.{order_number, spent_number, is_twice}
use Rattle.records.specs.Bytes.{Bytes, num_at, num_bytes, placed}
use Rattle.scan.specs.Each.{every}
use Rattle.scan.proofs.Eachs.{decide}
use Rattle.opimage.specs.OpImage.{op_image}
use Rattle.mapimage.specs.MapImage.{map_longest, map_image}
use Rattle.maprecords.specs.Related.{read_map}
use Rattle.answers.specs.Answer.{Answer, Answered, first_of, number_of, short_of, word_of, carried_of}
use Rattle.acceptancelaws.proofs.Maps.{map-within}
use Rattle.acceptancelaws.proofs.Ops.{op-within}
use Rattle.oneimagelaws.specs.One.{GoodMap, GoodOp}
use Rattle.oneimagelaws.proofs.Fields.{map-narrow, op-narrow}
use Rattle.oneimagelaws.proofs.Maps.{one-map-image}
use Rattle.oneimagelaws.proofs.Ops.{one-op-image}
use Rattle.advance.specs.Advancing.{rising_dots, lent_number, dot_given, advance_answer, takes_effect, advanced_of}
use Rattle.memory.specs.Memory.{open_place, length_place, number_place}
use Rattle.mailbox.specs.Machine.{is_open, take_word, take_in}
use Rattle.delivery.specs.Delivery.{scanned_at, related_at, image_at, end_number, closed_number, end_answer, ended_by, Ended}
use Rattle.loader.specs.Calls.{is_bay, bay_number, bay_answer, bays_answer, bay_count}
use Rattle.loader.specs.Reports.{report_at, report_bytes, reports_after}
use Rattle.loader.proofs.Reporting.{length-reports}
use Rattle.promises.specs.Deleted.{apply_deleted, reset_deleted}
use Rattle.readiness.specs.declared.Readiness.{Readiness}
use Rattle.readiness.specs.declared.Readiness.TheVariants.{Next, Foreign, Seen, Hold}
use Rattle.readiness.specs.Ready.{ready_number}
use Rattle.differences.specs.Differences.{differences_answer}
use Rattle.promises.specs.Ready.{readiness_of, ready_answer}
use Rattle.promises.specs.Calls.{apply_answer, reset_answer}
use Rattle.promises.specs.Calls.{given, map_answer, op_answer, bare_answer, get_answer, len_answer, order_answer, op_validation, spent_answer}
use Rattle.promises.specs.Calls.{spent_of}
use Rattle.readbacklaws.proofs.Back.{zeros}
use Rattle.readbacklaws.proofs.Goods.{good_apply, good-merge, good-reset, good-read, good-seen, good-at, good-removal, good-update}
use Rattle.demandlaws.specs.Rows.{Row, row, decided, has_not}
use Rattle.demandlaws.specs.Tables.{map_rows, op_rows, clock_rows, limit_rows, made_rows, short_rows, missing, order_rows, spent_rows}
use Rattle.demandlaws.specs.Tables.{guard_rows, ready_rows, differences_rows, advance_rows, closed_rows}
use Rattle.demandlaws.specs.Tables.{end_rows, apply_rows, reset_rows, apply_result, merge_result, reset_result}
use Rattle.demandlaws.specs.Demands.{number_in, Writes, TellsOnly, Carries, DemandOne}
use Rattle.demandlaws.proofs.Tables.{part, by-table}
use Rattle.demandlaws.proofs.Images.{map-number, op-number, clock-number, map-long, op-long, limit-number, reset-number, made-number}
use Rattle.demandlaws.proofs.Words.{number-rows, writes-rows, tells-rows, carries-rows}

-- what is good has an image that fits a word
map-fits : {m : Map} → GoodMap m → length (map_image m) < 2 ^ 32
map-fits {m} g = omega (arith, map-long (map_image m) (one-map-image.back m g).0)

op_fits : {op : Op} → GoodOp op → length (op_image op) < 2 ^ 32
op_fits {op} g = omega (arith, op-long (op_image op) (one-op-image.back op g).0)

-- a result that is judged
module _ (first second : ℕ) (m : Map) (a b own : List Row) (p : first ≡ decided a) (q : second ≡ decided b) (s : (judged m).number ≡ decided own)
    (h : has_not 0 a ≡ true) (i : has_not 0 b ≡ true) (j : has_not 0 own ≡ true) (good : over_number m ≡ 0 → GoodMap m) where
  judged-writes : (entry exit : List ℕ) (word : ℕ) → Answered (map_answer first second (judged m)) entry exit word
      → Writes (a ++ (b ++ (own ++ short_rows (map_image m) entry))) (map_image m) entry exit word
  judged-writes entry exit word w =
      let r = map_answer first second (judged m) in
      let same : (judged m).number ≡ 0 → map_image (judged m).map ≡ map_image m = λ z. ap map_image (judged-map m z) in
      writes-rows r entry exit word _ (map_image m) (number-rows r entry (map_image m) a b own p q s h i j same)
      (λ z. let o = (zeros r entry z).own in (same o, map-fits (good (sym (judged-number m) ∙ o)))) w

-- what is read from bytes is good
good : (s : List ℕ) → Bytes s → GoodMap (read_map s).map
good s b = record { within = map-within s; narrow = map-narrow s b }

-- what is made, or only read: nothing of its own is refused where its image is good
module _ (first : ℕ) (m : Made) (a own : List Row) (p : first ≡ decided a) (s : m.number ≡ decided own) (h : has_not 0 a ≡ true)
    (j : has_not 0 own ≡ true) (good : m.number ≡ 0 → GoodOp m.op) where
  made-writes : (entry exit : List ℕ) (word : ℕ) → Answered (op_answer first m) entry exit word
      → Writes (a ++ (own ++ short_rows (op_image m.op) entry)) (op_image m.op) entry exit word
  unfolding decided every
  made-writes entry exit word w =
      let r = op_answer first m in
      writes-rows r entry exit word _ (op_image m.op) (number-rows r entry (op_image m.op) a [] own p refl s h refl j (λ z. refl))
      (λ z. (refl, op_fits (good (zeros r entry z).own))) w

-- an answer that is known to be short
module _ (answer : Answer) (a own : List Row) (p : answer.first ≡ decided a) (q : answer.second ≡ 0) (s : answer.own ≡ decided own)
    (h : has_not 0 a ≡ true) (j : has_not 0 own ≡ true) where
  read-writes : (entry exit : List ℕ) (word : ℕ) → (number_of answer entry ≡ 0 → length answer.bytes < 2 ^ 32) → Answered answer entry exit word
      → Writes (a ++ (own ++ short_rows answer.bytes entry)) answer.bytes entry exit word
  unfolding decided every
  read-writes entry exit word f w =
      writes-rows answer entry exit word _ answer.bytes (number-rows answer entry answer.bytes a [] own p q s h refl j (λ z. refl))
      (λ z. (refl, f z)) w

-- the bare answers
missing-number : (v : CmRDTValidation) → order_number v ≡ decided (row 11 (missing v) ∷ [])
unfolding decided
missing-number Fits = refl
missing-number (Missing start end) = refl

twice-number : (v : CvRDTValidation) → spent_number v ≡ decided (row 12 (is_twice v) ∷ [])
unfolding decided
twice-number Once = refl
twice-number (Twice d k h) = refl

settled : (n : ℕ) → cond (eqb n 0) 0 n ≡ n
settled n = decide (eqb n 0) (λ t. rw t (sym (eqb-true n 0 t))) (λ f. rw f)

-- a call without an output: its rows are those of its images and its own
module _ (first second own : ℕ) (a b c : List Row) (p : first ≡ decided a) (q : second ≡ decided b) (s : own ≡ decided c)
    (h : has_not 0 a ≡ true) (i : has_not 0 b ≡ true) where
  bare-number : number_of (bare_answer first second own) [] ≡ decided (a ++ (b ++ c))
  unfolding number_of first_of
  bare-number =
      rw (p, q, s) (part a (b ++ c) _ h (λ y. part b c _ i (λ z. settled (decided c))))

  bare-tells : {word : ℕ} → word ≡ word_of (bare_answer first second own) [] → TellsOnly (a ++ (b ++ c)) word
  bare-tells w = tells-rows (bare_answer first second own) (a ++ (b ++ c)) bare-number refl w

order-carries : (map op : List ℕ) (n : ℕ) {word : ℕ} → word ≡ carried_of 11 (order_answer map op) n → Carries (order_rows map op) 11 n word
unfolding every
order-carries map op n w =
    carries-rows (order_answer map op) 11 n (map_rows map) (op_rows op) (row 11 (missing (op_validation map op)) ∷ []) (map-number map) (op-number op)
    (missing-number (op_validation map op)) refl refl refl refl refl w

spent-carries : (map other : List ℕ) (n : ℕ) {word : ℕ} → word ≡ carried_of 12 (spent_answer map other) n → Carries (spent_rows map other) 12 n word
unfolding every
spent-carries map other n w =
    carries-rows (spent_answer map other) 12 n (map_rows map) (map_rows other) (row 12 (is_twice (spent_of map other)) ∷ []) (map-number map)
    (map-number other) (twice-number (spent_of map other)) refl refl refl refl refl w

-- the count is carried where the map is accepted
count-carries : (map : List ℕ) (n : ℕ) {word : ℕ} → word ≡ carried_of 0 (len_answer map) n → Carries (map_rows map) 0 n word
unfolding carried_of first_of
count-carries map n w = w ∙ rw (map-number map) (shown (eqb (decided (map_rows map)) 0) refl)
  where
    shown : (b : Bool) → eqb (decided (map_rows map)) 0 ≡ b
        → cond (eqb (cond b 0 (decided (map_rows map))) 0 && true) n 0 ≡ cond b n 0
    shown true e = refl
    shown false e = rw e

-- the lent clock
advance-number : (c : Clock) (actor counter : ℕ) → number_of (advance_answer c actor counter) [] ≡ decided (advance_rows c actor counter)
unfolding number_of first_of decided lent_number
advance-number c actor counter =
    decide (ltb dot_limit c.len) (λ a. rw a)
    (λ a. decide (rising_dots 0 (dots_of c))
    (λ b. decide (exceeding dot_limit (add_dot (dots_of c) (dot_given c actor counter))) (λ d. rw (a, b, d)) (λ d. rw (a, b, d)))
    (λ b. rw (a, b)))

advance-stays : (c : Clock) (actor counter : ℕ) → (number_of (advance_answer c actor counter) [] ≡ 0 → ⊥) → (advanced_of c actor counter).clock ≡ c
unfolding takes_effect
advance-stays c actor counter z = rw (ne_eqb (number_of (advance_answer c actor counter) []) 0 z)

advanced : (c : Clock) (actor counter : ℕ) {exit : Clock} {word : ℕ} → word ≡ (advanced_of c actor counter).word
    → exit ≡ (advanced_of c actor counter).clock → TellsOnly (advance_rows c actor counter) word × ((number_in word ≡ 0 → ⊥) → exit ≡ c)
advanced c actor counter {exit} {word} w e =
    let t = tells-rows (advance_answer c actor counter) (advance_rows c actor counter) (advance-number c actor counter) refl w in
    (t, λ z. e ∙ advance-stays c actor counter (λ y. z (t.number.first ∙ (sym (advance-number c actor counter) ∙ y))))

-- the loader
bay-number : (key : ℕ) → bay_number key ≡ decided (row 14 (not (is_bay key)) ∷ [])
unfolding decided
bay-number key = decide (is_bay key) (λ t. rw t) (λ f. rw f)

report-fits : (m : Map) (key : ℕ) → length (report_bytes (report_at m key)) < 2 ^ 32
report-fits m key = omega arith

reports-fit : (m : Map) → length (reports_after m 0 bay_count) < 2 ^ 32
reports-fit m = omega (arith, length-reports m 0 bay_count)

-- the guard
guard_number : (r : Readiness) → ready_number r ≡ decided (guard_rows r)
unfolding decided
guard_number Next = refl
guard_number Foreign = refl
guard_number Seen = refl
guard_number (Hold actor counter) = refl

ready-carries : (map op : List ℕ) (n : ℕ) {word : ℕ} → word ≡ carried_of 21 (ready_answer map op) n → Carries (ready_rows map op) 21 n word
unfolding every
ready-carries map op n w =
    carries-rows (ready_answer map op) 21 n (map_rows map) (op_rows op) (guard_rows (readiness_of map op)) (map-number map) (op-number op)
    (guard_number (readiness_of map op)) refl refl refl refl refl w

-- a report that is written is no longer than its output
not-longer : (bytes entry : List ℕ) → short_of bytes entry ≡ 0 → length bytes ≤ length entry
not-longer bytes entry e =
    decide (ltb (length entry) (length bytes)) (λ t. absurd (let q = rw t at e in omega arith)) (λ f. ltb-false (length entry) (length bytes) f)

-- what differs
differing-writes : (map other entry exit : List ℕ) (word : ℕ) → length entry < 2 ^ 32 → Answered (differences_answer map other) entry exit word
    → Writes (differences_rows map other entry) (differences_answer map other).bytes entry exit word
unfolding every decided
differing-writes map other entry exit word l w =
    let a = differences_answer map other in
    writes-rows a entry exit word (differences_rows map other entry) a.bytes
    (number-rows a entry a.bytes (map_rows map) (map_rows other) [] (map-number map) (map-number other) refl refl refl refl (λ z. refl))
    (λ z. (refl, omega (arith, l, not-longer a.bytes entry (zeros a entry z).short))) w

-- the counts
apply-number : (map op out : List ℕ) → number_of (apply_answer map op) out ≡ decided (apply_rows map op out)
unfolding every
apply-number map op out =
    number-rows (apply_answer map op) out (map_image (apply_result map op)) (map_rows map) (op_rows op) (limit_rows (apply_result map op))
    (map-number map)
    (op-number op) (limit-number (apply_result map op)) refl refl refl (λ z. ap map_image (judged-map (apply_result map op) z))

reset-number-of : (map clock out : List ℕ) → number_of (reset_answer map clock) out ≡ decided (reset_rows map clock out)
unfolding every
reset-number-of map clock out =
    number-rows (reset_answer map clock) out (map_image (reset_result map clock)) (map_rows map) (clock_rows clock)
    (row 8 (over_keys (reset_result map clock)) ∷ []) (map-number map) (clock-number clock) (reset-number (map-within map) _) refl refl refl
    (λ z. ap map_image (judged-map (reset_result map clock) z))

-- a map in pieces
take-tells : (reader : List ℕ) {word : ℕ} → word ≡ take_word reader → TellsOnly (closed_rows reader) word
unfolding decided
take-tells reader {word} w =
    decide (is_open reader)
    (λ t. let e : word ≡ 0 = w ∙ rw t in record { number = by-table (closed_rows reader) (rw t (omega (arith, e))); bare = omega (arith, e) })
    (λ f. let e : word ≡ 13 * 2 ^ 32 = w ∙ rw f in
    record { number = by-table (closed_rows reader) (rw f (omega (arith, e))); bare = omega (arith, e) })

take-stays : (reader piece left : List ℕ) {word : ℕ} → word ≡ take_word reader → left ≡ take_in reader piece → (number_in word ≡ 0 → ⊥) → left
    ≡ reader
take-stays reader piece left {word} w e z =
    decide (is_open reader) (λ t. let o : word ≡ 0 = w ∙ rw t in absurd (z (omega (arith, o)))) (λ f. e ∙ rw f)

closed-number : (reader : List ℕ) → closed_number reader ≡ decided (closed_rows reader)
unfolding decided
closed-number reader = decide (is_open reader) (λ t. rw t) (λ f. rw f)

abbrev held_rows : List ℕ → List Row
held_rows reader =
    row 2 (ltb map_longest (num_at 2 length_place reader)) ∷ row 1 (not (eqb (num_at 2 length_place reader % 16) 0))
    ∷ row 1 (eqb (scanned_at reader) 1) ∷ row 2 (eqb (scanned_at reader) 2) ∷ row 3 (not (related_at reader)) ∷ []

-- a byte that is more than 2 counts as 2
scanned-cases : (n : ℕ) (rest : ℕ) → cond (eqb (min n 2) 0) rest (min n 2) ≡ cond (eqb (min n 2) 1) 1 (cond (eqb (min n 2) 2) 2 rest)
scanned-cases n rest =
    decide (eqb (min n 2) 0) (λ t. let e = eqb-true (min n 2) 0 t in rw e)
    (λ f. decide (eqb (min n 2) 1) (λ t. let e = eqb-true (min n 2) 1 t in rw e)
    (λ g. let e : min n 2 ≡ 2 = omega (arith, eqb-false (min n 2) 0 f, eqb-false (min n 2) 1 g) in rw e))

held_number : (reader : List ℕ) → end_number reader ≡ decided (held_rows reader)
unfolding end_number first_of decided
held_number reader =
    decide (ltb map_longest (num_at 2 length_place reader)) (λ a. rw a)
    (λ a. decide (eqb (num_at 2 length_place reader % 16) 0)
    (λ b. decide (related_at reader) (λ c. rw (a, b, c) (scanned-cases (num_at 0 number_place reader) 0))
    (λ c. rw (a, b, c) (scanned-cases (num_at 0 number_place reader) 3)))
    (λ b. rw (a, b)))

end-number : (reader entry : List ℕ) → number_of (end_answer reader) entry ≡ decided (end_rows reader entry)
unfolding every decided
end-number reader entry =
    number-rows (end_answer reader) entry (image_at reader) (closed_rows reader) (held_rows reader) [] (closed-number reader)
    (held_number reader) refl
    refl refl refl (λ z. refl)

ended-writes : (reader entry left exit : List ℕ) (word : ℕ) → length entry < 2 ^ 32 → Ended reader entry left exit word
    → Writes (end_rows reader entry) (image_at reader) entry exit word
ended-writes reader entry left exit word l w =
    writes-rows (end_answer reader) entry exit word (end_rows reader entry) (image_at reader)
    (end-number reader entry)
    (λ z. (refl, omega (arith, l, not-longer (image_at reader) entry (zeros (end_answer reader) entry z).short))) w.answered

ended-left : (reader : List ℕ) (n : ℕ) → (ended_by n reader ≡ reader) ⊎ (ended_by n reader ≡ placed open_place (num_bytes 0 0) reader)
unfolding ended_by
ended-left reader n = decide (eqb n 13 || eqb n 10) (λ t. inl (rw t)) (λ f. inr (rw f))

ended-open : (reader : List ℕ) (n : ℕ) → (n ≡ 13) ⊎ (n ≡ 10) → ended_by n reader ≡ reader
unfolding ended_by
ended-open reader n h = ⊎_elim (λ e. rw e) (λ e. rw e) h

pub demand-one : DemandOne
unfolding decided every
demand-one = record {
  apply = λ map op entry exit word b c w. judged-writes _ _ _ (map_rows map) (op_rows op) (limit_rows (apply_result map op)) (map-number map)
      (op-number op) (limit-number (apply_result map op)) refl refl refl (λ z. good_apply (good map b) (op-within op) (op-narrow op c) z)
      entry exit word w;
  merge = λ map other entry exit word b c w. judged-writes _ _ _ (map_rows map) (map_rows other) (limit_rows (merge_result map other))
      (map-number map) (map-number other) (limit-number (merge_result map other)) refl refl refl (λ z. good-merge (good map b) (good other c) z)
      entry exit word w;
  reset-remove = λ map clock entry exit word b w. judged-writes _ _ _ (map_rows map) (clock_rows clock)
      (row 8 (over_keys (reset_result map clock)) ∷ [])
      (map-number map) (clock-number clock) (reset-number (map-within map) _) refl refl refl (λ z. good-reset (good map b) _ z) entry exit word w;
  update = λ map actor key value origin entry exit word b p q r s w. made-writes _ _ (map_rows map)
      (made_rows (seen_by (read_map map).map) actor) (map-number map)
      (made-number _ actor key (given value origin)) refl refl
      (λ z. good-update (good map b) actor key (given value origin) p q (record { number = r; origin = s }) z) entry exit word w;
  rm-get = λ map key entry exit word b p w. made-writes _ _ (map_rows map) [] (map-number map) refl refl refl
      (λ z. good-removal (good-at (good map b) key) key p) entry exit word w;
  rm-read-ctx = λ map key entry exit word b p w. made-writes _ _ (map_rows map) [] (map-number map) refl refl refl
      (λ z. good-removal (good-seen (good map b)) key p) entry exit word w;
  get = λ map key entry exit word b w. read-writes (get_answer map key) (map_rows map) [] (map-number map) refl refl refl refl entry exit word
      (λ z. map-fits (good-read (good map b) key)) w;
  bay = λ map key entry exit word w. read-writes (bay_answer map key) (map_rows map) (row 14 (not (is_bay key)) ∷ []) (map-number map) refl
      (bay-number key) refl refl entry exit word (λ z. report-fits (read_map map).map key) w;
  bays = λ map entry exit word w. read-writes (bays_answer map) (map_rows map) [] (map-number map) refl refl refl refl entry exit word
      (λ z. reports-fit (read_map map).map) w;
  len = λ map word w. bare-tells _ 0 0 (map_rows map) [] [] (map-number map) refl refl refl refl w;
  len-count = λ map word w. count-carries map _ w;
  validate-op = λ map op word w. bare-tells _ _ _ (map_rows map) (op_rows op) (row 11 (missing (op_validation map op)) ∷ []) (map-number map)
      (op-number op) (missing-number (op_validation map op)) refl refl w;
  validate-op-start = λ map op word w. order-carries map op _ w;
  validate-op-end = λ map op word w. order-carries map op _ w;
  validate-merge = λ map other word w. bare-tells _ _ _ (map_rows map) (map_rows other) (row 12 (is_twice (spent_of map other)) ∷ [])
      (map-number map) (map-number other) (twice-number (spent_of map other)) refl refl w;
  validate-merge-actor = λ map other word w. spent-carries map other _ w;
  validate-merge-counter = λ map other word w. spent-carries map other _ w;
  validate-merge-our-key = λ map other word w. spent-carries map other _ w;
  validate-merge-their-key = λ map other word w. spent-carries map other _ w;
  clock-advance = λ clock actor counter exit word w. advanced clock actor counter w.0 w.1;
  apply-deleted = λ map op out word w. w.counts out refl ∙ ap (λ n. cond (eqb n 0) (apply_deleted map op) 0) (apply-number map op out);
  reset-remove-deleted = λ map clock out word w. w.counts out refl
      ∙ ap (λ n. cond (eqb n 0) (reset_deleted map clock) 0) (reset-number-of map clock out);
  pieces-begin = λ reader left word w. record { number = by-table [] (omega (arith, w.0)); bare = omega (arith, w.0) };
  pieces-take = λ reader piece left word w. (take-tells reader w.0, take-stays reader piece left w.0 w.1);
  pieces_end = λ reader entry left exit word l w.
      let t = ended-writes reader entry left exit word l w in
      let same : number_in word ≡ number_of (end_answer reader) entry = t.number.first ∙ sym (end-number reader entry) in (
        t,
        ⊎_elim (λ e. inl (w.reader ∙ e)) (λ e. inr (w.reader ∙ e)) (ended-left reader (number_of (end_answer reader) entry)),
        λ h. w.reader ∙ ended-open reader (number_of (end_answer reader) entry) (⊎_elim (λ e. inl (sym same ∙ e)) (λ e. inr (sym same ∙ e)) h),
      );
  ready = λ map op word w. bare-tells _ _ _ (map_rows map) (op_rows op) (guard_rows (readiness_of map op)) (map-number map) (op-number op)
      (guard_number (readiness_of map op)) refl refl w;
  ready-actor = λ map op word w. ready-carries map op _ w;
  ready-counter = λ map op word w. ready-carries map op _ w;
  differences = λ map other entry exit word l w. differing-writes map other entry exit word l w;
}
