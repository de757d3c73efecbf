-- Records with their marks, place by place: what stands there (`marked-at`), a mark that is set (`marked-set`), how many there are.
use mathlib.Core.Path.{◌≡◌, refl, ap, ap₂, sym, ◌∙◌}
use mathlib.Core.Bool.{Bool, true, false, cond, ◌&&◌, ◌||◌}
use mathlib.Core.List.{List, [], ◌∷◌, ◌++◌, map}
use Prim.Native.Nat.{ℕ, zero, suc, ◌+◌, ◌*◌, ◌/◌, ◌≤◌, ◌<◌}
use native.Mathlib.Omega.{arith}
use lib.Dec.{eqb}
use lib.ListN.{length, get_or, set}
use Rattle.listlaws.specs.Sift.{sift, those}
use Rattle.listlaws.specs.First.{first_in, some}
use Rattle.listlaws.proofs.Sifts.{sift-append}
use Rattle.records.specs.declared.Record.{Record}
use Rattle.records.specs.Records.{record_from, records_from, records_of}
use Rattle.records.proofs.Joined.{length-records}
use Rattle.opimage.specs.OpImage.{no_record}
use Rattle.salvagerules.specs.Fates.{staying}
use Rattle.culling.specs.Marks.{MarkedRecord, beside_marks, marked_of, is_left, is_left_at, left_items, plain_fate, plain_fates}
use Rattle.culling.proofs.Taking.{map-append}

abbrev pub no_marked : MarkedRecord
no_marked = record { mark = 0; item = no_record }

-- the record at a place of some bytes
records-at : (s : List ℕ) (n i at : ℕ) → i < n → get_or (records_from s at n) i no_record ≡ record_from s (at + i * 16)
unfolding records_from
records-at s zero i at h = absurd (omega arith)
records-at s (suc n) zero at h = let e : at ≡ at + zero * 16 = omega arith in ap (record_from s) e
records-at s (suc n) (suc i) at h =
    let e : at + 16 + i * 16 ≡ at + suc i * 16 = omega arith in
    records-at s n i (at + 16) (omega arith) ∙ ap (record_from s) e

pub record-at : (s : List ℕ) (i : ℕ) → i < length s / 16 → get_or (records_of s) i no_record ≡ record_from s (i * 16)
record-at s i h = let e : 0 + i * 16 ≡ i * 16 = omega arith in records-at s (length s / 16) i 0 h ∙ ap (record_from s) e

pub count-records : (s : List ℕ) → length (records_of s) ≡ length s / 16
count-records s = length-records s 0 (length s / 16)

beside_at : (ms : List ℕ) (l : List Record) (i : ℕ) → i < length ms → i < length l
    → get_or (beside_marks ms l) i no_marked ≡ record { mark = get_or ms i 0; item = get_or l i no_record }
unfolding beside_marks
beside_at [] l i h k = absurd (omega arith)
beside_at (m ∷ ms) [] i h k = absurd (omega arith)
beside_at (m ∷ ms) (r ∷ l) zero h k = refl
beside_at (m ∷ ms) (r ∷ l) (suc i) h k = beside_at ms l i (omega arith) (omega arith)

length-beside : (ms : List ℕ) (l : List Record) → length l ≤ length ms → length (beside_marks ms l) ≡ length l
unfolding beside_marks
length-beside [] [] h = refl
length-beside [] (r ∷ l) h = absurd (omega arith)
length-beside (m ∷ ms) [] h = refl
length-beside (m ∷ ms) (r ∷ l) h = ap suc (length-beside ms l (omega arith))

beside-set : (ms : List ℕ) (l : List Record) (i m : ℕ)
    → beside_marks (set ms i m) l ≡ set (beside_marks ms l) i (record { mark = m; item = get_or l i no_record })
unfolding beside_marks
beside-set [] l i m = refl
beside-set (x ∷ ms) [] zero m = refl
beside-set (x ∷ ms) [] (suc i) m = refl
beside-set (x ∷ ms) (r ∷ l) zero m = refl
beside-set (x ∷ ms) (r ∷ l) (suc i) m = ap (λ t. record { mark = x; item = r } ∷ t) (beside-set ms l i m)

module _ (marks s : List ℕ) (room : length s / 16 ≤ length marks) where
  pub count-marked : length (marked_of marks s) ≡ length s / 16
  count-marked = length-beside marks (records_of s) (omega (arith, count-records s)) ∙ count-records s

  module _ (i : ℕ) (h : i < length s / 16) where
    pub marked-at : get_or (marked_of marks s) i no_marked ≡ record { mark = get_or marks i 0; item = record_from s (i * 16) }
    marked-at =
        beside_at marks (records_of s) i (omega arith) (omega (arith, count-records s))
        ∙ ap (λ r. record { mark = get_or marks i 0; item = r }) (record-at s i h)

    pub marked-set : (m : ℕ) → marked_of (set marks i m) s ≡ set (marked_of marks s) i (record { mark = m; item = record_from s (i * 16) })
    marked-set m = beside-set marks (records_of s) i m ∙ ap (λ r. set (marked_of marks s) i (record { mark = m; item = r })) (record-at s i h)

    -- what a loop finds there
    pub found_at : (from : ℕ) (t : Record → Bool) {a b : Bool} {r : Record} → a ≡ is_left from (get_or marks i 0) → r ≡ record_from s (i * 16) → b
        ≡ t r
        → (is_left_at from (get_or (marked_of marks s) i no_marked) && t (get_or (marked_of marks s) i no_marked).item) ≡ (a && b)
    found_at from t e f g =
        ap (λ z. is_left_at from z && t z.item) marked-at ∙ sym (ap₂ (λ x y. x && y) e (g ∙ ap t f))

    pub passed-at : (from : ℕ) (t : Record → Bool) {a : Bool} → a ≡ is_left from (get_or marks i 0) → a ≡ false
        → (is_left_at from (get_or (marked_of marks s) i no_marked) && t (get_or (marked_of marks s) i no_marked).item) ≡ false
    passed-at from t e f = ap (λ z. is_left_at from z && t z.item) marked-at ∙ ap (λ x. x && t (record_from s (i * 16))) (sym e ∙ f)

-- what stays, by plain marks
pub staying-plain : (l : List MarkedRecord) → staying (plain_fates l) ≡ left_items 0 l
unfolding sift
staying-plain [] = refl
staying-plain (z ∷ l) = go (eqb z.mark 0) (staying-plain l)
  where
    go : (b : Bool) → staying (plain_fates l) ≡ left_items 0 l
        → map (λ f. f.item) (cond b (plain_fate z ∷ those (λ f. f.stays) (plain_fates l)) (those (λ f. f.stays) (plain_fates l)))
        ≡ map (λ x. x.item) (cond (b || false) (z ∷ those (is_left_at 0) l) (those (is_left_at 0) l))
    go true e = ap (λ t. z.item ∷ t) e
    go false e = e

pub left-append : (from : ℕ) (l m : List MarkedRecord) → left_items from (l ++ m) ≡ left_items from l ++ left_items from m
left-append from l m =
    ap (map (λ z. z.item)) (sift-append (is_left_at from) (λ z. z) l m) ∙ map-append (λ z. z.item) (those (is_left_at from) l) (those
    (is_left_at from) m)

pub left_one : (from : ℕ) (z : MarkedRecord) → is_left from z.mark ≡ true → left_items from (z ∷ []) ≡ z.item ∷ []
unfolding sift
left_one from z e = rw e

pub left-none : (from : ℕ) (z : MarkedRecord) → is_left from z.mark ≡ false → left_items from (z ∷ []) ≡ []
unfolding sift
left-none from z e = rw e

-- a mark that is exchanged for one that leaves its record as well
pub left-set : (from : ℕ) (l : List MarkedRecord) (i : ℕ) (z : MarkedRecord) → is_left from (get_or l i no_marked).mark ≡ true → is_left from
    z.mark ≡ true
    → (get_or l i no_marked).item ≡ z.item → left_items from (set l i z) ≡ left_items from l
unfolding sift
left-set from [] i z a b e = refl
left-set from (x ∷ l) zero z a b e = rw (a, b, e)
left-set from (x ∷ l) (suc i) z a b e = go (is_left_at from x) (left-set from l i z a b e)
  where
    go : (c : Bool) → left_items from (set l i z) ≡ left_items from l
        → map (λ y. y.item) (cond c (x ∷ those (is_left_at from) (set l i z)) (those (is_left_at from) (set l i z)))
        ≡ map (λ y. y.item) (cond c (x ∷ those (is_left_at from) l) (those (is_left_at from) l))
    go true q = ap (λ t. x.item ∷ t) q
    go false q = q

-- one that is looked for among what is left
pub some_left : (from : ℕ) (t : Record → Bool) (l : List MarkedRecord) → some (λ z. is_left_at from z && t z.item) l ≡ some t (left_items from l)
unfolding sift first_in
some_left from t [] = refl
some_left from t (z ∷ l) = go (is_left_at from z) (t z.item) refl (some_left from t l)
  where
    go : (a b : Bool) → t z.item ≡ b → some (λ y. is_left_at from y && t y.item) l ≡ some t (left_items from l)
        → cond (a && b) true (some (λ y. is_left_at from y && t y.item) l)
        ≡ some t (map (λ y. y.item) (cond a (z ∷ those (is_left_at from) l) (those (is_left_at from) l)))
    go true b q e = rw (q, e)
    go false b q e = e
