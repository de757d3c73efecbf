-- The indexes of waiting clocks: which there are, how many, and the place that each clock takes in the order of clocks.
use mathlib.Core.Path.{◌≡◌, refl, ap, ap₂, sym, ◌∙◌}
use mathlib.Core.Bool.{Bool, true, false, cond, ◌&&◌, ◌||◌}
use mathlib.Core.Logic.{◌⊎◌, inl, inr, ⊎_elim}
use mathlib.Core.List.Memᴰ
use mathlib.Core.List.{List, [], ◌∷◌, ◌++◌}
use Prim.Native.Nat.{ℕ, zero, suc, ◌+◌, ◌≤◌, ◌<◌}
use native.Mathlib.Omega.{arith}
use lib.Dec.{eqb, ltb, leb}
use lib.ListN.{length, get_or, length-append}
use borrow.Author.Tests.{eqb-true, eqb-false, eq-eqb, ne_eqb, ltb-true, lt-ltb, leb-true}
use Rattle.listlaws.specs.Order.{◌∈◌, Ascending, nil, next, by}
use Rattle.listlaws.specs.First.{some}
use Rattle.listlaws.specs.Fold.{fold}
use Rattle.listlaws.specs.Sift.{those}
use Rattle.listlaws.proofs.Orders.{apart}
use Rattle.listlaws.proofs.Firsts.{none-means, none-holds}
use Rattle.listlaws.proofs.Folds.{fold-append}
use Rattle.listlaws.proofs.Somes.{some-means, some-false, false-some}
use Rattle.listlaws.proofs.Those.{those-means, those-those, those-ascends}
use Rattle.clock.specs.declared.Dot.{Dot}
use Rattle.removals.specs.Waits.{clock_before}
use Rattle.removals.proofs.ClockOrder.{before-strict, before-steady, before_same, before_self}
use Rattle.records.specs.declared.Record.{Record}
use Rattle.records.specs.Kinds.{before}
use Rattle.scan.specs.Limits.{outer, middle, today, outer_by, middle_by, limit_at, same_kind, same_outer, tally, room_by, within_by, within}
use Rattle.scan.specs.Numbers.{scan_number}
use Rattle.scan.proofs.Eachs.{decide, both, both_left, both_right, each_snoc}
use Rattle.scan.proofs.Befores.{before-fields}
use Rattle.scan.proofs.Rooms.{no_key}
use Rattle.scan.proofs.Tallies.{tally-new, tally-other, tally-none}
use Rattle.scan.proofs.Scanning.{scan_good, scan-before}
use Rattle.clockimage.specs.Image.{is_kind}
use Rattle.maprecords.specs.Reading.{add_new}
use Rattle.maprecords.proofs.Counts.{by-records, tally-grows}
use Rattle.acceptancelaws.proofs.Grouped.{fine, rises}
use Rattle.sentencelaws.specs.Sentences.{Stands, UnderIndex}
use Rattle.salvagerules.specs.Indexes.{waiting_clock, waiting_indexes, same_dots, shares_below, is_lowest, counts_before, waiting_index}
use Rattle.salvagerules.specs.Steps.{in_order_by}
use Rattle.salvagelaws.proofs.Counting.{count_less, count-few, count-all, get_in, leads-on}
use Rattle.salvagelaws.proofs.Fourth.{outer-is, middle-is}
use Rattle.salvagelaws.proofs.Sorts.{Leads, either_first, order-means, order-ascends, order-count, place-counts}

-- clocks with the same dots
pub same-dots : (l m : List Dot) → same_dots l m ≡ true → l ≡ m
unfolding same_dots
same-dots [] [] e = refl
same-dots [] (y ∷ m) e = apart (sym e)
same-dots (x ∷ l) [] e = apart (sym e)
same-dots (x ∷ l) (y ∷ m) e =
    let a = eqb-true x.actor y.actor (both_left (eqb x.actor y.actor) _ e) in
    let f = both_right (eqb x.actor y.actor) _ e in
    let c = eqb-true x.counter y.counter (both_left (eqb x.counter y.counter) _ f) in
    let dot : x ≡ y = λ i. record { actor = a i; counter = c i } in
    ap₂ ◌∷◌ dot (same-dots l m (both_right (eqb x.counter y.counter) _ f))

dots-self : (l : List Dot) → same_dots l l ≡ true
unfolding same_dots
dots-self [] = refl
dots-self (x ∷ l) = rw (eq-eqb x.actor x.actor refl, eq-eqb x.counter x.counter refl) (dots-self l)

pub dots-same : (l m : List Dot) → l ≡ m → same_dots l m ≡ true
dots-same l m e = rw e (dots-self m)

-- of two clocks that differ one stands before the other
pub clocks-apart : (l m : List Dot) → same_dots l m ≡ false → (clock_before l m ≡ true) ⊎ (clock_before m l ≡ true)
clocks-apart l m f =
    decide (clock_before l m) (λ t. inl t)
    (λ a. decide (clock_before m l) (λ t. inr t) (λ b. apart (sym (dots-same l m (before_same l m (a, b))) ∙ f)))

pub clocks-lead : Leads clock_before
clocks-lead = leads-on clock_before before-strict before-steady

indexes-snoc : (l : List Record) (r : Record) → waiting_indexes (l ++ (r ∷ []))
    ≡ cond (is_kind 5 r) (add_new (waiting_indexes l) r.index) (waiting_indexes l)
unfolding waiting_indexes fold
indexes-snoc l r = fold-append (λ m x. cond (is_kind 5 x) (add_new m x.index) m) [] l (r ∷ [])

abbrev clock_dot : Record → Bool
clock_dot x = eqb x.kind 5 && eqb (outer x) 0

record Indexed (l : List Record) : Type 0 where
  few : length (waiting_indexes l) ≤ tally clock_dot middle l
  all : (s : Record) → s ∈ l → s.kind ≡ 5 → s.index ∈ waiting_indexes l
  from : (j : ℕ) → j ∈ waiting_indexes l → Stands l (UnderIndex 5 j)
  ascends : Ascending (by (λ n. n)) (waiting_indexes l)

none-indexed : Indexed []
unfolding waiting_indexes fold
none-indexed = record {
  few = omega arith;
  all = λ s i k. absurd (Memᴰ.not-nil i);
  from = λ j i. absurd (Memᴰ.not-nil i);
  ascends = nil;
}

-- one number more behind all
pub snoc-ascends : (l : List ℕ) (n : ℕ) → Ascending (by (λ n. n)) l → ((j : ℕ) → j ∈ l → j < n) → Ascending (by (λ n. n)) (l ++ (n ∷ []))
snoc-ascends [] n a h = next (λ y i. absurd (Memᴰ.not-nil i)) nil
snoc-ascends (x ∷ l) n (next f a) h =
    next
    (λ y i. ⊎_elim (λ j. f y j) (λ j. let e : y ≡ n = Memᴰ.eq_of_singleton j in rw e (lt-ltb x n (h x (Memᴰ.head refl))))
    (Memᴰ.append_cases l i))
    (snoc-ascends l n a (λ j i. h j (Memᴰ.tail i)))

module _ (l : List Record) (r : Record) (z : scan_number 1 6 (l ++ (r ∷ [])) ≡ 0) (c : Indexed l) where
  last-in : r ∈ (l ++ (r ∷ []))
  last-in = Memᴰ.append_right l (Memᴰ.head refl)

  no-key-of : (s : Record) → s ∈ (l ++ (r ∷ [])) → s.kind ≡ 5 → s.key ≡ 0
  no-key-of s i k = no_key 1 6 s (fine 1 6 (l ++ (r ∷ [])) z s i) k refl

  behind : (m : List Record) → Ascending before (m ++ (r ∷ [])) → (s : Record) → s ∈ m → before s r ≡ true
  behind [] a s i = absurd (Memᴰ.not-nil i)
  behind (x ∷ m) (next f a) s i =
      ⊎_elim (λ (e : s ≡ x). rw e (f r (Memᴰ.append_right m (Memᴰ.head refl)))) (λ j. behind m a s j) (Memᴰ.cases_cons i)

  grouped : r.kind ≡ 5 → clock_dot r ≡ true
  grouped k = rw (eq-eqb r.kind 5 k, eq-eqb (outer r) 0 (outer-is r (λ e. omega (arith, k)) ∙ no-key-of r last-in k))

  below : r.kind ≡ 5 → (j : ℕ) → j ∈ waiting_indexes l → j ≤ r.index
  below k j i =
      let (s, m, u) = c.from j i in
      let b = before-fields (behind l (rises 1 6 (l ++ (r ∷ [])) z) s m) in
      omega (arith, u.1, b.index (u.0 ∙ sym k) (no-key-of s (Memᴰ.append_left (r ∷ []) m) u.0 ∙ sym (no-key-of r last-in k)))

  listed : Bool
  listed = some (λ x. eqb x r.index) (waiting_indexes l)

  step : Indexed (l ++ (r ∷ []))
  unfolding listed
  step =
      decide (is_kind 5 r)
      (λ t. let k = eqb-true r.kind 5 t in
      decide (some (λ x. eqb x r.index) (waiting_indexes l))
      (λ s. let same : waiting_indexes (l ++ (r ∷ [])) ≡ waiting_indexes l = indexes-snoc l r ∙ rw (t, s) in
      let (x, i, e) = some-means (λ x. eqb x r.index) (waiting_indexes l) s in
      record {
        few = let g = tally-grows clock_dot middle l r in let h = c.few in rw same (omega arith);
        all = λ q m y. rw same (⊎_elim (λ j. c.all q j y) (λ j. let w : q ≡ r = Memᴰ.eq_of_singleton j in
            Memᴰ.cast (ap (λ (a : Record). a.index) w ∙ sym (eqb-true x r.index e)) i) (Memᴰ.append_cases l m));
        from = λ j m. let (q, a, u) = c.from j (rw same at m) in (q, Memᴰ.append_left (r ∷ []) a, u);
        ascends = rw same c.ascends;
      })
      (λ f. let same : waiting_indexes (l ++ (r ∷ [])) ≡ waiting_indexes l ++ (r.index ∷ []) = indexes-snoc l r ∙ rw (t, f) in
      let n = length-append (waiting_indexes l) (r.index ∷ []) in
      record {
        few = let g = tally-new clock_dot middle l r (grouped k) (false-some (λ s. clock_dot s && eqb (middle s) (middle r)) l (fresh k f)) in
            let h = c.few in rw same (omega arith);
        all = λ q m y. rw same (⊎_elim (λ j. Memᴰ.append_left (r.index ∷ []) (c.all q j y))
            (λ j. let w : q ≡ r = Memᴰ.eq_of_singleton j in
            Memᴰ.append_right (waiting_indexes l) (Memᴰ.head (ap (λ (a : Record). a.index) w))) (Memᴰ.append_cases l m));
        from = λ j m. ⊎_elim (λ a. let (q, b, u) = c.from j a in (q, Memᴰ.append_left (r ∷ []) b, u))
            (λ a. (r, last-in, (k, sym (Memᴰ.eq_of_singleton a)))) (Memᴰ.append_cases (waiting_indexes l) (rw same at m));
        ascends = rw same (snoc-ascends (waiting_indexes l) r.index c.ascends (λ j i.
            let b = below k j i in let d = eqb-false j r.index (some-false (λ x. eqb x r.index) f j i) in omega arith));
      }))
      (λ t. let same : waiting_indexes (l ++ (r ∷ [])) ≡ waiting_indexes l = indexes-snoc l r ∙ rw t in
      record {
        few = let g = tally-grows clock_dot middle l r in let h = c.few in rw same (omega arith);
        all = λ q m y. rw same (⊎_elim (λ j. c.all q j y) (λ j. let w : q ≡ r = Memᴰ.eq_of_singleton j in
            absurd (eqb-false r.kind 5 t (ap (λ (a : Record). a.kind) (sym w) ∙ y))) (Memᴰ.append_cases l m));
        from = λ j m. let (q, a, u) = c.from j (rw same at m) in (q, Memᴰ.append_left (r ∷ []) a, u);
        ascends = rw same c.ascends;
      })
    where
      fresh : r.kind ≡ 5 → some (λ x. eqb x r.index) (waiting_indexes l) ≡ false → (s : Record) → s ∈ l
          → (clock_dot s && eqb (middle s) (middle r)) ≡ false
      fresh k f s i =
          decide (clock_dot s)
          (λ t. let sk = eqb-true s.kind 5 (both_left (eqb s.kind 5) _ t) in
          rw t (ne_eqb (middle s) (middle r) (λ e. eqb-false s.index r.index
          (some-false (λ x. eqb x r.index) f s.index (c.all s i sk))
          (sym (middle-is s (λ y. omega (arith, sk))) ∙ e ∙ middle-is r (λ y. omega (arith, k))))))
          (λ n. rw n)

indexed : (l : List Record) → scan_number 1 6 l ≡ 0 → Indexed l
indexed = by-records (λ l. scan_number 1 6 l ≡ 0 → Indexed l) (λ z. none-indexed) (λ l r p z. step l r z (p (scan-before 1 6 l r z)))

-- of clock dots no more indexes are counted than the limit
counted-on : (l : List Record) (r : Record) → (scan_number 1 6 l ≡ 0 → tally clock_dot middle l ≤ 16) → scan_number 1 6 (l ++ (r ∷ [])) ≡ 0
    → tally clock_dot middle (l ++ (r ∷ [])) ≤ 16
unfolding within
counted-on l r p z =
    let s = sym (each_snoc (room_by today) l r) ∙ (scan_good 1 6 (l ++ (r ∷ [])) z).1 in
    decide (eqb r.kind 5)
    (λ t. let k = eqb-true r.kind 5 t in
    let outers = tally (same_kind r) outer (l ++ (r ∷ [])) in
    let all = tally (same_outer r) middle (l ++ (r ∷ [])) in
    let most = limit_at (middle_by today) r.kind in
    let b : all ≤ most = leb-true all most (both_left (leb all most) _ (both_right (leb outers (limit_at (outer_by today) r.kind)) _
    (both_right (within_by today l) (room_by today l r) s))) in
    let e : most ≡ 16 = ap (limit_at (middle_by today)) k in
    let none = outer-is r (λ y. omega (arith, k)) ∙ no_key 1 6 r (fine 1 6 (l ++ (r ∷ [])) z r (Memᴰ.append_right l (Memᴰ.head refl))) k refl in
    let same : all ≡ tally clock_dot middle (l ++ (r ∷ [])) =
    ap₂ (λ j y. tally (λ x. eqb x.kind j && eqb (outer x) y) middle (l ++ (r ∷ []))) k none in
    omega arith)
    (λ f. let e = tally-other clock_dot middle l r (rw f) in let h = p (scan-before 1 6 l r z) in omega arith)

counted-few : (l : List Record) → scan_number 1 6 l ≡ 0 → tally clock_dot middle l ≤ 16
counted-few =
    by-records (λ l. scan_number 1 6 l ≡ 0 → tally clock_dot middle l ≤ 16)
    (λ z. let e = tally-none clock_dot middle [] (λ s i. absurd (Memᴰ.not-nil i)) in omega arith) counted-on

-- the indexes of waiting clocks, each once, ascending, and no more than the limit
module _ (k : List Record) (z : scan_number 1 6 k ≡ 0) where
  pub index-all : (s : Record) → s ∈ k → s.kind ≡ 5 → s.index ∈ waiting_indexes k
  index-all = (indexed k z).all

  pub index-from : (j : ℕ) → j ∈ waiting_indexes k → Stands k (UnderIndex 5 j)
  index-from = (indexed k z).from

  pub indexes-ascend : Ascending (by (λ n. n)) (waiting_indexes k)
  indexes-ascend = (indexed k z).ascends

  pub indexes-few : length (waiting_indexes k) ≤ 16
  indexes-few = let a = (indexed k z).few in let b = counted-few k z in omega arith

-- the lowest index of each clock
module _ (k : List Record) where
  abbrev pub same_clock : ℕ → ℕ → Type 0
  same_clock i j = waiting_clock k i ≡ waiting_clock k j

  pub lowest-means : (i : ℕ) → is_lowest k i ≡ true → (j : ℕ) → j ∈ waiting_indexes k → j < i → same_dots (waiting_clock k j) (waiting_clock k i)
      ≡ false
  unfolding is_lowest
  lowest-means i t j m h = rw (lt-ltb j i h) at (none-means (shares_below k i) (waiting_indexes k) t j m)

  pub lowest-of : (i : ℕ) → ((j : ℕ) → j ∈ waiting_indexes k → j < i → same_dots (waiting_clock k j) (waiting_clock k i) ≡ false) → is_lowest k i
      ≡ true
  unfolding is_lowest
  lowest-of i h =
      none-holds (shares_below k i) (waiting_indexes k)
      (λ j m. decide (ltb j i) (λ t. rw t (h j m (ltb-true j i t))) (λ f. rw f))

  -- where an index is not the lowest, a lower one has its clock
  lower : (i : ℕ) → is_lowest k i ≡ false → (j : ℕ) × (j ∈ waiting_indexes k) × (j < i) × same_clock j i
  unfolding is_lowest
  lower i f =
      ⊎_elim
      (λ h. let t = h.passes in (
        h.found,
        h.stands,
        ltb-true h.found i (both_left (ltb h.found i) _ t),
        same-dots (waiting_clock k h.found) (waiting_clock k i) (both_right (ltb h.found i) _ t),
      ))
      (λ h. apart (sym (none-holds (shares_below k i) (waiting_indexes k) h) ∙ f))
      (Rattle.listlaws.proofs.Firsts.first-cases (shares_below k i) (λ x. false) true (waiting_indexes k))

  lowest-below : (n i : ℕ) → i < n → i ∈ waiting_indexes k → (j : ℕ) × (j ∈ waiting_indexes k) × (is_lowest k j ≡ true) × same_clock j i
  lowest-below zero i h m = absurd (omega arith)
  lowest-below (suc n) i h m =
      decide (is_lowest k i) (λ t. (i, m, t, refl))
      (λ f. let (j, a, b, c) = lower i f in let (x, d, e, g) = lowest-below n j (omega arith) a in (x, d, e, g ∙ c))

  pub lowest-has : (i : ℕ) → i ∈ waiting_indexes k → (j : ℕ) × (j ∈ waiting_indexes k) × (is_lowest k j ≡ true) × same_clock j i
  lowest-has i m = lowest-below (i + 1) i (omega arith) m

  -- the place that a clock takes: the same for equal clocks, and rising with the clocks
  pub index_same : (i j : ℕ) → same_clock i j → waiting_index k i ≡ waiting_index k j
  unfolding waiting_index
  index_same i j e = ap (λ c. length (those (λ x. is_lowest k x && clock_before (waiting_clock k x) c) (waiting_indexes k))) e

  counts-none : (i j : ℕ) → same_clock j i → counts_before k i j ≡ false
  counts-none i j e = rw (e, before_self (waiting_clock k i)) (last (is_lowest k j))
    where
      last : (b : Bool) → (b && false) ≡ false
      last true = refl
      last false = refl

  pub index-rises : (i j : ℕ) → i ∈ waiting_indexes k → clock_before (waiting_clock k i) (waiting_clock k j) ≡ true
      → waiting_index k i < waiting_index k j
  unfolding waiting_index
  index-rises i j m t =
      let (x, a, b, e) = lowest-has i m in
      count_less (counts_before k i) (counts_before k j) (waiting_indexes k)
      (λ y n u. both (is_lowest k y) _ (both_left (is_lowest k y) _ u)
      (clocks-lead (waiting_clock k y) (waiting_clock k i) (waiting_clock k j) (both_right (is_lowest k y) _ u) t))
      a (counts-none i x e)
      (both (is_lowest k x) _ b (ap (λ c. clock_before c (waiting_clock k j)) e ∙ t))

  pub index-apart : (i j : ℕ) → i ∈ waiting_indexes k → j ∈ waiting_indexes k → waiting_index k i ≡ waiting_index k j → same_clock i j
  index-apart i j m n e =
      decide (same_dots (waiting_clock k i) (waiting_clock k j)) (λ t. same-dots (waiting_clock k i) (waiting_clock k j) t)
      (λ f. ⊎_elim (λ t. absurd (let h = index-rises i j m t in omega arith)) (λ t. absurd (let h = index-rises j i n t in omega arith))
      (clocks-apart (waiting_clock k i) (waiting_clock k j) f))

  pub clock-order : (i j : ℕ) → i ∈ waiting_indexes k → j ∈ waiting_indexes k → waiting_index k i < waiting_index k j
      → clock_before (waiting_clock k i) (waiting_clock k j) ≡ true
  clock-order i j m n h =
      decide (same_dots (waiting_clock k i) (waiting_clock k j))
      (λ t. absurd (let e = index_same i j (same-dots (waiting_clock k i) (waiting_clock k j) t) in omega arith))
      (λ f. ⊎_elim (λ t. t) (λ t. absurd (let b = index-rises j i n t in omega arith)) (clocks-apart (waiting_clock k i) (waiting_clock k j) f))

  pub index-few : (i : ℕ) → i ∈ waiting_indexes k → waiting_index k i < length (waiting_indexes k)
  unfolding waiting_index
  index-few i m = let (x, a, b, e) = lowest-has i m in count-few (counts_before k i) (waiting_indexes k) a (counts-none i x e)

  -- no place is left out
  module _ (z : scan_number 1 6 k ≡ 0) where
    abbrev clock_first : ℕ → ℕ → Bool
    clock_first i j = clock_before (waiting_clock k i) (waiting_clock k j)

    abbrev lows : List ℕ
    lows = those (is_lowest k) (waiting_indexes k)

    lows-either : Ascending (either_first clock_first) lows
    lows-either = either lows (those-ascends (is_lowest k) (indexes-ascend k z)) (λ x i. those-means (is_lowest k) (waiting_indexes k) i)
      where
        or_left : (a b : Bool) → a ≡ true → (a || b) ≡ true
        or_left a b e = rw e

        or_right : (a b : Bool) → b ≡ true → (a || b) ≡ true
        or_right true b e = refl
        or_right false b e = e

        either : (l : List ℕ) → Ascending (by (λ n. n)) l → ((x : ℕ) → x ∈ l → (x ∈ waiting_indexes k) × (is_lowest k x ≡ true))
            → Ascending (either_first clock_first) l
        either [] a h = nil
        either (x ∷ l) (next f a) h =
            next {x = x}
            (λ y i. let p = h x (Memᴰ.head refl) in
            let q = h y (Memᴰ.tail i) in
            ⊎_elim (λ t. or_left (clock_first x y) (clock_first y x) t) (λ t. or_right (clock_first x y) (clock_first y x) t)
            (clocks-apart (waiting_clock k x) (waiting_clock k y) (lowest-means y q.1 x p.0 (ltb-true x y (f y i)))))
            (either l a (λ y i. h y (Memᴰ.tail i)))

    abbrev row : List ℕ
    row = in_order_by clock_first lows

    row-ascends : Ascending clock_first row
    row-ascends =
        order-ascends clock_first (λ x y w t u. clocks-lead (waiting_clock k x) (waiting_clock k y) (waiting_clock k w) t u) lows lows-either

    row_counts : (i : ℕ) → waiting_index k i ≡ length (those (λ x. clock_first x i) row)
    unfolding waiting_index
    row_counts i =
        ap length (sym (those-those (λ x. clock_first x i) (is_lowest k) (waiting_indexes k)))
        ∙ sym (order-count clock_first (λ x. clock_first x i) lows)

    pub index-filled : (i n : ℕ) → n < waiting_index k i → (j : ℕ) × (j ∈ waiting_indexes k) × (is_lowest k j ≡ true) × (waiting_index k j ≡ n)
    index-filled i n h =
        let most = count-all (λ x. clock_first x i) row in
        let e = row_counts i in
        let here : n < length row = omega arith in
        let j = get_or row n 0 in
        let m = those-means (is_lowest k) (waiting_indexes k) (order-means clock_first lows (get_in row n 0 here)) in (
          j,
          m.0,
          m.1,
          row_counts j
              ∙ place-counts clock_first (λ x y t. before-strict (waiting_clock k x) (waiting_clock k y) t) row n 0 row-ascends here,
        )
