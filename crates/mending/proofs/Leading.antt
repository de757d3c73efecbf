-- The lowest index of each waiting clock, found by the leads of the indexes below; and the places that clocks take, counted by leads.
use mathlib.Core.Path.{◌≡◌, refl, ap, sym, ◌∙◌}
use mathlib.Core.Bool.{Bool, true, false, ◌&&◌}
use mathlib.Core.Logic.{⊎_elim}
use mathlib.Core.List.Memᴰ
use mathlib.Core.List.{List, [], ◌∷◌, ◌++◌}
use Prim.Native.Nat.{ℕ, zero, suc, ◌+◌, ◌/◌, ◌≤◌, ◌<◌}
use native.Mathlib.Omega.{arith}
use borrow.Author.Tests.{eq-eqb, eqb-true, eqb-false, ltb-true, ltb-false, lt-ltb}
use lib.Dec.{eqb, ltb}
use native.Mathlib.Numerals.{add-one}
use lib.ListN.{length, take, get_or, set}
use lib.Seq.{take_all, get_or-set_same, get_or-set_other}
use Rattle.listlaws.specs.Order.{◌∈◌, Ascending, nil, next, by}
use Rattle.listlaws.specs.Sift.{those}
use Rattle.listlaws.specs.First.{some}
use Rattle.listlaws.proofs.Orders.{apart, by-strict, same-members, head-before, tail-ascends}
use Rattle.listlaws.proofs.Those.{those-means, those-holds, those-ascends}
use Rattle.listlaws.proofs.Somes.{some-means, some_holds}
use Rattle.records.specs.declared.Record.{Record}
use Rattle.scan.specs.Numbers.{scan_number}
use Rattle.scan.proofs.Eachs.{decide, both, both_left, both_right}
use Rattle.removals.specs.Waits.{clock_before}
use Rattle.maprecords.specs.Reading.{under_index, numbers_below}
use Rattle.maprecords.proofs.Waits.{members-below}
use Rattle.oneimagelaws.proofs.Scans.{below-has}
use Rattle.salvagerules.specs.Indexes.{same_dots, waiting_clock, waiting_indexes, waiting_index, is_lowest, counts_before}
use Rattle.salvagelaws.proofs.Waiting.{same-dots, dots-same, index-all, index-from, indexes-ascend, lowest-means, lowest-of}
use Rattle.listlaws.proofs.Pads.{length-snoc}
use Rattle.scan.proofs.Rooms.{those-yes, those-no}
use Rattle.culling.specs.declared.Wanted.{Wanted}
use Rattle.culling.specs.Marks.{marked_of, left_items}
use Rattle.culling.specs.Looking.{is_wanted, want_index}
use Rattle.culling.proofs.Marked.{count-marked}
use Rattle.culling.proofs.Looked.{by_index}
use Rattle.mending.specs.Tables.{fourth_of, Led, LeadsOf}

-- one behind all
snoc-ascends : {A : Type 0} {first : A → A → Bool} (l : List A) (x : A) → Ascending first l → ((y : A) → y ∈ l → first y x ≡ true)
    → Ascending first (l ++ (x ∷ []))
snoc-ascends [] x a f = next (λ y i. absurd (Memᴰ.not-nil i)) nil
snoc-ascends (y ∷ l) x a f =
    next
    (λ w i. ⊎_elim (λ j. head-before a w j) (λ j. let e : w ≡ x = Memᴰ.eq_of_singleton j in rw e (f y (Memᴰ.head refl)))
    (Memᴰ.append_cases l i))
    (snoc-ascends l x (tail-ascends a) (λ w i. f w (Memᴰ.tail i)))

numbers-ascend : (n : ℕ) → Ascending (by (λ x. x)) (numbers_below n)
unfolding numbers_below
numbers-ascend zero = nil
numbers-ascend (suc n) = snoc-ascends (numbers_below n) n (numbers-ascend n) (λ y i. lt-ltb y n (members-below n y i))

-- numbers counted one by one
module _ (test : ℕ → Bool) {i count : ℕ} (g : count ≡ length (those test (numbers_below i))) where
  pub number_more : test i ≡ true → count + 1 ≡ length (those test (numbers_below (i + 1)))
  unfolding numbers_below
  number_more t =
      rw (add-one i) (ap (λ n. n + 1) g ∙ sym (ap length (those-yes test (numbers_below i) i t) ∙ length-snoc (those test (numbers_below i)) i))

  pub number-other : test i ≡ false → count ≡ length (those test (numbers_below (i + 1)))
  unfolding numbers_below
  number-other t = rw (add-one i) (g ∙ sym (ap length (those-no test (numbers_below i) i t)))

-- a table filled from the first place on
module _ (P : ℕ → ℕ → Type 0) (l : List ℕ) (i : ℕ) (g : (w : ℕ) → w < i → P w (get_or l w 0)) where
  pub table-set : (v : ℕ) → i < length l → P i v → (w : ℕ) → w < i + 1 → P w (get_or (set l i v) w 0)
  table-set v h p w k =
      decide (eqb w i)
      (λ a. let e = eqb-true w i a in rw (e, get_or-set_same l i v 0 h) p)
      (λ a. let n = eqb-false w i a in rw (get_or-set_other l i w v 0 n) (g w (omega (arith, n))))

  pub table-skip : P i (get_or l i 0) → (w : ℕ) → w < i + 1 → P w (get_or l w 0)
  table-skip p w k =
      decide (eqb w i)
      (λ a. let e = eqb-true w i a in rw e p)
      (λ a. let n = eqb-false w i a in g w (omega (arith, n)))

-- whether an index has a clock, as a loop finds it out
pub used-told : (marks s : List ℕ) → length s / 16 ≤ length marks → (index : ℕ) {b : Bool} {w : Wanted} → w ≡ want_index 5 index
    → b ≡ some (is_wanted w) (left_items 5 (take (length s / 16) (marked_of marks s))) → some (under_index 5 index) (fourth_of marks s) ≡ b
used-told marks s room index e f =
    sym (f ∙ ap (λ x. some (is_wanted x) (left_items 5 (take (length s / 16) (marked_of marks s)))) e
    ∙ by_index (left_items 5 (take (length s / 16) (marked_of marks s))) 5 index
    ∙ ap (λ l. some (under_index 5 index) (left_items 5 l)) (take_all (length s / 16) (marked_of marks s) (omega (arith, count-marked marks s room))))

module _ (k : List Record) (z : scan_number 1 6 k ≡ 0) where
  -- an index has a clock where it has a dot
  pub used-means : (w : ℕ) → some (under_index 5 w) k ≡ true → w ∈ waiting_indexes k
  used-means w t =
      let (s, i, u) = some-means (under_index 5 w) k t in
      let a = eqb-true s.kind 5 (both_left (eqb s.kind 5) (eqb s.index w) u) in
      Memᴰ.cast (sym (eqb-true s.index w (both_right (eqb s.kind 5) (eqb s.index w) u))) (index-all k z s i a)

  pub unused-means : (w : ℕ) → some (under_index 5 w) k ≡ false → w ∈ waiting_indexes k → ⊥
  unused-means w f m =
      let (s, i, u) = index-from k z w m in
      apart (sym (some_holds (under_index 5 w) i (both (eqb s.kind 5) _ (eq-eqb s.kind 5 u.0) (eq-eqb s.index w u.1))) ∙ f)

  pub use-cases : {R : Type 0} (w : ℕ) → (w ∈ waiting_indexes k → R) → ((w ∈ waiting_indexes k → ⊥) → R) → R
  use-cases w f g = decide (some (under_index 5 w) k) (λ t. f (used-means w t)) (λ t. g (unused-means w t))

  -- an index that is its own lead is the lowest of its clock, and such an index is its own lead
  module _ (leads : List ℕ) (w : ℕ) (h : w < 256) (t : Led k w (get_or leads w 0)) where
    pub lead-means : get_or leads w 0 ≡ w → (w ∈ waiting_indexes k) × (is_lowest k w ≡ true)
    lead-means e = use-cases w (λ m. (m, ap (is_lowest k) (sym e) ∙ (t.waits m).1)) (λ n. absurd (let b = t.none n in omega arith))

    pub lead_is : w ∈ waiting_indexes k → is_lowest k w ≡ true → get_or leads w 0 ≡ w
    lead_is m low =
        let v = get_or leads w 0 in
        let r = t.waits m in
        decide (ltb v w)
        (λ a. apart (sym (dots-same (waiting_clock k v) (waiting_clock k w) r.2) ∙ lowest-means k w low v r.0 (ltb-true v w a)))
        (λ a. omega (arith, ltb-false v w a, r.3))

  -- the leads below an index are looked through
  module _ (leads : List ℕ) (index : ℕ) (small : index < 256) (t : (w : ℕ) → w < index → Led k w (get_or leads w 0)) where
    abbrev pub Passed : ℕ → Type 0
    Passed i = (j : ℕ) → j < i → (eqb (get_or leads j 0) j && same_dots (waiting_clock k j) (waiting_clock k index)) ≡ false

    pub passed_on : {i : ℕ} → Passed i → (eqb (get_or leads i 0) i && same_dots (waiting_clock k i) (waiting_clock k index)) ≡ false → Passed (i + 1)
    passed_on {i} p e j h =
        decide (eqb j i)
        (λ a. let q = eqb-true j i a in ap (λ x. eqb (get_or leads x 0) x && same_dots (waiting_clock k x) (waiting_clock k index)) q ∙ e)
        (λ a. let q = eqb-false j i a in p j (omega (arith, q)))

    pub led-found : (j : ℕ) → j < index → eqb (get_or leads j 0) j ≡ true → same_dots (waiting_clock k j) (waiting_clock k index) ≡ true
        → index ∈ waiting_indexes k → Led k index j
    led-found j h a b m =
        let r = lead-means leads j (omega arith) (t j h) (eqb-true (get_or leads j 0) j a) in
        record { waits = λ _. (r.0, r.1, same-dots (waiting_clock k j) (waiting_clock k index) b, omega arith); none = λ n. absurd (n m) }

    pub led-own : Passed index → index ∈ waiting_indexes k → Led k index index
    led-own p m = record { waits = λ _. (m, lowest-of k index alone, refl, omega arith); none = λ n. absurd (n m) }
      where
        alone : (j : ℕ) → j ∈ waiting_indexes k → j < index → same_dots (waiting_clock k j) (waiting_clock k index) ≡ false
        alone j i h =
            let v = get_or leads j 0 in
            let r = (t j h).waits i in
            let below : v < index = omega (arith, r.3) in
            let own = lead_is leads v (omega arith) (t v below) r.0 r.1 in
            let q = p v below in
            ap (λ c. same_dots c (waiting_clock k index)) (sym r.2)
            ∙ (rw (eq-eqb (get_or leads v 0) v own) at q)

  pub led-none : (index : ℕ) → (index ∈ waiting_indexes k → ⊥) → Led k index 256
  led-none index n = record { waits = λ m. absurd (n m); none = λ _. refl }

  -- two indexes with clocks have one lead exactly where they have one clock
  pub same-lead : (leads : List ℕ) (t : LeadsOf k leads) (a b : ℕ) → a ∈ waiting_indexes k → b ∈ waiting_indexes k
      → eqb (get_or leads a 0) (get_or leads b 0) ≡ same_dots (waiting_clock k a) (waiting_clock k b)
  same-lead leads t a b m n =
      let x = get_or leads a 0 in
      let y = get_or leads b 0 in
      let r = (t.each a (t.bytes a m)).waits m in
      let s = (t.each b (t.bytes b n)).waits n in
      decide (eqb x y)
      (λ e. e ∙ sym (dots-same (waiting_clock k a) (waiting_clock k b) (sym r.2 ∙ ap (waiting_clock k) (eqb-true x y e) ∙ s.2)))
      (λ e. e ∙ sym (decide (same_dots (waiting_clock k a) (waiting_clock k b))
      (λ c. let q = r.2 ∙ same-dots (waiting_clock k a) (waiting_clock k b) c ∙ sym s.2 in
      decide (ltb x y)
      (λ l. apart (sym (dots-same (waiting_clock k x) (waiting_clock k y) q) ∙ lowest-means k y s.1 x r.0 (ltb-true x y l)))
      (λ l. decide (ltb y x)
      (λ g. apart (sym (dots-same (waiting_clock k y) (waiting_clock k x) (sym q)) ∙ lowest-means k x r.1 y s.0 (ltb-true y x g)))
      (λ g. absurd (eqb-false x y e (omega (arith, ltb-false x y l, ltb-false y x g))))))
      (λ c. c)))

  -- a lead is told by its table
  pub leading : (leads : List ℕ) (t : LeadsOf k leads) (w : ℕ) → w ∈ waiting_indexes k → eqb (get_or leads w 0) w ≡ is_lowest k w
  leading leads t w m =
      let h = t.bytes w m in
      decide (is_lowest k w)
      (λ a. eq-eqb (get_or leads w 0) w (lead_is leads w h (t.each w h) m a) ∙ sym a)
      (λ a. decide (eqb (get_or leads w 0) w) (λ e. apart (sym (lead-means leads w h (t.each w h) (eqb-true _ w e)).1 ∙ a)) (λ e. e) ∙ sym a)

  -- the place that a clock takes, counted over all indexes
  module _ (leads : List ℕ) (t : LeadsOf k leads) (w : ℕ) where
    abbrev pub lead_before : ℕ → Bool
    lead_before j = eqb (get_or leads j 0) j && clock_before (waiting_clock k j) (waiting_clock k w)

    counted_same : those lead_before (numbers_below 256) ≡ those (counts_before k w) (waiting_indexes k)
    counted_same = same-members (by-strict (λ n. n)) _ _ (those-ascends lead_before (numbers-ascend 256))
        (those-ascends (counts_before k w) (indexes-ascend k z)) there back
      where
        there : (x : ℕ) → x ∈ those lead_before (numbers_below 256) → x ∈ those (counts_before k w) (waiting_indexes k)
        there x i =
            let (m, u) = those-means lead_before (numbers_below 256) i in
            let h = members-below 256 x m in
            let r = lead-means leads x h (t.each x h) (eqb-true (get_or leads x 0) x (both_left (eqb (get_or leads x 0) x) _ u)) in
            those-holds (counts_before k w) r.0 (both (is_lowest k x) _ r.1 (both_right (eqb (get_or leads x 0) x) _ u))

        back : (x : ℕ) → x ∈ those (counts_before k w) (waiting_indexes k) → x ∈ those lead_before (numbers_below 256)
        back x i =
            let (m, u) = those-means (counts_before k w) (waiting_indexes k) i in
            let h = t.bytes x m in
            those-holds lead_before (below-has 256 x h)
            (both (eqb (get_or leads x 0) x) _ (leading leads t x m ∙ both_left (is_lowest k x) _ u) (both_right (is_lowest k x) _ u))

    pub rank_is : length (those lead_before (numbers_below 256)) ≡ waiting_index k w
    unfolding waiting_index
    rank_is = ap length counted_same
