-- Records of an accepted image go through every step as they are.
use mathlib.Core.Path.{◌≡◌, refl, ap, ap₂, sym, ◌∙◌}
use mathlib.Core.Bool.{Bool, true, false, not, ◌&&◌}
use mathlib.Core.List.Memᴰ
use mathlib.Core.List.{List, [], ◌∷◌, map}
use Prim.Native.Nat.{ℕ, zero, suc, ◌+◌, ◌<◌}
use native.Mathlib.Omega.{arith}
use lib.Dec.{eqb, ltb}
use lib.ListN.{length, length-map}
use borrow.Author.Tests.{eqb-true, eq-eqb, ltb-true, ltb-false, lt-ltb, le-leb}
use Rattle.listlaws.specs.Order.{◌∈◌, Ascending, nil, by}
use Rattle.listlaws.specs.First.{some}
use Rattle.listlaws.specs.Sift.{sift, those}
use Rattle.listlaws.proofs.Orders.{apart, by-strict, same-members}
use Rattle.listlaws.proofs.Ranks.{ranks-ascend}
use Rattle.listlaws.proofs.Somes.{some_holds, false-some}
use Rattle.listlaws.proofs.Those.{those-means, those-holds, those-those, those-same, those-ascends}
use Rattle.clock.specs.Dots.{counter_in}
use Rattle.clock.proofs.Counters.{counter_holds}
use Rattle.removals.specs.Waits.{clock_before}
use Rattle.removals.proofs.ClockOrder.{before-strict as clock-strict, before_self}
use Rattle.records.specs.declared.Record.{Record}
use Rattle.records.specs.Kinds.{record_ok, before}
use Rattle.scan.specs.Each.{each}
use Rattle.scan.specs.Limits.{room, within}
use Rattle.scan.specs.Numbers.{scan_number}
use Rattle.scan.proofs.Eachs.{decide, both, both_left, both_right, every_of}
use Rattle.scan.proofs.Befores.{before-fields}
use Rattle.scan.proofs.Rooms.{unordered, counter-from-one}
use Rattle.scan.proofs.Scanning.{scan_good}
use Rattle.clockimage.specs.Image.{is_kind, dot_of}
use Rattle.clockimage.specs.ClockImage.{clock_in}
use Rattle.maprecords.specs.Reading.{under_key, under_index, under_both, numbers_below}
use Rattle.maprecords.proofs.Keys.{length-below}
use Rattle.maprecords.proofs.Waits.{members-below}
use Rattle.acceptancelaws.proofs.Grouped.{fine, rises}
use Rattle.acceptancelaws.proofs.Limited.{waiting-keys-few}
use Rattle.oneimagelaws.proofs.Scans.{below-has}
use Rattle.oneimagelaws.proofs.Selected.{before-strict}
use Rattle.sentencelaws.specs.Sentences.{MapSentences}
use Rattle.salvagerules.specs.Fates.{untouched, staying}
use Rattle.salvagerules.specs.Needs.{clock_dot_above, need_met, kept_by_four}
use Rattle.salvagerules.specs.Indexes.{new_index, waiting_clock, waiting_indexes, same_dots, is_lowest, counts_before, waiting_index}
use Rattle.salvagerules.specs.Indexes.{of_united_clock, lists_already, key_room, kept_by_five}
use Rattle.salvagerules.specs.Steps.{step_two, step_three, step_four, step_five, fates_of, renumbered, salvaged, in_order_by}
use Rattle.salvagelaws.proofs.Counting.{count-append}
use Rattle.salvagelaws.proofs.Walks.{Parted, middle-in, left_in, left-before, before-left, each_of, taken-all}
use Rattle.salvagelaws.proofs.Sorts.{order-means, order-holds, order-ascends, either_first}
use Rattle.salvagelaws.proofs.Stages.{good_alone, above_kept, staying-came, each_both}
use Rattle.salvagelaws.proofs.Fourth.{lower-kind, place_at, need-two, need-three, need-four, need-six}
use Rattle.salvagelaws.proofs.Values.{values_below, values_of, values-rise}
use Rattle.salvagelaws.proofs.Waiting.{index-all, index-from, indexes-ascend, lowest-of, same-dots, dots-same, snoc-ascends}
use Rattle.salvagelaws.proofs.Fifth.{new-value, new-dot, new-clock, new-key, new-plain}
use Rattle.salvagelaws.proofs.Fifth.{five-plain, five-clock, five-key, kind-most, records-lead}
use Rattle.salvagelaws.proofs.Limited.{by_kind}

ascends-below : (n : ℕ) → Ascending (by (λ j. j)) (numbers_below n)
unfolding numbers_below
ascends-below zero = nil
ascends-below (suc n) = snoc-ascends (numbers_below n) n (ascends-below n) (λ j i. members-below n j i)

-- ascending numbers that are all below n, and all there are: n of them
pub full-count : (n : ℕ) (l : List ℕ) → Ascending (by (λ j. j)) l → ((j : ℕ) → j ∈ l → j < n) → ((j : ℕ) → j < n → j ∈ l) → length l ≡ n
full-count n l a f g =
    ap length (same-members (by-strict (λ j. j)) l (numbers_below n) a (ascends-below n)
    (λ j i. below-has n j (f j i)) (λ j i. g j (members-below n j i)))
    ∙ length-below n

-- one that passes is counted
counts-own : {A : Type 0} (p : A → Bool) (x : A) (l : List A) → p x ≡ true → length (those p (x ∷ l)) ≡ length (those p l) + 1
unfolding sift
counts-own p x l t = rw t (omega arith)

-- an ascending list is in order
pub order_same : (l : List Record) → Ascending before l → in_order_by before l ≡ l
order_same l a =
    same-members before-strict (in_order_by before l) l
    (order-ascends before records-lead l (weaken l a)) a (λ x i. order-means before l i) (λ x i. order-holds before l i)
  where
    weaken : (m : List Record) → Ascending before m → Ascending (either_first before) m
    weaken [] b = nil
    weaken (x ∷ m) (Rattle.listlaws.specs.Order.next f b) = Rattle.listlaws.specs.Order.next {x = x} (λ y i. rw (f y i)) (weaken m b)

-- records that are good and ascend pass steps 2 and 3
pub each-good : (l : List Record) → ((x : Record) → x ∈ l → record_ok 1 6 x ≡ true) → each good_alone l ≡ true
each-good l h = each_of good_alone l (λ x p. h x (middle-in p))

pub each-above : (l : List Record) → Ascending before l → each above_kept l ≡ true
each-above l a = each_of above_kept l (λ x p. every_of (λ y. before y x) p.left (λ y i. left-before a p y i))

module _ (l : List Record) (z : scan_number 1 6 l ≡ 0) (s : MapSentences l) where
  a : Ascending before l
  a = rises 1 6 l z

  -- what it needs stands on its left
  on-left : (x : Record) (p : Parted l x) (y : Record) → y ∈ l → y.kind < x.kind → y ∈ p.left
  on-left x p y i b = before-left a p before-strict y i (lower-kind y x b)

  pub clock-dot : (x : Record) → x ∈ l → x.kind ≡ 2 → (c : Record) × (c ∈ l) × (c.kind ≡ 1) × (clock_dot_above x c ≡ true)
  clock-dot x i e =
      let most = s.dots-within x i e in
      let least = counter-from-one 1 6 x (fine 1 6 l z x i) e refl (λ q. omega (arith, e)) (λ q. omega (arith, e)) in
      let (c, j, q) = Memᴰ.of_map dot_of (those (is_kind 1) l) (counter_holds (clock_in l) x.actor (omega arith)) in
      let m = those-means (is_kind 1) l j in
      let number : c.number ≡ counter_in (clock_in l) x.actor = ap (λ d. d.counter) q in
      let actor : c.actor ≡ x.actor = ap (λ d. d.actor) q in
      (c, m.0, eqb-true c.kind 1 m.1, rw (m.1, eq-eqb c.actor x.actor actor) (le-leb x.number c.number (omega arith)))

  each-met : each (need_met l) l ≡ true
  each-met = each_of (need_met l) l (λ x p. met x p (middle-in p))
    where
      met : (x : Record) (p : Parted l x) → x ∈ l → need_met l p.left x ≡ true
      met x p i =
          decide (eqb x.kind 2)
          (λ t. let e = eqb-true x.kind 2 t in
          let (c, j, one, u) = clock-dot x i e in
          need-two l p.left x e ∙ some_holds (clock_dot_above x) (on-left x p c j (omega arith)) u)
          (λ two. decide (eqb x.kind 3)
          (λ t. let e = eqb-true x.kind 3 t in
          let (c, j, u) = s.value-needs-entry x i e in
          let (d, m, v) = s.value-needs-dot x i e in
          need-three l p.left x e ∙ both (some (under_key 2 x.key) p.left) (some (under_both 4 x.key x.index) l)
          (some_holds (under_key 2 x.key) (on-left x p c j (omega (arith, u.0))) (rw (eq-eqb c.kind 2 u.0, eq-eqb c.key x.key u.1)))
          (some_holds (under_both 4 x.key x.index) m (place_at 4 x.key x.index d v)))
          (λ three. decide (eqb x.kind 4)
          (λ t. let e = eqb-true x.kind 4 t in
          let (c, j, u) = s.dot-needs-value x i e in
          need-four l p.left x e
          ∙ some_holds (under_both 3 x.key x.index) (on-left x p c j (omega (arith, u.0))) (place_at 3 x.key x.index c u))
          (λ four. decide (eqb x.kind 6)
          (λ t. let e = eqb-true x.kind 6 t in
          let (c, j, u) = s.key-needs-clock x i e in
          need-six l p.left x e ∙ some_holds (under_index 5 x.index) (on-left x p c j (omega (arith, u.0)))
          (rw (eq-eqb c.kind 5 u.0, eq-eqb c.index x.index u.1)))
          (λ six. rw (two, three, four, six)))))

  each-four : each (kept_by_four l) l ≡ true
  unfolding within
  each-four = each_both (need_met l) room l each-met (scan_good 1 6 l z).1

  -- waiting clocks ascend with their indexes
  rises-with : (i j : ℕ) → i ∈ waiting_indexes l → j ∈ waiting_indexes l → i < j → clock_before (waiting_clock l i) (waiting_clock l j) ≡ true
  rises-with i j m n b =
      let (x, p, u) = index-from l z i m in
      let (y, q, v) = index-from l z j n in
      ap₂ (λ c d. clock_before (waiting_clock l c) (waiting_clock l d)) (sym u.1) (sym v.1)
      ∙ s.clocks-ascend x y p q u.0 v.0 (omega (arith, u.1, v.1))

  differ : (i j : ℕ) → i ∈ waiting_indexes l → j ∈ waiting_indexes l → i < j → same_dots (waiting_clock l i) (waiting_clock l j) ≡ false
  differ i j m n b =
      decide (same_dots (waiting_clock l i) (waiting_clock l j))
      (λ t. apart (sym (rises-with i j m n b) ∙ ap (λ c. clock_before c (waiting_clock l j)) (same-dots (waiting_clock l i) (waiting_clock l j) t)
      ∙ before_self (waiting_clock l j)))
      (λ f. f)

  one_index : (i j : ℕ) → i ∈ waiting_indexes l → j ∈ waiting_indexes l → same_dots (waiting_clock l i) (waiting_clock l j) ≡ true → i ≡ j
  one_index i j m n t =
      decide (ltb i j) (λ b. apart (sym t ∙ differ i j m n (ltb-true i j b)))
      (λ b. decide (ltb j i)
      (λ c. apart (sym (dots-same (waiting_clock l j) (waiting_clock l i) (sym (same-dots (waiting_clock l i) (waiting_clock l j) t)))
      ∙ differ j i n m (ltb-true j i c)))
      (λ c. omega (arith, ltb-false i j b, ltb-false j i c)))

  key-index : (x : Record) → x ∈ l → x.kind ≡ 6 → x.index ∈ waiting_indexes l
  key-index x i e = let (c, j, u) = s.key-needs-clock x i e in Memᴰ.cast (sym u.1) (index-all l z c j u.0)

  lowest : (i : ℕ) → i ∈ waiting_indexes l → is_lowest l i ≡ true
  lowest i m = lowest-of l i (λ j n b. differ j i n m b)

  -- of one index
  under_same : (x : Record) → x ∈ l → x.kind ≡ 6 → (y : Record) → y ∈ l → of_united_clock l x y ≡ under_index 6 x.index y
  under_same x i e y j =
      decide (eqb y.kind 6)
      (λ t. let f = eqb-true y.kind 6 t in
      rw t (alike (same_dots (waiting_clock l y.index) (waiting_clock l x.index)) (eqb y.index x.index)
      (λ u. eq-eqb y.index x.index (one_index y.index x.index (key-index y j f) (key-index x i e) u))
      (λ u. dots-same (waiting_clock l y.index) (waiting_clock l x.index) (ap (waiting_clock l) (eqb-true y.index x.index u)))))
      (λ f. rw f)
    where
      alike : (b c : Bool) → (b ≡ true → c ≡ true) → (c ≡ true → b ≡ true) → b ≡ c
      alike true c f g = sym (f refl)
      alike false true f g = g refl
      alike false false f g = refl

  each-five : each (kept_by_five l) l ≡ true
  each-five = each_of (kept_by_five l) l (λ x p. stays x p (middle-in p))
    where
      unlisted : (x : Record) (p : Parted l x) → x ∈ l → x.kind ≡ 6 → (y : Record) → y ∈ p.left
          → (of_united_clock l x y && eqb y.key x.key) ≡ false
      unlisted x p i e y j =
          let m = left_in p y j in
          decide (of_united_clock l x y && eqb y.key x.key)
          (λ t. let u = sym (under_same x i e y m) ∙ both_left (of_united_clock l x y) _ t in
          let f = eqb-true y.kind 6 (both_left (eqb y.kind 6) _ u) in
          let b = before-fields (left-before a p y j) in
          let none = unordered 1 6 y (fine 1 6 l z y m) f refl in
          let nor = unordered 1 6 x (fine 1 6 l z x i) e refl in
          absurd (omega (
            arith,
            b.actor (f ∙ sym e) (eqb-true y.key x.key (both_right (of_united_clock l x y) _ t))
                (eqb-true y.index x.index (both_right (eqb y.kind 6) _ u)),
          )))
          (λ f. f)

      roomy : (x : Record) (p : Parted l x) → x ∈ l → x.kind ≡ 6 → length (those (of_united_clock l x) p.left) < 16
      roomy x p i e =
          let same = ap length (those-same (of_united_clock l x) (under_index 6 x.index) p.left (λ y j. under_same x i e y (left_in p y j))) in
          let few = waiting-keys-few x.index l z in
          let all = ap (λ m. length (those (under_index 6 x.index) m)) p.parts
          ∙ count-append (under_index 6 x.index) p.left (x ∷ p.right) in
          let own = counts-own (under_index 6 x.index) x p.right (rw (eq-eqb x.kind 6 e, eq-eqb x.index x.index refl)) in
          omega arith

      stays : (x : Record) (p : Parted l x) → x ∈ l → kept_by_five l p.left x ≡ true
      stays x p i =
          let low : x.kind < 5 → kept_by_five l p.left x ≡ true = five-plain l x p.left in
          by_kind (kept_by_five l p.left x ≡ true) x.kind (kind-most l z x i)
          (λ b. low (omega arith)) (λ b. low (omega arith)) (λ b. low (omega arith))
          (λ e. five-clock l x p.left e ∙ lowest x.index (index-all l z x i e))
          (λ e. five-key l x p.left e ∙ both (not (lists_already l p.left x)) (key_room l p.left x)
          (ap not (false-some (λ y. of_united_clock l x y && eqb y.key x.key) p.left (unlisted x p i e)))
          (lt-ltb (length (those (of_united_clock l x) p.left)) 16 (roomy x p i e)))

  -- each index is its place
  value-place : (v : Record) → v ∈ l → v.kind ≡ 3 → values_below l v.key v.index ≡ v.index
  value-place v i e =
      let below : Record → Bool = λ r. ltb r.index v.index in
      let low = those below (values_of l z v.key) in
      ap length (sym (those-those below (under_key 3 v.key) l)) ∙ sym (length-map low (λ (r : Record). r.index))
      ∙ full-count v.index (map (λ (r : Record). r.index) low)
      (ranks-ascend (λ (r : Record). r.index) (those-ascends below (values-rise l z v.key)))
      (λ j m. let (r, n, q) = Memᴰ.of_map (λ (r : Record). r.index) low m in
      let b = ltb-true r.index v.index (those-means below (values_of l z v.key) n).1 in omega arith)
      (λ j b. let (r, n, u) = s.values-no-gap v i e j b in
      Memᴰ.cast (sym u.1.1) (Memᴰ.map (λ (r : Record). r.index) (those-holds below (those-holds (under_key 3 v.key) n
      (rw (eq-eqb r.kind 3 u.0, eq-eqb r.key v.key u.1.0))) (lt-ltb r.index v.index (omega (arith, u.1.1))))))

  waiting-place : (i : ℕ) → i ∈ waiting_indexes l → waiting_index l i ≡ i
  unfolding waiting_index
  waiting-place i m =
      full-count i (those (counts_before l i) (waiting_indexes l)) (those-ascends (counts_before l i) (indexes-ascend l z))
      (λ j n. let q = those-means (counts_before l i) (waiting_indexes l) n in
      let t = both_right (is_lowest l j) _ q.1 in
      decide (ltb j i) (λ b. ltb-true j i b)
      (λ b. decide (ltb i j)
      (λ c. apart (sym (rises-with i j m q.0 (ltb-true i j c)) ∙ clock-strict (waiting_clock l j) (waiting_clock l i) t))
      (λ c. let same : j ≡ i = omega (arith, ltb-false j i b, ltb-false i j c) in
      apart (sym t ∙ ap (λ d. clock_before (waiting_clock l d) (waiting_clock l i)) same ∙ before_self (waiting_clock l i)))))
      (λ j b. let (x, p, u) = index-from l z i m in
      let (y, q, v) = s.waiting-no-gap x p u.0 j (omega (arith, u.1)) in
      let n = Memᴰ.cast (sym v.1) (index-all l z y q v.0) in
      those-holds (counts_before l i) n (both (is_lowest l j) _ (lowest j n) (rises-with j i n m b)))

  pub same_index : (x : Record) → x ∈ l → new_index l x ≡ x.index
  same_index x i =
      by_kind (new_index l x ≡ x.index) x.kind (kind-most l z x i) (new-plain l x)
      (λ e. new-value l x e ∙ value-place x i e)
      (λ e. let (v, m, u) = s.dot-needs-value x i e in
      new-dot l x e ∙ ap₂ (values_below l) (sym u.1.0) (sym u.1.1) ∙ value-place v m u.0 ∙ u.1.1)
      (λ e. new-clock l x e ∙ waiting-place x.index (index-all l z x i e))
      (λ e. new-key l x e ∙ waiting-place x.index (key-index x i e))

  same_names : (m : List Record) → ((x : Record) → x ∈ m → new_index l x ≡ x.index) → map (renumbered l) (map untouched m) ≡ map untouched m
  same_names [] h = refl
  same_names (x ∷ m) h =
      rw (eq-eqb (new_index l x) x.index (h x (Memᴰ.head refl)))
      (ap (λ n. untouched x ∷ n) (same_names m (λ y i. h y (Memᴰ.tail i))))

  two-same : step_two (map untouched l) ≡ map untouched l
  unfolding step_two
  two-same = taken-all 2 good_alone [] (map untouched l) (rw (staying-came l) (each-good l (fine 1 6 l z)))

  three-same : step_three (map untouched l) ≡ map untouched l
  unfolding step_three
  three-same = taken-all 3 above_kept [] (map untouched l) (rw (staying-came l) (each-above l a))

  four_same : step_four (map untouched l) ≡ map untouched l
  unfolding step_four
  four_same = rw (staying-came l) (taken-all 4 (kept_by_four l) [] (map untouched l) (rw (staying-came l) each-four))

  five-same : step_five (map untouched l) ≡ map untouched l
  unfolding step_five
  five-same =
      rw (staying-came l)
      (ap (map (renumbered l)) (taken-all 5 (kept_by_five l) [] (map untouched l) (rw (staying-came l) each-five)) ∙ same_names l same_index)

  pub fates-same : fates_of l ≡ map untouched l
  unfolding fates_of
  fates-same =
      ap (λ f. step_five (step_four (step_three f))) two-same ∙ ap (λ f. step_five (step_four f)) three-same ∙ ap step_five four_same ∙ five-same

  pub salvaged-same : salvaged l ≡ l
  unfolding salvaged
  salvaged-same = ap (λ f. in_order_by before (staying f)) fates-same ∙ ap (in_order_by before) (staying-came l) ∙ order_same l a
