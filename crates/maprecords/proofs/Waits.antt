-- The waiting removals that records stand for, with one record more.
use mathlib.Core.Path.{◌≡◌, refl, ap, ap₂, sym, ◌∙◌}
use mathlib.Core.Bool.{Bool, true, false, ◌&&◌}
use mathlib.Core.Logic.{⊎_elim}
use mathlib.Core.List.Memᴰ
use mathlib.Core.List.{List, [], ◌∷◌, ◌++◌, map}
use Prim.Native.Nat.{ℕ, zero, suc, ◌+◌, ◌≤◌, ◌<◌}
use native.Mathlib.Omega.{arith}
use lib.Dec.{eqb, ltb, leb}
use lib.ListN.{length, get_or, set, length-map}
use borrow.Author.Tests.{eq-eqb, ne_eqb, eqb-true, eqb-false, leb-true, le-leb, lt-leb, lt-ltb, le-ltb}
use Rattle.listlaws.specs.Order.{◌∈◌}
use Rattle.listlaws.specs.Fold.{fold}
use Rattle.listlaws.specs.Sift.{those}
use Rattle.listlaws.proofs.Orders.{apart}
use Rattle.listlaws.proofs.Those.{those-none}
use Rattle.listlaws.proofs.Somes.{false-some}
use Rattle.removals.specs.declared.Removal.{Removal}
use Rattle.limits.specs.Limits.{waiting_limit, key_limit}
use Rattle.removals.specs.Model.{no_removal, removal_as}
use Rattle.records.specs.declared.Record.{Record}
use Rattle.records.specs.Kinds.{record_ok}
use Rattle.scan.specs.Each.{each}
use Rattle.scan.specs.Formed.{follows, well_formed}
use Rattle.scan.specs.Limits.{outer, middle, Limits, today, outer_by, middle_by, limit_at, same_kind, same_outer, tally, room_by, within_by, within}
use Rattle.scan.specs.Numbers.{scan_number}
use Rattle.scan.proofs.Eachs.{decide, both, both_left, both_right, each_snoc}
use Rattle.scan.proofs.Tallies.{tally-new}
use Rattle.scan.proofs.Scans.{formed-snoc, outer-key, middle-index}
use Rattle.scan.proofs.Scanning.{scan_good}
use Rattle.scan.proofs.Rooms.{those-yes, those-no, no_key}
use Rattle.clockimage.specs.Image.{is_kind, dot_of, dots_from}
use Rattle.clockimage.proofs.Dots.{dots-more, dots-same, map_snoc}
use Rattle.maprecords.specs.Reading.{entries_for, under_index, waiting_count, waiting_removal_in, numbers_below, waiting_for}
use Rattle.maprecords.specs.Related.{entry_fits, waiting_fits, finds_place}
use Rattle.maprecords.proofs.SoFar.{WaitingNow}
use Rattle.maprecords.proofs.Keys.{get-map, map-changed, map_same, length-below, get-below, unique-below}
use Rattle.maprecords.proofs.Counts.{by-records, tally-grows, kinds-ascend, waiting-keys-room, count-more, count_same, indexes-below}

abbrev clocked : Record → Bool
clocked x = eqb x.kind 5 && eqb (outer x) 0

-- a new index is counted
counted-new : (l : List Record) (r : Record) → r.kind ≡ 5 → r.key ≡ 0 → waiting_count l ≤ r.index
    → tally clocked middle (l ++ (r ∷ [])) ≡ tally clocked middle l + 1
counted-new l r k y h =
    tally-new clocked middle l r
    (both (eqb r.kind 5) (eqb (outer r) 0) (eq-eqb r.kind 5 k) (eq-eqb (outer r) 0 (outer-key r (λ e. omega arith) ∙ y)))
    (false-some (λ s. clocked s && eqb (middle s) (middle r)) l fresh)
  where
    fresh : (s : Record) → s ∈ l → (clocked s && eqb (middle s) (middle r)) ≡ false
    fresh s i =
        decide (clocked s)
        (λ t. let sk = eqb-true s.kind 5 (both_left (eqb s.kind 5) (eqb (outer s) 0) t) in
        let b = indexes-below l s i sk in
        rw t (ne_eqb (middle s) (middle r) (λ e. let q = sym (middle-index s (λ z. omega arith)) ∙ e
        ∙ middle-index r (λ z. omega arith) in omega arith)))
        (λ n. rw n)

-- indexes without a gap are all counted
waits-counted : (l : List Record) → each finds_place l ≡ true → well_formed 1 6 l ≡ true → waiting_count l ≤ tally clocked middle l
unfolding waiting_count fold
waits-counted l =
    by-records (λ m. each finds_place m ≡ true → well_formed 1 6 m ≡ true → waiting_count m ≤ tally clocked middle m) (λ p w. omega arith) more l
  where
    more : (m : List Record) (r : Record) → (each finds_place m ≡ true → well_formed 1 6 m ≡ true → waiting_count m ≤ tally clocked middle m)
        → each finds_place (m ++ (r ∷ [])) ≡ true → well_formed 1 6 (m ++ (r ∷ [])) ≡ true
        → waiting_count (m ++ (r ∷ [])) ≤ tally clocked middle (m ++ (r ∷ []))
    more m r h p w =
        let pm = sym (each_snoc finds_place m r) ∙ p in
        let wm = sym (formed-snoc 1 6 m r) ∙ w in
        let old = h (both_left (each finds_place m) (finds_place m r) pm) (both_left (well_formed 1 6 m) (follows 1 6 m r) wm) in
        let g = tally-grows clocked middle m r in
        decide (eqb r.kind 5)
        (λ t. let k = eqb-true r.kind 5 t in
        let e = count-more m r k in
        let fit = both_right (entry_fits (entries_for m) r) (waiting_fits (waiting_count m) r)
        (both_right (each finds_place m) (finds_place m r) pm) in
        let i = leb-true r.index (waiting_count m) (rw t at fit) in
        decide (eqb r.index (waiting_count m))
        (λ a. let q = eqb-true r.index (waiting_count m) a in
        let good = both_left (record_ok 1 6 r) _ (both_right (well_formed 1 6 m) (follows 1 6 m r) wm) in
        let c = counted-new m r k (no_key 1 6 r good k refl) (omega arith) in omega arith)
        (λ a. let q = eqb-false r.index (waiting_count m) a in omega arith))
        (λ f. let e = count_same m r (eqb-false r.kind 5 f) in omega arith)

-- limits leave no more waiting removals than they say
pub waits-under : (t : Limits) (l : List Record) → each finds_place l ≡ true → well_formed 1 6 l ≡ true → within_by t l ≡ true
    → waiting_count l ≤ t.waiting
unfolding waiting_count fold
waits-under t =
    by-records (λ m. each finds_place m ≡ true → well_formed 1 6 m ≡ true → within_by t m ≡ true → waiting_count m ≤ t.waiting)
    (λ p w h. omega arith) more
  where
    more : (m : List Record) (r : Record) → (each finds_place m ≡ true → well_formed 1 6 m ≡ true → within_by t m ≡ true
        → waiting_count m ≤ t.waiting)
        → each finds_place (m ++ (r ∷ [])) ≡ true → well_formed 1 6 (m ++ (r ∷ [])) ≡ true → within_by t (m ++ (r ∷ [])) ≡ true
        → waiting_count (m ++ (r ∷ [])) ≤ t.waiting
    more m r h p w s =
        let sm = sym (each_snoc (room_by t) m r) ∙ s in
        let wm = sym (formed-snoc 1 6 m r) ∙ w in
        decide (eqb r.kind 5)
        (λ a. let k = eqb-true r.kind 5 a in
        let good = both_left (record_ok 1 6 r) _ (both_right (well_formed 1 6 m) (follows 1 6 m r) wm) in
        let y = no_key 1 6 r good k refl in
        let keys = leb (tally (same_kind r) outer (m ++ (r ∷ []))) (limit_at (outer_by t) r.kind) in
        let all = tally (same_outer r) middle (m ++ (r ∷ [])) in
        let most = limit_at (middle_by t) r.kind in
        let b : all ≤ most = leb-true all most (both_left (leb all most) _ (both_right keys _ (both_right (within_by t m) (room_by t m r) sm))) in
        let e : most ≡ t.waiting = ap (limit_at (middle_by t)) k in
        let same : all ≡ tally clocked middle (m ++ (r ∷ [])) = ap₂ (λ a o. tally (λ x. eqb x.kind a && eqb (outer x) o) middle (m ++ (r ∷ []))) k
        (outer-key r (λ q. omega arith) ∙ y) in
        let c = waits-counted (m ++ (r ∷ [])) p w in
        omega arith)
        (λ f. let old = h (both_left (each finds_place m) (finds_place m r) (sym (each_snoc finds_place m r) ∙ p))
        (both_left (well_formed 1 6 m) (follows 1 6 m r) wm) (both_left (within_by t m) (room_by t m r) sm) in
        let e = count_same m r (eqb-false r.kind 5 f) in omega arith)

-- so there is room for a new one
pub waits-room : (l : List Record) (r : Record) → each finds_place l ≡ true → scan_number 1 6 (l ++ (r ∷ [])) ≡ 0 → r.kind ≡ 5
    → r.index ≡ waiting_count l
    → waiting_count l < waiting_limit
unfolding within
waits-room l r p z k i =
    let g = scan_good 1 6 (l ++ (r ∷ [])) z in
    let fits : finds_place l r ≡ true = rw (eq-eqb r.kind 5 k, ne_eqb r.kind 3 (λ e. omega arith), ne_eqb r.kind 4 (λ e. omega arith))
    (le-leb r.index (waiting_count l) (omega arith)) in
    omega (
      arith,
      waits-under today (l ++ (r ∷ [])) (each_snoc finds_place l r ∙ both (each finds_place l) (finds_place l r) p fits) g.0 g.1,
      count-more l r k,
    )

pub removal-keys-few : (l : List Record) (r : Record) → scan_number 1 6 (l ++ (r ∷ [])) ≡ 0 → r.kind ≡ 6
    → length (map (λ x. x.key) (those (under_index 6 r.index) l)) < key_limit
removal-keys-few l r good k = rw (length-map (those (under_index 6 r.index) l) (λ (x : Record). x.key)) (waiting-keys-room l r good k)

-- a test of another kind, or of another index
other-kind : (kind index : ℕ) (r : Record) → (r.kind ≡ kind → ⊥) → under_index kind index r ≡ false
other-kind kind index r n = rw (ne_eqb r.kind kind n)

other-index : (kind index : ℕ) (r : Record) → (r.index ≡ index → ⊥) → under_index kind index r ≡ false
other-index kind index r n = rw (ne_eqb r.index index n) (go (is_kind kind r))
  where
    go : (b : Bool) → (b && false) ≡ false
    go true = refl
    go false = refl

own : (kind : ℕ) (r : Record) → r.kind ≡ kind → under_index kind r.index r ≡ true
own kind r k = both (is_kind kind r) (eqb r.index r.index) (eq-eqb r.kind kind k) (eq-eqb r.index r.index refl)

module _ (l : List Record) (r : Record) where
  removal-same : (index : ℕ) → under_index 5 index r ≡ false → under_index 6 index r ≡ false
      → waiting_removal_in (l ++ (r ∷ [])) index ≡ waiting_removal_in l index
  removal-same index a b = ap₂ removal_as (dots-same (under_index 5 index) l r a) (ap (map (λ x. x.key)) (those-no (under_index 6 index) l r b))

  waiting-same : (r.kind ≡ 5 → ⊥) → (r.kind ≡ 6 → ⊥) → waiting_for (l ++ (r ∷ [])) ≡ waiting_for l
  waiting-same a b =
      ap (λ n. map (waiting_removal_in (l ++ (r ∷ []))) (numbers_below n)) (count_same l r a)
      ∙ map_same (waiting_removal_in l) (waiting_removal_in (l ++ (r ∷ []))) (numbers_below (waiting_count l))
      (λ i. removal-same i (other-kind 5 i r a) (other-kind 6 i r b))

  dot-removal : r.kind ≡ 5 → waiting_removal_in (l ++ (r ∷ [])) r.index ≡ removal_as (dots_from (under_index 5 r.index) l ++ (dot_of r ∷ []))
      (map (λ x. x.key) (those (under_index 6 r.index) l))
  dot-removal k =
      ap₂ removal_as (dots-more (under_index 5 r.index) l r (own 5 r k))
      (ap (map (λ x. x.key)) (those-no (under_index 6 r.index) l r (other-kind 6 r.index r (λ e. omega arith))))

  key-removal : r.kind ≡ 6 → waiting_removal_in (l ++ (r ∷ [])) r.index ≡ removal_as (dots_from (under_index 5 r.index) l)
      (map (λ x. x.key) (those (under_index 6 r.index) l) ++ (r.key ∷ []))
  key-removal k =
      ap₂ removal_as (dots-same (under_index 5 r.index) l r (other-kind 5 r.index r (λ e. omega arith)))
      (ap (map (λ x. x.key)) (those-yes (under_index 6 r.index) l r (own 6 r k)) ∙ map_snoc (λ x. x.key) (those (under_index 6 r.index) l) r)

  module _ (h : r.index < waiting_count l) where
    in-below : r.index < length (numbers_below (waiting_count l))
    in-below = omega (arith, length-below (waiting_count l))

    its-place : get_or (numbers_below (waiting_count l)) r.index 0 ≡ r.index
    its-place = get-below (waiting_count l) r.index h

    waiting-changed : waiting_count (l ++ (r ∷ [])) ≡ waiting_count l
        → set (waiting_for l) r.index (waiting_removal_in (l ++ (r ∷ [])) r.index) ≡ waiting_for (l ++ (r ∷ []))
    waiting-changed same =
        sym (ap (λ n. map (waiting_removal_in (l ++ (r ∷ []))) (numbers_below n)) same
        ∙ map-changed no_removal (waiting_removal_in l) (waiting_removal_in (l ++ (r ∷ []))) (numbers_below (waiting_count l)) r.index
        (unique-below (waiting_count l)) in-below
        (λ i n. removal-same i (other-index 5 i r (λ e. n (sym e ∙ sym its-place))) (other-index 6 i r (λ e. n (sym e ∙ sym its-place))))
        ∙ ap (λ i. set (waiting_for l) r.index (waiting_removal_in (l ++ (r ∷ [])) i)) its-place)

    pub removal-at : get_or (waiting_for l) r.index no_removal ≡ waiting_removal_in l r.index
    removal-at = get-map (waiting_removal_in l) (numbers_below (waiting_count l)) r.index no_removal in-below ∙ ap (waiting_removal_in l) its-place

pub members-below : (n x : ℕ) → x ∈ numbers_below n → x < n
unfolding numbers_below
members-below zero x i = absurd (Memᴰ.not-nil i)
members-below (suc n) x i =
    ⊎_elim (λ j. let h = members-below n x j in omega arith) (λ j. let q : x ≡ n = Memᴰ.eq_of_singleton j in omega arith)
    (Memᴰ.append_cases (numbers_below n) i)

waiting-new : (l : List Record) (r : Record) → scan_number 1 6 (l ++ (r ∷ [])) ≡ 0 → r.kind ≡ 5 → r.index ≡ waiting_count l
    → waiting_for l ++ (removal_as (dot_of r ∷ []) [] ∷ []) ≡ waiting_for (l ++ (r ∷ []))
unfolding numbers_below
waiting-new l r z k i =
    let e = count-more l r k in
    let one : waiting_count (l ++ (r ∷ [])) ≡ suc (waiting_count l) = omega arith in
    sym (ap (λ n. map (waiting_removal_in (l ++ (r ∷ []))) (numbers_below n)) one
    ∙ map_snoc (waiting_removal_in (l ++ (r ∷ []))) (numbers_below (waiting_count l)) (waiting_count l)
    ∙ ap₂ (λ m w. m ++ (w ∷ []))
    (Rattle.listlaws.proofs.Twice.map_same (waiting_removal_in l) (waiting_removal_in (l ++ (r ∷ []))) (numbers_below (waiting_count l))
    (λ x j. let b = members-below (waiting_count l) x j in removal-same l r x (other-index 5 x r (λ q. omega arith))
    (other-index 6 x r (λ q. omega arith))))
    (ap (waiting_removal_in (l ++ (r ∷ []))) (sym i) ∙ dot-removal l r k
    ∙ ap₂ (λ d m. removal_as (map dot_of d ++ (dot_of r ∷ [])) (map (λ x. x.key) m)) (those-none (under_index 5 r.index) l no-dot)
    (those-none (under_index 6 r.index) l no_keys)))
  where
    no-dot : (x : Record) → x ∈ l → under_index 5 r.index x ≡ false
    no-dot x j =
        decide (under_index 5 r.index x)
        (λ t. let b = indexes-below l x j (eqb-true x.kind 5 (both_left (is_kind 5 x) (eqb x.index r.index) t)) in
        let q = eqb-true x.index r.index (both_right (is_kind 5 x) (eqb x.index r.index) t) in absurd (omega arith))
        (λ n. n)

    no_keys : (x : Record) → x ∈ l → under_index 6 r.index x ≡ false
    no_keys x j = let h = kinds-ascend l r z x j in rw (ne_eqb x.kind 6 (λ e. omega arith))

-- what each way to add a record to the waiting removals needs, and gives
module _ (l : List Record) (r : Record) where
  pub how-many : length (waiting_for l) ≡ waiting_count l
  how-many = length-map (numbers_below (waiting_count l)) (waiting_removal_in l) ∙ length-below (waiting_count l)

  fits-dot : r.kind ≡ 5 → waiting_fits (waiting_count l) r ≡ leb r.index (waiting_count l)
  fits-dot k = rw (eq-eqb r.kind 5 k)

  fits-key : r.kind ≡ 6 → waiting_fits (waiting_count l) r ≡ ltb r.index (waiting_count l)
  fits-key k = rw (ne_eqb r.kind 5 (λ e. omega arith), eq-eqb r.kind 6 k)

  -- the removal of r's index changes
  module _ (known : r.index < waiting_count l) where
    pub dot-now : r.kind ≡ 5 → {ws : List Removal}
        → ws ≡ set (waiting_for l) r.index (removal_as (dots_from (under_index 5 r.index) l ++ (dot_of r ∷ []))
        (map (λ x. x.key) (those (under_index 6 r.index) l))) → WaitingNow l r false ws
    dot-now k e =
        let fit = fits-dot k ∙ le-leb r.index (waiting_count l) (omega arith) in
        let same : waiting_count (l ++ (r ∷ [])) ≡ waiting_count l = count-more l r k ∙ omega arith in
        record { lost = rw fit; held = λ _. e ∙ ap (set (waiting_for l) r.index) (sym (dot-removal l r k)) ∙ waiting-changed l r known same }

    pub key-now : r.kind ≡ 6 → {ws : List Removal}
        → ws ≡ set (waiting_for l) r.index (removal_as (dots_from (under_index 5 r.index) l)
        (map (λ x. x.key) (those (under_index 6 r.index) l) ++ (r.key ∷ []))) → WaitingNow l r false ws
    key-now k e =
        let fit = fits-key k ∙ lt-ltb _ _ known in
        record {
          lost = rw fit;
          held = λ _. e ∙ ap (set (waiting_for l) r.index) (sym (key-removal l r k))
              ∙ waiting-changed l r known (count_same l r (λ q. omega arith));
        }

  -- a removal behind the last
  pub new-now : scan_number 1 6 (l ++ (r ∷ [])) ≡ 0 → r.kind ≡ 5 → r.index ≡ waiting_count l → {ws : List Removal}
      → ws ≡ waiting_for l ++ (removal_as (dot_of r ∷ []) [] ∷ []) → WaitingNow l r false ws
  new-now good k i e = record { lost = rw (fits-dot k ∙ le-leb r.index (waiting_count l) (omega arith)); held = λ _. e ∙ waiting-new l r good k i }

  -- whatever the removals are, once r does not find what it needs
  missed : waiting_fits (waiting_count l) r ≡ false → (ws : List Removal) → WaitingNow l r true ws
  missed none ws = record { lost = rw none; held = λ t. apart (sym t ∙ none) }

  -- neither a removal that is there nor the next one
  pub removal-lost : 5 ≤ r.kind → r.kind ≤ 6 → waiting_count l ≤ r.index → (eqb r.kind 5 && eqb r.index (waiting_count l)) ≡ false
      → (ws : List Removal) → WaitingNow l r true ws
  removal-lost low high h n =
      decide (eqb r.kind 5)
      (λ t. let other = eqb-false r.index (waiting_count l) (rw t at n) in missed
      (fits-dot (eqb-true r.kind 5 t) ∙ lt-leb r.index (waiting_count l) (omega (arith, other))))
      (λ f. let six : r.kind ≡ 6 = omega (arith, eqb-false r.kind 5 f) in missed (fits-key six ∙ le-ltb r.index (waiting_count l) h))

  pub waiting-untouched : {ws : List Removal} → ws ≡ waiting_for l → (r.kind ≡ 5 → ⊥) → (r.kind ≡ 6 → ⊥) → WaitingNow l r false ws
  waiting-untouched held a b = record { lost = rw (ne_eqb r.kind 5 a, ne_eqb r.kind 6 b); held = λ _. held ∙ sym (waiting-same l r a b) }
