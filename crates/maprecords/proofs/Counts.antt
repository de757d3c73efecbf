-- Good records leave room in the map that they stand for.
use mathlib.Core.Path.{◌≡◌, refl, ap, sym, ◌∙◌}
use mathlib.Core.Bool.{Bool, true, false, cond, ◌&&◌, ◌||◌}
use mathlib.Core.Logic.{⊎_elim}
use mathlib.Core.List.Memᴰ
use mathlib.Core.List.{List, [], ◌∷◌, ◌++◌, append-nil, append_assoc}
use Prim.Native.Nat.{ℕ, ◌+◌, ◌≤◌, ◌<◌, max}
use native.Mathlib.Omega.{arith}
use lib.Dec.{eqb, leb}
use lib.ListN.{length, length-append, length-map}
use borrow.Author.Tests.{eq-eqb, eqb-true, eqb-false, leb-true, ne_eqb}
use Rattle.listlaws.specs.Order.{◌∈◌}
use Rattle.listlaws.specs.Sift.{those}
use Rattle.listlaws.specs.First.{some}
use Rattle.listlaws.specs.Fold.{fold}
use Rattle.listlaws.proofs.Folds.{fold-append}
use Rattle.listlaws.proofs.Orders.{apart}
use Rattle.listlaws.proofs.Those.{those-same}
use Rattle.listlaws.proofs.Tally.{some-snoc}
use Rattle.listlaws.proofs.Somes.{false-some}
use Rattle.limits.specs.Limits.{dot_limit, value_limit, entry_limit, key_limit}
use Rattle.records.specs.declared.Record.{Record}
use Rattle.records.specs.Kinds.{before, record_ok}
use Rattle.scan.specs.Formed.{follows, well_formed}
use Rattle.scan.specs.Limits.{outer, middle, Limits, today, outer_by, middle_limits, inner_limits, limit_at, same_kind, same_outer, same_middle}
use Rattle.scan.specs.Limits.{tally}
use Rattle.scan.specs.Limits.{room_by, within_by, within}
use Rattle.scan.specs.Numbers.{scan_number}
use Rattle.scan.proofs.Eachs.{decide, both, both_left, both_right, every-at, each_snoc}
use Rattle.scan.proofs.Befores.{before-fields}
use Rattle.scan.proofs.Tallies.{tally-snoc, tally-new, tally-other}
use Rattle.scan.proofs.Scans.{formed-snoc, alike, alike-outer, alike-middle, alike-index, outer-key}
use Rattle.scan.proofs.Scanning.{scan_good, scan-last}
use Rattle.records.proofs.Rule.{is_dot}
use Rattle.scan.proofs.Rooms.{good-at, no_index, no_key, inner_room, middle-room}
use Rattle.clockimage.specs.Image.{is_kind, dot_of, dots_from}
use Rattle.maprecords.specs.Reading.{under_key, under_index, under_both, entry_keys, waiting_count}
use Rattle.maprecords.proofs.Entries.{keys-more, keys-same}

-- tests that hold together
alike-tests : (a b : Bool) → (a ≡ true → b ≡ true) → (b ≡ true → a ≡ true) → a ≡ b
alike-tests true b f g = sym (f refl)
alike-tests false b f g = decide b (λ t. g t ∙ sym t) (λ n. sym n)

-- what holds of no records, and of one more wherever it holds, holds
pub by-records : (P : List Record → Type 0) → P [] → ((l : List Record) (r : Record) → P l → P (l ++ (r ∷ []))) → (l : List Record) → P l
by-records P none more l = go [] l none
  where
    go : (seen m : List Record) → P seen → P (seen ++ m)
    go seen [] p = rw (append-nil seen) p
    go seen (x ∷ m) p = rw (← append_assoc seen (x ∷ []) m) (go (seen ++ (x ∷ [])) m (more seen x p))

-- how many waiting removals there are, with one record more
pub count-snoc : (l : List Record) (r : Record) → waiting_count (l ++ (r ∷ [])) ≡ cond (is_kind 5 r) (max (waiting_count l) (r.index + 1))
    (waiting_count l)
unfolding waiting_count fold
count-snoc l r = fold-append (λ n x. cond (is_kind 5 x) (max n (x.index + 1)) n) 0 l (r ∷ [])

pub count-more : (l : List Record) (r : Record) → r.kind ≡ 5 → waiting_count (l ++ (r ∷ [])) ≡ max (waiting_count l) (r.index + 1)
count-more l r k = count-snoc l r ∙ rw (eq-eqb r.kind 5 k)

pub count_same : (l : List Record) (r : Record) → (r.kind ≡ 5 → ⊥) → waiting_count (l ++ (r ∷ [])) ≡ waiting_count l
count_same l r n = count-snoc l r ∙ rw (ne_eqb r.kind 5 n)

-- each index is below the count
pub indexes-below : (l : List Record) (s : Record) → s ∈ l → s.kind ≡ 5 → s.index < waiting_count l
indexes-below l = by-records (λ m. (s : Record) → s ∈ m → s.kind ≡ 5 → s.index < waiting_count m) (λ s i k. absurd (Memᴰ.not-nil i)) more l
  where
    more : (m : List Record) (r : Record) → ((s : Record) → s ∈ m → s.kind ≡ 5 → s.index < waiting_count m) → (s : Record) → s ∈ (m ++ (r ∷ []))
        → s.kind ≡ 5 → s.index < waiting_count (m ++ (r ∷ []))
    more m r h s i k =
        decide (eqb r.kind 5)
        (λ t. let e = count-more m r (eqb-true r.kind 5 t) in
        ⊎_elim (λ j. let b = h s j k in omega arith) (λ j. let q : s ≡ r = Memᴰ.eq_of_singleton j in let b = ap (λ (x : Record). x.index) q in
        omega arith) (Memᴰ.append_cases m i))
        (λ f. let n = eqb-false r.kind 5 f in
        let e = count_same m r n in
        ⊎_elim (λ j. let b = h s j k in omega arith) (λ j. let q : s ≡ r = Memᴰ.eq_of_singleton j in
        absurd (n (ap (λ (x : Record). x.kind) (sym q) ∙ k))) (Memᴰ.append_cases m i))

module _ (l : List Record) (r : Record) (z : scan_number 1 6 (l ++ (r ∷ [])) ≡ 0) where
  formed : well_formed 1 6 (l ++ (r ∷ [])) ≡ true
  formed = (scan_good 1 6 (l ++ (r ∷ [])) z).0

  few : within (l ++ (r ∷ [])) ≡ true
  few = (scan_good 1 6 (l ++ (r ∷ [])) z).1

  good : (x : Record) → x ∈ l → record_ok 1 6 x ≡ true
  good x i = good-at 1 6 (l ++ (r ∷ [])) formed x (Memᴰ.append_left (r ∷ []) i)

  last-good : record_ok 1 6 r ≡ true
  last-good = scan-last 1 6 l r z

  -- kinds ascend
  pub kinds-ascend : (s : Record) → s ∈ l → s.kind ≤ r.kind
  kinds-ascend s i =
      let f = both_right (well_formed 1 6 l) (follows 1 6 l r) (sym (formed-snoc 1 6 l r) ∙ formed) in
      (before-fields (every-at (λ x. before x r) l s (both_right (record_ok 1 6 r) _ f) i)).kind

  -- entry dots
  pub entry-dots-room : r.kind ≡ 2 → length (dots_from (under_key 2 r.key) l) < dot_limit
  entry-dots-room k =
      rw (length-map (those (under_key 2 r.key) l) dot_of, those-same (under_key 2 r.key) (same_middle r) l same)
      (let b = inner_room 1 6 l r formed few (λ e. omega arith) in let e = ap (limit_at inner_limits) k in omega arith)
    where
      zero-index : (x : Record) → record_ok 1 6 x ≡ true → x.kind ≡ 2 → x.index ≡ 0
      zero-index x g e = no_index 1 6 x g e refl

      same : (x : Record) → x ∈ l → under_key 2 r.key x ≡ same_middle r x
      same x i =
          alike-tests (under_key 2 r.key x) (same_middle r x)
          (λ t. let xk = eqb-true x.kind 2 (both_left (is_kind 2 x) (eqb x.key r.key) t) in
          alike-middle r x (λ e. omega arith) (xk ∙ sym k) (eqb-true x.key r.key (both_right (is_kind 2 x) (eqb x.key r.key) t))
          (zero-index x (good x i) xk ∙ sym (zero-index r last-good k)))
          (λ t. let h = alike r x (λ e. omega arith) (both_left (same_outer r x) (eqb (middle x) (middle r)) t) in
          both (is_kind 2 x) (eqb x.key r.key) (eq-eqb x.kind 2 (h.kind ∙ k)) (eq-eqb x.key r.key h.key))

  -- values
  pub values-room : r.kind ≡ 3 → length (those (under_key 3 r.key) l) < value_limit
  values-room k =
      rw (those-same (under_key 3 r.key) (same_outer r) l same)
      (let b = middle-room 1 6 l r formed few (ap is_dot k) in let e = ap (limit_at middle_limits) k in omega arith)
    where
      same : (x : Record) → x ∈ l → under_key 3 r.key x ≡ same_outer r x
      same x i =
          alike-tests (under_key 3 r.key x) (same_outer r x)
          (λ t. alike-outer r x (λ e. omega arith) (eqb-true x.kind 3 (both_left (is_kind 3 x) (eqb x.key r.key) t) ∙ sym k)
          (eqb-true x.key r.key (both_right (is_kind 3 x) (eqb x.key r.key) t)))
          (λ t. let h = alike r x (λ e. omega arith) t in both (is_kind 3 x) (eqb x.key r.key) (eq-eqb x.kind 3 (h.kind ∙ k))
          (eq-eqb x.key r.key h.key))

  -- value dots
  pub value-dots-room : r.kind ≡ 4 → length (dots_from (under_both 4 r.key r.index) l) < dot_limit
  value-dots-room k =
      rw (length-map (those (under_both 4 r.key r.index) l) dot_of, those-same (under_both 4 r.key r.index) (same_middle r) l same)
      (let b = inner_room 1 6 l r formed few (λ e. omega arith) in let e = ap (limit_at inner_limits) k in omega arith)
    where
      same : (x : Record) → x ∈ l → under_both 4 r.key r.index x ≡ same_middle r x
      same x i =
          alike-tests (under_both 4 r.key r.index x) (same_middle r x)
          (λ t. let u = both_left (under_key 4 r.key x) (eqb x.index r.index) t in
          alike-middle r x (λ e. omega arith) (eqb-true x.kind 4 (both_left (is_kind 4 x) (eqb x.key r.key) u) ∙ sym k)
          (eqb-true x.key r.key (both_right (is_kind 4 x) (eqb x.key r.key) u))
          (eqb-true x.index r.index (both_right (under_key 4 r.key x) (eqb x.index r.index) t)))
          (λ t. let h = alike r x (λ e. omega arith) (both_left (same_outer r x) (eqb (middle x) (middle r)) t) in
          both (under_key 4 r.key x) (eqb x.index r.index) (both (is_kind 4 x) (eqb x.key r.key) (eq-eqb x.kind 4 (h.kind ∙ k))
          (eq-eqb x.key r.key h.key))
          (eq-eqb x.index r.index (alike-index r x (λ e. omega arith) t)))

  -- waiting dots
  pub waiting-dots-room : r.kind ≡ 5 → length (dots_from (under_index 5 r.index) l) < dot_limit
  waiting-dots-room k =
      rw (length-map (those (under_index 5 r.index) l) dot_of, those-same (under_index 5 r.index) (same_middle r) l same)
      (let b = inner_room 1 6 l r formed few (λ e. omega arith) in let e = ap (limit_at inner_limits) k in omega arith)
    where
      zero-key : (x : Record) → record_ok 1 6 x ≡ true → x.kind ≡ 5 → x.key ≡ 0
      zero-key x g e = no_key 1 6 x g e refl

      same : (x : Record) → x ∈ l → under_index 5 r.index x ≡ same_middle r x
      same x i =
          alike-tests (under_index 5 r.index x) (same_middle r x)
          (λ t. let xk = eqb-true x.kind 5 (both_left (is_kind 5 x) (eqb x.index r.index) t) in
          alike-middle r x (λ e. omega arith) (xk ∙ sym k) (zero-key x (good x i) xk ∙ sym (zero-key r last-good k))
          (eqb-true x.index r.index (both_right (is_kind 5 x) (eqb x.index r.index) t)))
          (λ t. let h = alike r x (λ e. omega arith) (both_left (same_outer r x) (eqb (middle x) (middle r)) t) in
          both (is_kind 5 x) (eqb x.index r.index) (eq-eqb x.kind 5 (h.kind ∙ k))
          (eq-eqb x.index r.index (alike-index r x (λ e. omega arith) t)))

  -- waiting keys
  pub waiting-keys-room : r.kind ≡ 6 → length (those (under_index 6 r.index) l) < key_limit
  waiting-keys-room k =
      rw (those-same (under_index 6 r.index) (same_outer r) l same)
      (let b = middle-room 1 6 l r formed few (ap is_dot k) in let e = ap (limit_at middle_limits) k in omega arith)
    where
      by_index : (x : Record) → x.kind ≡ 6 → outer x ≡ x.index
      by_index x e = rw (eq-eqb x.kind 6 e)

      same : (x : Record) → x ∈ l → under_index 6 r.index x ≡ same_outer r x
      same x i =
          alike-tests (under_index 6 r.index x) (same_outer r x)
          (λ t. let xk = eqb-true x.kind 6 (both_left (is_kind 6 x) (eqb x.index r.index) t) in
          both (same_kind r x) (eqb (outer x) (outer r)) (eq-eqb x.kind r.kind (xk ∙ sym k))
          (eq-eqb (outer x) (outer r) (by_index x xk ∙ eqb-true x.index r.index (both_right (is_kind 6 x) (eqb x.index r.index) t)
          ∙ sym (by_index r k))))
          (λ t. let xk = eqb-true x.kind r.kind (both_left (same_kind r x) (eqb (outer x) (outer r)) t) ∙ k in
          both (is_kind 6 x) (eqb x.index r.index) (eq-eqb x.kind 6 xk)
          (eq-eqb x.index r.index (sym (by_index x xk) ∙ eqb-true (outer x) (outer r) (both_right (same_kind r x) (eqb (outer x) (outer r)) t)
          ∙ by_index r k)))

-- a tally never falls
pub tally-grows : (group : Record → Bool) (f : Record → ℕ) (l : List Record) (r : Record) → tally group f l ≤ tally group f (l ++ (r ∷ []))
tally-grows group f l r = rw (tally-snoc group f l r) (go (Rattle.scan.specs.Limits.fresh group f l r))
  where
    go : (b : Bool) → tally group f l ≤ cond b (tally group f l + 1) (tally group f l)
    go true = omega arith
    go false = omega arith

-- each entry's key is counted
pub record KeysCounted (l : List Record) : Type 0 where
  pub few : length (entry_keys l) ≤ tally (is_kind 2) outer l
  pub all : (s : Record) → s ∈ l → s.kind ≡ 2 → some (λ x. eqb x s.key) (entry_keys l) ≡ true

pub keys-counted : (l : List Record) → KeysCounted l
unfolding entry_keys fold
keys-counted l = by-records KeysCounted (record { few = omega arith; all = λ s i k. absurd (Memᴰ.not-nil i) }) more l
  where
    more : (m : List Record) (r : Record) → KeysCounted m → KeysCounted (m ++ (r ∷ []))
    more m r c =
        decide (eqb r.kind 2)
        (λ a. let k = eqb-true r.kind 2 a in
        decide (some (λ x. eqb x r.key) (entry_keys m))
        (λ t. let same : entry_keys (m ++ (r ∷ [])) ≡ entry_keys m = keys-more m r k ∙ rw t in
        record {
          few = let g = tally-grows (is_kind 2) outer m r in let h = c.few in rw same (omega arith);
          all = λ s i sk. rw same (⊎_elim (λ j. c.all s j sk) (λ j. ap (λ q. some (λ x. eqb x q.key) (entry_keys m)) (Memᴰ.eq_of_singleton j)
              ∙ t) (Memᴰ.append_cases m i));
        })
        (λ f. let same : entry_keys (m ++ (r ∷ [])) ≡ entry_keys m ++ (r.key ∷ []) = keys-more m r k ∙ rw f in
        let n = length-append (entry_keys m) (r.key ∷ []) in
        record {
          few = let g = tally-new (is_kind 2) outer m r a (false-some (λ s. is_kind 2 s && eqb (outer s) (outer r)) m (λ s i. fresh s i k f)) in
              let h = c.few in rw same (omega arith);
          all = λ s i sk. rw (same, some-snoc (λ x. eqb x s.key) (entry_keys m) r.key)
              (⊎_elim (λ j. rw (c.all s j sk)) (λ j. let e : s ≡ r = Memᴰ.eq_of_singleton j in
              rw (eq-eqb r.key s.key (ap (λ (q : Record). q.key) (sym e))) (right (some (λ x. eqb x s.key) (entry_keys m))))
              (Memᴰ.append_cases m i));
        }))
        (λ a. let k = eqb-false r.kind 2 a in
        let same = keys-same m r k in
        record {
          few = let g = tally-other (is_kind 2) outer m r a in let h = c.few in rw same (omega arith);
          all = λ s i sk. rw same (⊎_elim (λ j. c.all s j sk) (λ j. let e : s ≡ r = Memᴰ.eq_of_singleton j in
              absurd (k (ap (λ (q : Record). q.kind) (sym e) ∙ sk))) (Memᴰ.append_cases m i));
        })
      where
        right : (b : Bool) → (b || true) ≡ true
        right true = refl
        right false = refl

        fresh : (s : Record) → s ∈ m → r.kind ≡ 2 → some (λ x. eqb x r.key) (entry_keys m) ≡ false
            → (is_kind 2 s && eqb (outer s) (outer r)) ≡ false
        fresh s i k f =
            decide (is_kind 2 s && eqb (outer s) (outer r))
            (λ t. let sk = eqb-true s.kind 2 (both_left (is_kind 2 s) (eqb (outer s) (outer r)) t) in
            let y = sym (outer-key s (λ e. omega arith)) ∙ eqb-true (outer s) (outer r) (both_right (is_kind 2 s) (eqb (outer s) (outer r)) t)
            ∙ outer-key r (λ e. omega arith) in
            apart (sym (c.all s i sk) ∙ ap (λ q. some (λ x. eqb x q) (entry_keys m)) y ∙ f))
            (λ n. n)

-- limits leave no more entries than they say
pub entries-most : (t : Limits) (l : List Record) → within_by t l ≡ true → length (entry_keys l) ≤ t.entries
unfolding entry_keys fold
entries-most t = by-records (λ l. within_by t l ≡ true → length (entry_keys l) ≤ t.entries) (λ h. omega arith) more
  where
    more : (l : List Record) (r : Record) → (within_by t l ≡ true → length (entry_keys l) ≤ t.entries) → within_by t (l ++ (r ∷ [])) ≡ true
        → length (entry_keys (l ++ (r ∷ []))) ≤ t.entries
    more l r p h =
        let s = sym (each_snoc (room_by t) l r) ∙ h in
        decide (eqb r.kind 2)
        (λ a. let k = eqb-true r.kind 2 a in
        let all = tally (same_kind r) outer (l ++ (r ∷ [])) in
        let most = limit_at (outer_by t) r.kind in
        let b : all ≤ most = leb-true all most (both_left (leb all most) _ (both_right (within_by t l) (room_by t l r) s)) in
        let e : most ≡ t.entries = ap (limit_at (outer_by t)) k in
        let c = (keys-counted (l ++ (r ∷ []))).few in
        let same = ap (λ j. tally (λ x. eqb x.kind j) outer (l ++ (r ∷ []))) k in
        omega arith)
        (λ a. let old = p (both_left (within_by t l) (room_by t l r) s) in let e = ap length (keys-same l r (eqb-false r.kind 2 a)) in omega arith)

-- so there is room for a new one
pub entries-room : (l : List Record) (r : Record) → scan_number 1 6 (l ++ (r ∷ [])) ≡ 0 → r.kind ≡ 2
    → some (λ x. eqb x r.key) (entry_keys l) ≡ false → length (entry_keys l) < entry_limit
unfolding within
entries-room l r z k f =
    let one : entry_keys (l ++ (r ∷ [])) ≡ entry_keys l ++ (r.key ∷ []) = keys-more l r k ∙ rw f in
    omega (arith, entries-most today (l ++ (r ∷ [])) (few l r z), ap length one ∙ length-append (entry_keys l) (r.key ∷ []))
