-- The keys of a result's waiting removals, one key after the other.
use mathlib.Core.Path.{◌≡◌, refl, ap, ap₂, sym, ◌∙◌}
use mathlib.Core.Bool.{Bool, true, false, ◌||◌}
use mathlib.Core.List.Memᴰ
use mathlib.Core.List.{List, [], ◌∷◌, ◌++◌, map}
use mathlib.Core.Logic.{◌⊎◌, inl, inr, ⊎_elim}
use Prim.Native.Nat.{ℕ, suc, ◌+◌, ◌*◌, ◌^◌, ◌≤◌, ◌<◌, min}
use native.Mathlib.Omega.{arith}
use native.Mathlib.Numerals.{add-one}
use lib.Dec.{eqb, ltb, leb}
use lib.ListN.{length, drop, get_or, set, replicate, get_or-replicate}
use lib.Seq.{get_or-set_same, get_or-set_other, drop-cons}
use borrow.Author.Tests.{ltb-true, ltb-false, leb-true, lt-leb, le-leb, eqb-true, eqb-false}
use Rattle.listlaws.specs.Order.{◌∈◌, Ascending, by}
use Rattle.listlaws.specs.Sift.{sift, those}
use Rattle.listlaws.proofs.Orders.{apart, head-before, tail-ascends}
use Rattle.listlaws.proofs.Rests.{drop-end}
use Rattle.listlaws.proofs.Those.{those-same, those-none}
use Rattle.scan.proofs.Eachs.{decide}
use Rattle.removals.specs.declared.Removal.{Removal}
use Rattle.limits.specs.Limits.{waiting_limit}
use Rattle.records.specs.Records.{record_from, bytes_of}
use Rattle.records.specs.Writing.{Wrote}
use Rattle.records.proofs.RoundTrips.{by-fields}
use Rattle.records.proofs.Writing.{Writing, write-start, write-room, write-on, write-end}
use Rattle.mapimage.specs.MapImage.{flat_from, key_number, key_numbers, number_record, waiting_keys}
use Rattle.mapimage.proofs.Sorts.{order-ascends, from_start}
use Rattle.opimage.specs.OpImage.{key_record}
use Rattle.oneimagelaws.proofs.Stands.{place-get, place-reads}
use Rattle.walks.proofs.Loops.{part-on, part_end}
use Rattle.queued.specs.declared.Row.{Row}
use Rattle.queued.specs.Queue.{lists, Marked, rank, Keyed}
use Rattle.queued.specs.Planned.{Moves}
use Rattle.queued.specs.Rowed.{MarkGoes, Carried, RowLies, row_records}
use Rattle.queued.proofs.Ahead.{first_of, none_from, none_between}
use Rattle.queued.proofs.Marking.{numbers_of, lists-number, number_source}

-- a place of a list reads the same whatever stands behind the list
pub same_read : {A : Type 0} (l : List A) (i : ℕ) (d e : A) → i < length l → get_or l i d ≡ get_or l i e
same_read l i d e h = place-reads d (place-get l i e h)

-- i marks have been carried
pub record Carrying (under marks : List Bool) (table : List ℕ) (i : ℕ) (out : List Bool) : Type 0 where
  pub keeps : (j : ℕ) → get_or under j false ≡ true → get_or out j false ≡ true
  pub sets : (j : ℕ) → j < waiting_limit → MarkGoes marks table i j → get_or out j false ≡ true
  pub only : (j : ℕ) → get_or out j false ≡ true → (get_or under j false ≡ true) ⊎ MarkGoes marks table i j

module _ {under marks : List Bool} {table : List ℕ} where
  pub carry-start : Carrying under marks table 0 under
  carry-start = record { keeps = λ j t. t; sets = λ j h g. let k = g.low in absurd (omega arith); only = λ j t. inl t }

  module _ {i : ℕ} {out : List Bool} (c : Carrying under marks table i out) where
    wider : {j : ℕ} → MarkGoes marks table i j → MarkGoes marks table (i + 1) j
    wider g = record { from = g.from; low = let k = g.low in omega arith; set = g.set; to = g.to }

    -- of the next, or of those before it
    narrower : (P : Type 0) {j : ℕ} (g : MarkGoes marks table (i + 1) j) → (get_or marks i false ≡ true → get_or table i waiting_limit ≡ j → P)
        → (MarkGoes marks table i j → P) → P
    narrower P g f h =
        decide (eqb g.from i)
        (λ t. let q = eqb-true g.from i t in f (rw q at g.set) (rw q at g.to))
        (λ n. let q = eqb-false g.from i n in let k = g.low in h (record { from = g.from; low = omega arith; set = g.set; to = g.to }))

    pub carry-not : get_or marks i false ≡ false → Carrying under marks table (i + 1) out
    carry-not f = record {
      keeps = c.keeps;
      sets = λ j h g. narrower _ g (λ t e. apart (sym t ∙ f)) (λ k. c.sets j h k);
      only = λ j t. ⊎_elim (λ a. inl a) (λ b. inr (wider b)) (c.only j t);
    }

    module _ (t : get_or marks i false ≡ true) {p : ℕ} (e : p ≡ get_or table i waiting_limit) where
      pub carry-past : waiting_limit ≤ p → Carrying under marks table (i + 1) out
      carry-past n = record {
        keeps = c.keeps;
        sets = λ j h g. narrower _ g (λ u q. absurd (omega arith)) (λ k. c.sets j h k);
        only = λ j u. ⊎_elim (λ a. inl a) (λ b. inr (wider b)) (c.only j u);
      }

      pub carry-set : p < length out → Carrying under marks table (i + 1) (set out p true)
      carry-set room = record {
        keeps = λ j u. put j (λ n. c.keeps j u);
        sets = λ j h g. put j (λ n. narrower _ g (λ u q. absurd (n (sym q ∙ sym e))) (λ k. c.sets j h k));
        only = λ j u. decide (eqb j p)
            (λ w. inr (record { from = i; low = omega arith; set = t; to = sym e ∙ sym (eqb-true j p w) }))
            (λ n. ⊎_elim (λ a. inl a) (λ b. inr (wider b)) (c.only j (sym (get_or-set_other out p j true false (eqb-false j p n)) ∙ u)));
      }
        where
          put : (j : ℕ) → ((j ≡ p → ⊥) → get_or out j false ≡ true) → get_or (set out p true) j false ≡ true
          put j f =
              decide (eqb j p) (λ w. rw (eqb-true j p w) (get_or-set_same out p true false room))
              (λ n. let q = eqb-false j p n in get_or-set_other out p j true false q ∙ f q)

  pub carry-end : {i : ℕ} {out : List Bool} → Carrying under marks table i out → i ≡ waiting_limit → length out ≡ waiting_limit
      → Carried under marks table out
  carry-end c e n = record { whole = n; keeps = c.keeps; sets = rw e at c.sets; only = rw e at c.only }

-- the next key of a list that lies
module _ {s : List ℕ} {i n low : ℕ} {w : List Removal} (k : Keyed s i n (key_number 0 low) w) where
  module _ (inside : i < n) (byte : (record_from s (i * 16)).index < 256) where
    pub next-above : low ≤ (record_from s (i * 16)).key
    next-above =
        let f = first_of (key_number 0 low) (numbers_of w) (order-ascends (flat_from key_numbers 0 w))
        (sym (ap (map rank) (part-on s i n inside)) ∙ k.numbers) in
        let a = f.above in omega arith

    pub next-least : (a key : ℕ) → a < waiting_limit → lists w a key ≡ true → low ≤ key → (record_from s (i * 16)).key ≤ key
    next-least a key h t g =
        let f = first_of (key_number 0 low) (numbers_of w) (order-ascends (flat_from key_numbers 0 w))
        (sym (ap (map rank) (part-on s i n inside)) ∙ k.numbers) in
        let b = f.least (key_number a key) (lists-number w k.few a key t) (omega arith) in omega arith

  pub none-next : n ≤ i → (a key : ℕ) → lists w a key ≡ true → low ≤ key → ⊥
  none-next h a key t g =
      none_from (key_number 0 low) (numbers_of w) (sym (ap (map rank) (part_end s i n h)) ∙ k.numbers) (key_number a key)
      (lists-number w k.few a key t) (omega arith)

-- the lower of two numbers
pub lower : (a b : ℕ) {m : ℕ} → m ≡ min a b → (m ≤ a) × ((m ≤ b) × (m < a → m ≡ b))
lower a b e = (omega (arith, e), (omega (arith, e), λ h. omega (arith, e, h)))

-- the lower of two heads is the head of a list that has one, and no higher than the other's
pub record Heads (s : List ℕ) (i n : ℕ) (key : ℕ) : Type 0 where
  pub low : i < n → key ≤ (record_from s (i * 16)).key
  pub byte : i < n → (record_from s (i * 16)).index < 256

pub record Headed (s : List ℕ) (at end r : ℕ) : Type 0 where
  pub there : at < end → (r ≡ (record_from s (at * 16)).key) × ((r < 2 ^ 32) × ((record_from s (at * 16)).index < 256))
  pub past : end ≤ at → r ≡ 2 ^ 32

pub headed : (s : List ℕ) (at end r : ℕ) → (at < end → (r ≡ (record_from s (at * 16)).key) × ((r < 2 ^ 32) × ((record_from s (at * 16)).index < 256)))
    → (end ≤ at → r ≡ 2 ^ 32) → Headed s at end r
headed s at end r a b = record { there = a; past = b }

module _ {s : List ℕ} {i n : ℕ} {t : List ℕ} {j m a b key : ℕ} (ha : Headed s i n a) (hb : Headed t j m b) (some : (ltb i n || ltb j m) ≡ true)
    (low : (key ≤ a) × ((key ≤ b) × (key < a → key ≡ b))) where
  pub heads-first : Heads s i n key
  heads-first = record { low = λ h. let k = (ha.there h).0 in let l = low.0 in omega arith; byte = λ h. (ha.there h).1.1 }

  pub heads-second : Heads t j m key
  heads-second = record { low = λ h. let k = (hb.there h).0 in let l = low.1.0 in omega arith; byte = λ h. (hb.there h).1.1 }

  -- of which list it is
  pub head_of : ((i < n) × (key ≡ (record_from s (i * 16)).key)) ⊎ ((j < m) × (key ≡ (record_from t (j * 16)).key))
  head_of =
      decide (ltb i n)
      (λ u. let h = ltb-true i n u in
      decide (ltb key a)
      (λ v. let e = low.1.1 (ltb-true key a v) in
      decide (ltb j m) (λ x. inr (ltb-true j m x, e ∙ (hb.there (ltb-true j m x)).0))
      (λ x. absurd (let z = hb.past (ltb-false j m x) in let y = (ha.there h).1.0 in let k = low.0 in omega arith)))
      (λ v. inl (h, (let k = ltb-false key a v in let l = low.0 in let z : key ≡ a = omega arith in z ∙ (ha.there h).0))))
      (λ u. let x = ltb-true j m (rw u at some) in
      inr (x, (let z = ha.past (ltb-false i n u) in let y = (hb.there x).1.0 in let l = low.1.0 in low.1.1 (omega arith) ∙ (hb.there x).0)))

  pub head_small : key < 2 ^ 32
  head_small =
      ⊎_elim (λ x. let y = (ha.there x.0).1.0 in let l = low.0 in omega arith) (λ x. let y = (hb.there x.0).1.0 in let l = low.1.0 in
      omega arith) head_of

-- the row of the next key
module _ {s : List ℕ} {i n : ℕ} {t : List ℕ} {j m low : ℕ} {w v result : List Removal} {ours theirs : List ℕ}
    (kw : Keyed s i n (key_number 0 low) w) (kv : Keyed t j m (key_number 0 low) v) (mv : Moves w v result ours theirs) {key : ℕ}
    (hw : Heads s i n key)
    (hv : Heads t j m key)
    (of : ((i < n) × (key ≡ (record_from s (i * 16)).key)) ⊎ ((j < m) × (key ≡ (record_from t (j * 16)).key))) where
  pub row-above : low ≤ key
  row-above = ⊎_elim (λ x. let a = next-above kw x.0 (hw.byte x.0) in let e = x.1 in omega arith)
      (λ x. let a = next-above kv x.0 (hv.byte x.0) in let e = x.1 in omega arith) of

  -- no list has a key between
  behind : {u : List ℕ} {k l : ℕ} {x : List Removal} → Keyed u k l (key_number 0 low) x → Heads u k l key → (a c : ℕ) → a < waiting_limit
      → lists x a c ≡ true → low ≤ c → key ≤ c
  behind {u} {k} {l} kx hx a c h e g =
      decide (ltb k l) (λ t. let z = ltb-true k l t in let y = next-least kx z (hx.byte z) a c h e g in let o = hx.low z in omega arith)
      (λ f. absurd (none-next kx (ltb-false k l f) a c e g))

  row-none : (p c : ℕ) → p < waiting_limit → lists result p c ≡ true → low ≤ c → key ≤ c
  row-none p c h e g = ⊎_elim (λ b. behind kw hw b.from c b.low b.has g) (λ b. behind kv hv b.from c b.low b.has g)
      (mv.only p c h e)

  pub row_lies : {under : List Bool} → length under ≡ waiting_limit → Marked result key under → (x y : ℕ) → Keyed s x n (key_number 0 (key + 1)) w
      → Keyed t y m (key_number 0 (key + 1)) v → RowLies s n t m low w v result (record { key = key; under = under; i = x; j = y })
  row_lies z d x y a b = record { whole = z; above = row-above; none = row-none; marked = d; first = a; second = b }

-- the marks of two lists, carried to their places
pub row-marked : {w v result : List Removal} {ours theirs : List ℕ} → Moves w v result ours theirs → {key : ℕ} {mine yours one under : List Bool}
    → Marked w key mine → Marked v key yours
    → Carried (replicate waiting_limit false) mine ours one → Carried one yours theirs under → Marked result key under
row-marked {result = result} mv {key} {under = under} mw my c d = record {
  each = λ p h. decide (lists result p key)
      (λ e. rw e (⊎_elim (λ b. d.keeps p
      (c.sets p h (record { from = b.from; low = b.low; set = mw.each b.from b.low ∙ b.has; to = b.goes })))
      (λ b. d.sets p h (record { from = b.from; low = b.low; set = my.each b.from b.low ∙ b.has; to = b.goes })) (mv.only p key h e)))
      (λ f. rw f (decide (get_or under p false) (λ e. apart (sym (
      ⊎_elim (λ a. ⊎_elim (λ x. apart (sym x ∙ get_or-replicate {A = Bool} waiting_limit p false false h))
      (λ g. mv.first p key h (record { from = g.from; low = g.low; goes = g.to; has = sym (mw.each g.from g.low) ∙ g.set }))
      (c.only p a))
      (λ g. mv.second p key h (record { from = g.from; low = g.low; goes = g.to; has = sym (my.each g.from g.low) ∙ g.set }))
      (d.only p e)) ∙ f)) (λ z. z)));
}

-- the records of one key
module _ (key : ℕ) (under : List Bool) where
  pub row-yes : (i : ℕ) → i < length under → get_or under i false ≡ true
      → row_records key i (drop i under) ≡ (key_record 6 i key ∷ []) ++ row_records key (i + 1) (drop (i + 1) under)
  unfolding row_records
  row-yes i h t = rw (drop-cons under i false h, t, add-one)

  pub row-no : (i : ℕ) → i < length under → get_or under i false ≡ false → row_records key i (drop i under)
      ≡ row_records key (i + 1) (drop (i + 1) under)
  unfolding row_records
  row-no i h t = rw (drop-cons under i false h, t, add-one)

  pub row-end : (i : ℕ) → length under ≤ i → row_records key i (drop i under) ≡ []
  unfolding row_records
  row-end i h = rw (drop-end under i h)

-- a number that stands there comes first from itself on
pub first-there : (x : ℕ) (l : List ℕ) → Ascending (by (λ n. n)) l → x ∈ l → those (leb x) l ≡ x ∷ those (leb (x + 1)) l
unfolding sift
first-there x [] a i = absurd (Memᴰ.not-nil i)
first-there x (z ∷ l) a i =
    ⊎_elim
    (λ (e : x ≡ z). rw (le-leb x z (omega arith), lt-leb (x + 1) z (omega arith), e)
    (ap (λ k. z ∷ k) (those-same (leb x) (leb (x + 1)) l (λ y j. let k = ltb-true z y (head-before a y j) in
    le-leb x y (omega arith) ∙ sym (le-leb (x + 1) y (omega arith))))))
    (λ j. let k = ltb-true z x (head-before a x j) in rw (lt-leb x z k, lt-leb (x + 1) z (omega arith)) (first-there x l (tail-ascends a) j))
    (Memᴰ.cases_cons i)

module _ (result : List Removal) (few : length result ≤ waiting_limit) where
  abbrev numbers : List ℕ
  numbers = numbers_of result

  number-key : (p key : ℕ) → p < waiting_limit → number_record (key_number p key) ≡ key_record 6 p key
  number-key p key h = by-fields refl (omega arith) refl (omega arith) refl

  -- one index after the other
  row_from : (key p : ℕ) (l : List Bool) → p + length l ≡ waiting_limit → ((a : ℕ) → a < length l → get_or l a false ≡ lists result (p + a) key)
      → map number_record (those (leb (key_number p key)) numbers) ≡ row_records key p l ++ map number_record
      (those (leb (key_number waiting_limit key)) numbers)
  unfolding row_records
  row_from key p [] e f = let q : p ≡ waiting_limit = omega arith in
      ap (λ (k : ℕ). map number_record (those (leb (key_number k key)) numbers)) q
  row_from key p (b ∷ l) e f =
      let low : p < waiting_limit = omega arith in
      let z : p + 0 ≡ p = omega arith in
      let here : b ≡ lists result p key = f 0 (omega arith) ∙ ap (λ x. lists result x key) z in
      let again = row_from key (p + 1) l (omega arith) (λ a h. let q : p + suc a ≡ p + 1 + a = omega arith in
      f (suc a) (omega arith) ∙ ap (λ x. lists result x key) q) in
      let next : key_number p key + 1 ≡ key_number (p + 1) key = omega arith in
      decide b
      (λ t. rw t (ap (map number_record) (first-there (key_number p key) numbers (order-ascends (flat_from key_numbers 0 result))
      (lists-number result few p key (sym here ∙ t)))
      ∙ ap₂ (λ x y. x ∷ map number_record (those (leb y) numbers)) (number-key p key low) next ∙ ap (λ y. key_record 6 p key ∷ y) again))
      (λ u. rw u (ap (map number_record) (none_between (key_number p key) (key_number (p + 1) key) numbers (omega arith)
      (λ y i g h. let (j, k, c, e, t) = number_source result few y i in
      absurd (apart (sym (let same : j ≡ p = omega arith in let also : k ≡ key = omega arith in move j k same also t) ∙ sym here ∙ u)))) ∙ again))
    where
      move : (j k : ℕ) → j ≡ p → k ≡ key → lists result j k ≡ true → lists result p key ≡ true
      move j k e f t = rw (← e, ← f) t

  -- from a bound on: the records of the next key, and those of higher ones
  pub row_next : (low key : ℕ) (under : List Bool) → length under ≡ waiting_limit → low ≤ key
      → ((j k : ℕ) → j < waiting_limit → lists result j k ≡ true → low ≤ k → key ≤ k) → Marked result key under
      → map number_record (those (leb (key_number 0 low)) numbers) ≡ row_records key 0 under ++ map number_record
      (those (leb (key_number 0 (key + 1))) numbers)
  row_next low key under n h none marked =
      ap (map number_record) (none_between (key_number 0 low) (key_number 0 key) numbers (omega arith)
      (λ y i g z. let (j, k, c, e, t) = number_source result few y i in let b = none j k c t (omega arith) in omega arith))
      ∙ row_from key 0 under (omega arith) (λ a g. let z : a ≡ 0 + a = omega arith in marked.each a (omega arith) ∙ ap (λ x. lists result x key) z)
      ∙ ap (λ l. row_records key 0 under ++ map number_record l) (none_between (key_number waiting_limit key) (key_number 0 (key + 1)) numbers
      (omega arith)
      (λ y i g z. let (j, k, c, e, t) = number_source result few y i in omega arith))

  -- none is left
  pub row_last : (low : ℕ) → ((j k : ℕ) → j < waiting_limit → lists result j k ≡ true → low ≤ k → ⊥) → those (leb (key_number 0 low)) numbers ≡ []
  row_last low f =
      those-none (leb (key_number 0 low)) numbers
      (λ y i. let (j, k, c, e, t) = number_source result few y i in
      decide (leb (key_number 0 low) y) (λ u. let z = leb-true (key_number 0 low) y u in absurd (f j k c t (omega arith))) (λ u. u))

-- nothing is left in both images, so nothing of the result
module _ (low : ℕ) {s : List ℕ} {i n : ℕ} {t : List ℕ} {j m : ℕ} {w v result : List Removal} {ours theirs : List ℕ}
    (a : Keyed s i n (key_number 0 low) w) (b : Keyed t j m (key_number 0 low) v) (mv : Moves w v result ours theirs)
    (f : (ltb i n || ltb j m) ≡ false) where
  gone : (n ≤ i) × (m ≤ j)
  gone = decide (ltb i n) (λ t. apart (rw t at f)) (λ u. (ltb-false i n u, ltb-false j m (rw u at f)))

  pub key-gone : (p c : ℕ) → p < waiting_limit → lists result p c ≡ true → low ≤ c → ⊥
  key-gone p c h e g = ⊎_elim (λ x. none-next a gone.0 x.from c x.has g) (λ x. none-next b gone.1 x.from c x.has g)
      (mv.only p c h e)

  pub none_left : length result ≤ waiting_limit → those (leb (key_number 0 low)) (numbers_of result) ≡ []
  none_left few = row_last result few low key-gone

-- the keys below `low` are written, and the rest lies in both images
pub record KeysWriting (s : List ℕ) (n : ℕ) (t : List ℕ) (m : ℕ) (w v result : List Removal) (at : ℕ) (entry : List ℕ) (i j : ℕ) (out : List ℕ)
    (next : ℕ) : Type 0 where
  pub low : ℕ
  pub first : Keyed s i n (key_number 0 low) w
  pub second : Keyed t j m (key_number 0 low) v
  pub writing : Writing (waiting_keys result) (map number_record (those (leb (key_number 0 low)) (numbers_of result))) at entry out next

module _ {s : List ℕ} {n : ℕ} {t : List ℕ} {m : ℕ} {w v result : List Removal} {at : ℕ} {entry : List ℕ} where
  pub keys-start : {i j : ℕ} → Keyed s i n 0 w → Keyed t j m 0 v → at + length (waiting_keys result) * 16 ≤ length entry
      → KeysWriting s n t m w v result at entry i j entry at
  keys-start a b h = record {
    low = 0;
    first = a;
    second = b;
    writing = rw (from_start (numbers_of result))
        (write-start (waiting_keys result) at entry h);
  }

  module _ {i j : ℕ} {out : List ℕ} {next : ℕ} (k : KeysWriting s n t m w v result at entry i j out next) where
    pub keys_kept : length out ≡ length entry
    keys_kept = (write-room _ _ _ [] _ k.writing refl).1

    module _ (few : length result ≤ waiting_limit) {r : Row} (lies : RowLies s n t m k.low w v result r) where
      parts : map number_record (those (leb (key_number 0 k.low)) (numbers_of result)) ≡ row_records r.key 0 r.under ++ map number_record
          (those (leb (key_number 0 (r.key + 1))) (numbers_of result))
      parts = row_next result few k.low r.key r.under lies.whole lies.above lies.none lies.marked

      pub keys-room : next + length (row_records r.key 0 r.under) * 16 ≤ length out
      keys-room = (write-room _ _ _ (row_records r.key 0 r.under) _ k.writing parts).0

      pub keys_on : {p : List ℕ} {after : ℕ} → Wrote next (bytes_of (row_records r.key 0 r.under)) out p after
          → KeysWriting s n t m w v result at entry r.i r.j p after
      keys_on x = record {
        low = r.key + 1;
        first = lies.first;
        second = lies.second;
        writing = write-on _ _ _ (row_records r.key 0 r.under)
            k.writing parts x;
      }

    pub keys-end : {ours theirs : List ℕ} → Moves w v result ours theirs → length result ≤ waiting_limit → (ltb i n || ltb j m) ≡ false
        → Wrote at (bytes_of (waiting_keys result)) entry out next
    keys-end mv few f = write-end _ _ _ k.writing (ap (map number_record) (none_left k.low k.first k.second mv f few))
