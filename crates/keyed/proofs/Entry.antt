-- The records of a key's entry among those of all entries: where the two searches end.
use mathlib.Core.Path.{◌≡◌, refl, ap, sym, ◌∙◌}
use mathlib.Core.Bool.{Bool, true, false, ◌&&◌}
use mathlib.Core.Logic.{◌⊎◌, inl, inr, ⊎_elim}
use mathlib.Core.List.Memᴰ
use mathlib.Core.List.{List, [], ◌∷◌, ◌++◌, append-nil, append_assoc}
use Prim.Native.Nat.{ℕ, ◌+◌, ◌*◌, ◌≤◌, ◌<◌}
use native.Mathlib.Omega.{arith}
use lib.Dec.{eqb, ltb, leb}
use lib.ListN.{length}
use borrow.Author.Tests.{ltb-true, ltb-false, lt-ltb, le-ltb, le-leb, lt-leb, leb-true, eqb-true, eqb-false, ne_eqb}
use Rattle.listlaws.specs.Sift.{sift, those}
use Rattle.listlaws.specs.First.{first_in}
use Rattle.listlaws.specs.Order.{◌∈◌, Ascending, by, nil, next}
use Rattle.listlaws.proofs.Those.{those-means, those-ascends, those-same, those-all, those-none, those-those}
use Rattle.scan.proofs.Eachs.{decide}
use Rattle.register.specs.declared.Value.{Value}
use Rattle.entries.specs.declared.Entry.{Entry}
use Rattle.entries.specs.Model.{values_in, entry_as}
use Rattle.entries.specs.Entries.{entry_at}
use Rattle.entries.specs.Valid.{ValidValue}
use Rattle.entries.proofs.Puts.{at_every}
use Rattle.entries.proofs.Limits.{EntryFits}
use Rattle.map.specs.declared.Map.{Map}
use Rattle.map.specs.Model.{entries_in}
use Rattle.map.proofs.Accepts.{fits-means}
use Rattle.records.specs.declared.Record.{Record}
use Rattle.mapimage.specs.MapImage.{flat_from, entry_records}
use Rattle.oneimagelaws.proofs.Stands.{place_in, flat-means-from}
use Rattle.walks.specs.declared.Layout.{Layout}
use Rattle.walks.specs.declared.Span.{Span}
use Rattle.keyed.specs.declared.Spans.{Spans}
use Rattle.walks.specs.Walk.{part, Splits}
use Rattle.layout.specs.Whole.{Lies}
use Rattle.keyed.specs.Keyed.{RecordsLie, EntryLies}
use Rattle.walks.proofs.Loops.{sections-end}
use Rattle.layout.proofs.Entered.{record-key}
use Rattle.layout.proofs.Found.{cut_at}

-- an ascending list, cut where a rank begins
below-above : {A : Type 0} (rank : A → ℕ) (n : ℕ) {l : List A} → Ascending (by rank) l
    → l ≡ those (λ x. ltb (rank x) n) l ++ those (λ x. leb n (rank x)) l
unfolding sift
below-above rank n nil = refl
below-above rank n (next {x = x} {l = l} f a) =
    decide (ltb (rank x) n)
    (λ t. rw (t, lt-leb n (rank x) (ltb-true (rank x) n t)) (ap (λ y. x ∷ y) (below-above rank n a)))
    (λ t.
    let h = ltb-false (rank x) n t in
    let later : (y : _) → y ∈ l → n ≤ rank y = λ y i. (let k = ltb-true (rank x) (rank y) (f y i) in omega arith) in
    rw (
      t,
      le-leb n (rank x) h,
      those-none (λ y. ltb (rank y) n) l (λ y i. le-ltb (rank y) n (later y i)),
      those-all (λ y. leb n (rank y)) l (λ y i. le-leb n (rank y) (later y i)),
    ))

-- the entries of a key
abbrev pub held_at : ℕ → List Entry → List Entry
held_at key l = those (λ e. eqb e.key key) l

between : (key : ℕ) (l : List Entry) → those (λ e. ltb e.key (key + 1)) (those (λ e. leb key e.key) l) ≡ held_at key l
between key l = those-those (λ e. ltb e.key (key + 1)) (λ e. leb key e.key) l ∙ those-same _ _ l (λ e i. same e.key)
  where
    same : (n : ℕ) → (leb key n && ltb n (key + 1)) ≡ eqb n key
    same n =
        decide (eqb n key)
        (λ t. let q = eqb-true n key t in rw (t, le-leb key n (omega arith), lt-ltb n (key + 1) (omega arith)))
        (λ f. let q = eqb-false n key f in
        decide (ltb n key) (λ t. let k = ltb-true n key t in rw (f, lt-leb key n k)) (λ t. let k = ltb-false n key t in
        rw (f, le-leb key n k, le-ltb n (key + 1) (above n k q))))
      where
        above : (n : ℕ) → key ≤ n → (n ≡ key → ⊥) → key + 1 ≤ n
        above n k q = omega arith

-- of a key there is one entry, or none
one-held : (key : ℕ) {l : List Entry} → Ascending (by (λ e. e.key)) l
    → ((e : Entry) × (held_at key l ≡ e ∷ []) × (entry_at key l ≡ e)) ⊎ ((held_at key l ≡ []) × (entry_at key l ≡ entry_as key [] []))
unfolding sift entry_at first_in
one-held key nil = inr (refl, refl)
one-held key (next {x = x} {l = l} f a) =
    decide (eqb x.key key)
    (λ t.
    let q = eqb-true x.key key t in
    let none = those-none (λ e. eqb e.key key) l (λ y i. ne_eqb y.key key (λ e. let k = ltb-true x.key y.key (f y i) in omega arith)) in
    inl (x, rw t (ap (λ y. x ∷ y) none), rw t))
    (λ t. rw t (one-held key a))

-- its records
module _ (kind key : ℕ) where
  no-records : (b : Bool) → eqb kind 2 ≡ b → entry_records kind 0 (entry_as key [] []) ≡ []
  unfolding flat_from
  no-records true t = rw t
  no-records false t = rw t

  pub held-records : {l : List Entry} → Ascending (by (λ e. e.key)) l
      → flat_from (entry_records kind) 0 (held_at key l) ≡ entry_records kind 0 (entry_at key l)
  unfolding flat_from
  held-records a =
      ⊎_elim (λ r. rw (r.1, r.2) (append-nil (entry_records kind 0 r.0))) (λ r. rw (r.0, r.1) (sym (no-records (eqb kind 2) refl)))
      (one-held key a)

-- the records of entries in two lists, wherever they are counted from
pub flat-any : (kind i j : ℕ) (l : List Entry) → flat_from (entry_records kind) i l ≡ flat_from (entry_records kind) j l
unfolding flat_from
flat-any kind i j [] = refl
flat-any kind i j (x ∷ l) = ap (λ y. entry_records kind 0 x ++ y) (flat-any kind (i + 1) (j + 1) l)

flat_append : (kind i j k : ℕ) (l m : List Entry) → flat_from (entry_records kind) i (l ++ m) ≡ flat_from (entry_records kind) j l ++ flat_from
    (entry_records kind) k m
unfolding flat_from
flat_append kind i j k [] m = flat-any kind i k m
flat_append kind i j k (x ∷ l) m =
    ap (λ y. entry_records kind 0 x ++ y) (flat_append kind (i + 1) (j + 1) k l m)
    ∙ sym (append_assoc (entry_records kind 0 x) (flat_from (entry_records kind) (j + 1) l) (flat_from (entry_records kind) k m))

pub flat-key : (kind i : ℕ) (l : List Entry) (P : ℕ → Type 0) → ((e : Entry) → e ∈ l → P e.key) → (r : Record)
    → r ∈ flat_from (entry_records kind) i l → P r.key
flat-key kind i l P f r m =
    let w = flat-means-from (entry_records kind) i l r m in
    rw (record-key kind (i + w.place) w.source r w.given) (f w.source (place_in w.stands))

-- the searches for a key and for what is behind it find the records of its entry
module _ (s : List ℕ) (key from end first behind : ℕ) (h : from ≤ end) (inside : first ≤ end)
    (one : (at : ℕ) → Splits s 1 key from end at → first ≡ at) (two : (at : ℕ) → Splits s 1 (key + 1) first end at → behind ≡ at) where
  pub key-part : (kind : ℕ) (l : List Entry) → Ascending (by (λ e. e.key)) l → part s from end ≡ flat_from (entry_records kind) 0 l
      → part s first behind ≡ entry_records kind 0 (entry_at key l)
  key-part kind l a e =
      let low = those (λ x. ltb x.key key) l in
      let rest = those (λ (x : Entry). leb key x.key) l in
      let held = those (λ x. ltb x.key (key + 1)) rest in
      let high = those (λ (x : Entry). leb (key + 1) x.key) rest in
      let b = those-ascends (λ (x : Entry). leb key x.key) a in
      let flat = flat_from (entry_records kind) 0 in
      let c = cut_at s 1 key from end (flat low) (flat rest) first h (e ∙ ap flat (below-above (λ x. x.key) key a) ∙ flat_append kind 0 0 0 low rest)
      (flat-key kind 0 low (λ n. n < key) (λ x i. ltb-true x.key key (those-means (λ (x : Entry). ltb x.key key) l i).1))
      (flat-key kind 0 rest (λ n. key ≤ n) (λ x i. leb-true key x.key (those-means (λ (x : Entry). leb key x.key) l i).1)) one in
      let d = cut_at s 1 (key + 1) first end (flat held) (flat high) behind inside
      (c.second ∙ ap flat (below-above (λ x. x.key) (key + 1) b) ∙ flat_append kind 0 0 0 held high)
      (flat-key kind 0 held (λ n. n < key + 1) (λ x i. ltb-true x.key (key + 1) (those-means (λ (x : Entry). ltb x.key (key + 1)) rest i).1))
      (flat-key kind 0 high (λ n. key + 1 ≤ n) (λ x i. leb-true (key + 1) x.key (those-means (λ (x : Entry). leb (key + 1) x.key) rest i).1))
      two in
      d.first ∙ ap flat (between key l) ∙ held-records kind key a

-- what a search for a key found in a section
abbrev pub Spanned : List ℕ → ℕ → ℕ → ℕ → Span → Type 0
Spanned s key from end r =
    ((from ≤ r.from) × ((r.from ≤ r.to) × (r.to ≤ end)))
    × ((kind : ℕ) (l : List Entry) → Ascending (by (λ e. e.key)) l → part s from end ≡ flat_from (entry_records kind) 0 l
    → part s r.from r.to ≡ entry_records kind 0 (entry_at key l))

-- the three sections of a map hold the records of its entry
module _ {s : List ℕ} {m : Map} {l : Layout} (h : Lies s m l) (key : ℕ) where
  abbrev its : Entry
  its = entry_at key (entries_in m)

  fits : EntryFits its
  fits =
      at_every EntryFits key (entries_in m) (λ e i q. (fits-means m h.within.limits).entries e i)
      (record { dots = omega arith; count = omega arith; each = λ v i. absurd (Memᴰ.not-nil i) })

  valid : (v : Value) → v ∈ values_in its → ValidValue v
  valid = at_every (λ e. (v : Value) → v ∈ values_in e → ValidValue v) key (entries_in m) (λ e i q. (h.within.valid.entries.each e i).values)
      (λ v i. absurd (Memᴰ.not-nil i))

  holds : (kind from end : ℕ) {r : Span} → end * 16 ≤ length s → part s from end ≡ flat_from (entry_records kind) 0 (entries_in m)
      → Spanned s key from end r → RecordsLie s (entry_records kind 0 its) r
  holds kind from end b e f = record {
    order = f.0.1.0;
    within = let k = f.0.1.1 in
        omega arith;
    records = f.1 kind (entries_in m) h.within.valid.entries.rising e;
  }

  pub entry-lies : {r : Spans} → Spanned s key l.second l.third r.dots → Spanned s key l.third l.fourth r.values
      → Spanned s key l.fourth l.fifth r.clocks → EntryLies s its r
  entry-lies a b c =
      let p = sections-end h.places in
      record {
        dots = holds 2 l.second l.third p.third (sym h.sections.second) a;
        short = fits.dots;
        register = record {
          key = its.key;
          few = fits.count;
          each = valid;
          short = fits.each;
          third = holds 3 l.third l.fourth p.fourth (sym h.sections.third) b;
          fourth = holds 4 l.fourth l.fifth p.fifth (sym h.sections.fourth) c;
        };
        key = refl;
      }
