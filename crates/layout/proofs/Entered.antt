-- The entries of an image: what the walk over kinds 2, 3 and 4 accepts is the records of valid entries, and it accepts those of all valid entries.
use mathlib.Core.Path.{◌≡◌, refl, ap, sym, ◌∙◌}
use mathlib.Core.Bool.{Bool, true, false, cond, ◌&&◌}
use mathlib.Core.Logic.{⊎_elim}
use mathlib.Core.List.Memᴰ
use mathlib.Core.List.{List, [], ◌∷◌, ◌++◌}
use Prim.Native.Nat.{ℕ, zero, suc, ◌+◌, ◌≤◌, ◌<◌}
use native.Mathlib.Omega.{arith}
use lib.Dec.{eqb, ltb, leb}
use lib.ListN.{length, drop, length-map}
use lib.Seq.{drop_at}
use borrow.Author.Tests.{ltb-true, lt-ltb, leb-true, le-leb, eqb-true, ne_eqb}
use Rattle.listlaws.specs.Order.{◌∈◌, nil, next}
use Rattle.listlaws.proofs.Orders.{apart, tail-ascends, head-before}
use Rattle.scan.proofs.Eachs.{decide, both_left, both_right}
use Rattle.clock.specs.declared.Dot.{Dot}
use Rattle.clock.specs.Dots.{dots_of, is_empty}
use Rattle.register.specs.declared.Value.{Value}
use Rattle.entries.specs.declared.Entry.{Entry}
use Rattle.limits.specs.Limits.{entry_limit, value_limit}
use Rattle.entries.specs.Model.{dots_in, values_in, entry_as}
use Rattle.entries.specs.Valid.{ValidEntry, ValidEntries}
use Rattle.entries.proofs.Packs.{dots-in, values-in}
use Rattle.entries.proofs.Limits.{EntryFits}
use Rattle.records.specs.declared.Record.{Record}
use Rattle.clockimage.specs.Image.{dot_record, dot_records}
use Rattle.mapimage.specs.MapImage.{flat_from, value_record, value_records, entry_records}
use Rattle.oneimagelaws.proofs.Stands.{place_in, flat-means-from}
use Rattle.walks.specs.declared.Passed.{Passed}
use Rattle.walks.specs.Walk.{is_none, first_key, ended, entries_end}
use Rattle.layout.proofs.Runs.{OwnRun, run-own, own-lawful, own-covers, own_of}
use Rattle.layout.proofs.Values.{threes, fours, Taken, values-mean, values-count}

pub none-nil : (l : List Record) → is_none l ≡ true → l ≡ []
none-nil [] t = refl
none-nil (x ∷ l) t = let k = eqb-true (length (x ∷ l)) 0 t in absurd (omega arith)

-- nothing is left
pub ended-means : (n : ℕ) (a b d : List Record) → ended n a b d ≤ entry_limit → (a ≡ []) × (b ≡ []) × (d ≡ []) × (ended n a b d ≡ n)
ended-means n a b d h =
    decide (is_none a && (is_none b && is_none d))
    (λ t. let u = both_right (is_none a) _ t in
    (none-nil a (both_left (is_none a) _ t), none-nil b (both_left (is_none b) _ u), none-nil d (both_right (is_none b) _ u), rw t))
    (λ f. absurd (let k = rw f at h in omega arith))

-- which of two numbers it is
choose : (P : ℕ → Type 0) (t : Bool) (x y : ℕ) → (t ≡ true → x ≤ entry_limit → P x) → (t ≡ false → y ≤ entry_limit → P y) → cond t x y ≤ entry_limit
    → P (cond t x y)
choose P true x y f g h = f refl h
choose P false x y f g h = g refl h

module _ (c : List Dot) where
  -- the entries that a walk takes
  pub record Entered (f n low : ℕ) (a b d : List Record) (many : ℕ) : Type 0 where
    pub entries : List Entry
    pub count : many ≡ n + length entries
    pub few : length entries ≤ f
    pub twos : a ≡ flat_from (entry_records 2) n entries
    pub threes : b ≡ flat_from (entry_records 3) n entries
    pub fours : d ≡ flat_from (entry_records 4) n entries
    pub valid : ValidEntries c entries
    pub fits : (e : Entry) → e ∈ entries → EntryFits e
    pub from : (e : Entry) → e ∈ entries → low ≤ e.key

  none : (f n low : ℕ) (a b d : List Record) → ended n a b d ≤ entry_limit → Entered f n low a b d (ended n a b d)
  unfolding flat_from
  none f n low a b d h =
      let e = ended-means n a b d h in
      record {
        entries = [];
        count = e.3 ∙ omega arith;
        few = omega arith;
        twos = e.0;
        threes = e.1;
        fours = e.2;
        valid = record { rising = nil; each = λ e i. absurd (Memᴰ.not-nil i) };
        fits = λ e i. absurd (Memᴰ.not-nil i);
        from = λ e i. absurd (Memᴰ.not-nil i);
      }

  -- an entry, and those behind it
  module _ (f n low key : ℕ) (a b d : List Record) (x : OwnRun c key a) (v : Passed) (w : Taken key value_limit 0 0 b d v)
      (some : 0 < length x.dots) (above : low ≤ key) where
    abbrev its : Entry
    its = entry_as key x.dots w.values

    its-valid : ValidEntry c its
    unfolding is_empty
    its-valid =
        let e = dots-in key x.dots w.values in
        let g = values-in key x.dots w.values in
        record {
          laid = rw (e, g);
          clock = rw e (own-lawful c key x);
          some = rw e (ne_eqb (length x.dots) 0 (λ e. omega arith));
          covered = rw e
              (own-covers c key x);
          values = rw g (λ u i. (w.each u i).valid);
        }

    its-fits : EntryFits its
    its-fits =
        let e = dots-in key x.dots w.values in
        let g = values-in key x.dots w.values in
        record { dots = rw e x.few; count = rw g w.few; each = rw g (λ u i. (w.each u i).few) }

    one_more : (many : ℕ) → Entered f (n + 1) (key + 1) (drop (length x.dots) a) (drop v.values b) (drop v.dots d) many
        → Entered (suc f) n low a b d many
    unfolding flat_from
    one_more many k =
        let e = dots-in key x.dots w.values in
        let g = values-in key x.dots w.values in
        let p : length w.values ≡ v.values = let q = w.many in omega arith in
        let q : length (fours key 0 w.values) ≡ v.dots = let q = w.dots in omega arith in
        record {
          entries = its ∷ k.entries;
          count = k.count ∙ omega arith;
          few = let z = k.few in omega arith;
          twos = rw e (x.parts ∙ ap (λ y. dot_records 2 0 key x.dots ++ y) k.twos);
          threes = rw g (w.first ∙ ap (λ y. threes key 0 w.values ++ y) (ap (λ z. drop z b) p ∙ k.threes));
          fours = rw g (w.second ∙ ap (λ y. fours key 0 w.values ++ y) (ap (λ z. drop z d) q ∙ k.fours));
          valid = record {
            rising = next (λ u i. lt-ltb key u.key (let z = k.from u i in omega arith)) k.valid.rising;
            each = λ u i. ⊎_elim
                (λ (z : u ≡ its). rw z its-valid) (λ j. k.valid.each u j) (Memᴰ.cases_cons i);
          };
          fits = λ u i. ⊎_elim (λ (z : u ≡ its). rw z its-fits) (λ j. k.fits u j) (Memᴰ.cases_cons i);
          from = λ u i. ⊎_elim (λ (z : u ≡ its). rw z above) (λ j. let z = k.from u j in omega arith) (Memᴰ.cases_cons i);
        }

  entries-step : (f n low key : ℕ) (a b d : List Record) (x : OwnRun c key a) (q : ℕ) → q ≡ length x.dots → (v : Passed)
      → (v.good ≡ true → Taken key value_limit 0 0 b d v) → (on : ℕ)
      → (on ≤ entry_limit → Entered f (n + 1) (key + 1) (drop q a) (drop v.values b) (drop v.dots d) on)
      → cond (is_none a) (ended n a b d) (cond (ltb 0 q && (leb low key && v.good)) on (entry_limit + 1)) ≤ entry_limit
      → Entered (suc f) n low a b d (cond (is_none a) (ended n a b d) (cond (ltb 0 q && (leb low key && v.good)) on (entry_limit + 1)))
  entries-step f n low key a b d x q e v w on k h =
      choose (Entered (suc f) n low a b d) (is_none a) (ended n a b d) _ (λ t m. none (suc f) n low a b d m)
      (λ t. choose (Entered (suc f) n low a b d) (ltb 0 q && (leb low key && v.good)) on (entry_limit + 1)
      (λ u m. let y = both_right (ltb 0 q) _ u in
      let some = ltb-true 0 q (both_left (ltb 0 q) _ u) in
      one_more f n low key a b d x v (w (both_right (leb low key) v.good y)) (omega arith)
      (leb-true low key (both_left (leb low key) v.good y)) on (rw e at (k m)))
      (λ u m. absurd (omega arith))) h

  pub entries-mean : (f n low : ℕ) (a b d : List Record) → entries_end c f n low a b d ≤ entry_limit
      → Entered f n low a b d (entries_end c f n low a b d)
  unfolding entries_end
  entries-mean zero n low a b d h = none zero n low a b d h
  entries-mean (suc f) n low a b d h =
      entries-step f n low (first_key a) a b d (run-own c (first_key a) a) _ ((run-own c (first_key a) a).count ∙ omega arith) _
      (values-mean (first_key a) value_limit 0 0 b d) _ (entries-mean f (n + 1) (first_key a + 1) _ _ _) h

-- the key of the records of an entry, of whatever kind
pub record-key : (kind n : ℕ) (e : Entry) (r : Record) → r ∈ entry_records kind n e → r.key ≡ e.key
record-key kind n e r i = go (eqb kind 2) i
  where
    dots : (k j key : ℕ) (l : List Dot) → r ∈ dot_records k j key l → r.key ≡ key
    dots k j key l m = let (d, x, q) = Memᴰ.of_map (dot_record k j key) l m in ap (λ (x : Record). x.key) (sym q)

    own : (b : Bool) (j : ℕ) (v : Value) → r ∈ cond b (value_record e.key j v ∷ []) (dot_records 4 j e.key (dots_of v.clock)) → r.key ≡ e.key
    own true j v m = ap (λ (x : Record). x.key) (Memᴰ.eq_of_singleton m)
    own false j v m = dots 4 j e.key (dots_of v.clock) m

    go : (b : Bool) → r ∈ cond b (dot_records 2 0 e.key (dots_in e)) (flat_from (value_records kind e.key) 0 (values_in e)) → r.key ≡ e.key
    go true m = dots 2 0 e.key (dots_in e) m
    go false m = let w = flat-means-from (value_records kind e.key) 0 (values_in e) r m in own (eqb kind 3) (0 + w.place) w.source w.given

-- no record of later entries has an earlier key
other_key : (f : ℕ → Entry → List Record) → ((n : ℕ) (e : Entry) (r : Record) → r ∈ f n e → r.key ≡ e.key) → (n key : ℕ) (es : List Entry)
    → ((e : Entry) → e ∈ es → key < e.key) → (r : Record) → r ∈ flat_from f n es → r.key ≡ key → ⊥
other_key f g n key es h r i q =
    let w = flat-means-from f n es r i in
    let k = g (n + w.place) w.source r w.given in
    let l = h w.source (place_in w.stands) in
    omega arith

pub first_key_lem : (key : ℕ) (ds : List Dot) (rest : List Record) → is_empty ds ≡ false
    → (first_key (dot_records 2 0 key ds ++ rest) ≡ key) × (is_none (dot_records 2 0 key ds ++ rest) ≡ false)
unfolding is_empty
first_key_lem key [] rest z = apart z
first_key_lem key (d ∷ ds) rest z = (refl, ne_eqb (length (dot_records 2 0 key (d ∷ ds) ++ rest)) 0 (λ e. omega arith))

pub some-length : (ds : List Dot) → is_empty ds ≡ false → 0 < length ds
unfolding is_empty
some-length [] z = apart z
some-length (d ∷ ds) z = omega arith

length-threes : (key i : ℕ) (vs : List Value) → length (threes key i vs) ≡ length vs
unfolding flat_from
length-threes key i [] = refl
length-threes key i (v ∷ vs) = ap suc (length-threes key (i + 1) vs)

module _ (c : List Dot) where
  pub entries-count : (f n low : ℕ) (es : List Entry) → length es ≤ f → ValidEntries c es → ((e : Entry) → e ∈ es → EntryFits e)
      → ((e : Entry) → e ∈ es → low ≤ e.key)
      → entries_end c f n low (flat_from (entry_records 2) n es) (flat_from (entry_records 3) n es) (flat_from (entry_records 4) n es) ≡ n + length es
  unfolding entries_end flat_from
  entries-count zero n low [] h v g l = omega arith
  entries-count (suc f) n low [] h v g l = omega arith
  entries-count zero n low (e ∷ es) h v g l = absurd (omega arith)
  entries-count (suc f) n low (e ∷ es) h v g l =
      let own = v.each e (Memᴰ.head refl) in
      let fit = g e (Memᴰ.head refl) in
      let key = e.key in
      let later : (x : Entry) → x ∈ es → key < x.key = λ x i. ltb-true key x.key (head-before v.rising x i) in
      let rest2 = flat_from (entry_records 2) (n + 1) es in
      let rest3 = flat_from (entry_records 3) (n + 1) es in
      let rest4 = flat_from (entry_records 4) (n + 1) es in
      let (fk, nn) = first_key_lem key (dots_in e) rest2 own.some in
      let q = own_of c key (dots_in e) rest2 own.clock own.covered fit.dots
      (other_key (entry_records 2) (record-key 2) (n + 1) key es later) in
      let w = values-count key value_limit 0 0 (values_in e) rest3 rest4 (λ u i. record { valid = own.values u i; few = fit.each u i }) fit.count
      (other_key (entry_records 3) (record-key 3) (n + 1) key es later) (other_key (entry_records 4) (record-key 4) (n + 1) key es later) in
      rw (
        nn,
        fk,
        q,
        w,
        lt-ltb 0 (length (dots_in e)) (some-length (dots_in e) own.some),
        le-leb low key (l e (Memᴰ.head refl)),
        drop_at (dot_records 2 0 key (dots_in e)) rest2 (length (dots_in e)) (length-map (dots_in e) (dot_record 2 0 key)),
        drop_at (threes key 0 (values_in e)) rest3 (0 + length (values_in e)) (length-threes key 0 (values_in e) ∙ omega arith),
        drop_at (fours key 0 (values_in e)) rest4 (0 + length (fours key 0 (values_in e))) (omega arith),
      )
      (entries-count f (n + 1) (key + 1) es (omega arith) (record { rising = tail-ascends v.rising; each = λ x i. v.each x (Memᴰ.tail i) })
      (λ x i. g x (Memᴰ.tail i)) (λ x i. let k = later x i in omega arith)
      ∙ omega arith)
