-- The waiting removals of an accepted map's image are valid and within the limits.
use mathlib.Core.Path.{◌≡◌, refl, ap₂, sym, ◌∙◌}
use mathlib.Core.Bool.{true, false}
use mathlib.Core.List.Memᴰ
use mathlib.Core.List.{List, [], ◌∷◌, ◌++◌, map}
use Prim.Native.Nat.{ℕ, ◌+◌, ◌≤◌, ◌<◌, max}
use native.Mathlib.Omega.{arith}
use lib.Dec.{eqb, ltb}
use lib.ListN.{length, length-map}
use borrow.Author.Tests.{eqb-true, eq-eqb, leb-true, ltb-true, ltb-false}
use Rattle.listlaws.specs.Order.{◌∈◌, Ascending, nil, next, by}
use Rattle.listlaws.specs.Fold.{fold}
use Rattle.listlaws.specs.Sift.{those}
use Rattle.listlaws.proofs.Levels.{before-all}
use Rattle.listlaws.proofs.Those.{those-holds}
use Rattle.clock.specs.Dots.{is_empty}
use Rattle.clock.specs.Lawful.{Lawful}
use Rattle.clock.proofs.Packs.{dots-of}
use Rattle.removals.specs.declared.Removal.{Removal}
use Rattle.limits.specs.Limits.{waiting_limit, key_limit}
use Rattle.removals.specs.Model.{under_of, listed_in, removal_as}
use Rattle.removals.specs.Waits.{removal_before}
use Rattle.removals.specs.Valid.{ValidRemoval, ValidWaiting}
use Rattle.removals.proofs.ClockOrder.{removal-strict, removal-steady}
use Rattle.removals.proofs.Lengths.{RemovalFits}
use Rattle.records.specs.declared.Record.{Record}
use Rattle.scan.specs.Each.{each}
use Rattle.scan.specs.Limits.{today, within}
use Rattle.scan.specs.Numbers.{scan_number}
use Rattle.scan.proofs.Eachs.{decide, each_snoc, both, both_left, both_right}
use Rattle.scan.proofs.Rooms.{no_key, unordered, counter-from-one}
use Rattle.scan.proofs.Scanning.{scan_good}
use Rattle.clockimage.specs.Image.{is_kind, dot_of, dots_from}
use Rattle.maprecords.specs.Reading.{under_index, waiting_count, waiting_removal_in, numbers_below, waiting_for}
use Rattle.maprecords.specs.Related.{finds_place, ascend}
use Rattle.maprecords.proofs.Counts.{by-records, count-snoc}
use Rattle.maprecords.proofs.Readers.{placed-now}
use Rattle.maprecords.proofs.Waits.{waits-under, members-below}
use Rattle.maprecords.proofs.Keys.{length-below}
use Rattle.acceptancelaws.proofs.Grouped.{fine, dots-lawful, keys-rise}
use Rattle.acceptancelaws.proofs.Limited.{at-index, waiting-dots-few, waiting-keys-few}
use Rattle.acceptancelaws.proofs.Entered.{not-empty}

-- a removal laid down
pub under-as : (c : List Rattle.clock.specs.declared.Dot.Dot) (k : List ℕ) → under_of (removal_as c k) ≡ c
under-as c k = dots-of c refl

pub listed-as : (c : List Rattle.clock.specs.declared.Dot.Dot) (k : List ℕ) → listed_in (removal_as c k) ≡ k
listed-as c k = Rattle.listlaws.proofs.Pads.take-pad 0 key_limit k

pub removal-as : (c : List Rattle.clock.specs.declared.Dot.Dot) (k : List ℕ) → Lawful c → Ascending (by (λ x. x)) k → ValidRemoval (removal_as c k)
removal-as c k h a = record {
  laid = ap₂ removal_as (sym (under-as c k)) (sym (listed-as c k));
  clock = rw (under-as c k) h;
  keys = rw (listed-as c k) a;
}

-- how many waiting clocks there are: each index below has a dot
-- an index below the count, and its record
abbrev Held : List Record → ℕ → Type 0
Held l i = (s : Record) × (s ∈ l) × ((s.kind ≡ 5) × (s.index ≡ i))

count_none : waiting_count [] ≡ 0
unfolding waiting_count fold
count_none = refl

all_held : (l : List Record) → each finds_place l ≡ true → (i : ℕ) → i < waiting_count l → Held l i
all_held = by-records (λ l. each finds_place l ≡ true → (i : ℕ) → i < waiting_count l → Held l i) (λ p i h. absurd (omega (arith, count_none))) more
  where
    more : (l : List Record) (r : Record) → (each finds_place l ≡ true → (i : ℕ) → i < waiting_count l → Held l i)
        → each finds_place (l ++ (r ∷ [])) ≡ true → (i : ℕ) → i < waiting_count (l ++ (r ∷ [])) → Held (l ++ (r ∷ [])) i
    more l r p q i b =
        let held : i < waiting_count l → Held (l ++ (r ∷ [])) i =
        λ h. let (s, m, u) = p (both_left (each finds_place l) (finds_place l r) (sym (each_snoc finds_place l r) ∙ q)) i h in
        (s, Memᴰ.append_left (r ∷ []) m, u) in
        decide (ltb i (waiting_count l)) (λ y. held (ltb-true i (waiting_count l) y))
        (λ n. let high = ltb-false i (waiting_count l) n in
        decide (eqb r.kind 5)
        (λ t. let most = leb-true r.index (waiting_count l) (rw t at (placed-now l r q).1) in
        let e : waiting_count (l ++ (r ∷ [])) ≡ max (waiting_count l) (r.index + 1) = count-snoc l r ∙ rw t in
        (r, Memᴰ.append_right l (Memᴰ.head refl), (eqb-true r.kind 5 t, omega arith)))
        (λ f. let e : waiting_count (l ++ (r ∷ [])) ≡ waiting_count l = count-snoc l r ∙ rw f in absurd (omega arith)))

-- neighbours in order are all in order
ascending-all : (l : List Removal) → ascend l ≡ true → Ascending removal_before l
unfolding ascend
ascending-all [] a = nil
ascending-all (v ∷ []) a = Rattle.listlaws.proofs.Sides.one-ascends v
ascending-all (v ∷ (w ∷ l)) a =
    let rest = ascending-all (w ∷ l) (both_right (removal_before v w) (ascend (w ∷ l)) a) in
    next {x = v} (before-all {before = removal_before} removal-strict removal-steady {n = v} {x = w} {l = l}
    (both_left (removal_before v w) (ascend (w ∷ l)) a) rest) rest

module _ (l : List Record) (z : scan_number 1 6 l ≡ 0) (p : each finds_place l ≡ true) (a : ascend (waiting_for l) ≡ true) where
  module _ (index : ℕ) where
    lawful : Lawful (dots_from (under_index 5 index) l)
    lawful =
        dots-lawful 1 6 l z (under_index 5 index) 5 0 index refl
        (λ x i t. let k = at-index index 5 x t in let g = fine 1 6 l z x i in record {
          kind-is = k.0;
          key-is = no_key 1 6 x g k.0 refl;
          index_is = k.1;
          counter = counter-from-one 1 6 x g k.0 refl (λ e. omega (arith, k.0)) (λ e. omega (arith, k.0));
        })

    keys : Ascending (by (λ k. k)) (map (λ x. x.key) (those (under_index 6 index) l))
    keys =
        keys-rise 1 6 l z (under_index 6 index) 6 index
        (λ x i t. let k = at-index index 6 x t in
        record { kind-is = k.0; index_is = k.1; no-actor = unordered 1 6 x (fine 1 6 l z x i) k.0 refl })

    pub removal-valid : ValidRemoval (waiting_removal_in l index)
    removal-valid = removal-as _ _ lawful keys

    pub removal-fits : RemovalFits (waiting_removal_in l index)
    removal-fits = record {
      dots = rw (under-as (dots_from (under_index 5 index) l) (map (λ x. x.key) (those (under_index 6 index) l))) (waiting-dots-few index l z);
      keys = rw (listed-as (dots_from (under_index 5 index) l) (map (λ x. x.key) (those (under_index 6 index) l)))
          (let h = waiting-keys-few index l z in omega (arith, length-map (those (under_index 6 index) l) (λ x. x.key)));
    }

    removal-some : index < waiting_count l → is_empty (under_of (waiting_removal_in l index)) ≡ false
    removal-some h =
        let (s, m, q) = all_held l p index h in
        rw (under-as (dots_from (under_index 5 index) l) (map (λ x. x.key) (those (under_index 6 index) l)))
        (not-empty dot_of (those (under_index 5 index) l) s (those-holds (under_index 5 index) m
        (both (is_kind 5 s) (eqb s.index index) (eq-eqb s.kind 5 q.0) (eq-eqb s.index index q.1))))

  pub waiting-valid : ValidWaiting (waiting_for l)
  waiting-valid = record {
    rising = ascending-all (waiting_for l) a;
    each = λ r i. let m = Memᴰ.of_map (waiting_removal_in l) (numbers_below (waiting_count l)) i in rw (← m.2) (removal-valid m.0);
    some = λ r i. let m = Memᴰ.of_map (waiting_removal_in l) (numbers_below (waiting_count l)) i in
        rw (← m.2) (removal-some m.0 (members-below (waiting_count l) m.0 m.1));
  }

  pub waiting-fit : (r : Removal) → r ∈ waiting_for l → RemovalFits r
  waiting-fit r i = let m = Memᴰ.of_map (waiting_removal_in l) (numbers_below (waiting_count l)) i in rw (← m.2) (removal-fits m.0)

  pub waiting_few : length (waiting_for l) ≤ waiting_limit
  unfolding within
  waiting_few =
      let g = scan_good 1 6 l z in
      omega (
        arith,
        waits-under today l p g.0 g.1,
        length-map (numbers_below (waiting_count l)) (waiting_removal_in l),
        length-below (waiting_count l),
      )
