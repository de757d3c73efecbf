-- What a reader accepts under its limits, and that the reader of this sled is the one under the limits of today.
use mathlib.Core.Path.{◌≡◌, refl, ap, sym, ◌∙◌, fun_ext}
use mathlib.Core.Bool.{Bool, true, false, cond}
use mathlib.Core.Logic.{inl, inr}
use mathlib.Core.List.{List}
use Prim.Native.Nat.{ℕ, ◌%◌, ◌≤◌}
use native.Mathlib.Omega.{arith}
use lib.Dec.{eqb, ltb}
use lib.ListN.{length, length-map}
use borrow.Author.Tests.{eq-eqb, le-ltb}
use Rattle.entries.proofs.Packs.{entries-of}
use Rattle.removals.proofs.Packs.{waiting-of}
use Rattle.map.specs.Model.{entries_in, waiting_in}
use Rattle.records.specs.declared.Record.{Record}
use Rattle.records.specs.Records.{records_of}
use Rattle.scan.specs.Each.{each}
use Rattle.scan.specs.Formed.{well_formed}
use Rattle.scan.specs.Limits.{Limits, today, within_by, within}
use Rattle.scan.specs.Numbers.{scan_number}
use Rattle.scan.proofs.Eachs.{decide, both_left}
use Rattle.clockimage.specs.Image.{image_of}
use Rattle.clockimage.proofs.RoundTrip.{accepted}
use Rattle.mapimage.specs.MapImage.{longest_by, map_longest}
use Rattle.maprecords.specs.Related.{ReadMap}
use Rattle.maprecords.specs.Reading.{entry_keys, entry_in, entries_for, waiting_count, waiting_removal_in, numbers_below, waiting_for, map_in}
use Rattle.maprecords.specs.Related.{finds_place, related, refused_map, judged_map, read_map}
use Rattle.maprecords.proofs.Counts.{entries-most}
use Rattle.maprecords.proofs.Keys.{length-below}
use Rattle.maprecords.proofs.Waits.{waits-under}
use Rattle.limitlaws.specs.Readers.{judged_under, read_under, number_under}
use Rattle.limitlaws.specs.Widening.{Below, Over}
use Rattle.limitlaws.proofs.Grows.{within-grows, longest-grows}

-- the three tests of records, in their order
abbrev judging : Bool → Bool → Bool → ReadMap → ReadMap
judging formed few fit x = cond formed (cond few (cond fit x (refused_map 3)) (refused_map 2)) (refused_map 1)

zero-means : (a b c : Bool) (x : ReadMap) → (judging a b c x).number ≡ 0 → (a ≡ true) × ((b ≡ true) × (c ≡ true))
zero-means true true true x z = (refl, (refl, refl))
zero-means true true false x z = absurd (omega arith)
zero-means true false c x z = absurd (omega arith)
zero-means false b c x z = absurd (omega arith)

all_hold : (a b c : Bool) (x : ReadMap) → a ≡ true → b ≡ true → c ≡ true → judging a b c x ≡ x
all_hold a b c x p q r = rw (p, q, r)

too_many : (a b c : Bool) (x : ReadMap) → a ≡ true → b ≡ false → judging a b c x ≡ refused_map 2
too_many a b c x p q = rw (p, q)

-- by the number of a scan, as this sled's reader says it
by_number : (a b c : Bool) (x : ReadMap) → judging a b c x ≡ cond (eqb (cond a (cond b 0 2) 1) 0) (cond c x (refused_map 3))
    (refused_map (cond a (cond b 0 2) 1))
by_number true true c x = refl
by_number true false c x = refl
by_number false b c x = refl

judged-today : (l : List Record) → judged_under today l ≡ judged_map l
unfolding scan_number within
judged-today l = by_number (well_formed 1 6 l) (within_by today l) (related l) (record { number = 0; map = map_in l })

-- the reader of this sled
pub reads-today : (s : List ℕ) → read_under today s ≡ read_map s
unfolding read_under read_map
reads-today s = ap (λ j. image_of map_longest refused_map j s) (fun_ext judged-today)

-- an image that passes every test
pub record Read (t : Limits) (s : List ℕ) : Type 0 where
  pub short : length s ≤ longest_by t
  pub whole : length s % 16 ≡ 0
  pub formed : well_formed 1 6 (records_of s) ≡ true
  pub few : within_by t (records_of s) ≡ true
  pub fit : related (records_of s) ≡ true

pub accepted-means : (t : Limits) (s : List ℕ) → number_under t s ≡ 0 → Read t s
unfolding read_under
accepted-means t s z =
    let l = records_of s in
    let a = accepted (λ r. r.number) (longest_by t) refused_map (judged_under t) s (λ n. refl) z in
    let tests = zero-means (well_formed 1 6 l) (within_by t l) (related l) (record { number = 0; map = map_in l })
    (ap (λ r. r.number) (sym a.same) ∙ z) in
    record { short = a.short; whole = a.whole; formed = tests.0; few = tests.1.0; fit = tests.1.1 }

pub accepted-holds : {t : Limits} {s : List ℕ} → Read t s → read_under t s ≡ record { number = 0; map = map_in (records_of s) }
unfolding read_under
accepted-holds {t} {s} r =
    let l = records_of s in
    rw (le-ltb (longest_by t) (length s) r.short, eq-eqb (length s % 16) 0 r.whole)
    (all_hold (well_formed 1 6 l) (within_by t l) (related l) (record { number = 0; map = map_in l }) r.formed r.few r.fit)

-- larger limits accept it too
pub still_read : {t u : Limits} {s : List ℕ} → Below t u → Read t s → Read u s
still_read {t} {u} {s} b r = record {
  short = omega (arith, r.short, longest-grows t u b);
  whole = r.whole;
  formed = r.formed;
  few = within-grows t u b (records_of s) r.few;
  fit = r.fit;
}

-- records within limits stand for a map that keeps them
pub few-entries : (t : Limits) (l : List Record) → within_by t l ≡ true → length (entries_in (map_in l)) ≤ t.entries
few-entries t l few = omega (arith, entries-most t l few, length-map (entry_keys l) (entry_in l), ap length (entries-of (entries_for l)))

pub few-waiting : (t : Limits) (l : List Record) → well_formed 1 6 l ≡ true → related l ≡ true → within_by t l ≡ true
    → length (waiting_in (map_in l)) ≤ t.waiting
unfolding related
few-waiting t l formed fit few =
    omega (
      arith,
      waits-under t l (both_left (each finds_place l) _ fit) formed few,
      length-map (numbers_below (waiting_count l)) (waiting_removal_in l),
      length-below (waiting_count l),
      ap length (waiting-of (waiting_for l)),
    )

not-over : (t : Limits) (l : List Record) → well_formed 1 6 l ≡ true → related l ≡ true → within_by t l ≡ true → Over t (map_in l) → ⊥
not-over t l formed fit few (inl h) = omega (arith, h, few-entries t l few)
not-over t l formed fit few (inr h) = omega (arith, h, few-waiting t l formed fit few)

-- an image of a map that is over other limits
pub over-refused : (t : Limits) {u : Limits} {s : List ℕ} → Read u s → Over t (map_in (records_of s)) → read_under t s ≡ refused_map 2
unfolding read_under
over-refused t {u} {s} r o =
    let l = records_of s in
    decide (ltb (longest_by t) (length s)) (λ long. rw long)
    (λ short. rw (short, eq-eqb (length s % 16) 0 r.whole)
    (decide (within_by t l) (λ few. absurd (not-over t l r.formed r.fit few o))
    (λ many. too_many (well_formed 1 6 l) (within_by t l) (related l) (record { number = 0; map = map_in l }) r.formed many)))

-- an image that other limits accept, of a map that is over these
pub larger-refused : (t u : Limits) (s : List ℕ) → number_under u s ≡ 0 → Over t (read_under u s).map → read_under t s ≡ refused_map 2
larger-refused t u s z o = let r = accepted-means u s z in over-refused t r (rw (accepted-holds r) at o)
