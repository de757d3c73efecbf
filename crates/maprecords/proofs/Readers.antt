-- A reader of a map's image with one record more, and what it has read at the end.
use mathlib.Core.Path.{◌≡◌, refl, ap, sym, ◌∙◌}
use mathlib.Core.Bool.{Bool, true, false, not, cond, ◌&&◌, ◌||◌}
use mathlib.Core.List.{List, [], ◌∷◌, ◌++◌}
use Prim.Native.Nat.{ℕ, ◌+◌, ◌%◌, ◌≤◌, ◌<◌}
use native.Mathlib.Omega.{arith}
use lib.Dec.{eqb, ltb, leb}
use lib.ListN.{length, get_or, set}
use borrow.Author.Tests.{not-true, not-false, eq-eqb, ne_eqb, eqb-true, leb-true}
use Rattle.listlaws.proofs.Orders.{apart}
use Rattle.clock.specs.declared.Dot.{Dot}
use Rattle.limits.specs.Limits.{dot_limit}
use Rattle.entries.specs.declared.Entry.{Entry}
use Rattle.removals.specs.declared.Removal.{Removal}
use Rattle.map.specs.Model.{map_as}
use Rattle.records.specs.declared.Record.{Record}
use Rattle.records.specs.Kinds.{record_ok}
use Rattle.records.specs.Records.{records_of}
use Rattle.scan.specs.declared.Scan.{Scan}
use Rattle.scan.specs.Each.{each, every}
use Rattle.scan.specs.Scanned.{Scanned, CountsUnder, CountedUnder}
use Rattle.scan.specs.Numbers.{scan_number}
use Rattle.scan.proofs.Eachs.{decide, both_left, both_right, each_snoc}
use Rattle.scan.proofs.Scanning.{counts-under, under_more, scan-before, scan-last}
use Rattle.clockimage.specs.Image.{is_kind, dot_of}
use Rattle.clockimage.proofs.Dots.{dots-more, dots-same, dots-room}
use Rattle.mapimage.specs.MapImage.{map_longest}
use Rattle.maprecords.specs.Related.{ReadMap}
use Rattle.clockimage.specs.ClockImage.{clock_in}
use Rattle.maprecords.specs.Reading.{entries_for, waiting_count}
use Rattle.maprecords.specs.Related.{entry_fits, waiting_fits, finds_place, entry_whole, ascend, related, refused_map, judged_map, read_map}
use Rattle.maprecords.specs.SoFar.{ReaderState, MapParts, MapSoFar, related_so_far}
use Rattle.maprecords.proofs.SoFar.{EntriesNow, WaitingNow, Growable}
use Rattle.maprecords.proofs.Steps.{untouched}
use Rattle.maprecords.proofs.Waits.{waiting-untouched}

not-both : (a b : Bool) → (not a || not b) ≡ not (a && b)
not-both true b = refl
not-both false b = refl

or-false : (b : Bool) → (b || false) ≡ b
or-false true = refl
or-false false = refl

module _ (l : List Record) (r : Record) where
  -- one record does not find what it needs
  lost-now : each finds_place l ≡ true → (e w : Bool) → e ≡ not (entry_fits (entries_for l) r) → w ≡ not (waiting_fits (waiting_count l) r)
      → (e || w) ≡ not (each finds_place (l ++ (r ∷ [])))
  lost-now p e w a b = rw (a, b, each_snoc finds_place l r, p) (not-both (entry_fits (entries_for l) r) (waiting_fits (waiting_count l) r))

  pub placed-now : each finds_place (l ++ (r ∷ [])) ≡ true → (entry_fits (entries_for l) r ≡ true) × (waiting_fits (waiting_count l) r ≡ true)
  placed-now p =
      let h = both_right (each finds_place l) (finds_place l r) (sym (each_snoc finds_place l r) ∙ p) in (
        both_left (entry_fits (entries_for l) r) (waiting_fits (waiting_count l) r) h,
        both_right (entry_fits (entries_for l) r)
            (waiting_fits (waiting_count l) r) h,
      )

  -- the count of a waiting key's index, and the counts with it
  module _ (s : ReaderState) (m : MapSoFar l s) where
    pub counted : s.scan.number ≡ 0 → CountsUnder 1 6 l r (get_or s.under r.index 0)
    counted z = counts-under 1 6 l r s.under (m.under z)

    pub recounted : {scan : Scan} → Scanned 1 6 (l ++ (r ∷ [])) scan → r.index < length s.under → {n : ℕ}
        → (r.kind ≡ 6 → get_or s.under r.index 0 < 255 → n ≡ get_or s.under r.index 0 + 1)
        × ((r.kind ≡ 6 → ⊥) → n ≡ get_or s.under r.index 0)
        → scan.number ≡ 0 → CountedUnder (l ++ (r ∷ [])) (set s.under r.index n)
    recounted now h {n} e z =
        let good = sym now.number ∙ z in
        under_more 1 6 l r s.under (m.under (m.scanned.number ∙ scan-before 1 6 l r good)) good h n e.0 e.1

  module _ (s : ReaderState) (m : MapSoFar l s) (scan : Scan) (next : List ℕ) (now : Scanned 1 6 (l ++ (r ∷ [])) scan) (more : scan.number ≡ 0
      → CountedUnder (l ++ (r ∷ [])) next) (z : scan.number ≡ 0) where
    before : s.scan.number ≡ 0
    before = m.scanned.number ∙ scan-before 1 6 l r (sym now.number ∙ z)

    -- once lost, lost to the end
    pub still-lost : s.lost ≡ true → MapSoFar (l ++ (r ∷ []))
        (record { scan = scan; under = next; lost = s.lost; clock = s.clock; entries = s.entries; waiting = s.waiting })
    still-lost t =
        let gone = not-true (each finds_place l) (sym (m.lost before) ∙ t) in
        let none : each finds_place (l ++ (r ∷ [])) ≡ false = each_snoc finds_place l r ∙ rw gone in
        record { scanned = now; under = more; lost = λ _. t ∙ rw none; parts = λ _ p. apart (sym p ∙ none) }

    pub growable : s.lost ≡ false → Growable l s scan next r
    growable f =
        let p = not-false (each finds_place l) (sym (m.lost before) ∙ f) in
        record { scanned = now; under = more z; good = z; placed = p; parts = m.parts before p }

  -- a scan that has met something wrong
  pub scan-stops : {scan : Scan} → Scanned 1 6 (l ++ (r ∷ [])) scan → (scan.number ≡ 0 → ⊥)
      → {next : List ℕ} {lost : Bool} {clock : List Dot} {entries : List Entry} {waiting : List Removal}
      → MapSoFar (l ++ (r ∷ [])) (record { scan = scan; under = next; lost = lost; clock = clock; entries = entries; waiting = waiting })
  scan-stops now n = record { scanned = now; under = λ z. absurd (n z); lost = λ z. absurd (n z); parts = λ z. absurd (n z) }

  module _ {s : ReaderState} {scan : Scan} {next : List ℕ} (g : Growable l s scan next r) where
    pub good-now : scan_number 1 6 (l ++ (r ∷ [])) ≡ 0
    good-now = sym g.scanned.number ∙ g.good

    pub kind-low : 1 ≤ r.kind
    unfolding record_ok
    kind-low = leb-true 1 r.kind (both_left (leb 1 r.kind) _ (scan-last 1 6 l r good-now))

    pub kind-high : r.kind ≤ 6
    unfolding record_ok
    kind-high = leb-true r.kind 6 (both_left (leb r.kind 6) _ (both_right (leb 1 r.kind) _ (scan-last 1 6 l r good-now)))

    pub clock-room : r.kind ≡ 1 → length (clock_in l) < dot_limit
    clock-room k = dots-room 1 6 l r good-now 1 k (λ b. omega arith) refl refl

    -- each part with what the record adds
    grown : {clock : List Dot} {entries : List Entry} {waiting : List Removal} {lost e w : Bool} → lost ≡ (e || w)
        → clock ≡ clock_in (l ++ (r ∷ [])) → EntriesNow l r e entries → WaitingNow l r w waiting
        → MapSoFar (l ++ (r ∷ [])) (record { scan = scan; under = next; lost = lost; clock = clock; entries = entries; waiting = waiting })
    grown {e = e} {w = w} q c es ws = record {
      scanned = g.scanned;
      under = λ _. g.under;
      lost = λ _. q ∙ lost-now g.placed e w es.lost ws.lost;
      parts = λ _ p. record { clock = c; entries = es.held (placed-now p).0; waiting = ws.held (placed-now p).1 };
    }

    same-clock : (r.kind ≡ 1 → ⊥) → s.clock ≡ clock_in (l ++ (r ∷ []))
    same-clock n = g.parts.clock ∙ sym (dots-same (is_kind 1) l r (ne_eqb r.kind 1 n))

    same-waiting : r.kind < 5 → WaitingNow l r false s.waiting
    same-waiting h = waiting-untouched l r g.parts.waiting (λ b. omega arith) (λ b. omega arith)

    pub grown-clock : r.kind ≡ 1 → {clock : List Dot} {lost : Bool} → lost ≡ false → clock ≡ clock_in l ++ (dot_of r ∷ [])
        → MapSoFar (l ++ (r ∷ [])) (record { scan = scan; under = next; lost = lost; clock = clock; entries = s.entries; waiting = s.waiting })
    grown-clock k q c =
        grown q (c ∙ sym (dots-more (is_kind 1) l r (eq-eqb r.kind 1 k)))
        (untouched l r g.parts.entries (λ z. omega arith) (λ z. omega arith) (λ z. omega arith)) (same-waiting (omega arith))

    pub grown-entries : (r.kind ≡ 1 → ⊥) → r.kind < 5 → {entries : List Entry} {lost e : Bool} → lost ≡ e → EntriesNow l r e entries
        → MapSoFar (l ++ (r ∷ [])) (record { scan = scan; under = next; lost = lost; clock = s.clock; entries = entries; waiting = s.waiting })
    grown-entries n b {e = e} q es = grown (q ∙ sym (or-false e)) (same-clock n) es (same-waiting b)

    pub grown-waiting : 5 ≤ r.kind → {waiting : List Removal} {lost w : Bool} → lost ≡ w → WaitingNow l r w waiting
        → MapSoFar (l ++ (r ∷ [])) (record { scan = scan; under = next; lost = lost; clock = s.clock; entries = s.entries; waiting = waiting })
    grown-waiting b q ws =
        grown q (same-clock (λ z. omega arith)) (untouched l r g.parts.entries (λ z. omega arith) (λ z. omega arith) (λ z. omega arith)) ws

-- whether the records are related, asked of the map that was read
related-now : (l : List Record) (s : ReaderState) → each finds_place l ≡ true → MapParts l s
    → related l ≡ (every (entry_whole s.clock) s.entries && ascend s.waiting)
unfolding related
related-now l s p m = rw (p, m.clock, m.entries, m.waiting)

related-placed : (l : List Record) → related l ≡ true → each finds_place l ≡ true
unfolding related
related-placed l r = both_left (each finds_place l) _ r

unrelated-now : (l : List Record) → each finds_place l ≡ false → related l ≡ false
unfolding related
unrelated-now l p = rw p

-- the map that was read, or none
abbrev outcome : ReaderState → ℕ → ReadMap
outcome s n = cond (eqb n 0) (record { number = n; map = map_as s.clock s.entries s.waiting }) (refused_map n)

outcome-number : (s : ReaderState) (n : ℕ) → (outcome s n).number ≡ n
outcome-number s n = decide (eqb n 0) (λ t. rw t) (λ f. rw f)

-- what is read is judged: the first number that applies, or the map
module _ (l : List Record) (s : ReaderState) (m : MapSoFar l s) where
  related-is : s.scan.number ≡ 0 → related_so_far s ≡ related l
  related-is z =
      decide (each finds_place l)
      (λ p. rw (m.lost z, p) (sym (related-now l s p (m.parts z p))))
      (λ f. rw (m.lost z, f) (sym (unrelated-now l f)))

  judged-is : (n : ℕ) → n ≡ cond (eqb s.scan.number 0) (cond (related_so_far s) 0 3) s.scan.number → judged_map l ≡ outcome s n
  judged-is n e =
      decide (eqb s.scan.number 0)
      (λ t. let z = eqb-true s.scan.number 0 t in
      let same = related-is z in
      decide (related_so_far s)
      (λ y. let zero : n ≡ 0 = e ∙ rw (t, y) in
      let all : related l ≡ true = sym same ∙ y in
      let parts = m.parts z (related-placed l all) in
      rw (← m.scanned.number, z, all, zero)
      (sym (λ i. record { number = 0; map = map_as (parts.clock i) (parts.entries i) (parts.waiting i) })))
      (λ y. let three : n ≡ 3 = e ∙ rw (t, y) in rw (← m.scanned.number, z, sym same ∙ y, three)))
      (λ f. let same : n ≡ s.scan.number = e ∙ rw f in rw (← m.scanned.number, same, f))

  pub judged-number : cond (eqb s.scan.number 0) (cond (related_so_far s) 0 3) s.scan.number ≡ (judged_map l).number
  judged-number = sym (ap (λ r. r.number) (judged-is _ refl) ∙ outcome-number s _)

  pub judged-map : (judged_map l).number ≡ 0 → judged_map l ≡ record { number = 0; map = map_as s.clock s.entries s.waiting }
  judged-map z = judged-is 0 (sym (judged-number ∙ z))

-- a number comes with no map
judged-refused : (l : List Record) → ((judged_map l).number ≡ 0 → ⊥) → judged_map l ≡ refused_map (judged_map l).number
judged-refused l n = decide (eqb (scan_number 1 6 l) 0) (λ t. decide (related l) (λ r. absurd (n (rw (t, r)))) (λ r. rw (t, r))) (λ f. rw f)

pub read-refused : (s : List ℕ) → ((read_map s).number ≡ 0 → ⊥) → read_map s ≡ refused_map (read_map s).number
unfolding read_map
read-refused s n =
    decide (ltb map_longest (length s)) (λ t. rw t)
    (λ f. decide (eqb (length s % 16) 0) (λ t. rw (f, t) (judged-refused (records_of s) (rw (f, t) at n))) (λ g. rw (f, g)))
