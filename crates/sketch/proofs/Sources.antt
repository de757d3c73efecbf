-- Sources and entries of a sketch, written one after the other.
use mathlib.Core.Path.{◌≡◌, refl, ap, sym, ◌∙◌}
use mathlib.Core.Bool.{Bool, true, false, cond}
use mathlib.Core.List.{List, [], ◌∷◌, ◌++◌, map, append-nil, append_assoc}
use Prim.Native.Nat.{ℕ, ◌+◌, ◌*◌, ◌-◌, ◌≤◌, ◌<◌}
use native.Mathlib.Omega.{arith}
use lib.Dec.{eqb}
use lib.ListN.{length, drop, get_or, length-take, length-map}
use borrow.Author.Tests.{eq-eqb, ne_eqb, eqb-true, eqb-false}
use Rattle.listlaws.proofs.Orders.{apart}
use Rattle.listlaws.proofs.Pads.{take-pad}
use Rattle.listlaws.proofs.SliceRests.{drop-step}
use Rattle.scan.proofs.Eachs.{decide}
use Rattle.limits.specs.Limits.{dot_limit, value_limit}
use Rattle.clock.specs.Dots.{dots_of}
use Rattle.clock.proofs.Packs.{dots-of}
use Rattle.register.specs.Values.{no_value}
use Rattle.entries.specs.declared.Entry.{Entry}
use Rattle.records.specs.declared.Record.{Record}
use Rattle.records.specs.Records.{record_from, bytes_of, record_bytes}
use Rattle.records.specs.Writing.{Wrote}
use Rattle.records.proofs.Writing.{Writing, wrote_one}
use Rattle.clockimage.specs.Image.{dot_record, dot_records, content_of, content_record}
use Rattle.mapimage.specs.MapImage.{flat_from, value_record, value_records, entry_records}
use Rattle.mapimage.proofs.Flats.{flat-end}
use Rattle.runs.specs.Run.{run_dots}
use Rattle.marks.specs.Marks.{picked}
use Rattle.sketch.specs.declared.Source.{Source}
use Rattle.sketch.specs.declared.Sketched.{Sketched}
use Rattle.walks.specs.Walk.{between}
use Rattle.sketch.specs.Drawn.{value_named, image_named, value_from, Placed, sources_of, clock_apart, drawn, sections_of}

-- what a read past the end of an array would give
abbrev pub no_source_read : Source
no_source_read = record { second = false; value = 0; from = 0; to = 0; marks = [] }

abbrev pub no_sketched_read : Sketched
no_sketched_read = record { key = 0; own = record { counters = []; actors = []; len = 0 }; sources = []; len = 0 }

-- what f gives of elements that g has changed
pub flat_map : {A B C : Type 0} (f : ℕ → B → List C) (g : A → B) (i : ℕ) (l : List A) → flat_from f i (map g l) ≡ flat_from (λ j x. f j (g x)) i l
unfolding flat_from
flat_map f g i [] = refl
flat_map f g i (x ∷ l) = ap (λ y. f i (g x) ++ y) (flat_map f g (i + 1) l)

-- a turn of a loop over xs
pub flat_next : {A B : Type 0} (f : ℕ → A → List B) (xs : List A) (i : ℕ) (d : A) → i < length xs
    → flat_from f i (drop i xs) ≡ f i (get_or xs i d) ++ flat_from f (i + 1) (drop (i + 1) xs)
unfolding flat_from
flat_next f xs i d h = rw (drop-step xs i d h)

module _ {s : List ℕ} {x : Source} (h : Placed s x) where
  -- its run is short enough
  pub run_short : length (between s x.from x.to) ≤ dot_limit * 16
  run_short = let a = h.few in let b = h.order in omega (arith, length-take (x.to * 16 - x.from * 16) (drop (x.from * 16) s))

module _ (s : List ℕ) (x : Source) where
  left-dots : dots_of (value_named s x).clock ≡ picked x.marks (run_dots (between s x.from x.to))
  left-dots = dots-of _ refl

  pub dots-room : (key index at room : ℕ) → at + length (dot_records 4 index key (dots_of (value_named s x).clock)) * 16 ≤ room
      → at + length (picked x.marks (run_dots (between s x.from x.to))) * 16 ≤ room
  dots-room key index at room h = omega (arith, length-map (dots_of (value_named s x).clock) (dot_record 4 index key), ap length left-dots)

  pub dots-written : (key index : ℕ) {at next : ℕ} {entry exit : List ℕ}
      → Wrote at (bytes_of (dot_records 4 index key (picked x.marks (run_dots (between s x.from x.to))))) entry exit next
      → Wrote at (bytes_of (dot_records 4 index key (dots_of (value_named s x).clock))) entry exit next
  dots-written key index w = rw left-dots w

  pub value_written : (key index : ℕ) {at next : ℕ} {entry exit : List ℕ} (r : Record) → r ≡ record_from s (x.value * 16)
      → Wrote at (record_bytes (content_record 3 index key (content_of r))) entry exit next
      → Wrote at (bytes_of (value_record key index (value_named s x) ∷ [])) entry exit next
  value_written key index r e w = wrote_one _ _ _ _ _ (rw (← e) w)

-- what holds in the image that a source names
module _ (P : List ℕ → Type 0) (s t : List ℕ) (x : Source) where
  pub in-second : x.second ≡ true → (P (image_named s t x) → P t) × (P t → P (image_named s t x))
  in-second e = go x.second e
    where
      go : (b : Bool) → b ≡ true → (P (cond b t s) → P t) × (P t → P (cond b t s))
      go true q = (λ p. p, λ p. p)
      go false q = apart (sym q)

  pub in-first : x.second ≡ false → (P (image_named s t x) → P s) × (P s → P (image_named s t x))
  in-first e = go x.second e
    where
      go : (b : Bool) → b ≡ false → (P (cond b t s) → P s) × (P s → P (cond b t s))
      go true q = apart q
      go false q = (λ p. p, λ p. p)

-- the records of an entry that is drawn, by kind
module _ (s t : List ℕ) (k : Sketched) where
  pub entry-dots : (kind : ℕ) → kind ≡ 2 → entry_records kind 0 (drawn s t k) ≡ dot_records 2 0 k.key (dots_of (clock_apart k.own))
  entry-dots kind e = rw (eq-eqb kind 2 e) (ap (dot_records 2 0 k.key) (dots-of (dots_of (clock_apart k.own)) refl))

  pub entry_more : (kind : ℕ) → (kind ≡ 2 → ⊥) → entry_records kind 0 (drawn s t k) ≡ flat_from (value_records kind k.key) 0
      (map (value_from s t) (sources_of k))
  entry_more kind e = rw (ne_eqb kind 2 e) (ap (flat_from (value_records kind k.key) 0)
      (take-pad no_value value_limit (map (value_from s t) (sources_of k))))

pub wrote_as : {x y : List Record} {at next : ℕ} {entry exit : List ℕ} → x ≡ y → Wrote at (bytes_of y) entry exit next
    → Wrote at (bytes_of x) entry exit next
wrote_as e w = rw e w

-- the sections from a kind on
abbrev pub sections_from : ℕ → List Entry → List Record
sections_from kind l =
    cond (eqb kind 2) (sections_of l) (cond (eqb kind 3) (flat_from (entry_records 3) 0 l ++ flat_from (entry_records 4) 0 l)
    (cond (eqb kind 4) (flat_from (entry_records 4) 0 l) []))

pub sections-on : (kind : ℕ) (l : List Entry) → 2 ≤ kind → kind < 5
    → sections_from kind l ≡ flat_from (entry_records kind) 0 l ++ sections_from (kind + 1) l
sections-on kind l a b =
    decide (eqb kind 2) (λ t. rw (eqb-true kind 2 t))
    (λ f. let p = eqb-false kind 2 f in
    decide (eqb kind 3) (λ t. rw (eqb-true kind 3 t))
    (λ g. let q = eqb-false kind 3 g in let e : kind ≡ 4 = omega arith in rw e (sym (append-nil (flat_from (entry_records 4) 0 l)))))

pub sections-end : (kind : ℕ) (l : List Entry) → kind ≡ 5 → sections_from kind l ≡ []
sections-end kind l e = rw e

-- what is left to write of the entries xs, in the section of a kind from a place on, and the sections behind it
abbrev pub left_from : List ℕ → List ℕ → ℕ → List Sketched → ℕ → List Record
left_from s t kind xs i = flat_from (λ j x. entry_records kind j (drawn s t x)) i (drop i xs) ++ sections_from (kind + 1) (map (drawn s t) xs)

module _ (s t : List ℕ) (kind : ℕ) (xs : List Sketched) where
  pub section-start : 2 ≤ kind → kind < 5 → sections_from kind (map (drawn s t) xs) ≡ left_from s t kind xs 0
  section-start a b =
      sections-on kind (map (drawn s t) xs) a b
      ∙ ap (λ k. k ++ sections_from (kind + 1) (map (drawn s t) xs)) (flat_map (entry_records kind) (drawn s t) 0 xs)

  module _ (i : ℕ) where
    pub section-on : i < length xs
        → left_from s t kind xs i ≡ entry_records kind i (drawn s t (get_or xs i no_sketched_read)) ++ left_from s t kind xs (i + 1)
    section-on h =
        let f : ℕ → Sketched → List Record = λ j x. entry_records kind j (drawn s t x) in
        ap (λ k. k ++ sections_from (kind + 1) (map (drawn s t) xs)) (flat_next f xs i no_sketched_read h)
        ∙ append_assoc (f i (get_or xs i no_sketched_read)) _ _

    pub section-end : length xs ≤ i → left_from s t kind xs i ≡ sections_from (kind + 1) (map (drawn s t) xs)
    section-end h = ap (λ k. k ++ sections_from (kind + 1) (map (drawn s t) xs)) (flat-end (λ j x. entry_records kind j (drawn s t x)) xs i h)

-- the same is left, in other words
pub left_as : {whole a b : List Record} {at next : ℕ} {entry now : List ℕ} → a ≡ b → Writing whole a at entry now next
    → Writing whole b at entry now next
left_as e w = rw (← e) w
