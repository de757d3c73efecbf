-- The first of the entries that lie ahead, and its key, above every key where there is none; and an entry that is not there.
use mathlib.Core.Path.{◌≡◌, refl, ap, sym, subst, ◌∙◌}
use mathlib.Core.Bool.{true, ◌||◌}
use mathlib.Core.List.Memᴰ
use mathlib.Core.List.{List, [], ◌∷◌}
use mathlib.Core.Logic.{⊎_elim}
use Prim.Native.Nat.{ℕ, ◌*◌, ◌≤◌, ◌<◌}
use native.Mathlib.Omega.{arith}
use lib.Dec.{ltb}
use lib.ListN.{length, get_or}
use borrow.Author.Tests.{ltb-true, ltb-false, le-ltb}
use Rattle.listlaws.specs.Order.{◌∈◌, Ascending, by}
use Rattle.listlaws.proofs.Orders.{apart, head-before}
use Rattle.scan.proofs.Eachs.{decide}
use Rattle.clock.proofs.Joins.{lawful-nil}
use Rattle.entries.specs.declared.Entry.{Entry}
use Rattle.entries.specs.Model.{dots_in, entry_as}
use Rattle.entries.proofs.Packs.{laid_as}
use Rattle.records.specs.declared.Record.{Record}
use Rattle.records.specs.Records.{record_from, records_from}
use Rattle.opimage.specs.OpImage.{no_record}
use Rattle.mapimage.specs.MapImage.{flat_from, entry_records}
use Rattle.walks.specs.declared.Layout.{Layout}
use Rattle.walks.proofs.Loops.{part-on}
use Rattle.layout.proofs.Entered.{first_key_lem}
use Rattle.keyed.proofs.Walks.{owned-end}
use Rattle.entrywalk.specs.declared.Cursor.{Cursor}
use Rattle.entrywalk.specs.declared.Lain.{Lain}
use Rattle.entrywalk.specs.Walking.{beyond_keys, Ahead, LiesAt, Steps}

-- p is the first key of some entries
pub record Front (l : List Entry) (p : ℕ) : Type 0 where
  pub first : (e : Entry) (m : List Entry) → l ≡ e ∷ m → e.key ≡ p
  pub least : (e : Entry) → e ∈ l → p ≤ e.key

-- what is told of the place where a walk stands
abbrev pub Told : List ℕ → ℕ → ℕ → ℕ → Type 0
Told s at end r = (r ≤ beyond_keys) × ((r < beyond_keys → (at < end) × (r ≡ (record_from s (at * 16)).key)) × (r ≡ beyond_keys → end ≤ at))

module _ {s : List ℕ} {l : Layout} {x : Cursor} where
  -- nothing is ahead where the walk is at its end
  pub ahead_none : {es : List Entry} → Ahead s l x es → l.third ≤ x.own → es ≡ []
  ahead_none {es} h n = owned-end es h.own n

  here-key : (e : Entry) (es : List Entry) → Ahead s l x (e ∷ es) → x.own < l.third → (record_from s (x.own * 16)).key ≡ e.key
  unfolding flat_from
  here-key e es h room =
      ap (λ (k : List Record). (get_or k 0 no_record).key) (sym (part-on s x.own l.third room) ∙ h.own.records)
      ∙ (first_key_lem e.key (dots_in e) (flat_from (entry_records 2) 1 es) (h.own.some e (Memᴰ.head refl))).0

  pub front_of : (es : List Entry) {p : ℕ} → Ahead s l x es → Told s x.own l.third p → p < beyond_keys → Front es p
  front_of [] h t n = record { first = λ e m q. absurd (let z = ap length q in omega arith); least = λ e i. absurd (Memᴰ.not-nil i) }
  front_of (e ∷ es) h t n =
      let k = t.1.0 n in
      let same : e.key ≡ _ = sym (here-key e es h k.0) ∙ sym k.1 in
      record {
        first = λ f m q. ap (λ l. (get_or l 0 e).key) (sym q) ∙ same;
        least = λ f i. ⊎_elim (λ q. omega (arith, ap (λ (e : Entry). e.key) q, same))
            (λ j. omega (arith, same, ltb-true e.key f.key (head-before h.own.rising f j))) (Memᴰ.cases_cons i);
      }

  -- the first entry's key, and that all keys are above a lower one
  pub front-first : {es : List Entry} {p : ℕ} → Ahead s l x es → Told s x.own l.third p → p < beyond_keys → (e : Entry) (m : List Entry)
      → es ≡ e ∷ m → e.key ≡ p
  front-first {es} h t n = (front_of es h t n).first

  pub front_above : {es : List Entry} {p q : ℕ} → Ahead s l x es → Told s x.own l.third q → p < q → (e : Entry) → e ∈ es → p < e.key
  front_above {es} {p} {q} h t n e i =
      decide (ltb q beyond_keys) (λ u. omega (arith, n, (front_of es h t (ltb-true q beyond_keys u)).least e i))
      (λ u. let k = ltb-false q beyond_keys u in let b = t.0 in absurd (Memᴰ.not-nil (rw (ahead_none h (t.1.1 (omega arith))) at i)))

-- a walk that is not at its end on both sides has a key
pub some_key : {x l y m p q : ℕ} → (ltb x l || ltb y m) ≡ true → p ≤ beyond_keys → (p ≡ beyond_keys → l ≤ x) → (q ≡ beyond_keys → m ≤ y) → p ≡ q
    → p < beyond_keys
some_key {x} {l} {y} {m} {p} {q} o a f g e =
    decide (ltb p beyond_keys) (λ u. ltb-true p beyond_keys u)
    (λ u. let k = ltb-false p beyond_keys u in
    let b : l ≤ x = f (omega arith) in
    let d : m ≤ y = g (omega arith) in
    apart (sym (rw (le-ltb x l b, le-ltb y m d) at o)))

-- the first of the entries that lie ahead, and the keys behind it
module _ {s : List ℕ} {l : Layout} {x : Cursor} {es : List Entry} {r : Lain} (h : Ahead s l x es) (g : Steps s l x es r) where
  rising : Ascending (by (λ e. e.key)) (g.entry ∷ g.more)
  rising = subst (λ k. Ascending (by (λ e. e.key)) k) g.parts h.own.rising

  pub its-more : (e : Entry) → e ∈ g.more → r.key < e.key
  its-more e i = omega (arith, g.lies.key, ltb-true g.entry.key e.key (head-before rising e i))

  pub first-in : g.entry ∈ es
  first-in = rw g.parts (Memᴰ.head refl)

  pub rest_in : (e : Entry) → e ∈ g.more → e ∈ es
  rest_in e i = rw g.parts (Memᴰ.tail i)

  pub its-least : (low : ℕ) → ((e : Entry) → e ∈ es → low ≤ e.key) → low ≤ r.key
  its-least low f = omega (arith, g.lies.key, f g.entry first-in)

  pub its-fewer : length g.more < length es
  its-fewer = omega (arith, ap length g.parts)

-- an entry that is not there lies anywhere
pub none-lies : (s : List ℕ) (key : ℕ) (next : Cursor) (starts : List ℕ)
    → LiesAt s (entry_as key [] []) (record {
      key = key;
      dots = record { from = 0; to = 0 };
      values = record { from = 0; to = 0 };
      starts = starts;
      next = next;
    })
unfolding flat_from records_from
none-lies s key next starts = record {
  fit = record {
    laid = laid_as key [] [];
    clock = lawful-nil;
    few = omega arith;
    valid = λ v i. absurd (Memᴰ.not-nil i);
    short = λ v i. absurd (Memᴰ.not-nil i);
  };
  key = refl;
  dots = record { order = omega arith; within = omega arith; records = refl };
  short = omega arith;
  values = record { order = omega arith; within = omega arith; records = refl };
  runs = record { each = λ j h. absurd (omega arith) };
}
