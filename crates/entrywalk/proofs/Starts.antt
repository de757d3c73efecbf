-- Where the dots of each value begin: a turn of the walk finds the run of one value.
use mathlib.Core.Path.{◌≡◌, ap, ◌∙◌}
use mathlib.Core.List.Memᴰ
use mathlib.Core.List.{List, ◌∷◌, map}
use Prim.Native.Nat.{ℕ, suc, ◌+◌, ◌*◌, ◌≤◌, ◌<◌}
use native.Mathlib.Omega.{arith}
use lib.Dec.{ltb}
use lib.ListN.{length, drop, get_or, set}
use lib.Seq.{take-length, drop-cons, get_or-set_same, get_or-set_other}
use borrow.Author.Tests.{ltb-true, ltb-false}
use Rattle.listlaws.specs.Order.{◌∈◌}
use Rattle.listlaws.proofs.Rests.{in_list}
use Rattle.scan.proofs.Eachs.{decide}
use Rattle.clock.specs.Dots.{dots_of}
use Rattle.register.specs.declared.Value.{Value}
use Rattle.limits.specs.Limits.{value_limit}
use Rattle.register.specs.Values.{no_value}
use Rattle.entries.specs.Valid.{ValidValue}
use Rattle.records.specs.declared.Record.{Record}
use Rattle.clockimage.specs.Image.{dot_of, dot_record, dot_records}
use Rattle.clockimage.proofs.RoundTrip.{dots-back}
use Rattle.mapimage.specs.MapImage.{flat_from}
use Rattle.walks.specs.Walk.{part, Splits}
use Rattle.keyed.specs.Keyed.{RecordsLie}
use Rattle.layout.proofs.Values.{fours, fours-later}
use Rattle.layout.proofs.Found.{Cut, cut_at}
use Rattle.comparing.specs.Registers.{RunsOf}
use Rattle.entrywalk.specs.Walking.{span_between, Runs}

abbrev RunAt : List ℕ → ℕ → List Value → List ℕ → ℕ → Type 0
RunAt s key l starts j = RecordsLie s (dot_records 4 j key (dots_of (get_or l j no_value).clock))
    (span_between (get_or starts j 0) (get_or starts (j + 1) 0))

-- the runs of the first i values are found, and those of the rest stand from `at` on
pub record Started (s : List ℕ) (key end : ℕ) (l : List Value) (i at : ℕ) (starts : List ℕ) : Type 0 where
  pub ahead : at ≤ end
  pub here : get_or starts i 0 ≡ at
  pub rest : part s at end ≡ fours key i (drop i l)
  pub each : (j : ℕ) → j < i → RunAt s key l starts j

module _ {s : List ℕ} {key end : ℕ} {l : List Value} where
  pub started : {from : ℕ} {starts : List ℕ} → from ≤ end → get_or starts 0 0 ≡ from → part s from end ≡ fours key 0 l
      → Started s key end l 0 from starts
  started h e p = record { ahead = h; here = e; rest = p; each = λ j k. absurd (omega arith) }

  module _ {i at : ℕ} {starts : List ℕ} (h : Started s key end l i at starts) (more : i < length l) (inside : end * 16 ≤ length s)
      (places : i + 1 < length starts)
      (next : ℕ) (before : at ≤ next) (within : next ≤ end) (found : (at' : ℕ) → Splits s 2 (i + 1) at end at' → next ≡ at') where
    its-first : drop i l ≡ get_or l i no_value ∷ drop (i + 1) l
    its-first = let e : suc i ≡ i + 1 = omega arith in drop-cons l i no_value more ∙ ap (λ k. get_or l i no_value ∷ drop k l) e

    cut : Cut s at end (dot_records 4 i key (dots_of (get_or l i no_value).clock)) (fours key (i + 1) (drop (i + 1) l)) next
    unfolding flat_from
    cut =
        cut_at s 2 (i + 1) at end _ _ next h.ahead (h.rest ∙ ap (fours key i) its-first)
        (λ x m. let (d, j, e) = Memᴰ.of_map (dot_record 4 i key) (dots_of (get_or l i no_value).clock) m in let q = ap
        (λ (x : Record). x.index) e in omega arith)
        (λ x m. fours-later key (i + 1) (drop (i + 1) l) x m) found

    others : (j : ℕ) → (j ≡ i + 1 → ⊥) → get_or (set starts (i + 1) next) j 0 ≡ get_or starts j 0
    others j q = get_or-set_other starts (i + 1) j next 0 q

    last : RunAt s key l (set starts (i + 1) next) i
    last = rw (others i (λ q. absurd (omega arith)), get_or-set_same starts (i + 1) next 0 places, h.here)
        (record { order = before; within = omega arith; records = cut.first })

    pub started-on : Started s key end l (i + 1) next (set starts (i + 1) next)
    started-on = record {
      ahead = within;
      here = get_or-set_same starts (i + 1) next 0 places;
      rest = cut.second;
      each = λ j k.
          decide (ltb j i)
          (λ t. let q = ltb-true j i t in rw (others j (λ z. absurd (omega arith)), others (j + 1) (λ z. absurd (omega arith))) (h.each j q))
          (λ f. let q = ltb-false j i f in let e : j ≡ i = omega arith in rw e last);
    }

  pub started-all : {i at : ℕ} {starts : List ℕ} → Started s key end l i at starts → length l ≤ i → Runs s key l starts
  started-all h n = record { each = λ j k. h.each j (omega arith) }

-- so the values can be compared where they lie
pub runs-compared : {s : List ℕ} {key n : ℕ} {l : List Value} {starts : List ℕ} → Runs s key l starts → n ≡ length l → length l ≤ value_limit
    → ((v : Value) → v ∈ l → ValidValue v) → RunsOf s starts n l
runs-compared {s} {key} {n} {l} h e few valid = record {
  count = e;
  few = few;
  each = λ j less.
      let low : j < length l = omega arith in
      let g = h.each j low in
      let i : get_or l j no_value ∈ l = rw (take-length l) at (in_list l (length l) j no_value (rw (take-length l) low)) in
      record {
        order = g.order;
        within = g.within;
        dots = ap (map dot_of) g.records ∙ dots-back 4 j key (dots_of (get_or l j no_value).clock);
        lawful = (valid (get_or l j no_value) i).clock;
      };
}
