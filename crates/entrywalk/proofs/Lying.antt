-- An entry where it lies: what the runs of its dots and of its values' dots say, its values, and where their records stand.
use mathlib.Core.Path.{◌≡◌, refl, ap, sym, ◌∙◌}
use mathlib.Core.Bool.{Bool, true}
use mathlib.Core.List.{List, [], ◌∷◌, map}
use Prim.Native.Nat.{ℕ, zero, suc, ◌+◌, ◌*◌, ◌-◌, ◌≤◌, ◌<◌}
use native.Mathlib.Omega.{arith}
use lib.ListN.{length, drop, get_or, replicate, length-take, length-drop}
use lib.Seq.{take-length}
use Rattle.listlaws.specs.Order.{◌∈◌}
use Rattle.listlaws.proofs.Rests.{in_list}
use Rattle.clock.specs.declared.Dot.{Dot}
use Rattle.limits.specs.Limits.{dot_limit, value_limit}
use Rattle.clock.specs.Dots.{dots_of, cut_dots}
use Rattle.clock.specs.Lawful.{Lawful}
use Rattle.register.specs.declared.Value.{Value}
use Rattle.register.specs.Values.{no_value}
use Rattle.entries.specs.declared.Entry.{Entry}
use Rattle.entries.specs.Model.{dots_in, values_in}
use Rattle.records.specs.Records.{record_from}
use Rattle.clockimage.specs.Image.{dot_of, dot_records, content_of}
use Rattle.clockimage.proofs.RoundTrip.{dots-back}
use Rattle.opimage.specs.OpImage.{no_record}
use Rattle.mapimage.specs.MapImage.{flat_from, value_records}
use Rattle.runs.specs.Run.{run_dots}
use Rattle.marks.specs.Marks.{picked}
use Rattle.marks.proofs.Picks.{picked_all}
use Rattle.marks.proofs.Dots.{length_run}
use Rattle.walks.specs.declared.Span.{Span}
use Rattle.walks.specs.Walk.{part, between}
use Rattle.keyed.specs.Keyed.{RecordsLie}
use Rattle.walks.proofs.Loops.{part-on, slice-part, length_part}
use Rattle.keyed.proofs.Registers.{short-there}
use Rattle.entrywalk.specs.declared.Lain.{Lain}
use Rattle.entrywalk.specs.Walking.{LiesAt}
use Rattle.comparing.specs.Registers.{RunsOf}
use Rattle.entrywalk.proofs.Starts.{runs-compared}
use Rattle.entrywalk.proofs.Stepping.{one_each}

-- the dots of a clock, in a slice
pub record RunSays (run : List ℕ) (d : List Dot) : Type 0 where
  pub dots : run_dots run ≡ d
  pub short : length run ≤ dot_limit * 16
  pub lawful : Lawful (run_dots run)

run-says : {s : List ℕ} (kind index key : ℕ) (d : List Dot) {r : Span} → RecordsLie s (dot_records kind index key d) r → length d ≤ dot_limit
    → Lawful d
    → RunSays (between s r.from r.to) d
run-says {s} kind index key d {r} h n p =
    let e : run_dots (between s r.from r.to) ≡ d = ap (map dot_of) (slice-part s r.from r.to h.order h.within ∙ h.records)
    ∙ dots-back kind index key d in
    record { dots = e; short = short-there s r.from r.to kind index key d h.order h.within h.records n; lawful = rw e p }

pub run-here : (s : List ℕ) (from to : ℕ) → from ≤ to → to ≤ from + dot_limit → Lawful (run_dots (between s from to))
    → RunSays (between s from to) (run_dots (between s from to))
run-here s from to a b p = record { dots = refl; short = omega (arith, length-take (to * 16 - from * 16) (drop (from * 16) s)); lawful = p }

-- all marks pick all of it
pub all-of-run : {run : List ℕ} {d : List Dot} → RunSays run d → picked (replicate 8 true) (run_dots run) ≡ d
all-of-run {run} h = let n = h.short in picked_all (run_dots run) 8 (omega (arith, length_run run)) ∙ h.dots

-- what is left of it by marks that a cut has made
pub cut-of-run : {run : List ℕ} {d : List Dot} (c : List Dot) (bs : List Bool) → RunSays run d
    → picked bs (run_dots run) ≡ cut_dots c (picked (replicate 8 true) (run_dots run)) → picked bs (run_dots run) ≡ cut_dots c d
cut-of-run c bs h e = e ∙ ap (cut_dots c) (all-of-run h)

-- a record of a part
part_at : (s : List ℕ) (n i j : ℕ) → i + n < j → get_or (part s i j) n no_record ≡ record_from s ((i + n) * 16)
part_at s zero i j h = let e : i + 0 ≡ i = omega arith in rw (part-on s i j (omega arith), e)
part_at s (suc n) i j h = let e : i + suc n ≡ i + 1 + n = omega arith in rw (part-on s i j (omega arith), e) (part_at s n (i + 1) j (omega arith))

value-at : (key i n : ℕ) (l : List Value) → n < length l → content_of (get_or (flat_from (value_records 3 key) i l) n no_record)
    ≡ (get_or l n no_value).value
unfolding flat_from
value-at key i n [] h = absurd (omega arith)
value-at key i zero (v ∷ l) h = refl
value-at key i (suc n) (v ∷ l) h = value-at key (i + 1) n l (omega arith)

-- the values whose records stand somewhere
module _ {s : List ℕ} (key : ℕ) (l : List Value) {r : Span} (h : RecordsLie s (flat_from (value_records 3 key) 0 l) r) where
  pub many-there : r.to - r.from ≡ length l
  many-there = sym (length_part s r.from r.to) ∙ ap length h.records ∙ one_each key 0 l

  module _ (j : ℕ) (k : j < length l) where
    pub content-there : content_of (record_from s ((r.from + j) * 16)) ≡ (get_or l j no_value).value
    content-there =
        ap content_of (sym (part_at s j r.from r.to (omega (arith, many-there))) ∙ ap (λ l. get_or l j no_record) h.records)
        ∙ value-at key 0 j l k

    pub inside-there : (r.from + j) * 16 + 16 ≤ length s
    inside-there = let w = h.within in omega (arith, many-there)

module _ {s : List ℕ} {e : Entry} {r : Lain} (h : LiesAt s e r) where
  pub own-says : RunSays (between s r.dots.from r.dots.to) (dots_in e)
  own-says = run-says 2 0 e.key (dots_in e) h.dots h.short h.fit.clock

  pub many-values : r.values.to - r.values.from ≡ length (values_in e)
  many-values = many-there e.key (values_in e) h.values

  pub runs_of : RunsOf s r.starts (r.values.to - r.values.from) (values_in e)
  runs_of = runs-compared h.runs many-values h.fit.few h.fit.valid

  module _ (j : ℕ) (k : j < length (values_in e)) where
    stands : get_or (values_in e) j no_value ∈ values_in e
    stands = rw (take-length (values_in e)) at (in_list (values_in e) (length (values_in e)) j no_value (rw (take-length (values_in e)) k))

    pub value-says : RunSays (between s (get_or r.starts j 0) (get_or r.starts (j + 1) 0)) (dots_of (get_or (values_in e) j no_value).clock)
    value-says = run-says 4 j e.key (dots_of (get_or (values_in e) j no_value).clock) (h.runs.each j k) (h.fit.short _ stands)
        (h.fit.valid _ stands).clock

    pub value-content : content_of (record_from s ((r.values.from + j) * 16)) ≡ (get_or (values_in e) j no_value).value
    value-content = content-there e.key (values_in e) h.values j k

    pub value-inside : (r.values.from + j) * 16 + 16 ≤ length s
    value-inside = inside-there e.key (values_in e) h.values j k

    abbrev from : ℕ
    from = get_or r.starts j 0

    abbrev to : ℕ
    to = get_or r.starts (j + 1) 0

    -- where its records stand
    pub record Stands : Type 0 where
      pub low : j < value_limit
      pub order : from ≤ to
      pub few : to ≤ from + dot_limit
      pub run : to * 16 ≤ length s
      pub place : r.values.from + j < r.values.to
      pub inside : r.values.to * 16 ≤ length s

    pub value-stands : Stands
    value-stands =
        let g = h.runs.each j k in
        let a = g.order in
        let w = g.within in
        let b = h.fit.few in
        let o = h.values.order in
        let n : to - from ≤ dot_limit = omega (
          arith,
          value-says.short,
          length-take (to * 16 - from * 16) (drop (from * 16) s),
          length-drop (from * 16) s,
        ) in
        record { low = omega arith; order = a; few = omega arith; run = w; place = omega (arith, many-values); inside = h.values.within }
