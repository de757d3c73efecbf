-- An image's records walked section by section: how far a run of dots goes, the values of a key, the entries.
use Rattle.std.specs.Prelude.{ℕ, zero, suc, ◌+◌, ◌*◌, ◌-◌, ◌≤◌, ◌<◌, Bool, true, false, cond, ◌&&◌, List, [], ◌∷◌, map, eqb, ltb, leb, length, take}
use Rattle.std.specs.Prelude.{drop, get_or, set}
use Rattle.clock.specs.declared.Dot.{Dot}
use Rattle.limits.specs.Limits.{dot_limit, value_limit, entry_limit, waiting_limit, key_limit}
use Rattle.clock.specs.Dots.{counter_in}
use Rattle.records.specs.declared.Record.{Record}
use Rattle.records.specs.Records.{record_from, records_from}
use Rattle.clockimage.specs.Image.{dot_of}
use Rattle.removals.specs.Waits.{clock_before}
use Rattle.mapimage.specs.MapImage.{key_number}
use Rattle.opimage.specs.OpImage.{no_record}
use Rattle.records.specs.Kinds.{entry_dot_kind, value_kind, value_dot_kind, waiting_dot_kind, waiting_key_kind}
use Rattle.walks.specs.declared.Passed.{Passed}
use Rattle.walks.specs.declared.Layout.{Layout}

-- places in order, within n bytes
pub record Sections (n : ℕ) (l : Layout) : Type 0 where
  pub second : l.second ≤ l.third
  pub third : l.third ≤ l.fourth
  pub fourth : l.fourth ≤ l.fifth
  pub fifth : l.fifth ≤ l.sixth
  pub sixth : l.sixth ≤ l.end
  pub end : l.end * 16 ≤ n

-- the records of s from place i to place j
abbrev pub part : List ℕ → ℕ → ℕ → List Record
part s i j = records_from s (i * 16) (j - i)

-- the same as bytes
abbrev pub between : List ℕ → ℕ → ℕ → List ℕ
between s i j = take (j * 16 - i * 16) (drop (i * 16) s)

-- a dot's record of a kind, an index and a key, with a counter
unfoldable pub dot_test : ℕ → ℕ → ℕ → Record → Bool
dot_test kind index key r = eqb r.kind kind && (eqb r.index index && (eqb r.key key && ltb 0 r.number))

-- the same of an entry's dot, which the map clock covers
unfoldable pub own_test : List Dot → ℕ → Record → Bool
own_test c key r = dot_test entry_dot_kind 0 key r && leb r.number (counter_in c r.actor)

unfoldable pub value_test : ℕ → ℕ → Record → Bool
value_test key index r = eqb r.kind value_kind && (eqb r.index index && eqb r.key key)

-- i and how many records pass from the first on, n at most, their actors ascending from `low` on
unfoldable pub run_end : (Record → Bool) → ℕ → ℕ → ℕ → List Record → ℕ
run_end test low n i [] = i
run_end test low zero i (r ∷ l) = i
run_end test low (suc n) i (r ∷ l) = cond (test r && leb low r.actor) (run_end test (r.actor + 1) n (i + 1) l) i

-- the values of a key from index i on, n at most, each with its dots, p of which are passed
unfoldable pub values_end : ℕ → ℕ → ℕ → ℕ → List Record → List Record → Passed
values_end key n i p [] d = record { good = true; values = i; dots = p }
values_end key zero i p (r ∷ b) d = record { good = true; values = i; dots = p }
values_end key (suc n) i p (r ∷ b) d =
    let q = run_end (dot_test value_dot_kind i key) 0 dot_limit 0 d in
    let on = values_end key n (i + 1) (p + q) b (drop q d) in
    cond (value_test key i r) (cond (eqb q 0) (record { good = false; values = i; dots = p }) on) (record { good = true; values = i; dots = p })

abbrev pub is_none : List Record → Bool
is_none l = eqb (length l) 0

abbrev pub first_key : List Record → ℕ
first_key l = (get_or l 0 no_record).key

-- n where nothing is left, else one more than there can be
abbrev pub ended : ℕ → List Record → List Record → List Record → ℕ
ended n a b d = cond (is_none a && (is_none b && is_none d)) n (entry_limit + 1)

-- n and how many entries there are, f at most, keys ascending from `low` on; one more than there can be where they are no good
unfoldable pub entries_end : List Dot → ℕ → ℕ → ℕ → List Record → List Record → List Record → ℕ
entries_end c zero n low a b d = ended n a b d
entries_end c (suc f) n low a b d =
    let q = run_end (own_test c (first_key a)) 0 dot_limit 0 a in
    let v = values_end (first_key a) value_limit 0 0 b d in
    let on = entries_end c f (n + 1) (first_key a + 1) (drop q a) (drop v.values b) (drop v.dots d) in
    cond (is_none a) (ended n a b d) (cond (ltb 0 q && (leb low (first_key a) && v.good)) on (entry_limit + 1))

-- n and how many waiting clocks there are, f at most, each behind the last; one more than there can be where they are no good
unfoldable pub waits_end : ℕ → ℕ → List Dot → List Record → ℕ
waits_end zero n last l = cond (is_none l) n (waiting_limit + 1)
waits_end (suc f) n last l =
    let q = run_end (dot_test waiting_dot_kind n 0) 0 dot_limit 0 l in
    let clock = map dot_of (take q l) in
    let on = waits_end f (n + 1) clock (drop q l) in
    cond (is_none l) n (cond (clock_before last clock) on (waiting_limit + 1))

-- a waiting key under one of n removals
unfoldable pub key_test : ℕ → Record → Bool
key_test n r = eqb r.kind waiting_key_kind && (eqb r.actor 0 && (eqb r.number 0 && ltb r.index n))

-- waiting keys ascend from `low` on, and no removal has too many, some of which are counted
unfoldable pub keys_good : ℕ → List ℕ → ℕ → List Record → Bool
keys_good n counts low [] = true
keys_good n counts low (r ∷ l) =
    let c = get_or counts r.index 0 in
    (key_test n r && (leb low (key_number r.index r.key) && ltb c key_limit))
    && keys_good n (set counts r.index (c + 1)) (key_number r.index r.key + 1) l

-- what records ascend by: kinds in an image, keys in a kind, indexes under a key
abbrev pub field_of : ℕ → Record → ℕ
field_of field r = cond (eqb field 0) r.kind (cond (eqb field 1) r.key r.index)

-- the records from `from` to `end` have lower fields as far as `at`, and not from there on
pub record Splits (s : List ℕ) (field bound from end at : ℕ) : Type 0 where
  pub above : from ≤ at
  pub within : at ≤ end
  pub lower : (i : ℕ) → from ≤ i → i < at → field_of field (record_from s (i * 16)) < bound
  pub higher : (i : ℕ) → at ≤ i → i < end → bound ≤ field_of field (record_from s (i * 16))
