-- A sketch: entries whose values stand in two images, with marks that say which of their dots are left.
use Rattle.std.specs.Prelude.{◌≡◌, false, cond, List, [], ◌∷◌, ◌++◌, map, ℕ, ◌+◌, ◌*◌, ◌-◌, ◌≤◌, length, take}
use Rattle.listlaws.specs.First.{some}
use Rattle.listlaws.specs.Order.{◌∈◌}
use Rattle.clock.specs.declared.Clock.{Clock}
use Rattle.clock.specs.declared.Dot.{Dot}
use Rattle.limits.specs.Limits.{dot_limit, value_limit, entry_limit}
use Rattle.clock.specs.Dots.{dots_of, clock_of}
use Rattle.register.specs.declared.Value.{Value}
use Rattle.entries.specs.declared.Entry.{Entry}
use Rattle.entries.specs.Model.{entry_as, dots_in}
use Rattle.entries.specs.Steps.{overfull}
use Rattle.records.specs.declared.Record.{Record}
use Rattle.records.specs.Records.{record_from}
use Rattle.records.specs.Kinds.{entry_dot_kind, value_kind, value_dot_kind}
use Rattle.clockimage.specs.Image.{content_of}
use Rattle.mapimage.specs.MapImage.{flat_from, entry_records}
use Rattle.listlaws.specs.Fold.{total_of}
use Rattle.answers.specs.Sizes.{entry_size}
use Rattle.runs.specs.Run.{run_dots}
use Rattle.walks.specs.Walk.{between}
use Rattle.marks.specs.Marks.{picked, marks_set}
use Rattle.sketch.specs.declared.Source.{Source}
use Rattle.sketch.specs.declared.Flat.{Flat}
use Rattle.sketch.specs.declared.Sketched.{Sketched}
use Rattle.sketch.specs.declared.Sums.{Sums}
use Rattle.sketch.specs.declared.Sketch.{Sketch}

-- the most records of one entry: its dots, its values and theirs
abbrev pub entry_records_most : ℕ
entry_records_most = dot_limit + value_limit * (1 + dot_limit)

-- the value that a source names in s, under what is left of its clock
abbrev pub value_named : List ℕ → Source → Value
value_named s x = record {
  clock = clock_of (picked x.marks (run_dots (between s x.from x.to)));
  value = content_of
      (record_from s (x.value * 16));
}

-- of two images, the one that it names
abbrev pub image_named : List ℕ → List ℕ → Source → List ℕ
image_named s t x = cond x.second t s

abbrev pub value_from : List ℕ → List ℕ → Source → Value
value_from s t x = value_named (image_named s t x) x

-- its records stand within s
pub record Placed (s : List ℕ) (x : Source) : Type 0 where
  pub order : x.from ≤ x.to
  pub few : x.to ≤ x.from + dot_limit
  pub run : x.to * 16 ≤ length s
  pub value : x.value * 16 + 16 ≤ length s

abbrev pub sources_of : Sketched → List Source
sources_of k = take k.len k.sources

-- how many records it stands for: one, and a dot for each mark
abbrev pub source_size : Source → ℕ
source_size x = 1 + marks_set (take (x.to - x.from) x.marks)

-- actors and counters, side by side
unfoldable pub beside : List ℕ → List ℕ → List Dot
beside (a ∷ l) (n ∷ m) = record { actor = a; counter = n } ∷ beside l m
beside (a ∷ l) [] = []
beside [] m = []

-- the clock whose counters and actors stand apart
abbrev pub clock_apart : Flat → Clock
clock_apart f = record { dots = beside f.actors f.counters; len = f.len }

-- the entry that is drawn
abbrev pub drawn : List ℕ → List ℕ → Sketched → Entry
drawn s t k = entry_as k.key (dots_of (clock_apart k.own)) (map (value_from s t) (sources_of k))

-- each of its sources is placed
pub record Ready (s t : List ℕ) (k : Sketched) : Type 0 where
  pub each : (x : Source) → x ∈ sources_of k → Placed (image_named s t x) x

abbrev pub items_of : Sketch → List Sketched
items_of sk = take sk.sums.count sk.items

-- so of all
pub record AllReady (s t : List ℕ) (sk : Sketch) : Type 0 where
  pub each : (k : Sketched) → k ∈ items_of sk → Ready s t k

-- the entries that are drawn
abbrev pub drawn_all : List ℕ → List ℕ → Sketch → List Entry
drawn_all s t sk = map (drawn s t) (items_of sk)

-- the records of entries: dots, values, values' dots
abbrev pub sections_of : List Entry → List Record
sections_of l = flat_from (entry_records entry_dot_kind) 0 l
    ++ (flat_from (entry_records value_kind) 0 l ++ flat_from (entry_records value_dot_kind) 0 l)

-- what is promised of an entry in a sketch, of a key, a clock and values: how many values, and the values where they are within the limit
pub record Draws (s t : List ℕ) (key : ℕ) (d : List Dot) (l : List Value) (k : Sketched) : Type 0 where
  pub named : k.key ≡ key
  pub clock : clock_apart k.own ≡ clock_of d
  pub many : k.len ≡ length l
  pub values : length l ≤ value_limit → (map (value_from s t) (sources_of k) ≡ l) × Ready s t k

-- what is promised of the sums over entries: how many there are, whether one has too many values, and how many dots and records where both
-- are within the limits
pub record Summed (l : List Entry) (n : Sums) : Type 0 where
  pub count : n.count ≡ length l
  pub wide : n.wide ≡ some overfull l
  pub dots : length l ≤ entry_limit → some overfull l ≡ false → n.dots ≡ total_of (λ e. length (dots_in e)) l
  pub records : length l ≤ entry_limit → some overfull l ≡ false → n.dots + n.others ≡ total_of entry_size l
  pub few : n.count ≤ entry_limit → n.dots + n.others ≤ n.count * entry_records_most
  pub room : n.dots + n.others ≤ entry_limit * entry_records_most

-- what is promised of a sketch: the sums, and the entries where they are within the limits
pub record Sketches (s t : List ℕ) (l : List Entry) (sk : Sketch) : Type 0 where
  pub sums : Summed l sk.sums
  pub items : length l ≤ entry_limit → some overfull l ≡ false → (drawn_all s t sk ≡ l) × AllReady s t sk
