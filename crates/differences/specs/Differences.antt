-- CR 14's report over two maps, in its words.
use Rattle.std.specs.Prelude.{Bool, cond, ◌&&◌, List, [], ◌∷◌, ◌++◌, ℕ, ltb}
use Rattle.listlaws.specs.Order.{by}
use Rattle.listlaws.specs.Sift.{those}
use Rattle.listlaws.specs.Weave.{weave}
use Rattle.clock.specs.Dots.{order_of}
use Rattle.entries.specs.declared.Entry.{Entry}
use Rattle.entries.specs.Model.{dots_in, values_in}
use Rattle.map.specs.Model.{entries_in}
use Rattle.equality.specs.Equality.{equal_clock, equal_values}
use Rattle.records.specs.Bytes.{num_bytes}
use Rattle.maprecords.specs.Related.{read_map}
use Rattle.answers.specs.Answer.{Answer}
use Rattle.differences.specs.declared.Difference.{Difference}

-- not "another clock or register": the same clock, and the same register, "register order ignored as in CR 5"
unfoldable pub same_entry : Entry → Entry → Bool
same_entry e f = equal_clock (order_of (dots_in e) (dots_in f)) && equal_values (values_in e) (values_in f)

-- "keys only in the first, only in the second, and in both with another clock or register (classes 1, 2, 3)"
abbrev pub only_first : Entry → Difference
only_first e = record { class = 1; key = e.key }

abbrev pub only_second : Entry → Difference
only_second e = record { class = 2; key = e.key }

abbrev pub in_both : Entry → Entry → Difference
in_both e f = record { class = cond (same_entry e f) 0 3; key = e.key }

-- every key of either map with its class, "ascending by key, each exactly once"
unfoldable pub classed : List Entry → List Entry → List Difference
classed l m = weave (by (λ e. e.key)) only_first only_second in_both l m

-- those that differ
abbrev pub differs : Difference → Bool
differs t = ltb 0 t.class

unfoldable pub differences_of : List Entry → List Entry → List Difference
differences_of l m = those differs (classed l m)

-- "as five-byte records of class and little-endian key"
abbrev pub difference_bytes : Difference → List ℕ
difference_bytes t = num_bytes 0 t.class ++ num_bytes 2 t.key

unfoldable pub all_told : List Difference → List ℕ
all_told [] = []
all_told (t ∷ l) = difference_bytes t ++ all_told l

-- "the report gives only the images' numbers and 10"
abbrev pub differences_answer : List ℕ → List ℕ → Answer
differences_answer map other = record {
  first = (read_map map).number;
  second = (read_map other).number;
  own = 0;
  bytes = all_told (differences_of (entries_in (read_map map).map) (entries_in (read_map other).map));
}
