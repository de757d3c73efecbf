-- Worked examples, computed: M of document 01 and its image, the empty map, and a map of the longest image.
use mathlib.Core.Path.{◌≡◌, refl}
use mathlib.Core.List.{List, [], ◌∷◌, map}
use Prim.Native.Nat.{ℕ, ◌+◌, ◌*◌}
use lib.ListN.{length}
use Rattle.listlaws.specs.Pad.{pad}
use Rattle.listlaws.specs.Sift.{sift}
use Rattle.listlaws.specs.Fold.{fold}
use Rattle.listlaws.specs.First.{first_in}
use Rattle.clock.specs.declared.Dot.{Dot}
use Rattle.clock.specs.Dots.{clock_of, is_empty, counter_in, covers}
use Rattle.limits.specs.Limits.{value_limit, entry_limit, waiting_limit, key_limit}
use Rattle.entries.specs.Model.{entry_as}
use Rattle.removals.specs.Model.{removal_as}
use Rattle.map.specs.declared.Map.{Map}
use Rattle.map.specs.Model.{map_as, no_map}
use Rattle.records.specs.declared.Record.{Record}
use Rattle.records.specs.Kinds.{record_ok, before}
use Rattle.records.specs.Records.{records_from, bytes_of}
use Rattle.scan.specs.Each.{every, each_after, count_after}
use Rattle.scan.specs.Formed.{well_formed}
use Rattle.scan.specs.Limits.{tally, within}
use Rattle.scan.specs.Numbers.{scan_number}
use Rattle.mapimage.specs.Sorted.{insert, in_order}
use Rattle.mapimage.specs.MapImage.{map_longest, flat_from, map_records, map_image}
use Rattle.maprecords.specs.Reading.{entry_keys, waiting_count, numbers_below, places_from}
use Rattle.maprecords.specs.Related.{ascend, related, judged_map, read_map}

dot : ℕ → ℕ → Dot
dot a n = record { actor = a; counter = n }

-- M = clock {1:1}, entry 5 {1:1} holding ({1:1}, 40)
m : Map
unfolding dot
m = map_as (dot 1 1 ∷ []) (entry_as 5 (dot 1 1 ∷ [])
    (record { clock = clock_of (dot 1 1 ∷ []); value = record { number = 40; origin = 0 } } ∷ []) ∷ [])
    []

row : ℕ → ℕ → ℕ → ℕ → ℕ → Record
row kind index actor key number = record { kind = kind; index = index; actor = actor; key = key; number = number }

m-records : List Record
unfolding row
m-records = row 1 0 1 0 1 ∷ (row 2 0 1 5 1 ∷ (row 3 0 0 5 40 ∷ (row 4 0 1 5 1 ∷ [])))

-- end theorems from here on: the lines that `mapdump` prints for M
m-writes : map_records m ≡ m-records
unfolding m dot row m-records flat_from in_order fold pad
m-writes = refl

m-reads : judged_map m-records ≡ record { number = 0; map = m }
unfolding m dot row m-records scan_number well_formed within each_after count_after tally every record_ok before related sift fold
    first_in places_from
    entry_keys waiting_count numbers_below ascend covers counter_in is_empty pad
m-reads = refl

empty-writes : map_image no_map ≡ []
unfolding flat_from in_order fold bytes_of pad
empty-writes = refl

empty-reads : read_map [] ≡ record { number = 0; map = no_map }
unfolding read_map records_from scan_number well_formed within each_after related every sift fold entry_keys waiting_count numbers_below ascend pad
empty-reads = refl

-- a map with every place in use
dots : ℕ → List Dot
unfolding numbers_below dot
dots n = map (λ a. dot a (n + 1)) (numbers_below 8)

full : Map
unfolding numbers_below dots
full =
    map_as (dots 9) (map (λ k. entry_as k (dots 0) (map (λ v. record { clock = clock_of (dots v); value = record { number = v; origin = 0 } })
    (numbers_below value_limit))) (numbers_below entry_limit))
    (map (λ i. removal_as (dots i) (numbers_below key_limit)) (numbers_below waiting_limit))

full-longest : length (map_records full) * 16 ≡ map_longest
unfolding full dots numbers_below dot flat_from in_order insert fold pad
full-longest = refl

longest : map_longest ≡ 28800
longest = refl
