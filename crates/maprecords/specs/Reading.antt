-- The map that the records of an image stand for.
use Rattle.std.specs.Prelude.{ℕ, zero, suc, ◌+◌, max, Bool, cond, ◌&&◌, List, [], ◌∷◌, ◌++◌, map, eqb}
use Rattle.listlaws.specs.Sift.{those}
use Rattle.listlaws.specs.Fold.{fold}
use Rattle.listlaws.specs.First.{some}
use Rattle.clock.specs.Dots.{clock_of}
use Rattle.register.specs.declared.Value.{Value}
use Rattle.entries.specs.declared.Entry.{Entry}
use Rattle.removals.specs.declared.Removal.{Removal}
use Rattle.entries.specs.Model.{entry_as}
use Rattle.removals.specs.Model.{removal_as}
use Rattle.map.specs.declared.Map.{Map}
use Rattle.map.specs.Model.{map_as}
use Rattle.records.specs.declared.Record.{Record}
use Rattle.records.specs.Kinds.{entry_dot_kind, value_kind, value_dot_kind, waiting_dot_kind, waiting_key_kind}
use Rattle.clockimage.specs.Image.{is_kind, content_of, dots_from}
use Rattle.clockimage.specs.ClockImage.{clock_in}

-- records of a kind under a key, under an index, under both
abbrev pub under_key : ℕ → ℕ → Record → Bool
under_key kind key r = is_kind kind r && eqb r.key key

abbrev pub under_index : ℕ → ℕ → Record → Bool
under_index kind index r = is_kind kind r && eqb r.index index

abbrev pub under_both : ℕ → ℕ → ℕ → Record → Bool
under_both kind key index r = under_key kind key r && eqb r.index index

-- "Values are indexed from 0 in register order": what f gives of each element and its place, counted from i
unfoldable pub places_from : {A B : Type 0} → (ℕ → A → B) → ℕ → List A → List B
places_from f i [] = []
places_from f i (x ∷ l) = f i x ∷ places_from f (i + 1) l

-- the value of a record, with the dots that stand under its key and place
abbrev pub value_in : List Record → ℕ → ℕ → Record → Value
value_in l key place r = record { clock = clock_of (dots_from (under_both value_dot_kind key place) l); value = content_of r }

abbrev pub values_under : List Record → ℕ → List Value
values_under l key = places_from (value_in l key) 0 (those (under_key value_kind key) l)

abbrev pub entry_in : List Record → ℕ → Entry
entry_in l key = entry_as key (dots_from (under_key entry_dot_kind key) l) (values_under l key)

-- the keys that have an entry dot: each once, as they come
abbrev pub add_new : List ℕ → ℕ → List ℕ
add_new keys k = cond (some (λ x. eqb x k) keys) keys (keys ++ (k ∷ []))

unfoldable pub entry_keys : List Record → List ℕ
entry_keys l = fold (λ keys r. cond (is_kind entry_dot_kind r) (add_new keys r.key) keys) [] l

abbrev pub entries_for : List Record → List Entry
entries_for l = map (entry_in l) (entry_keys l)

-- one more than the highest index of a waiting clock
unfoldable pub waiting_count : List Record → ℕ
waiting_count l = fold (λ n r. cond (is_kind waiting_dot_kind r) (max n (r.index + 1)) n) 0 l

abbrev pub waiting_removal_in : List Record → ℕ → Removal
waiting_removal_in l index = removal_as (dots_from (under_index waiting_dot_kind index) l)
    (map (λ r. r.key) (those (under_index waiting_key_kind index) l))

-- 0, 1, .. n - 1
unfoldable pub numbers_below : ℕ → List ℕ
numbers_below zero = []
numbers_below (suc n) = numbers_below n ++ (n ∷ [])

abbrev pub waiting_for : List Record → List Removal
waiting_for l = map (waiting_removal_in l) (numbers_below (waiting_count l))

abbrev pub map_in : List Record → Map
map_in l = map_as (clock_in l) (entries_for l) (waiting_for l)
