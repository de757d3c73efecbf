-- Step 5: the index that each record of those which stay is written with, and which records equal waiting clocks have in common.
use Rattle.std.specs.Prelude.{ℕ, Bool, true, false, cond, not, ◌&&◌, ◌||◌, List, [], ◌∷◌, eqb, ltb, length}
use Rattle.listlaws.specs.Sift.{those}
use Rattle.listlaws.specs.Fold.{fold}
use Rattle.listlaws.specs.First.{some, none}
use Rattle.limits.specs.Limits.{key_limit}
use Rattle.clock.specs.declared.Dot.{Dot}
use Rattle.removals.specs.Waits.{clock_before}
use Rattle.records.specs.declared.Record.{Record}
use Rattle.records.specs.Kinds.{value_kind, value_dot_kind, waiting_dot_kind, waiting_key_kind}
use Rattle.clockimage.specs.Image.{is_kind, dots_from}
use Rattle.maprecords.specs.Reading.{under_key, under_index, add_new}

-- "index gaps are closed": a value, and its dots, take the number of values that stay below it under its key
abbrev pub lower_value : Record → Record → Bool
lower_value r s = under_key value_kind r.key s && ltb s.index r.index

abbrev pub value_index : List Record → Record → ℕ
value_index k r = length (those (lower_value r) k)

-- the waiting clock under an index, and the indexes that have one, each once, as they come
abbrev pub waiting_clock : List Record → ℕ → List Dot
waiting_clock k index = dots_from (under_index waiting_dot_kind index) k

unfoldable pub waiting_indexes : List Record → List ℕ
waiting_indexes k = fold (λ l r. cond (is_kind waiting_dot_kind r) (add_new l r.index) l) [] k

-- two clocks with the same dots
unfoldable pub same_dots : List Dot → List Dot → Bool
same_dots [] [] = true
same_dots [] (y ∷ m) = false
same_dots (x ∷ l) [] = false
same_dots (x ∷ l) (y ∷ m) = eqb x.actor y.actor && (eqb x.counter y.counter && same_dots l m)

-- "equal waiting clocks united": of equal clocks the lowest index stands for all
abbrev pub shares_below : List Record → ℕ → ℕ → Bool
shares_below k index j = ltb j index && same_dots (waiting_clock k j) (waiting_clock k index)

unfoldable pub is_lowest : List Record → ℕ → Bool
is_lowest k index = none (shares_below k index) (waiting_indexes k)

-- "and all put in order": a waiting clock takes the number of the clocks before it, equal ones counted once
abbrev pub counts_before : List Record → ℕ → ℕ → Bool
counts_before k index j = is_lowest k j && clock_before (waiting_clock k j) (waiting_clock k index)

unfoldable pub waiting_index : List Record → ℕ → ℕ
waiting_index k index = length (those (counts_before k index) (waiting_indexes k))

-- the index with which a record is written, of those that stay
abbrev pub new_index : List Record → Record → ℕ
new_index k r =
    cond (is_kind value_kind r || is_kind value_dot_kind r) (value_index k r)
    (cond (is_kind waiting_dot_kind r || is_kind waiting_key_kind r) (waiting_index k r.index) r.index)

abbrev pub with_index : ℕ → Record → Record
with_index n r = record { kind = r.kind; index = n; actor = r.actor; key = r.key; number = r.number }

-- a waiting key of a clock that is equal to that of r
abbrev pub of_united_clock : List Record → Record → Record → Bool
of_united_clock k r s = is_kind waiting_key_kind s && same_dots (waiting_clock k s.index) (waiting_clock k r.index)

-- a key that the united clock lists already: of one key the records come by index, so the lower one's stays
abbrev pub lists_already : List Record → List Record → Record → Bool
lists_already k seen r = some (λ s. of_united_clock k r s && eqb s.key r.key) seen

-- "the 16 lowest keys of each kept": keys come ascending
abbrev pub key_room : List Record → List Record → Record → Bool
key_room k seen r = ltb (length (those (of_united_clock k r) seen)) key_limit

-- what stays of those, k, that step 4 left
abbrev pub kept_by_five : List Record → List Record → Record → Bool
kept_by_five k seen r =
    cond (is_kind waiting_dot_kind r) (is_lowest k r.index)
    (cond (is_kind waiting_key_kind r) (not (lists_already k seen r) && key_room k seen r) true)
