-- 01 "Map": what is asked of a map without changing it: both validations, making an operation, reading a key, the count.
use Rattle.std.specs.Prelude.{Bool, true, false, cond, List, [], ◌∷◌, ℕ, ◌+◌, ltb, eqb, length}
use Rattle.listlaws.specs.Sift.{those}
use Rattle.listlaws.specs.First.{first_in}
use Rattle.clock.specs.declared.Dot.{Dot}
use Rattle.clock.specs.Dots.{counter_in, shared}
use Rattle.register.specs.declared.Content.{Content}
use Rattle.entries.specs.declared.Entry.{Entry}
use Rattle.map.specs.declared.Map.{Map}
use Rattle.map.specs.declared.Op.{Op}
use Rattle.entries.specs.declared.Update.{Update}
use Rattle.asking.specs.declared.Made.{Made}
use Rattle.asking.specs.declared.AddCtx.{AddCtx}
use Rattle.asking.specs.declared.CmRDTValidation.{CmRDTValidation}
use Rattle.asking.specs.declared.CmRDTValidation.TheVariants.{Fits, Missing}
use Rattle.asking.specs.declared.CvRDTValidation.{CvRDTValidation}
use Rattle.asking.specs.declared.CvRDTValidation.TheVariants.{Once, Twice}
use Rattle.entries.specs.Model.{dots_in, entries_as, no_update}
use Rattle.removals.specs.Model.{removal_as, no_removal, waiting_as}
use Rattle.map.specs.Model.{seen_by, entries_in, no_op}
use Rattle.asking.specs.Contexts.{add_context}

-- the clock of a key's entry, empty where there is none
unfoldable pub clock_at : Map → ℕ → List Dot
clock_at m k = first_in (λ e. eqb e.key k) dots_in [] (entries_in m)

-- "An update's dot must be at most one above the map clock's counter, then at most one above the entry clock's (0 if no entry);
-- the first failure answers 11 with the range start (counter + 1) and end (the dot)."
unfoldable pub following : List Dot → Dot → CmRDTValidation → CmRDTValidation
following c d next = cond (ltb (counter_in c d.actor + 1) d.counter) (Missing (counter_in c d.actor + 1) d.counter) next

unfoldable pub validate_update : Map → Update → CmRDTValidation
validate_update m u = following (seen_by m) u.dot (following (clock_at m u.key) u.dot Fits)

-- "`validate_op`: a removal passes."
unfoldable pub validate_op : Map → Op → CmRDTValidation
validate_op m op = cond op.up (validate_update m op.update) Fits

-- 01's number and the numbers that it carries
abbrev pub order_number : CmRDTValidation → ℕ
order_number Fits = 0
order_number (Missing start end) = 11

abbrev pub order_start : CmRDTValidation → ℕ
order_start Fits = 0
order_start (Missing start end) = start

abbrev pub order_end : CmRDTValidation → ℕ
order_end Fits = 0
order_end (Missing start end) = end

-- the first that was found, by the order of a list
abbrev pub or_else : CvRDTValidation → CvRDTValidation → CvRDTValidation
or_else Once next = next
or_else (Twice d k h) next = Twice d k h

unfoldable pub first_spent : {A : Type 0} → (A → CvRDTValidation) → List A → CvRDTValidation
first_spent f [] = Once
first_spent f (x ∷ l) = or_else (f x) (first_spent f l)

-- "the first dot of our entry that their entry under a different key holds at the same counter": of our key and dots, and theirs
unfoldable pub spent_under : ℕ → List Dot → ℕ → List Dot → CvRDTValidation
spent_under key ours other theirs = cond (eqb key other) Once (first_in (shared theirs) (λ d. Twice d key other) Once ours)

abbrev pub spent_by : Entry → Entry → CvRDTValidation
spent_by ours theirs = spent_under ours.key (dots_in ours) theirs.key (dots_in theirs)

-- "`validate_merge`: by our key, their key, then actor, all ascending"
unfoldable pub validate_merge : Map → Map → CvRDTValidation
validate_merge m n = first_spent (λ e. first_spent (spent_by e) (entries_in n)) (entries_in m)

abbrev pub is_twice : CvRDTValidation → Bool
is_twice Once = false
is_twice (Twice d k h) = true

-- "answers 12 with dot and both keys"
abbrev pub spent_number : CvRDTValidation → ℕ
spent_number Once = 0
spent_number (Twice d k h) = 12

-- an update under a context, or the number of a context that was not had
abbrev pub update_op : AddCtx → ℕ → Content → Op
update_op c k value = record {
  up = true;
  removal = no_removal;
  update = record {
    dot = c.dot;
    key = k;
    put = record { clock = c.clock; value = value };
  };
}

unfoldable pub update_under : AddCtx → ℕ → Content → Made
update_under c k value = cond (eqb c.number 0) (record { number = 0; op = update_op c k value }) (record { number = c.number; op = no_op })

-- "Making an update by `update`: dot = map counter + 1, put clock = map clock with that dot": 9 at the last counter,
-- then 4 for a put clock of more than 8 dots
unfoldable pub make_update : Map → ℕ → ℕ → Content → Made
make_update m actor k value = update_under (add_context (seen_by m) actor) k value

-- "Making a removal: that key under its entry clock (`get`; empty clock if absent), or under the map clock (`read_ctx`)."
abbrev pub removal_op : List Dot → ℕ → Op
removal_op c k = record { up = false; removal = removal_as c (k ∷ []); update = no_update }

-- "Reading a key gives an image of the map clock and that entry alone."
unfoldable pub read_key : Map → ℕ → Map
read_key m k = record { clock = m.clock; entries = entries_as (those (λ e. eqb e.key k) (entries_in m)); waiting = waiting_as [] }

-- "The count is the number of entries."
unfoldable pub count : Map → ℕ
count m = length (entries_in m)
