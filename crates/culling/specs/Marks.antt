-- Marks beside the records of a damaged image, and what they say of each: the form in which the code keeps what became of the records.
use Rattle.std.specs.Prelude.{◌≡◌, ℕ, Bool, ◌&&◌, ◌||◌, List, [], ◌∷◌, map, eqb, ltb, leb}
use Rattle.listlaws.specs.Sift.{those}
use Rattle.records.specs.declared.Record.{Record}
use Rattle.records.specs.Records.{records_of}
use Rattle.salvagerules.specs.Fates.{Fate, untouched}
use Rattle.salvagerules.specs.Steps.{step_two, step_three, step_four}

pub record MarkedRecord : Type 0 where
  pub mark : ℕ
  pub item : Record

unfoldable pub beside_marks : List ℕ → List Record → List MarkedRecord
beside_marks [] l = []
beside_marks (m ∷ ms) [] = []
beside_marks (m ∷ ms) (r ∷ l) = record { mark = m; item = r } ∷ beside_marks ms l

-- the whole records of some bytes, each with its mark
abbrev pub marked_of : List ℕ → List ℕ → List MarkedRecord
marked_of marks s = beside_marks marks (records_of s)

-- a record is left: it stays, or goes at the step `from` or later, where that is not 0
abbrev pub is_left : ℕ → ℕ → Bool
is_left from mark = eqb mark 0 || (ltb 0 from && leb from mark)

abbrev pub is_left_at : ℕ → MarkedRecord → Bool
is_left_at from z = is_left from z.mark

abbrev pub left_items : ℕ → List MarkedRecord → List Record
left_items from l = map (λ z. z.item) (those (is_left_at from) l)

-- what becomes of a record, by a mark of steps 2 to 5: it stays as it is, or goes
abbrev pub plain_fate : MarkedRecord → Fate
plain_fate z = record { item = z.item; stays = eqb z.mark 0; step = z.mark }

abbrev pub plain_fates : List MarkedRecord → List Fate
plain_fates l = map plain_fate l

-- what the steps make of the whole records of some bytes
abbrev pub after_two : List Record → List Fate
after_two l = step_two (map untouched l)

abbrev pub after_three : List Record → List Fate
after_three l = step_three (after_two l)

abbrev pub after_four : List Record → List Fate
after_four l = step_four (after_three l)

-- the marks say so
pub record Says (marks s : List ℕ) (l : List Fate) : Type 0 where
  pub fates : plain_fates (marked_of marks s) ≡ l
