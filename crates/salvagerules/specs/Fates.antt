-- What becomes of each record of a damaged image: whether it stays, with which index, and the step at which it went or changed.
use Rattle.std.specs.Prelude.{ℕ, Bool, true, false, not, cond, ◌&&◌, List, [], ◌∷◌, ◌++◌, map}
use Rattle.listlaws.specs.Sift.{those}
use Rattle.records.specs.declared.Record.{Record}

-- the record as it will be written, whether it stays, and the step that took or changed it (0 for none)
pub record Fate : Type 0 where
  pub item : Record
  pub stays : Bool
  pub step : ℕ

-- as it came
abbrev pub untouched : Record → Fate
untouched r = record { item = r; stays = true; step = 0 }

abbrev pub gone_by : ℕ → Fate → Fate
gone_by n f = record { item = f.item; stays = false; step = n }

-- the records that still stay, in order
abbrev pub stayed : Fate → Bool
stayed f = f.stays

abbrev pub staying : List Fate → List Record
staying l = map (λ f. f.item) (those stayed l)

-- one that still stays goes by step n, where it does not pass the test, given the records that stay before it
abbrev pub tested : ℕ → (List Record → Record → Bool) → List Record → Fate → Fate
tested n test seen f = cond (f.stays && not (test seen f.item)) (gone_by n f) f

-- "taken in order": each is tested, given the records that stay before it, which begin with `seen`
unfoldable pub taken_after : ℕ → (List Record → Record → Bool) → List Record → List Fate → List Fate
taken_after n test seen [] = []
taken_after n test seen (f ∷ l) =
    tested n test seen f ∷ taken_after n test (seen ++ staying (tested n test seen f ∷ [])) l

abbrev pub taken : ℕ → (List Record → Record → Bool) → List Fate → List Fate
taken n test l = taken_after n test [] l
