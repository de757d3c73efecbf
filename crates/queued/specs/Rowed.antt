-- A key of a result's waiting removals, and which of them list it.
use Rattle.std.specs.Prelude.{◌≡◌, Bool, true, false, cond, List, [], ◌∷◌, ◌⊎◌, ℕ, ◌+◌, ◌≤◌, ◌<◌, length, get_or}
use Rattle.removals.specs.declared.Removal.{Removal}
use Rattle.limits.specs.Limits.{waiting_limit}
use Rattle.removals.specs.Model.{no_removal, listed_in}
use Rattle.records.specs.declared.Record.{Record}
use Rattle.records.specs.Kinds.{waiting_key_kind}
use Rattle.mapimage.specs.MapImage.{key_number}
use Rattle.opimage.specs.OpImage.{key_record}
use Rattle.queued.specs.declared.Row.{Row}
use Rattle.queued.specs.Queue.{lists, Marked, Keyed}

-- a mark that goes to a place
pub record MarkGoes (marks : List Bool) (table : List ℕ) (top j : ℕ) : Type 0 where
  pub from : ℕ
  pub low : from < top
  pub set : get_or marks from false ≡ true
  pub to : get_or table from waiting_limit ≡ j

-- marks that are carried to their places, beside others: all of them, and nothing else
pub record Carried (under marks : List Bool) (table : List ℕ) (out : List Bool) : Type 0 where
  pub whole : length out ≡ waiting_limit
  pub keeps : (j : ℕ) → get_or under j false ≡ true → get_or out j false ≡ true
  pub sets : (j : ℕ) → j < waiting_limit → MarkGoes marks table waiting_limit j → get_or out j false ≡ true
  pub only : (j : ℕ) → get_or out j false ≡ true → (get_or under j false ≡ true) ⊎ MarkGoes marks table waiting_limit j

-- the next key from `low` on that a result's removals list, which of them do, and that the rest lies behind
pub record RowLies (s : List ℕ) (n : ℕ) (t : List ℕ) (m low : ℕ) (w v result : List Removal) (r : Row) : Type 0 where
  pub whole : length r.under ≡ waiting_limit
  pub above : low ≤ r.key
  pub none : (j k : ℕ) → j < waiting_limit → lists result j k ≡ true → low ≤ k → r.key ≤ k
  pub marked : Marked result r.key r.under
  pub first : Keyed s r.i n (key_number 0 (r.key + 1)) w
  pub second : Keyed t r.j m (key_number 0 (r.key + 1)) v

-- the records of a key under the places of its marks, counted from p
unfoldable pub row_records : ℕ → ℕ → List Bool → List Record
row_records key p [] = []
row_records key p (b ∷ l) = cond b (key_record waiting_key_kind p key ∷ row_records key (p + 1) l) (row_records key (p + 1) l)

-- one where the mark of a place is set
abbrev pub one_if_marked : List Bool → ℕ → ℕ
one_if_marked under p = cond (get_or under p false) 1 0

-- the keys of the removal at a place
abbrev pub keys_at : List Removal → ℕ → List ℕ
keys_at w p = listed_in (get_or w p no_removal)
