-- 01 "Numbers returned", 4 to 8, over the tree: "5 and 7 count over the tree", 4, 6 and 8 look at every clock, register and removal in it.
use Rattle.std.specs.Prelude.{Bool, false, ◌||◌, cond, ℕ, zero, suc, ◌+◌, ltb, length}
use Rattle.limits.specs.Limits.{dot_limit, entry_limit, value_limit, waiting_limit, key_limit}
use Rattle.listlaws.specs.First.{some}
use Rattle.listlaws.specs.Fold.{total_of}
use Rattle.clock.specs.Dots.{dots_of}
use Rattle.removals.specs.Model.{under_of, listed_in}
use Rattle.map.specs.Judging.{exceeding}
use Rattle.levels.specs.Level.{Val}

-- the limits on clock dots, entries, values, waiting removals, keys of one
pub record Limited : Type 0 where
  pub dots : ℕ
  pub entries : ℕ
  pub values : ℕ
  pub waiting : ℕ
  pub keys : ℕ

abbrev pub sled_limits : Limited
sled_limits = record { dots = dot_limit; entries = entry_limit; values = value_limit; waiting = waiting_limit; keys = key_limit }

-- "with 32 entries and 8 waiting removals in the whole tree"
abbrev pub rack_limits : Limited
rack_limits = record { dots = 8; entries = 32; values = 4; waiting = 8; keys = 16 }

unfoldable pub over_dots_at : ℕ → (n : ℕ) → Val n → Bool
over_dots_at limit zero v = some (λ x. exceeding limit (dots_of x.clock)) v
over_dots_at limit (suc n) m =
    exceeding limit m.seen || (some (λ e. exceeding limit e.dots || over_dots_at limit n e.val) m.entries
    || some (λ r. exceeding limit (under_of r)) m.waiting)

unfoldable pub entries_within : (n : ℕ) → Val n → ℕ
entries_within zero v = 0
entries_within (suc n) m = total_of (λ e. 1 + entries_within n e.val) m.entries

unfoldable pub over_values_at : ℕ → (n : ℕ) → Val n → Bool
over_values_at limit zero v = exceeding limit v
over_values_at limit (suc n) m = some (λ e. over_values_at limit n e.val) m.entries

unfoldable pub waiting_within : (n : ℕ) → Val n → ℕ
waiting_within zero v = 0
waiting_within (suc n) m = length m.waiting + total_of (λ e. waiting_within n e.val) m.entries

unfoldable pub over_keys_at : ℕ → (n : ℕ) → Val n → Bool
over_keys_at limit zero v = false
over_keys_at limit (suc n) m = some (λ r. exceeding limit (listed_in r)) m.waiting || some (λ e. over_keys_at limit n e.val) m.entries

unfoldable pub over_number_at : Limited → (n : ℕ) → Val n → ℕ
over_number_at l n v =
    cond (over_dots_at l.dots n v) 4
    (cond (ltb l.entries (entries_within n v)) 5
    (cond (over_values_at l.values n v) 6 (cond (ltb l.waiting (waiting_within n v)) 7 (cond (over_keys_at l.keys n v) 8 0))))
