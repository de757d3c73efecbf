-- What the code holds of sets of keys and of waiting removals that may be over a limit: how many there are, and the list where it fits.
use Rattle.std.specs.Prelude.{◌≡◌, Bool, true, false, not, ◌&&◌, cond, Option, Some, None, List, [], ℕ, ◌≤◌, ltb, leb, length}
use Rattle.listlaws.specs.First.{some}
use Rattle.listlaws.specs.Limit.{if_within}
use Rattle.removals.specs.declared.Removal.{Removal}
use Rattle.removals.specs.declared.Keys.{Keys}
use Rattle.removals.specs.declared.JoinedWaiting.{JoinedWaiting}
use Rattle.removals.specs.declared.ResetWaiting.{ResetWaiting}
use Rattle.limits.specs.Limits.{waiting_limit, key_limit}
use Rattle.removals.specs.Model.{keys_as, listed_in, waiting_as}

-- a set of keys, or none where it is over the limit
abbrev pub united_as : List ℕ → Option Keys
united_as l = if_within key_limit (λ k. Some (keys_as k)) None l

-- a removal's keys are laid down with zeros behind them
abbrev pub KeysLaid : Removal → Type 0
KeysLaid r = r.keys ≡ keys_as (listed_in r)

-- a removal with too many keys
abbrev pub overlong : Removal → Bool
overlong r = ltb key_limit (length (listed_in r))

-- two lists of waiting removals as one: how many there are, whether one has too many keys, and the removals where they are within both limits
unfoldable pub joined_as : List Removal → JoinedWaiting
joined_as l = record {
  count = length l;
  long = some overlong l;
  waiting = cond (leb (length l) waiting_limit && not (some overlong l)) (waiting_as l) (waiting_as []);
}

-- so many removals at most have been joined, and no more are stored
abbrev pub Numbered : JoinedWaiting → ℕ → Type 0
Numbered g n = (g.count ≤ n) × (g.waiting.len ≤ g.count)

-- what a reset leaves of the waiting removals, or that one of them has too many keys
unfoldable pub reset_as : List Removal → ResetWaiting
reset_as l = cond (some overlong l) (record { over = true; waiting = waiting_as [] }) (record { over = false; waiting = waiting_as l })
