-- Section 4, "What every map is": of the updates U and the removals R that a drive has applied.
use Rattle.std.specs.Prelude.{◌≡◌, true, false, List, [], ◌∷◌, ℕ, ◌≤◌, ◌<◌}
use Rattle.listlaws.specs.Order.{◌∈◌}
use Rattle.clock.specs.declared.Dot.{Dot}
use Rattle.clock.specs.Dots.{dots_of, counter_in, covers}
use Rattle.register.specs.declared.Value.{Value}
use Rattle.removals.specs.declared.Removal.{Removal}
use Rattle.entries.specs.declared.Entry.{Entry}
use Rattle.entries.specs.declared.Update.{Update}
use Rattle.entries.specs.Model.{dots_in, values_in}
use Rattle.entries.specs.Entries.{entry_at}
use Rattle.entries.specs.Valid.{ValidValue}
use Rattle.removals.specs.Model.{under_of, listed_in}
use Rattle.removals.specs.Waits.{listed}
use Rattle.map.specs.declared.Map.{Map}
use Rattle.map.specs.Model.{seen_by, entries_in, waiting_in}
use Rattle.maplaws.specs.Among.{OneOf, UnderClock, Lists, Exactly}
use Rattle.readiness.specs.Ready.{put_of}
use Rattle.alikelaws.specs.Honest.{Names}

-- "gone(k): the join of the clocks of the removals in S that list k": a dot that it does not cover
pub record Spared (R : Removal → Type 0) (k : ℕ) (d : Dot) : Type 0 where
  pub positive : 0 < d.counter
  pub above : (r : Removal) → R r → listed (listed_in r) k ≡ true → counter_in (under_of r) d.actor < d.counter

-- the updates of a key
pub record OfKey (U : Update → Type 0) (k : ℕ) (u : Update) : Type 0 where
  pub among : U u
  pub key : u.key ≡ k

-- "values(k): the updates of k in S whose own dot gone(k) does not cover and which no other update of k in S names in its put clock"
pub record Standing (Up : Update → Type 0) (Sp : Dot → Type 0) (u : Update) : Type 0 where
  pub among : Up u
  pub spared : Sp u.dot
  pub unnamed : (x : Update) → Up x → (x ≡ u → ⊥) → Names (put_of x) u → ⊥

-- "the clock of a value of update u has u's own dot at its counter, and lies within u's put clock"; "with its value and origin"
pub record ValueOf (u : Update) (v : Value) : Type 0 where
  pub valid : ValidValue v
  pub content : v.value ≡ u.put.value
  pub within : covers (put_of u) (dots_of v.clock) ≡ true
  pub own : counter_in (dots_of v.clock) u.dot.actor ≡ u.dot.counter

-- place by place
pub data Matched : List Update → List Value → Type 0 where
  nil : Matched [] []
  next : {u : Update} {v : Value} {us : List Update} {vs : List Value} → ValueOf u v → Matched us vs → Matched (u ∷ us) (v ∷ vs)

-- "Each once"
pub data EachOnce : List Update → Type 0 where
  nil : EachOnce []
  next : {u : Update} {us : List Update} → (u ∈ us → ⊥) → EachOnce us → EachOnce (u ∷ us)

-- what a key has: an entry clock, and values
pub record AtKey (Up : Update → Type 0) (Sp : Dot → Type 0) (c : List Dot) (l : List Value) : Type 0 where
  -- "entry(k)[a]: the counter of a's last update of k in S, if it is above gone(k)[a]; else absent"
  pub above : (u : Update) → Up u → Sp u.dot → Names c u
  pub reached : (a : ℕ) → 0 < counter_in c a → (u : Update) × Up u × Sp u.dot × (u.dot.actor ≡ a) × (u.dot.counter ≡ counter_in c a)
  -- "values(k)"
  pub updates : List Update
  pub matched : Matched updates l
  pub once : EachOnce updates
  pub stand : (u : Update) → u ∈ updates → Standing Up Sp u
  pub every : (u : Update) → Standing Up Sp u → u ∈ updates

-- one of the removals that a clock does not cover
abbrev pub NotCovered : (Removal → Type 0) → List Dot → (Removal → Type 0) → Type 0
NotCovered R seen Such = (r : Removal) × R r × (covers seen (under_of r) ≡ false) × Such r

-- an entry of a map, a new one where there is none
abbrev pub at_key : Map → ℕ → Entry
at_key m k = entry_at k (entries_in m)

pub record Pictures (U : Update → Type 0) (R : Removal → Type 0) (m : Map) : Type 0 where
  -- "clock[a]: the largest counter of a's updates in S", "plus: of each actor S has all counters up to the clock's"
  pub above : (u : Update) → U u → Names (seen_by m) u
  pub full : (a n : ℕ) → 0 < n → n ≤ counter_in (seen_by m) a → (u : Update) × U u × (u.dot.actor ≡ a) × (u.dot.counter ≡ n)
  -- "entry(k)", "values(k)"
  pub keys : (k : ℕ) → AtKey (OfKey U k) (Spared R k) (dots_in (at_key m k)) (values_in (at_key m k))
  -- "waiting: the removal clocks in S that the clock does not cover; keys under equal clocks united"
  pub waiting : (c : List Dot) → Exactly (OneOf (waiting_in m) (UnderClock c)) (NotCovered R (seen_by m) (UnderClock c))
  pub waiting-keys : (c : List Dot) (k : ℕ) → Exactly (OneOf (waiting_in m) (Lists c k)) (NotCovered R (seen_by m) (Lists c k))
