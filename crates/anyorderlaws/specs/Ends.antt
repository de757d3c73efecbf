-- What a run of removals makes of a map, key by key.
use Rattle.std.specs.Prelude.{◌≡◌, Bool, true, false, ◌⊎◌, List, ℕ, ◌≤◌}
use Rattle.listlaws.specs.Order.{◌∈◌}
use Rattle.clock.specs.declared.Dot.{Dot}
use Rattle.clock.specs.Dots.{dots_of, is_empty, counter_in, covers, cut_dots}
use Rattle.register.specs.declared.Value.{Value}
use Rattle.register.specs.Values.{cut_values}
use Rattle.entries.specs.declared.Entry.{Entry}
use Rattle.removals.specs.declared.Removal.{Removal}
use Rattle.entries.specs.Model.{dots_in, values_in, entry_as}
use Rattle.removals.specs.Model.{under_of, listed_in}
use Rattle.removals.specs.Waits.{listed}
use Rattle.map.specs.declared.Map.{Map}
use Rattle.map.specs.Model.{seen_by, entries_in, waiting_in}
use Rattle.maplaws.specs.Among.{OneOf, UnderClock, Lists, Exactly}

-- "the largest counters among the clocks that list" a key: at or above each of them, and one of them or 0
pub record Largest (ws : List Removal) (k : ℕ) (c : List Dot) : Type 0 where
  pub above : (a : ℕ) (w : Removal) → w ∈ ws → listed (listed_in w) k ≡ true → counter_in (under_of w) a ≤ counter_in c a
  pub reached : (a : ℕ)
      → (counter_in c a ≡ 0) ⊎ ((w : Removal) × (w ∈ ws) × (listed (listed_in w) k ≡ true) × (counter_in c a ≡ counter_in (under_of w) a))

-- what becomes of an entry whose key has these largest counters: its clock and its values lose exactly the dots at or below them
abbrev pub lessened : List Dot → Entry → Entry
lessened c e = entry_as e.key (cut_dots c (dots_in e)) (cut_values c (values_in e))

-- nothing is left of an entry's clock
abbrev pub emptied_by : List Dot → Entry → Bool
emptied_by c e = is_empty (cut_dots c (dots_in e))

-- a removal that the map's clock does not cover, and is such
abbrev pub UncoveredSuch : Map → (Removal → Type 0) → Removal → Type 0
UncoveredSuch m Such w = (covers (seen_by m) (under_of w) ≡ false) × Such w

-- the map that removals end in: nothing here tells apart two lists that have the same removals, in another order or more than once
pub record EndMap (m : Map) (ws : List Removal) (end : Map) : Type 0 where
  -- the map clock stays as it is
  pub clock : seen_by end ≡ seen_by m
  -- "the largest counters among the clocks that list it", of each key
  pub counters : ℕ → List Dot
  pub largest : (k : ℕ) → Largest ws k (counters k)
  -- "each key loses exactly the dots at or below" these: an entry at the end is an old one without them
  pub loses : (f : Entry) → f ∈ entries_in end → (e : Entry) × (e ∈ entries_in m) × (f ≡ lessened (counters e.key) e)
  -- and each old one that has a dot left stands there
  pub keeps : (e : Entry) → e ∈ entries_in m → emptied_by (counters e.key) e ≡ false → lessened (counters e.key) e ∈ entries_in end
  -- "emptied values go"
  pub emptied-values : (f : Entry) → f ∈ entries_in end → (v : Value) → v ∈ values_in f → is_empty (dots_of v.clock) ≡ false
  -- "emptied entries go with all they hold": nothing is left under their keys
  pub emptied-entries : (e : Entry) → e ∈ entries_in m → emptied_by (counters e.key) e ≡ true
      → (f : Entry) → f ∈ entries_in end → f.key ≡ e.key → ⊥
  -- "a removal joins those waiting exactly if the map's clock doesn't cover it": which clocks wait, also with no keys
  pub waiting : (c : List Dot) → Exactly (OneOf (waiting_in end) (UnderClock c))
      (OneOf (waiting_in m) (UnderClock c) ⊎ OneOf ws (UncoveredSuch m (UnderClock c)))
  -- and which keys under each
  pub waiting-keys : (c : List Dot) (k : ℕ)
      → Exactly (OneOf (waiting_in end) (Lists c k)) (OneOf (waiting_in m) (Lists c k) ⊎ OneOf ws (UncoveredSuch m (Lists c k)))
