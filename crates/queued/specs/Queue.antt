-- The waiting removals of an image where they lie: their runs of dots, which of them list a key, and a clock cut by those that do.
use Rattle.std.specs.Prelude.{◌≡◌, Bool, false, cond, List, map, ℕ, ◌+◌, ◌*◌, ◌-◌, ◌≤◌, ◌<◌, leb, length, get_or}
use Rattle.listlaws.specs.Fold.{fold}
use Rattle.listlaws.specs.Sift.{those}
use Rattle.clock.specs.declared.Dot.{Dot}
use Rattle.limits.specs.Limits.{dot_limit, waiting_limit}
use Rattle.clock.specs.Dots.{cut_dots}
use Rattle.clock.specs.Lawful.{Lawful}
use Rattle.removals.specs.declared.Removal.{Removal}
use Rattle.removals.specs.Model.{no_removal, under_of, listed_in}
use Rattle.removals.specs.Waits.{listed}
use Rattle.records.specs.declared.Record.{Record}
use Rattle.clockimage.specs.Image.{dot_of}
use Rattle.mapimage.specs.Sorted.{in_order}
use Rattle.mapimage.specs.MapImage.{flat_from, key_number, key_numbers}
use Rattle.walks.specs.Walk.{part}
use Rattle.queued.specs.declared.Queue.{Queue}

-- the dots of a clock stand from one place to another, within s
pub record RunLies (s : List ℕ) (from to : ℕ) (d : List Dot) : Type 0 where
  pub order : from ≤ to
  pub within : to * 16 ≤ length s
  pub few : to - from ≤ dot_limit
  pub dots : map dot_of (part s from to) ≡ d
  pub lawful : Lawful d

-- where the dots of each of some removals stand
pub record Queued (s : List ℕ) (q : Queue) (w : List Removal) : Type 0 where
  pub count : q.len ≡ length w
  pub few : length w ≤ waiting_limit
  pub each : (j : ℕ) → j < length w → RunLies s (get_or q.starts j 0) (get_or q.starts (j + 1) 0) (under_of (get_or w j no_removal))

-- a clock without what the removals that list a key have seen, one after the other
unfoldable pub cuts_for : List Removal → ℕ → List Dot → List Dot
cuts_for w key x = fold (λ d r. cond (listed (listed_in r) key) (cut_dots (under_of r) d) d) x w

-- whether the removal at a place lists a key
abbrev pub lists : List Removal → ℕ → ℕ → Bool
lists w j key = listed (listed_in (get_or w j no_removal)) key

-- which removals list a key
pub record Marked (w : List Removal) (key : ℕ) (under : List Bool) : Type 0 where
  pub each : (j : ℕ) → j < waiting_limit → get_or under j false ≡ lists w j key

-- a key under an index, in order
abbrev pub rank : Record → ℕ
rank r = key_number r.index r.key

-- the records from `at` to `end`, within s, say which keys some removals list, from the number `low` on
pub record Keyed (s : List ℕ) (at end low : ℕ) (w : List Removal) : Type 0 where
  pub order : at ≤ end
  pub within : end * 16 ≤ length s
  pub few : length w ≤ waiting_limit
  pub numbers : map rank (part s at end) ≡ those (leb low) (in_order (flat_from key_numbers 0 w))
