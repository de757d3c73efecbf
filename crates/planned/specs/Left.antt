-- What a waiting removal holds of a run of dots where it lies, and some of them in order.
use Rattle.std.specs.Prelude.{◌≡◌, Bool, true, false, cond, List, [], ℕ, ◌+◌, ◌*◌, ◌≤◌, ◌<◌, length, get_or, replicate}
use Rattle.clock.specs.declared.Dot.{Dot}
use Rattle.limits.specs.Limits.{dot_limit, waiting_limit}
use Rattle.clock.specs.Lawful.{Lawful}
use Rattle.runs.specs.Run.{run_dots}
use Rattle.marks.specs.Marks.{picked}
use Rattle.walks.specs.Walk.{between}
use Rattle.planned.specs.declared.Held.{Held}
use Rattle.planned.specs.declared.Ordered.{Ordered}
use Rattle.planned.specs.Planned.{no_held}

-- what is left of the dots of a run of s
abbrev pub left_in : List ℕ → Held → List Dot
left_in s x = picked x.marks (run_dots (between s x.from x.to))

-- a run of which all is left
abbrev pub whole_run : Bool → ℕ → ℕ → Held
whole_run b i j = record { second = b; from = i; to = j; marks = replicate dot_limit true }

-- one where it is so
abbrev pub one_if : Bool → ℕ
one_if b = cond b 1 0

-- its run stands within s
pub record RunWithin (s : List ℕ) (x : Held) : Type 0 where
  pub order : x.from ≤ x.to
  pub few : x.to ≤ x.from + dot_limit
  pub within : x.to * 16 ≤ length s

-- and says a clock
pub record Clear (s : List ℕ) (x : Held) : Type 0 where
  pub placed : RunWithin s x
  pub lawful : Lawful (run_dots (between s x.from x.to))

-- it holds a clock, in the first of two images
pub record Left (s : List ℕ) (x : Held) (d : List Dot) : Type 0 where
  pub first : x.second ≡ false
  pub placed : RunWithin s x
  pub dots : left_in s x ≡ d

-- some removals hold these clocks
pub record Lined (s : List ℕ) (all : Ordered) (l : List (List Dot)) : Type 0 where
  pub count : all.len ≡ length l
  pub few : length l ≤ waiting_limit
  pub each : (j : ℕ) → j < length l → Left s (get_or all.items j no_held) (get_or l j [])
