-- The plan of a result's waiting removals: where each one's dots stand in two images and which of them are left, and where the removals of
-- two lists go.
use Rattle.std.specs.Prelude.{◌≡◌, false, cond, List, [], ℕ, ◌+◌, ◌*◌, ◌≤◌, ◌<◌, ltb, length, get_or}
use Rattle.clock.specs.declared.Dot.{Dot}
use Rattle.limits.specs.Limits.{dot_limit, waiting_limit}
use Rattle.removals.specs.declared.Removal.{Removal}
use Rattle.removals.specs.Model.{no_removal, under_of}
use Rattle.runs.specs.Run.{run_dots}
use Rattle.marks.specs.Marks.{picked}
use Rattle.queued.specs.Planned.{Moves}
use Rattle.walks.specs.Walk.{between}
use Rattle.planned.specs.declared.Held.{Held}
use Rattle.planned.specs.declared.Plan.{Plan}

-- of two images, the one that it names
abbrev pub held_in : List ℕ → List ℕ → Held → List ℕ
held_in s t x = cond x.second t s

-- what is left of its dots
abbrev pub dots_left : List ℕ → List ℕ → Held → List Dot
dots_left s t x = picked x.marks (run_dots (between (held_in s t x) x.from x.to))

-- a clock is what is left of the dots of a run
pub record HeldLies (s t : List ℕ) (x : Held) (d : List Dot) : Type 0 where
  pub order : x.from ≤ x.to
  pub few : x.to ≤ x.from + dot_limit
  pub within : x.to * 16 ≤ length (held_in s t x)
  pub dots : dots_left s t x ≡ d

-- nothing held
abbrev pub no_held : Held
no_held = record { second = false; from = 0; to = 0; marks = [] }

-- the plan of a result: whether there are too many removals; where not, where their clocks lie, and where the keys come from
pub record Plans (s t : List ℕ) (w v result : List Removal) (p : Plan) : Type 0 where
  pub over : p.over ≡ ltb waiting_limit (length result)
  pub count : p.over ≡ false → p.len ≡ length result
  pub clocks : p.over ≡ false → (j : ℕ) → j < length result → HeldLies s t (get_or p.items j no_held) (under_of (get_or result j no_removal))
  pub moves : p.over ≡ false → Moves w v result p.ours p.theirs
