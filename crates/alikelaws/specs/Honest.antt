-- "Honest operations: a dot belongs to one update; put clocks and removal clocks are closed in H. (That a put clock has its own dot follows from
-- the guard.)"
use Rattle.std.specs.Prelude.{◌≡◌, true, List, ◌≤◌}
use Rattle.clock.specs.declared.Dot.{Dot}
use Rattle.clock.specs.Dots.{counter_in, covers}
use Rattle.removals.specs.declared.Removal.{Removal}
use Rattle.entries.specs.declared.Update.{Update}
use Rattle.removals.specs.Model.{under_of}
use Rattle.map.specs.declared.Op.{Op}
use Rattle.alikelaws.specs.Among.{UpdateIn, RemovalIn}
use Rattle.readiness.specs.Ready.{put_of}

-- a clock names an update: it covers the update's own dot
abbrev pub Names : List Dot → Update → Type 0
Names c u = u.dot.counter ≤ counter_in c u.dot.actor

-- "A clock is closed when with every update that it covers it covers that update's put clock."
abbrev pub Closed : List Op → List Dot → Type 0
Closed h c = (u : Update) → UpdateIn h u → Names c u → covers c (put_of u) ≡ true

pub record Honest (h : List Op) : Type 0 where
  pub one : (u v : Update) → UpdateIn h u → UpdateIn h v → u.dot ≡ v.dot → u ≡ v
  pub put : (u : Update) → UpdateIn h u → Closed h (put_of u)
  pub removal : (r : Removal) → RemovalIn h r → Closed h (under_of r)
