-- "Every map has one image": what is promised of maps, of operations and of clocks, said once.
use Rattle.std.specs.Prelude.{◌≡◌, cond, List, ℕ, ◌≤◌, length}
use Rattle.clock.specs.declared.Clock.{Clock}
use Rattle.limits.specs.Limits.{dot_limit}
use Rattle.clock.specs.Dots.{dots_of, clock_of}
use Rattle.clock.specs.Lawful.{Lawful}
use Rattle.removals.specs.Model.{no_removal}
use Rattle.entries.specs.Model.{no_update}
use Rattle.map.specs.declared.Map.{Map}
use Rattle.map.specs.declared.Op.{Op}
use Rattle.map.specs.Valid.{Within, OpWithin}
use Rattle.records.specs.Bytes.{Bytes}
use Rattle.oneimagelaws.specs.Narrow.{NarrowDots, Narrow, NarrowOp}

-- what is good reads back from its image; an accepted image reads as what is good, whose image it is
pub record OneImage {T : Type 0} (Good : T → Type 0) (image : T → List ℕ) (number : List ℕ → ℕ) (read : List ℕ → T) : Type 0 where
  pub back : (x : T) → Good x → (number (image x) ≡ 0) × (read (image x) ≡ x)
  pub again : (s : List ℕ) → Bytes s → number s ≡ 0 → Good (read s) × (image (read s) ≡ s)

-- a valid map within the limits
pub record GoodMap (m : Map) : Type 0 where
  pub within : Within m
  pub narrow : Narrow m

-- a clock within the limit
pub record GoodClock (c : Clock) : Type 0 where
  pub laid : c ≡ clock_of (dots_of c)
  pub lawful : Lawful (dots_of c)
  pub few : length (dots_of c) ≤ dot_limit
  pub narrow : NarrowDots (dots_of c)

-- an update or a removal within the limits, with zeros for the other
pub record GoodOp (op : Op) : Type 0 where
  pub within : OpWithin op
  pub narrow : NarrowOp op
  pub other : cond op.up (op.removal ≡ no_removal) (op.update ≡ no_update)
