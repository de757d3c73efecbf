-- A result before it is written: its clock, a sketch of its entries and a plan of its waiting removals, drawn from two images.
use Rattle.std.specs.Prelude.{◌≡◌, false, cond, List, [], ◌∷◌, ◌++◌, ℕ, ◌≤◌, length}
use Rattle.listlaws.specs.First.{some}
use Rattle.listlaws.specs.Order.{◌∈◌}
use Rattle.clock.specs.declared.Clock.{Clock}
use Rattle.clock.specs.declared.Dot.{Dot}
use Rattle.limits.specs.Limits.{dot_limit, entry_limit, waiting_limit}
use Rattle.clock.specs.Dots.{clock_of}
use Rattle.entries.specs.declared.Entry.{Entry}
use Rattle.removals.specs.declared.Removal.{Removal}
use Rattle.removals.specs.Model.{under_of}
use Rattle.entries.specs.Steps.{overfull}
use Rattle.removals.specs.Counted.{overlong}
use Rattle.removals.specs.Valid.{ValidWaiting}
use Rattle.removals.specs.Waits.{waits}
use Rattle.map.specs.Model.{map_as}
use Rattle.map.specs.Judging.{exceeding, over_dots}
use Rattle.map.specs.Valid.{Valid, RemovalWithin}
use Rattle.records.specs.declared.Record.{Record}
use Rattle.records.specs.Records.{records_of}
use Rattle.opimage.specs.OpImage.{removal_records}
use Rattle.mapimage.specs.MapImage.{flat_from, waiting_dots, waiting_keys}
use Rattle.walks.specs.declared.Span.{Span}
use Rattle.queued.specs.Queue.{Keyed}
use Rattle.planned.specs.declared.Plan.{Plan}
use Rattle.planned.specs.Planned.{Plans}
use Rattle.sketch.specs.declared.Sketch.{Sketch}
use Rattle.sketch.specs.Drawn.{Sketches}

-- the records of waiting removals: dots, then keys
abbrev pub waiting_records : List Removal → List Record
waiting_records w = flat_from waiting_dots 0 w ++ waiting_keys w

-- "over the limit on .. waiting removals, keys of one"
abbrev pub waiting_number : List Removal → ℕ
waiting_number w = cond (exceeding waiting_limit w) 7 (cond (some overlong w) 8 0)

-- "over the limit on .. entries, values, waiting removals, keys of one"
abbrev pub limit_number : List Entry → List Removal → ℕ
limit_number l w = cond (exceeding entry_limit l) 5 (cond (some overfull l) 6 (waiting_number w))

-- a removal that waits where a clock has not seen it
abbrev pub held : List Dot → Removal → List Removal
held seen r = cond (waits seen r) (r ∷ []) []

-- the image of a removal, whose clock has so many dots
pub record RemovalLies (s : List ℕ) (dots : ℕ) (r : Removal) : Type 0 where
  pub within : RemovalWithin r
  pub records : removal_records r ≡ records_of s
  pub count : dots ≡ length (under_of r)

-- a plan of w, made of removals whose keys stand in s and in t
pub record Planned (s t : List ℕ) (ours theirs : Span) (plan : Plan) (w : List Removal) : Type 0 where
  pub first : List Removal
  pub second : List Removal
  pub made : Plans s t first second w plan
  pub in_first : Keyed s ours.from ours.to 0 first
  pub in_second : Keyed t theirs.from theirs.to 0 second
  pub valid : ValidWaiting w
  pub small : (r : Removal) → r ∈ w → length (under_of r) ≤ dot_limit

-- a draft of the map of clock c, entries l and waiting removals w: a valid one, with no clock over the limit
pub record Drafted (s t : List ℕ) (ours theirs : Span) (clock : Clock) (sk : Sketch) (plan : Plan) (c : List Dot) (l : List Entry)
    (w : List Removal) : Type 0 where
  pub seen : clock ≡ clock_of c
  pub entries : Sketches s t l sk
  pub waiting : Planned s t ours theirs plan w
  pub valid : Valid (map_as c l w)
  pub dots : over_dots (map_as c l w) ≡ false
