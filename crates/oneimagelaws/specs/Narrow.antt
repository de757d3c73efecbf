-- Maps and operations whose numbers fit their fields in a record.
use Rattle.std.specs.Prelude.{List, ℕ, ◌<◌, ◌^◌}
use Rattle.listlaws.specs.Order.{◌∈◌}
use Rattle.clock.specs.declared.Dot.{Dot}
use Rattle.clock.specs.Dots.{dots_of}
use Rattle.register.specs.declared.Value.{Value}
use Rattle.entries.specs.declared.Entry.{Entry}
use Rattle.removals.specs.declared.Removal.{Removal}
use Rattle.entries.specs.declared.Update.{Update}
use Rattle.entries.specs.Model.{dots_in, values_in}
use Rattle.removals.specs.Model.{under_of, listed_in}
use Rattle.map.specs.declared.Map.{Map}
use Rattle.map.specs.declared.Op.{Op}
use Rattle.map.specs.Model.{seen_by, entries_in, waiting_in}
use Rattle.clockimage.specs.Image.{DotFits, ContentFits}

abbrev pub NarrowDots : List Dot → Type 0
NarrowDots l = (d : Dot) → d ∈ l → DotFits d

pub record NarrowValue (v : Value) : Type 0 where
  pub dots : NarrowDots (dots_of v.clock)
  pub value : ContentFits v.value

pub record NarrowEntry (e : Entry) : Type 0 where
  pub key : e.key < 2 ^ 32
  pub dots : NarrowDots (dots_in e)
  pub values : (v : Value) → v ∈ values_in e → NarrowValue v

pub record NarrowRemoval (r : Removal) : Type 0 where
  pub dots : NarrowDots (under_of r)
  pub keys : (k : ℕ) → k ∈ listed_in r → k < 2 ^ 32

pub record Narrow (m : Map) : Type 0 where
  pub clock : NarrowDots (seen_by m)
  pub entries : (e : Entry) → e ∈ entries_in m → NarrowEntry e
  pub waiting : (r : Removal) → r ∈ waiting_in m → NarrowRemoval r

pub record NarrowUpdate (u : Update) : Type 0 where
  pub dot : DotFits u.dot
  pub key : u.key < 2 ^ 32
  pub put : NarrowValue u.put

pub record NarrowOp (op : Op) : Type 0 where
  pub removal : NarrowRemoval op.removal
  pub update : NarrowUpdate op.update
