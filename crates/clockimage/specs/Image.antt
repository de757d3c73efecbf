-- What every image has: dots in records, and the order in which an image is judged.
use Rattle.std.specs.Prelude.{ℕ, ◌%◌, ◌<◌, ◌^◌, Bool, cond, List, map, eqb, ltb, length}
use Rattle.listlaws.specs.Sift.{those}
use Rattle.clock.specs.declared.Dot.{Dot}
use Rattle.register.specs.declared.Content.{Content}
use Rattle.records.specs.declared.Record.{Record}
use Rattle.records.specs.Records.{records_of}

abbrev pub is_kind : ℕ → Record → Bool
is_kind kind r = eqb r.kind kind

-- a dot in a record of a kind, under an index and a key where the kind has them
abbrev pub dot_record : ℕ → ℕ → ℕ → Dot → Record
dot_record kind index key d = record { kind = kind; index = index; actor = d.actor; key = key; number = d.counter }

abbrev pub dot_records : ℕ → ℕ → ℕ → List Dot → List Record
dot_records kind index key l = map (dot_record kind index key) l

abbrev pub dot_of : Record → Dot
dot_of r = record { actor = r.actor; counter = r.number }

-- a value's record (kinds 3, 11): its number, and its origin in the actor's field
abbrev pub content_of : Record → Content
content_of r = record { number = r.number; origin = r.actor }

abbrev pub content_record : ℕ → ℕ → ℕ → Content → Record
content_record kind index key x = record { kind = kind; index = index; actor = x.origin; key = key; number = x.number }

-- the dots in those records that pass a test
abbrev pub dots_from : (Record → Bool) → List Record → List Dot
dots_from test l = map dot_of (those test l)

-- a dot's numbers fit their fields in a record
pub record DotFits (d : Dot) : Type 0 where
  pub actor : d.actor < 2 ^ 16
  pub counter : d.counter < 2 ^ 64

-- so do a value's
pub record ContentFits (x : Content) : Type 0 where
  pub number : x.number < 2 ^ 64
  pub origin : x.origin < 2 ^ 16

-- "length above longest is 2 at once", then a bad length is 1, then the records are judged
abbrev pub image_of : {R : Type 0} → ℕ → (ℕ → R) → (List Record → R) → List ℕ → R
image_of longest refused judged s =
    cond (ltb longest (length s)) (refused 2) (cond (eqb (length s % 16) 0) (judged (records_of s)) (refused 1))
