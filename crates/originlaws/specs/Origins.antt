-- What holds between a reader of before there were origins and this one: the sentences of change request 9.
use Rattle.std.specs.Prelude.{◌≡◌, List, ℕ}
use Rattle.listlaws.specs.Order.{◌∈◌}
use Rattle.register.specs.declared.Value.{Value}
use Rattle.entries.specs.declared.Entry.{Entry}
use Rattle.entries.specs.Model.{values_in}
use Rattle.map.specs.declared.Map.{Map}
use Rattle.map.specs.Model.{entries_in}
use Rattle.records.specs.Bytes.{Bytes}
use Rattle.opimage.specs.OpImage.{read_op, op_image, refused_op}
use Rattle.mapimage.specs.MapImage.{map_image}
use Rattle.maprecords.specs.Related.{read_map, refused_map}
use Rattle.originlaws.specs.Before.{old_map, old_op}

-- every value of the map has origin 0
abbrev pub NoOrigins : Map → Type 0
NoOrigins m = (e : Entry) → e ∈ entries_in m → (v : Value) → v ∈ values_in e → v.value.origin ≡ 0

-- a value of the map has another
pub record SomeOrigin (m : Map) : Type 0 where
  pub entry : Entry
  pub stands : entry ∈ entries_in m
  pub value : Value
  pub holds : value ∈ values_in entry
  pub other : value.value.origin ≡ 0 → ⊥

pub record Origins : Type 0 where
  -- "An earlier image reads as origin 0 and is written back unchanged": of every image that was accepted
  pub same_map : (s : List ℕ) → (old_map s).number ≡ 0 → read_map s ≡ old_map s
  pub map-zero : (s : List ℕ) → (old_map s).number ≡ 0 → NoOrigins (read_map s).map
  pub map-unchanged : (s : List ℕ) → Bytes s → (old_map s).number ≡ 0 → map_image (read_map s).map ≡ s
  pub same_op : (s : List ℕ) → (old_op s).number ≡ 0 → read_op s ≡ old_op s
  pub op-zero : (s : List ℕ) → (old_op s).number ≡ 0 → (read_op s).op.update.put.value.origin ≡ 0
  pub op-unchanged : (s : List ℕ) → Bytes s → (old_op s).number ≡ 0 → op_image (read_op s).op ≡ s
  -- an earlier controller answers 1 to an image that names who set a value, and never a map or an operation without it
  pub map-refused : (s : List ℕ) → (read_map s).number ≡ 0 → SomeOrigin (read_map s).map → old_map s ≡ refused_map 1
  pub op-refused : (s : List ℕ) → (read_op s).number ≡ 0 → ((read_op s).op.update.put.value.origin ≡ 0 → ⊥) → old_op s ≡ refused_op 1
