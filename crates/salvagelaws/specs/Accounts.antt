-- How image and report account for every record of the input, and all that the two calls promise of what they hand over.
use Rattle.std.specs.Prelude.{◌≡◌, true, false, ℕ, zero, suc, ◌+◌, ◌≤◌, ◌<◌, length, get_or}
use mathlib.Core.List.{List, [], ◌∷◌, ◌++◌, map, Permᴰ}
use Rattle.listlaws.specs.Order.{◌∈◌, Ascending, by}
use Rattle.records.specs.declared.Record.{Record}
use Rattle.records.specs.Bytes.{num_at}
use Rattle.records.specs.Records.{records_of}
use Rattle.mapimage.specs.MapImage.{map_longest}
use Rattle.maprecords.specs.Related.{read_map}
use Rattle.salvagerules.specs.Fates.{Fate, staying}
use Rattle.salvagerules.specs.Indexes.{with_index}
use Rattle.salvagerules.specs.Report.{Told, step_one, told_bytes, longest_report}

-- what became of a record that came: it is the same up to its index; told exactly when it was removed or has another index
pub record Became (r : Record) (f : Fate) : Type 0 where
  pub like : f.item ≡ with_index f.item.index r
  pub untold : f.step ≡ 0 → (f.stays ≡ true) × (f.item ≡ r)
  pub changed : f.stays ≡ true → (f.step ≡ 0 → ⊥) → (f.step ≡ 5) × (f.item.index ≡ r.index → ⊥)
  pub gone : f.stays ≡ false → (2 ≤ f.step) × (f.step ≤ 5)

-- each of the one list in turn stands in a relation to that of the other
pub data Paired {A B : Type 0} (R : A → B → Type 0) : List A → List B → Type 0 where
  nothing : Paired R [] []
  also : {x : A} {y : B} {l : List A} {m : List B} → R x y → Paired R l m → Paired R (x ∷ l) (y ∷ m)

-- the report read back: places and steps
abbrev pub told_at : List ℕ → ℕ → Told
told_at s at = record { place = num_at 2 at s; step = num_at 0 (at + 4) s }

unfoldable pub told_in : List ℕ → ℕ → ℕ → List Told
told_in s at zero = []
told_in s at (suc n) = told_at s at ∷ told_in s (at + 5) n

-- the step of each record, and of a partial one behind them
abbrev pub steps_by : List Fate → List ℕ → List ℕ
steps_by fates image = map (λ f. f.step) fates ++ step_one image

-- every record of the input has a fate; the image has those that stay, each once; the report has the steps that are not 0, ascending by place
pub record Accounts (image out report : List ℕ) : Type 0 where
  pub fates : List Fate
  pub came : Paired Became (records_of image) fates
  pub written : Permᴰ (records_of out) (staying fates)
  pub told : List Told
  pub reported : report ≡ told_bytes told
  pub reads-back : told_in report 0 (length told) ≡ told
  pub ascending : Ascending (by (λ t. t.place)) told
  pub exact : (t : Told) → t ∈ told → (t.step ≡ get_or (steps_by fates image) t.place 0) × (t.step ≡ 0 → ⊥)
  pub complete : (p : ℕ) → (get_or (steps_by fates image) p 0 ≡ 0 → ⊥) → record { place = p; step = get_or (steps_by fates image) p 0 } ∈ told

-- what is handed over for an input
pub record Salvages (image out report : List ℕ) : Type 0 where
  -- "writes an accepted image"
  pub accepted : (read_map out).number ≡ 0
  -- "An accepted image comes back unchanged with an empty report": such alone do
  pub unchanged : (read_map image).number ≡ 0 → (out ≡ image) × (report ≡ [])
  pub only : report ≡ [] → ((read_map image).number ≡ 0) × (out ≡ image)
  -- "Nothing is invented": each record stands in the input, up to its index
  pub nothing-new : (x : Record) → x ∈ records_of out → (r : Record) × (r ∈ records_of image) × (x ≡ with_index x.index r)
  pub accounts : Accounts image out report
  -- buffers that always suffice
  pub image-length : length out ≤ map_longest
  pub report-length : length report ≤ longest_report

-- "Refusals: 2 for longer input, 10 for a short buffer; no others.": the number of a call, of its input, the bytes to write and its output
pub record OnlyTwoRefusals (image bytes out : List ℕ) (number : ℕ) : Type 0 where
  pub too_long : map_longest < length image → number ≡ 2
  pub short : length image ≤ map_longest → length out < length bytes → number ≡ 10
  pub done : length image ≤ map_longest → length bytes ≤ length out → number ≡ 0
