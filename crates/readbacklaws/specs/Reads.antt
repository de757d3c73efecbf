-- "Every answer reads back": where a call answers 0, the bytes that it wrote are an accepted image, of the very result.
use Rattle.std.specs.Prelude.{◌≡◌, List, ℕ, ◌/◌, ◌%◌, ◌^◌, ◌<◌, take}
use Rattle.clock.specs.Dots.{dots_of}
use Rattle.map.specs.declared.Map.{Map}
use Rattle.map.specs.declared.Op.{Op}
use Rattle.map.specs.Model.{seen_by}
use Rattle.map.specs.Applying.{apply}
use Rattle.map.specs.Merging.{merge}
use Rattle.map.specs.Resetting.{reset}
use Rattle.asking.specs.Asking.{make_update, removal_op, clock_at, read_key}
use Rattle.records.specs.Bytes.{Bytes}
use Rattle.clockimage.specs.ClockImage.{read_clock}
use Rattle.opimage.specs.OpImage.{read_op}
use Rattle.maprecords.specs.Related.{read_map}
use Rattle.answers.specs.Answer.{Answer, Answered}
use Rattle.promises.specs.Calls.{given, apply_answer, merge_answer, reset_answer, update_answer, rm_get_answer, rm_read_ctx_answer, get_answer}

-- a list of bytes that is accepted, and reads as this
pub record Reads {T : Type 0} (number : List ℕ → ℕ) (read : List ℕ → T) (result : T) (s : List ℕ) : Type 0 where
  pub bytes : Bytes s
  pub accepted : number s ≡ 0
  pub same : read s ≡ result

abbrev pub ReadsMap : Map → List ℕ → Type 0
ReadsMap m s = Reads (λ i. (read_map i).number) (λ i. (read_map i).map) m s

abbrev pub ReadsOp : Op → List ℕ → Type 0
ReadsOp op s = Reads (λ i. (read_op i).number) (λ i. (read_op i).op) op s

-- of every output and word that meet a call's contract: where the word's number is 0, so many bytes of the output as its length says
abbrev pub Written : Answer → (List ℕ → Type 0) → Type 0
Written a Good = (entry exit : List ℕ) (word : ℕ) → Answered a entry exit word → word / 2 ^ 32 ≡ 0 → Good (take (word % 2 ^ 32) exit)

-- the seven calls that write
pub record ReadsBack : Type 0 where
  pub apply : (map op : List ℕ) → Bytes map → Bytes op
      → Written (apply_answer map op) (ReadsMap (apply (read_map map).map (read_op op).op))
  pub merge : (map other : List ℕ) → Bytes map → Bytes other
      → Written (merge_answer map other) (ReadsMap (merge (read_map map).map (read_map other).map))
  pub reset-remove : (map clock : List ℕ) → Bytes map
      → Written (reset_answer map clock) (ReadsMap (reset (read_map map).map (dots_of (read_clock clock).clock)))
  pub update : (map : List ℕ) (actor key value origin : ℕ) → Bytes map → actor < 2 ^ 16 → key < 2 ^ 32 → value < 2 ^ 64 → origin < 2 ^ 16
      → Written (update_answer map actor key value origin) (ReadsOp (make_update (read_map map).map actor key (given value origin)).op)
  pub rm-get : (map : List ℕ) (key : ℕ) → Bytes map → key < 2 ^ 32
      → Written (rm_get_answer map key) (ReadsOp (removal_op (clock_at (read_map map).map key) key))
  pub rm-read-ctx : (map : List ℕ) (key : ℕ) → Bytes map → key < 2 ^ 32
      → Written (rm_read_ctx_answer map key) (ReadsOp (removal_op (seen_by (read_map map).map) key))
  pub get : (map : List ℕ) (key : ℕ) → Bytes map
      → Written (get_answer map key) (ReadsMap (read_key (read_map map).map key))
