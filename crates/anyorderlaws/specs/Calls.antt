-- A run of castribba_apply: each call's output is the next one's map, and every output has the longest size at least.
use Rattle.std.specs.Prelude.{◌≡◌, true, false, List, [], ◌∷◌, ℕ, ◌^◌, ◌≤◌, ◌<◌, length, take}
use Rattle.listlaws.specs.Fold.{fold}
use Rattle.listlaws.specs.Order.{◌∈◌}
use Rattle.removals.specs.declared.Removal.{Removal}
use Rattle.entries.specs.declared.Update.{Update}
use Rattle.records.specs.Bytes.{Bytes}
use Rattle.opimage.specs.OpImage.{read_op}
use Rattle.mapimage.specs.MapImage.{map_longest}
use Rattle.maprecords.specs.Related.{read_map}
use Rattle.answers.specs.Answer.{number_of}
use Rattle.promises.specs.Calls.{apply_answer}
use Rattle.promises.specs.Promises.{ApplyPromise}

-- the call answers 0 with every output of the longest size
abbrev pub Done : List ℕ → List ℕ → Type 0
Done map op = (out : List ℕ) → map_longest ≤ length out → number_of (apply_answer map op) out ≡ 0

-- the image that the call leaves
unfoldable pub image_after : List ℕ → List ℕ → List ℕ
image_after map op = (apply_answer map op).bytes

-- every call of a run answers 0
pub data AllDone : List ℕ → List (List ℕ) → Type 0 where
  none : {s : List ℕ} → AllDone s []
  more : {s o : List ℕ} {ops : List (List ℕ)} → Done s o → AllDone (image_after s o) ops → AllDone s (o ∷ ops)

-- the last image
abbrev pub end : List ℕ → List (List ℕ) → List ℕ
end s ops = fold image_after s ops

-- calls as a program makes them: by castribba_apply's contract, each with an output of the longest size and a word below 2^32, which is then the
-- length of the next map in that output
pub data Called : List ℕ → List (List ℕ) → List ℕ → Type 0 where
  stop : {s : List ℕ} → Called s [] s
  call : {s o entry exit last : List ℕ} {word : ℕ} {ops : List (List ℕ)}
      → ApplyPromise s o entry exit word → length entry ≡ map_longest → word < 2 ^ 32 → Called (take word exit) ops last
      → Called s (o ∷ ops) last

-- two calls trade places "when neither order refuses": both end in the same map
abbrev pub Trade : List ℕ → List ℕ → List ℕ → Type 0
Trade s u v = AllDone s (u ∷ v ∷ []) → AllDone s (v ∷ u ∷ []) → end s (u ∷ v ∷ []) ≡ end s (v ∷ u ∷ [])

-- an accepted image of a map, of an operation, of a removal, of an update
pub record MapImage (s : List ℕ) : Type 0 where
  pub bytes : Bytes s
  pub accepted : (read_map s).number ≡ 0

pub record OpImage (o : List ℕ) : Type 0 where
  pub bytes : Bytes o
  pub accepted : (read_op o).number ≡ 0

pub record RemovalImage (o : List ℕ) : Type 0 where
  pub image : OpImage o
  pub removes : (read_op o).op.up ≡ false

pub record UpdateImage (o : List ℕ) : Type 0 where
  pub image : OpImage o
  pub updates : (read_op o).op.up ≡ true

abbrev pub removal_of : List ℕ → Removal
removal_of o = (read_op o).op.removal

abbrev pub update_of : List ℕ → Update
update_of o = (read_op o).op.update

-- images of operations, of removals
abbrev pub OpImages : List (List ℕ) → Type 0
OpImages ops = (o : List ℕ) → o ∈ ops → OpImage o

abbrev pub RemovalImages : List (List ℕ) → Type 0
RemovalImages ops = (o : List ℕ) → o ∈ ops → RemovalImage o
