-- What the two calls that count deleted dots answer, over the images: the dots in all entry clocks before, less those after.
use mathlib.Core.Path.{◌≡◌, ap₂, ◌∙◌}
use mathlib.Core.Bool.{false}
use mathlib.Core.List.{List}
use Prim.Native.Nat.{ℕ, ◌+◌, ◌/◌, ◌%◌, ◌^◌}
use lib.ListN.{length, take}
use Rattle.clock.specs.Dots.{dots_of}
use Rattle.map.specs.declared.Map.{Map}
use Rattle.records.specs.Bytes.{Bytes}
use Rattle.clockimage.specs.ClockImage.{read_clock}
use Rattle.opimage.specs.OpImage.{read_op}
use Rattle.maprecords.specs.Related.{read_map}
use Rattle.answers.proofs.Answers.{count-done}
use Rattle.promises.specs.Calls.{apply_answer, reset_answer}
use Rattle.promises.specs.Deleted.{entry_dots}
use Rattle.promises.specs.Promises.{ApplyPromise, ResetRemovePromise, ApplyDeletedPromise, ResetRemoveDeletedPromise}
use Rattle.promises.proofs.Deletes.{apply-deletes, reset-counts}
use Rattle.readbacklaws.proofs.Back.{word-done, answers-read-back}

-- the dots in all entry clocks of an image's map
abbrev pub dots_held : List ℕ → ℕ
dots_held s = entry_dots (read_map s).map

-- what is left in the image that is written, and what is counted, make up what the image at entry had
module _ (map other : List ℕ) (b : Bytes map) {entry exit : List ℕ} {word count : ℕ} (z : word / 2 ^ 32 ≡ 0) where
  -- end theorems, both
  pub removal-counted : Bytes other → (read_op other).op.up ≡ false → ApplyPromise map other entry exit word
      → ApplyDeletedPromise map other (length entry) count
      → dots_held (take (word % 2 ^ 32) exit) + count ≡ dots_held map
  removal-counted c f p q =
      ap₂ (λ (m : Map) n. entry_dots m + n) (answers-read-back.apply map other b c entry exit word p z).same
      (count-done entry q (word-done (apply_answer map other) entry p.packed z).number)
      ∙ apply-deletes (read_map map).map (read_op other).op f

  pub reset-counted : ResetRemovePromise map other entry exit word → ResetRemoveDeletedPromise map other (length entry) count
      → dots_held (take (word % 2 ^ 32) exit) + count ≡ dots_held map
  reset-counted p q =
      ap₂ (λ (m : Map) n. entry_dots m + n) (answers-read-back.reset-remove map other b entry exit word p z).same
      (count-done entry q (word-done (reset_answer map other) entry p.packed z).number)
      ∙ reset-counts (read_map map).map (dots_of (read_clock other).clock)
