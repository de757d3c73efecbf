-- An image that a reader of pieces took as one piece: what it answers, and what its memory holds, is what the image is read as.
use mathlib.Core.Path.{◌≡◌, ap, sym, ◌∙◌, subst}
use mathlib.Core.List.{List, []}
use Prim.Native.Nat.{ℕ}
use lib.ListN.{length}
use Rattle.map.specs.declared.Map.{Map}
use Rattle.map.specs.Model.{map_as}
use Rattle.records.specs.Bytes.{Bytes}
use Rattle.maprecords.specs.Related.{refused_map, read_map}
use Rattle.maprecords.proofs.Readers.{read-refused}
use Rattle.memory.specs.Memory.{reader_room, clock_place, dots_at, entries_at, waiting_at}
use Rattle.mailbox.specs.Machine.{take_in, begun}
use Rattle.mailbox.specs.Held.{Came}
use Rattle.mailbox.proofs.Begins.{came-none}
use Rattle.mailbox.proofs.Coming.{came-piece}
use Rattle.mailbox.proofs.Cuts.{takes_one}
use Rattle.delivery.specs.Delivery.{end_number}
use Rattle.delivery.proofs.Judged.{ends-as-read, holds-as-read}

-- the image came whole to a reader that was begun
pub came-whole : {s u v : List ℕ} (w : List ℕ) → Bytes s → length w ≡ reader_room → Bytes w → u ≡ begun w → v ≡ take_in u s → Came s v
came-whole {s} w small long bytes a b =
    let none = came-none w long bytes in
    subst (Came s) (sym (b ∙ ap (λ m. take_in m s) a ∙ (takes_one (begun w) s none.is_open).1)) (came-piece [] (begun w) s none small)

module _ {s v : List ℕ} (c : Came s v) {n : ℕ} (e : n ≡ end_number v) where
  number_read : n ≡ (read_map s).number
  number_read = e ∙ ends-as-read c

  pub refused-read : (n ≡ 0 → ⊥) → refused_map n ≡ read_map s
  refused-read z = ap refused_map number_read ∙ sym (read-refused s (λ k. z (number_read ∙ k)))

module _ {s v : List ℕ} (c : Came s v) where
  pub map_read : 0 ≡ end_number v → {m : Map} → m ≡ map_as (dots_at v clock_place) (entries_at v) (waiting_at v)
      → record { number = 0; map = m } ≡ read_map s
  map_read z q = (λ i. record { number = 0; map = q i }) ∙ sym (holds-as-read c (sym (number_read c z)))
