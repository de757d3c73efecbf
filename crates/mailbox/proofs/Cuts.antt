-- However an image is cut, a reader's memory is the same, and holds what came.
use mathlib.Core.Path.{◌≡◌, refl, ap, sym, ◌∙◌}
use mathlib.Core.List.Memᴰ
use mathlib.Core.List.{List, [], ◌∷◌, ◌++◌}
use Prim.Native.Nat.{ℕ, ◌*◌, ◌^◌}
use native.Mathlib.Omega.{arith}
use lib.ListN.{length}
use borrow.Author.Tests.{eq-eqb, ne_eqb}
use Rattle.listlaws.specs.Order.{◌∈◌}
use Rattle.listlaws.specs.Fold.{fold}
use Rattle.listlaws.proofs.Folds.{fold-append}
use Rattle.records.specs.Bytes.{num_at, Bytes}
use Rattle.memory.specs.Memory.{reader_room, open_place}
use Rattle.mailbox.specs.Machine.{byte_in, piece_in, begun, take_in, take_word}
use Rattle.mailbox.specs.Held.{Came, joined}
use Rattle.memory.proofs.Regions.{bytes-append}
use Rattle.mailbox.proofs.Coming.{came-piece}
use Rattle.mailbox.proofs.Begins.{came-none}

-- two pieces are one, for every memory
pub piece-joined : (w p q : List ℕ) → piece_in w (p ++ q) ≡ piece_in (piece_in w p) q
unfolding piece_in
piece-joined w p q = fold-append byte_in w p q

-- a reader that is not open answers 13 and stays as it is; one that is open takes the piece
pub takes_none : (w piece : List ℕ) → (num_at 0 open_place w ≡ 1 → ⊥) → (take_word w ≡ 13 * 2 ^ 32) × (take_in w piece ≡ w)
takes_none w piece n = let f = ne_eqb (num_at 0 open_place w) 1 n in (rw f, rw f)

pub takes_one : (w piece : List ℕ) → num_at 0 open_place w ≡ 1 → (take_word w ≡ 0) × (take_in w piece ≡ piece_in w piece)
takes_one w piece e = let t = eq-eqb (num_at 0 open_place w) 1 e in (rw t, rw t)

-- pieces that are taken one after the other are taken as one
pub takes-joined : (s w : List ℕ) (pieces : List (List ℕ)) → Came s w → ((p : List ℕ) → p ∈ pieces → Bytes p)
    → fold take_in w pieces ≡ piece_in w (joined pieces)
unfolding fold joined piece_in
takes-joined s w [] c h = refl
takes-joined s w (p ∷ pieces) c h =
    ap (λ v. fold take_in v pieces) (takes_one w p c.is_open).1
    ∙ takes-joined (s ++ p) (piece_in w p) pieces (came-piece s w p c (h p (Memᴰ.head refl))) (λ q i. h q (Memᴰ.tail i))
    ∙ sym (piece-joined w p (joined pieces))

pub joined_bytes : (pieces : List (List ℕ)) → ((p : List ℕ) → p ∈ pieces → Bytes p) → Bytes (joined pieces)
unfolding joined
joined_bytes [] h i = omega arith
joined_bytes (p ∷ pieces) h i = bytes-append p (joined pieces) (h p (Memᴰ.head refl)) (joined_bytes pieces (λ q j. h q (Memᴰ.tail j))) i

module _ (w : List ℕ) (long : length w ≡ reader_room) (bytes : Bytes w) (pieces : List (List ℕ)) (all : (p : List ℕ) → p ∈ pieces → Bytes p) where
  pub begun-joined : fold take_in (begun w) pieces ≡ piece_in (begun w) (joined pieces)
  begun-joined = takes-joined [] (begun w) pieces (came-none w long bytes) all

  -- what came is what the pieces join to
  pub came-all : Came (joined pieces) (fold take_in (begun w) pieces)
  came-all = rw begun-joined (came-piece [] (begun w) (joined pieces) (came-none w long bytes) (joined_bytes pieces all))
