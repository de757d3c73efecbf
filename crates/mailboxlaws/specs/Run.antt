-- A run of the calls of a reader, by their own contracts: a begin, a list of pieces, an end.
use Rattle.std.specs.Prelude.{◌≡◌, List, [], ◌∷◌, ℕ, length}
use Rattle.listlaws.specs.Order.{◌∈◌}
use Rattle.records.specs.Bytes.{Bytes}
use Rattle.memory.specs.Memory.{reader_room}
use Rattle.promises.specs.Promises.{PiecesBeginPromise, PiecesTakePromise, PiecesEndPromise}

-- pieces are taken one after the other: the memory before, the pieces, the words, the memory behind
pub data Taking : List ℕ → List (List ℕ) → List ℕ → List ℕ → Type 0 where
  last : {w : List ℕ} → Taking w [] [] w
  more : {w v u p : List ℕ} {pieces : List (List ℕ)} {words : List ℕ} {word : ℕ} → PiecesTakePromise w p v word → Taking v pieces words u
      → Taking w (p ∷ pieces) (word ∷ words) u

-- memory of a reader's size, whatever stands in it, and pieces of bytes
pub record Lent (memory : List ℕ) (pieces : List (List ℕ)) : Type 0 where
  pub long : length memory ≡ reader_room
  pub bytes : Bytes memory
  pub each : (p : List ℕ) → p ∈ pieces → Bytes p

-- the memory and the output that are left, and the word of the end
pub record Run (memory : List ℕ) (pieces : List (List ℕ)) (entry left exit : List ℕ) (word : ℕ) : Type 0 where
  pub lent : Lent memory pieces
  pub begins : List ℕ
  pub first : ℕ
  pub began : PiecesBeginPromise memory begins first
  pub words : List ℕ
  pub taken : List ℕ
  pub takes : Taking begins pieces words taken
  pub ended : PiecesEndPromise taken entry left exit word
