-- What every call of castribba.h answers: the order of refusals, the word, and every byte of the output.
use Rattle.std.specs.declared.result.Result.{Result}
use Rattle.std.specs.declared.result.Result.TheVariants.{Ok, Err}
use Rattle.refusals.specs.declared.Refusal.{Refusal}
use Rattle.refusals.specs.Numbers.{number_for}
use Rattle.std.specs.Prelude.{◌≡◌, ℕ, ◌+◌, ◌*◌, ◌^◌, cond, ◌&&◌, List, [], ◌∷◌, ◌++◌, eqb, ltb, length, drop}

-- the numbers of the first image, of the second (0 where a call takes one) and of the call's own work, and the bytes to write
pub record Answer : Type 0 where
  pub first : ℕ
  pub second : ℕ
  pub own : ℕ
  pub bytes : List ℕ

-- the first number that is not 0
unfoldable pub first_of : List ℕ → ℕ
first_of [] = 0
first_of (n ∷ l) = cond (eqb n 0) (first_of l) n

-- "output buffer shorter than the answer"
abbrev pub short_of : List ℕ → List ℕ → ℕ
short_of bytes out = cond (ltb (length out) (length bytes)) 10 0

-- "Order: first image, then second, then 11 or 12 (only the validations), 9, 4 to 8, then 10."
unfoldable pub number_of : Answer → List ℕ → ℕ
number_of a out = first_of (a.first ∷ a.second ∷ a.own ∷ short_of a.bytes out ∷ [])

-- number times 2^32 plus length: "All but 0 return length zero"
unfoldable pub word_of : Answer → List ℕ → ℕ
word_of a out = number_of a out * 2 ^ 32 + cond (eqb (number_of a out) 0) (length a.bytes) 0

-- the word of so many bytes written, or of a refusal
abbrev pub word_in : Result ℕ Refusal → ℕ
word_in (Ok n) = n
word_in (Err r) = number_for r * 2 ^ 32

-- the output at exit: "and change no buffer"; "done; length written; later bytes unchanged"
unfoldable pub out_of : Answer → List ℕ → List ℕ
out_of a out = cond (eqb (number_of a out) 0) (a.bytes ++ drop (length a.bytes) out) out

-- what a call with an output promises
pub record Answered (a : Answer) (entry exit : List ℕ) (word : ℕ) : Type 0 where
  pub packed : word ≡ word_of a entry
  pub left : exit ≡ out_of a entry

-- what the call of a carried number promises: the number where both images passed and the call's own number is `with`,
-- and "0 whenever that number isn't carried"
unfoldable pub carried_of : ℕ → Answer → ℕ → ℕ
carried_of with a n = cond (eqb (first_of (a.first ∷ a.second ∷ [])) 0 && eqb a.own with) n 0

-- what the call of a count promises: the count where the call beside it answers 0 with an output of so many bytes, and 0 where it is refused
pub record Counted (a : Answer) (room n word : ℕ) : Type 0 where
  pub counts : (out : List ℕ) → length out ≡ room → word ≡ cond (eqb (number_of a out) 0) n 0
