-- What operations on a running map have come to so far.
use Rattle.std.specs.Prelude.{◌≡◌, List, [], ◌∷◌, ℕ, ◌*◌, ◌^◌, ◌≤◌, ◌<◌, take}
use Rattle.mapimage.specs.MapImage.{map_longest}
use Rattle.answers.specs.Answer.{first_of}
use Rattle.promises.specs.Calls.{apply_answer}
use Rattle.promises.specs.CatchUp.{apply_number, Outcome, outcome_of, elsewhere_number}
use Rattle.promises.specs.Promises.{CatchUpPromise, CatchUpPlacePromise}
use Rattle.catchup.specs.declared.Ran.{Ran}
use Rattle.catchup.specs.declared.Verdict.{Verdict}

-- one operation on a map's image: the word of a refusal, or the length of the image that stands first in the memory `exit`
pub record Stepped (map op exit : List ℕ) (word : ℕ) : Type 0 where
  pub refused : 2 ^ 32 ≤ word → (word ≡ apply_number map op * 2 ^ 32) × (apply_number map op ≡ 0 → ⊥)
  pub number : word < 2 ^ 32 → apply_number map op ≡ 0
  pub short : word < 2 ^ 32 → word ≤ map_longest
  pub image : word < 2 ^ 32 → take word exit ≡ (apply_answer map op).bytes

-- all operations: the outcome's number and place, and where none is refused its image, which stands first in the memory `exit`
pub record RanAs (o : Outcome) (exit : List ℕ) (r : Ran) : Type 0 where
  pub word : r.word ≡ o.number * 2 ^ 32
  pub place : r.place ≡ o.place
  pub short : r.len ≤ map_longest
  pub image : r.word ≡ 0 → take r.len exit ≡ o.image

-- our map is accepted: what the operations come to, held against their map
pub record Arrived (map other list : List ℕ) (v : Verdict) : Type 0 where
  pub word : v.word ≡ first_of ((outcome_of map list).number ∷ elsewhere_number (outcome_of map list).image other ∷ []) * 2 ^ 32
  pub place : v.place ≡ (outcome_of map list).place

-- both calls' answers
pub record Judges (map other list : List ℕ) (v : Verdict) : Type 0 where
  pub word : CatchUpPromise map other list v.word
  pub place : CatchUpPlacePromise map other list v.place
