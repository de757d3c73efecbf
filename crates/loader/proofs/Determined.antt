-- Any two results that meet the contract of a call are identical.
use mathlib.Core.List.{List}
use Prim.Native.Nat.{ℕ}
use Rattle.answers.proofs.Answers.{same_answer, Written}
use Rattle.loader.specs.Calls.{BayPromise, BaysPromise}

pub record Determined : Type 0 where
  pub bay : (map : List ℕ) (bay : ℕ) → Written (BayPromise map bay)
  pub bays : (map : List ℕ) → Written (BaysPromise map)

-- the end theorem of both calls
pub determined : Determined
determined = record {
  bay = λ map bay out d e r s p q. same_answer p q;
  bays = λ map out d e r s p q. same_answer p q;
}
