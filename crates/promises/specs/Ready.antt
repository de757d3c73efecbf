-- The contracts of castribba_ready and of the two calls beside it.
use Rattle.std.specs.Prelude.{◌≡◌, List, [], ℕ}
use Rattle.opimage.specs.OpImage.{read_op}
use Rattle.maprecords.specs.Related.{read_map}
use Rattle.readiness.specs.declared.Readiness.{Readiness}
use Rattle.readiness.specs.Ready.{ready, ready_number, ready_actor, ready_counter}
use Rattle.answers.specs.Answer.{Answer, word_of, carried_of}
use Rattle.promises.specs.Calls.{bare_answer}

-- of what the images hold
abbrev pub readiness_of : List ℕ → List ℕ → Readiness
readiness_of map op = ready (read_map map).map (read_op op).op

-- the images' numbers, then the guard's
abbrev pub ready_answer : List ℕ → List ℕ → Answer
ready_answer map op = bare_answer (read_map map).number (read_op op).number (ready_number (readiness_of map op))

module _ (map op : List ℕ) (word : ℕ) where
  abbrev pub ReadyPromise : Type 0
  ReadyPromise = word ≡ word_of (ready_answer map op) []

  -- the actor and the first missing counter, with 21 alone
  abbrev pub ReadyActorPromise : Type 0
  ReadyActorPromise = word ≡ carried_of 21 (ready_answer map op) (ready_actor (readiness_of map op))

  abbrev pub ReadyCounterPromise : Type 0
  ReadyCounterPromise = word ≡ carried_of 21 (ready_answer map op) (ready_counter (readiness_of map op))
