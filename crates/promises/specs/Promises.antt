-- The contract of each call of castribba.h, but the guard's (Ready): the code cites it, and `Determined` takes it.
use Rattle.std.specs.Prelude.{◌≡◌, List, [], ℕ, ◌*◌, ◌^◌}
use Rattle.clock.specs.declared.Clock.{Clock}
use Rattle.asking.specs.Asking.{order_start, order_end}
use Rattle.answers.specs.Answer.{Answered, word_of, carried_of, Counted}
use Rattle.advance.specs.Advancing.{advanced_of}
use Rattle.mailbox.specs.Machine.{begun, take_word, take_in}
use Rattle.delivery.specs.Delivery.{Ended}
use Rattle.differences.specs.Differences.{differences_answer}
use Rattle.flooring.specs.Floor.{floor_number, floored_clock}
use Rattle.promises.specs.CatchUp.{catch_up_answer, catch_up_place}
use Rattle.promises.specs.Deleted.{apply_deleted, reset_deleted}
use Rattle.promises.specs.Calls.{apply_answer, merge_answer, reset_answer, update_answer, rm_get_answer, rm_read_ctx_answer, get_answer, len_answer}
use Rattle.promises.specs.Calls.{count_of, op_validation, order_answer, spent_of, spent_answer, spent_actor, spent_counter, spent_ours, spent_theirs}

-- calls with an output: of what they are given and the output at entry, the output at exit and the word
module _ (map other entry exit : List ℕ) (word : ℕ) where
  abbrev pub ApplyPromise : Type 0
  ApplyPromise = Answered (apply_answer map other) entry exit word

  abbrev pub MergePromise : Type 0
  MergePromise = Answered (merge_answer map other) entry exit word

  abbrev pub ResetRemovePromise : Type 0
  ResetRemovePromise = Answered (reset_answer map other) entry exit word

  abbrev pub DifferencesPromise : Type 0
  DifferencesPromise = Answered (differences_answer map other) entry exit word

abbrev pub UpdatePromise : List ℕ → ℕ → ℕ → ℕ → ℕ → List ℕ → List ℕ → ℕ → Type 0
UpdatePromise map actor key value origin entry exit word = Answered (update_answer map actor key value origin) entry exit word

module _ (map : List ℕ) (key : ℕ) (entry exit : List ℕ) (word : ℕ) where
  abbrev pub RmGetPromise : Type 0
  RmGetPromise = Answered (rm_get_answer map key) entry exit word

  abbrev pub RmReadCtxPromise : Type 0
  RmReadCtxPromise = Answered (rm_read_ctx_answer map key) entry exit word

  abbrev pub GetPromise : Type 0
  GetPromise = Answered (get_answer map key) entry exit word

-- calls that answer a number alone
module _ (map : List ℕ) (word : ℕ) where
  abbrev pub LenPromise : Type 0
  LenPromise = word ≡ word_of (len_answer map) []

  abbrev pub LenCountPromise : Type 0
  LenCountPromise = word ≡ carried_of 0 (len_answer map) (count_of map)

module _ (map op : List ℕ) (word : ℕ) where
  abbrev pub ValidateOpPromise : Type 0
  ValidateOpPromise = word ≡ word_of (order_answer map op) []

  abbrev pub ValidateOpStartPromise : Type 0
  ValidateOpStartPromise = word ≡ carried_of 11 (order_answer map op) (order_start (op_validation map op))

  abbrev pub ValidateOpEndPromise : Type 0
  ValidateOpEndPromise = word ≡ carried_of 11 (order_answer map op) (order_end (op_validation map op))

module _ (map other : List ℕ) (word : ℕ) where
  abbrev pub ValidateMergePromise : Type 0
  ValidateMergePromise = word ≡ word_of (spent_answer map other) []

  abbrev pub ValidateMergeActorPromise : Type 0
  ValidateMergeActorPromise = word ≡ carried_of 12 (spent_answer map other) (spent_actor (spent_of map other))

  abbrev pub ValidateMergeCounterPromise : Type 0
  ValidateMergeCounterPromise = word ≡ carried_of 12 (spent_answer map other) (spent_counter (spent_of map other))

  abbrev pub ValidateMergeOurKeyPromise : Type 0
  ValidateMergeOurKeyPromise = word ≡ carried_of 12 (spent_answer map other) (spent_ours (spent_of map other))

  abbrev pub ValidateMergeTheirKeyPromise : Type 0
  ValidateMergeTheirKeyPromise = word ≡ carried_of 12 (spent_answer map other) (spent_theirs (spent_of map other))

-- calls that answer how many dots the call beside them deletes from entry clocks, with an output of so many bytes
module _ (map other : List ℕ) (room word : ℕ) where
  abbrev pub ApplyDeletedPromise : Type 0
  ApplyDeletedPromise = Counted (apply_answer map other) room (apply_deleted map other) word

  abbrev pub ResetRemoveDeletedPromise : Type 0
  ResetRemoveDeletedPromise = Counted (reset_answer map other) room (reset_deleted map other) word

-- whether a list of operations brings our map to theirs, and the place of the operation that is refused
module _ (map other list : List ℕ) (word : ℕ) where
  abbrev pub CatchUpPromise : Type 0
  CatchUpPromise = word ≡ word_of (catch_up_answer map other list) []

  abbrev pub CatchUpPlacePromise : Type 0
  CatchUpPlacePromise = word ≡ catch_up_place map other list

-- the lent clock, at entry and at exit
abbrev pub ClockAdvancePromise : Clock → ℕ → ℕ → Clock → ℕ → Type 0
ClockAdvancePromise entry actor counter exit word = (word ≡ (advanced_of entry actor counter).word) × (exit ≡ (advanced_of entry actor counter).clock)

-- the peers' clocks, and the clock lent for their floor, at entry and at exit: "2 ^ 32" as in every word, and a success is the word 0
abbrev pub FloorPromise : List Clock → Clock → Clock → ℕ → Type 0
FloorPromise peers entry exit word = (word ≡ floor_number peers * 2 ^ 32) × (exit ≡ floored_clock peers entry)

-- the lent reader of a map that comes in pieces, at entry and at exit
abbrev pub PiecesBeginPromise : List ℕ → List ℕ → ℕ → Type 0
PiecesBeginPromise entry exit word = (word ≡ 0) × (exit ≡ begun entry)

abbrev pub PiecesTakePromise : List ℕ → List ℕ → List ℕ → ℕ → Type 0
PiecesTakePromise entry piece exit word = (word ≡ take_word entry) × (exit ≡ take_in entry piece)

abbrev pub PiecesEndPromise : List ℕ → List ℕ → List ℕ → List ℕ → ℕ → Type 0
PiecesEndPromise reader entry left exit word = Ended reader entry left exit word
