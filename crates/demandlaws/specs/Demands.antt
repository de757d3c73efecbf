-- Demand 1 of every call, over its promise alone: its number by its table, a refusal that writes nothing, and what 0 writes.
use Rattle.std.specs.Prelude.{◌≡◌, cond, ◌⊎◌, List, [], ◌∷◌, ◌++◌, ℕ, ◌/◌, ◌%◌, ◌^◌, ◌<◌, eqb, length, drop}
use Rattle.clock.specs.declared.Clock.{Clock}
use Rattle.map.specs.Model.{seen_by}
use Rattle.asking.specs.Asking.{make_update, removal_op, clock_at, read_key, order_start, order_end, count, validate_op, validate_merge}
use Rattle.records.specs.Bytes.{Bytes, num_bytes, placed}
use Rattle.memory.specs.Memory.{open_place}
use Rattle.delivery.specs.Delivery.{image_at}
use Rattle.opimage.specs.OpImage.{op_image, read_op}
use Rattle.mapimage.specs.MapImage.{map_image}
use Rattle.maprecords.specs.Related.{read_map}
use Rattle.loader.specs.Calls.{BayPromise, BaysPromise, bay_count}
use Rattle.loader.specs.Reports.{report_at, report_bytes, reports_after}
use Rattle.promises.specs.Calls.{given, spent_actor, spent_counter, spent_ours, spent_theirs}
use Rattle.promises.specs.Promises.{ApplyPromise, MergePromise, ResetRemovePromise, UpdatePromise, RmGetPromise, RmReadCtxPromise, GetPromise}
use Rattle.promises.specs.Promises.{LenPromise, LenCountPromise, ValidateOpPromise, ValidateOpStartPromise, ValidateOpEndPromise}
use Rattle.promises.specs.Promises.{ValidateMergePromise, ValidateMergeActorPromise, ValidateMergeCounterPromise, ValidateMergeOurKeyPromise}
use Rattle.promises.specs.Promises.{ValidateMergeTheirKeyPromise, ClockAdvancePromise, ApplyDeletedPromise, ResetRemoveDeletedPromise}
use Rattle.promises.specs.Promises.{PiecesBeginPromise, PiecesTakePromise, PiecesEndPromise}
use Rattle.promises.specs.Promises.{DifferencesPromise}
use Rattle.promises.specs.Ready.{readiness_of, ReadyPromise, ReadyActorPromise, ReadyCounterPromise}
use Rattle.readiness.specs.Ready.{ready_actor, ready_counter}
use Rattle.differences.specs.Differences.{differences_answer}
use Rattle.promises.specs.Deleted.{apply_deleted, reset_deleted}
use Rattle.demandlaws.specs.Rows.{Row, row, decided, ByTable}
use Rattle.demandlaws.specs.Tables.{map_rows, apply_rows, merge_rows, reset_rows, update_rows, removal_rows, get_rows, order_rows, spent_rows}
use Rattle.demandlaws.specs.Tables.{ready_rows, differences_rows, advance_rows, closed_rows, end_rows}
use Rattle.demandlaws.specs.Tables.{bay_rows, bays_rows, apply_result, merge_result, reset_result}

-- "one 64-bit result holds number and length"
abbrev pub number_in : ℕ → ℕ
number_in word = word / 2 ^ 32

abbrev pub length_in : ℕ → ℕ
length_in word = word % 2 ^ 32

-- a call that writes: "ends, and answers from document 01's table. A refusal returns its number and length zero and writes nothing."
pub record Writes (rows : List Row) (bytes entry exit : List ℕ) (word : ℕ) : Type 0 where
  pub number : ByTable rows (number_in word)
  pub refused : (number_in word ≡ 0 → ⊥) → (length_in word ≡ 0) × (exit ≡ entry)
  pub done : number_in word ≡ 0 → (length_in word ≡ length bytes) × (exit ≡ bytes ++ drop (length bytes) entry)

-- a call that only tells: no length
pub record TellsOnly (rows : List Row) (word : ℕ) : Type 0 where
  pub number : ByTable rows (number_in word)
  pub bare : length_in word ≡ 0

-- a carried number: where the call beside it answers `with`, and 0 otherwise
abbrev pub Carries : List Row → ℕ → ℕ → ℕ → Type 0
Carries rows with n word = word ≡ cond (eqb (decided rows) with) n 0

-- of the calls of castribba.h and loader.h, by their promises alone. (castribba_catch_up has its own law in catchuplaws, castribba_floor in flooring)
pub record DemandOne : Type 0 where
  pub apply : (map op entry exit : List ℕ) (word : ℕ) → Bytes map → Bytes op → ApplyPromise map op entry exit word
      → Writes (apply_rows map op entry) (map_image (apply_result map op)) entry exit word
  pub merge : (map other entry exit : List ℕ) (word : ℕ) → Bytes map → Bytes other → MergePromise map other entry exit word
      → Writes (merge_rows map other entry) (map_image (merge_result map other)) entry exit word
  pub reset-remove : (map clock entry exit : List ℕ) (word : ℕ) → Bytes map → ResetRemovePromise map clock entry exit word
      → Writes (reset_rows map clock entry) (map_image (reset_result map clock)) entry exit word
  pub update : (map : List ℕ) (actor key value origin : ℕ) (entry exit : List ℕ) (word : ℕ) → Bytes map → actor < 2 ^ 16 → key < 2 ^ 32
      → value < 2 ^ 64 → origin < 2 ^ 16 → UpdatePromise map actor key value origin entry exit word
      → Writes (update_rows map actor key (given value origin) entry) (op_image (make_update (read_map map).map actor key (given value origin)).op)
      entry exit word
  pub rm-get : (map : List ℕ) (key : ℕ) (entry exit : List ℕ) (word : ℕ) → Bytes map → key < 2 ^ 32 → RmGetPromise map key entry exit word
      → Writes (removal_rows (λ m. clock_at m key) map key entry) (op_image (removal_op (clock_at (read_map map).map key) key)) entry exit word
  pub rm-read-ctx : (map : List ℕ) (key : ℕ) (entry exit : List ℕ) (word : ℕ) → Bytes map → key < 2 ^ 32 → RmReadCtxPromise map key entry exit word
      → Writes (removal_rows seen_by map key entry) (op_image (removal_op (seen_by (read_map map).map) key)) entry exit word
  pub get : (map : List ℕ) (key : ℕ) (entry exit : List ℕ) (word : ℕ) → Bytes map → GetPromise map key entry exit word
      → Writes (get_rows map key entry) (map_image (read_key (read_map map).map key)) entry exit word
  pub bay : (map : List ℕ) (key : ℕ) (entry exit : List ℕ) (word : ℕ) → BayPromise map key entry exit word
      → Writes (bay_rows map key entry) (report_bytes (report_at (read_map map).map key)) entry exit word
  pub bays : (map entry exit : List ℕ) (word : ℕ) → BaysPromise map entry exit word
      → Writes (bays_rows map entry) (reports_after (read_map map).map 0 bay_count) entry exit word
  pub len : (map : List ℕ) (word : ℕ) → LenPromise map word → TellsOnly (map_rows map) word
  pub len-count : (map : List ℕ) (word : ℕ) → LenCountPromise map word → Carries (map_rows map) 0 (count (read_map map).map) word
  pub validate-op : (map op : List ℕ) (word : ℕ) → ValidateOpPromise map op word → TellsOnly (order_rows map op) word
  pub validate-op-start : (map op : List ℕ) (word : ℕ) → ValidateOpStartPromise map op word
      → Carries (order_rows map op) 11 (order_start (validate_op (read_map map).map (read_op op).op)) word
  pub validate-op-end : (map op : List ℕ) (word : ℕ) → ValidateOpEndPromise map op word
      → Carries (order_rows map op) 11 (order_end (validate_op (read_map map).map (read_op op).op)) word
  pub validate-merge : (map other : List ℕ) (word : ℕ) → ValidateMergePromise map other word → TellsOnly (spent_rows map other) word
  pub validate-merge-actor : (map other : List ℕ) (word : ℕ) → ValidateMergeActorPromise map other word
      → Carries (spent_rows map other) 12 (spent_actor (validate_merge (read_map map).map (read_map other).map)) word
  pub validate-merge-counter : (map other : List ℕ) (word : ℕ) → ValidateMergeCounterPromise map other word
      → Carries (spent_rows map other) 12 (spent_counter (validate_merge (read_map map).map (read_map other).map)) word
  pub validate-merge-our-key : (map other : List ℕ) (word : ℕ) → ValidateMergeOurKeyPromise map other word
      → Carries (spent_rows map other) 12 (spent_ours (validate_merge (read_map map).map (read_map other).map)) word
  pub validate-merge-their-key : (map other : List ℕ) (word : ℕ) → ValidateMergeTheirKeyPromise map other word
      → Carries (spent_rows map other) 12 (spent_theirs (validate_merge (read_map map).map (read_map other).map)) word
  -- the lent clock: "clock unchanged in each" refusal
  pub clock-advance : (clock : Clock) (actor counter : ℕ) (exit : Clock) (word : ℕ) → ClockAdvancePromise clock actor counter exit word
      → TellsOnly (advance_rows clock actor counter) word × ((number_in word ≡ 0 → ⊥) → exit ≡ clock)
  -- how many dots a call deletes: counted where that call answers 0 with an output of so many bytes
  pub apply-deleted : (map op out : List ℕ) (word : ℕ) → ApplyDeletedPromise map op (length out) word
      → Carries (apply_rows map op out) 0 (apply_deleted map op) word
  pub reset-remove-deleted : (map clock out : List ℕ) (word : ℕ) → ResetRemoveDeletedPromise map clock (length out) word
      → Carries (reset_rows map clock out) 0 (reset_deleted map clock) word
  -- a map in pieces: a refusal leaves the lent memory, but for the mark that it has ended
  pub pieces-begin : (reader left : List ℕ) (word : ℕ) → PiecesBeginPromise reader left word → TellsOnly [] word
  pub pieces-take : (reader piece left : List ℕ) (word : ℕ) → PiecesTakePromise reader piece left word
      → TellsOnly (closed_rows reader) word × ((number_in word ≡ 0 → ⊥) → left ≡ reader)
  pub pieces_end : (reader entry left exit : List ℕ) (word : ℕ) → length entry < 2 ^ 32 → PiecesEndPromise reader entry left exit word
      → Writes (end_rows reader entry) (image_at reader) entry exit word
      × ((left ≡ reader) ⊎ (left ≡ placed open_place (num_bytes 0 0) reader))
      -- "10 leaves the reader open", and so does 13
      × (((number_in word ≡ 13) ⊎ (number_in word ≡ 10)) → left ≡ reader)
  -- the guard, and what a held update waits for
  pub ready : (map op : List ℕ) (word : ℕ) → ReadyPromise map op word → TellsOnly (ready_rows map op) word
  pub ready-actor : (map op : List ℕ) (word : ℕ) → ReadyActorPromise map op word
      → Carries (ready_rows map op) 21 (ready_actor (readiness_of map op)) word
  pub ready-counter : (map op : List ℕ) (word : ℕ) → ReadyCounterPromise map op word
      → Carries (ready_rows map op) 21 (ready_counter (readiness_of map op)) word
  -- what differs between two maps
  pub differences : (map other entry exit : List ℕ) (word : ℕ) → length entry < 2 ^ 32 → DifferencesPromise map other entry exit word
      → Writes (differences_rows map other entry) (differences_answer map other).bytes entry exit word
