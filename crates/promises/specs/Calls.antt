-- What each call of castribba.h answers, of the bytes and numbers that it is given.
use Rattle.std.specs.Prelude.{ℕ, List, []}
use Rattle.clock.specs.Dots.{dots_of}
use Rattle.register.specs.declared.Content.{Content}
use Rattle.map.specs.Judging.{Judged}
use Rattle.asking.specs.declared.Made.{Made}
use Rattle.asking.specs.declared.CmRDTValidation.{CmRDTValidation}
use Rattle.asking.specs.declared.CvRDTValidation.{CvRDTValidation}
use Rattle.asking.specs.declared.CvRDTValidation.TheVariants.{Once, Twice}
use Rattle.map.specs.Model.{seen_by}
use Rattle.map.specs.Applying.{apply}
use Rattle.map.specs.Merging.{merge}
use Rattle.map.specs.Resetting.{reset}
use Rattle.map.specs.Judging.{judged}
use Rattle.asking.specs.Asking.{validate_op, order_number, validate_merge, spent_number, make_update, removal_op, clock_at, read_key, count}
use Rattle.clockimage.specs.ClockImage.{read_clock}
use Rattle.opimage.specs.OpImage.{read_op, op_image}
use Rattle.mapimage.specs.MapImage.{map_image}
use Rattle.maprecords.specs.Related.{read_map}
use Rattle.answers.specs.Answer.{Answer}

-- a map, an operation, or nothing written, after the verdicts on one or two images
abbrev pub map_answer : ℕ → ℕ → Judged → Answer
map_answer first second j = record { first = first; second = second; own = j.number; bytes = map_image j.map }

abbrev pub op_answer : ℕ → Made → Answer
op_answer first m = record { first = first; second = 0; own = m.number; bytes = op_image m.op }

abbrev pub bare_answer : ℕ → ℕ → ℕ → Answer
bare_answer first second own = record { first = first; second = second; own = own; bytes = [] }

-- changing a map
abbrev pub apply_answer : List ℕ → List ℕ → Answer
apply_answer map op = map_answer (read_map map).number (read_op op).number (judged (apply (read_map map).map (read_op op).op))

abbrev pub merge_answer : List ℕ → List ℕ → Answer
merge_answer map other = map_answer (read_map map).number (read_map other).number (judged (merge (read_map map).map (read_map other).map))

abbrev pub reset_answer : List ℕ → List ℕ → Answer
reset_answer map clock = map_answer (read_map map).number (read_clock clock).number
    (judged (reset (read_map map).map (dots_of (read_clock clock).clock)))

-- making an operation: of a value and its origin
abbrev pub given : ℕ → ℕ → Content
given value origin = record { number = value; origin = origin }

abbrev pub update_answer : List ℕ → ℕ → ℕ → ℕ → ℕ → Answer
update_answer map actor key value origin = op_answer (read_map map).number (make_update (read_map map).map actor key (given value origin))

abbrev pub rm_get_answer : List ℕ → ℕ → Answer
rm_get_answer map key = op_answer (read_map map).number (record { number = 0; op = removal_op (clock_at (read_map map).map key) key })

abbrev pub rm_read_ctx_answer : List ℕ → ℕ → Answer
rm_read_ctx_answer map key = op_answer (read_map map).number (record { number = 0; op = removal_op (seen_by (read_map map).map) key })

-- reading
abbrev pub get_answer : List ℕ → ℕ → Answer
get_answer map key = map_answer (read_map map).number 0 (record { number = 0; map = read_key (read_map map).map key })

abbrev pub len_answer : List ℕ → Answer
len_answer map = bare_answer (read_map map).number 0 0

abbrev pub count_of : List ℕ → ℕ
count_of map = count (read_map map).map

-- validating an operation
abbrev pub op_validation : List ℕ → List ℕ → CmRDTValidation
op_validation map op = validate_op (read_map map).map (read_op op).op

abbrev pub order_answer : List ℕ → List ℕ → Answer
order_answer map op = bare_answer (read_map map).number (read_op op).number (order_number (op_validation map op))

-- validating a merge
abbrev pub spent_of : List ℕ → List ℕ → CvRDTValidation
spent_of map other = validate_merge (read_map map).map (read_map other).map

abbrev pub spent_answer : List ℕ → List ℕ → Answer
spent_answer map other = bare_answer (read_map map).number (read_map other).number (spent_number (spent_of map other))

-- "12 with dot and both keys"
abbrev pub spent_actor : CvRDTValidation → ℕ
spent_actor Once = 0
spent_actor (Twice d k h) = d.actor

abbrev pub spent_counter : CvRDTValidation → ℕ
spent_counter Once = 0
spent_counter (Twice d k h) = d.counter

abbrev pub spent_ours : CvRDTValidation → ℕ
spent_ours Once = 0
spent_ours (Twice d k h) = k

abbrev pub spent_theirs : CvRDTValidation → ℕ
spent_theirs Once = 0
spent_theirs (Twice d k h) = h
