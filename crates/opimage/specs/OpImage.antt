-- The image of an operation: a removal's head, clock and keys, or an update's head, put value and put clock.
use Rattle.std.specs.Prelude.{ℕ, ◌+◌, ◌*◌, List, ◌∷◌, ◌++◌, map, eqb, length}
use mathlib.Core.Bool.{Bool, cond, ◌&&◌, ◌||◌}
use Rattle.listlaws.specs.Sift.{those}
use Rattle.listlaws.specs.Fold.{fold}
use Rattle.limits.specs.Limits.{dot_limit, key_limit}
use Rattle.clock.specs.Dots.{dots_of, clock_of}
use Rattle.removals.specs.declared.Removal.{Removal}
use Rattle.entries.specs.declared.Update.{Update}
use Rattle.removals.specs.Model.{under_of, listed_in, removal_as}
use Rattle.map.specs.declared.Op.{Op}
use Rattle.map.specs.Model.{no_op}
use Rattle.records.specs.declared.Record.{Record}
use Rattle.records.specs.Records.{bytes_of}
use Rattle.records.specs.Kinds.{removal_kind, removal_dot_kind, removal_key_kind, update_kind, put_value_kind, put_dot_kind}
use Rattle.scan.specs.Numbers.{scan_number}
use Rattle.clockimage.specs.Image.{is_kind, dot_of, dot_records, content_of, content_record, dots_from, image_of}
use Rattle.std.specs.declared.result.Result.{Result}
use Rattle.refusals.specs.declared.Refusal.{Refusal}
use Rattle.refusals.specs.Numbers.{number_told, done_or}

abbrev pub op_longest : ℕ
op_longest = (1 + dot_limit + key_limit) * 16

-- a key in a record of a kind, under an index where the kind has one
abbrev pub key_record : ℕ → ℕ → ℕ → Record
key_record kind index k = record { kind = kind; index = index; actor = 0; key = k; number = 0 }

abbrev pub removal_head : Record
removal_head = record { kind = removal_kind; index = 0; actor = 0; key = 0; number = 0 }

abbrev pub update_head : Update → Record
update_head u = record { kind = update_kind; index = 0; actor = u.dot.actor; key = u.key; number = u.dot.counter }

abbrev pub put_value : Update → Record
put_value u = content_record put_value_kind 0 0 u.put.value

abbrev pub removal_records : Removal → List Record
removal_records r = removal_head ∷ (dot_records removal_dot_kind 0 0 (under_of r) ++ map (key_record removal_key_kind 0) (listed_in r))

abbrev pub update_records : Update → List Record
update_records u = update_head u ∷ (put_value u ∷ dot_records put_dot_kind 0 0 (dots_of u.put.clock))

abbrev pub op_records : Op → List Record
op_records o = cond o.up (update_records o.update) (removal_records o.removal)

-- the image of an operation
abbrev pub op_image : Op → List ℕ
op_image o = bytes_of (op_records o)

abbrev pub how_many : ℕ → List Record → ℕ
how_many kind l = length (those (is_kind kind) l)

-- "An operation has one head; kinds 8 and 9 go with 7; kinds 11 (exactly one) and 12 go with 10."
abbrev pub removes : (ℕ → ℕ) → Bool
removes n = eqb (n removal_kind) 1 && (eqb (n update_kind) 0 && (eqb (n put_value_kind) 0 && eqb (n put_dot_kind) 0))

abbrev pub updates : (ℕ → ℕ) → Bool
updates n = eqb (n update_kind) 1 && (eqb (n put_value_kind) 1
    && (eqb (n removal_kind) 0 && (eqb (n removal_dot_kind) 0 && eqb (n removal_key_kind) 0)))

unfoldable pub op_related : List Record → Bool
op_related l = removes (λ k. how_many k l) || updates (λ k. how_many k l)

-- the record of a kind, where there is one
abbrev pub no_record : Record
no_record = record { kind = 0; index = 0; actor = 0; key = 0; number = 0 }

unfoldable pub record_of : ℕ → List Record → Record
record_of kind l = fold (λ q r. cond (is_kind kind r) r q) no_record l

abbrev pub keys_in : (Record → Bool) → List Record → List ℕ
keys_in test l = map (λ r. r.key) (those test l)

-- the operation that related records stand for
abbrev pub removal_in : List Record → Removal
removal_in l = removal_as (dots_from (is_kind removal_dot_kind) l) (keys_in (is_kind removal_key_kind) l)

abbrev pub update_in : List Record → Update
update_in l = record {
  dot = dot_of (record_of update_kind l);
  key = (record_of update_kind l).key;
  put = record { clock = clock_of (dots_from (is_kind put_dot_kind) l); value = content_of (record_of put_value_kind l) };
}

abbrev pub op_in : List Record → Op
op_in l = record { up = eqb (how_many update_kind l) 1; removal = removal_in l; update = update_in l }

-- a number of 01, and the operation, which holds zeros where the number is not 0
pub record ReadOp : Type 0 where
  pub number : ℕ
  pub op : Op

-- what reading an operation answers
abbrev pub op_reading : Result Op Refusal → ReadOp
op_reading r = record { number = number_told r; op = done_or no_op r }

abbrev pub refused_op : ℕ → ReadOp
refused_op n = record { number = n; op = no_op }

-- the records of an operation's image: 1, 2, 3, or the operation
abbrev pub judged_op : List Record → ReadOp
judged_op l =
    cond (eqb (scan_number removal_kind put_dot_kind l) 0) (cond (op_related l) (record { number = 0; op = op_in l }) (refused_op 3))
    (refused_op (scan_number removal_kind put_dot_kind l))

-- what a list of bytes is as an operation's image
unfoldable pub read_op : List ℕ → ReadOp
read_op s = image_of op_longest refused_op judged_op s
