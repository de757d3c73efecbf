-- The twelve kinds of a record: which fields each may use, when a record is good by itself, and the order of records.
use Rattle.std.specs.Prelude.{ℕ, Bool, cond, ◌&&◌, ◌||◌, not, List, [], ◌∷◌, eqb, ltb, leb, get_or}
use Rattle.std.specs.Int.Bits.{bit_and}
use Rattle.records.specs.declared.Record.{Record}

-- the kinds, in the words of 01's table: a map has the first six, a clock the first alone, an operation the last six
abbrev pub clock_dot_kind : ℕ
clock_dot_kind = 1

abbrev pub entry_dot_kind : ℕ
entry_dot_kind = 2

abbrev pub value_kind : ℕ
value_kind = 3

abbrev pub value_dot_kind : ℕ
value_dot_kind = 4

abbrev pub waiting_dot_kind : ℕ
waiting_dot_kind = 5

abbrev pub waiting_key_kind : ℕ
waiting_key_kind = 6

abbrev pub removal_kind : ℕ
removal_kind = 7

abbrev pub removal_dot_kind : ℕ
removal_dot_kind = 8

abbrev pub removal_key_kind : ℕ
removal_key_kind = 9

abbrev pub update_kind : ℕ
update_kind = 10

abbrev pub put_value_kind : ℕ
put_value_kind = 11

abbrev pub put_dot_kind : ℕ
put_dot_kind = 12

-- by kind, from kind 0, which is none: 1 index, 2 actor, 4 key, 8 number
abbrev pub masks : List ℕ
masks = 0 ∷ 10 ∷ 14 ∷ 15 ∷ 15 ∷ 11 ∷ 5 ∷ 0 ∷ 10 ∷ 4 ∷ 14 ∷ 10 ∷ 10 ∷ []

abbrev pub mask_of : ℕ → ℕ
mask_of kind = get_or masks kind 0

-- "An unused field is zero": a field may be other than zero only where the kind's mask has the field's bit
abbrev pub field_ok : ℕ → ℕ → ℕ → Bool
field_ok mask bit x = not (eqb (bit_and mask bit) 0) || eqb x 0

abbrev pub fields_ok : ℕ → Record → Bool
fields_ok mask r = field_ok mask 1 r.index && (field_ok mask 2 r.actor && (field_ok mask 4 r.key && field_ok mask 8 r.number))

-- "The number is a counter from 1, except a value (kinds 3, 11)."
abbrev pub counter_ok : ℕ → Record → Bool
counter_ok mask r = eqb (bit_and mask 8) 0 || (eqb r.kind value_kind || (eqb r.kind put_value_kind || ltb 0 r.number))

-- good by itself, in an image of the kinds low to high
unfoldable pub record_ok : ℕ → ℕ → Record → Bool
record_ok low high r =
    leb low r.kind && (leb r.kind high && (fields_ok (mask_of r.kind) r && counter_ok (mask_of r.kind) r))

-- the actor by which a record is ordered and counted: a value's field (kinds 3, 11) holds its origin, which is skipped
abbrev pub actor_of : Record → ℕ
actor_of r = cond (eqb r.kind value_kind || eqb r.kind put_value_kind) 0 r.actor

-- "Records ascend strictly by (kind, key, index, actor)."
unfoldable pub before : Record → Record → Bool
before a b =
    ltb a.kind b.kind || (eqb a.kind b.kind
    && (ltb a.key b.key || (eqb a.key b.key
    && (ltb a.index b.index || (eqb a.index b.index && ltb (actor_of a) (actor_of b))))))
