-- A register in hand: room for the values of two, until what follows has cut them; and laid down.
use Rattle.std.specs.Prelude.{true, false, List, [], ◌*◌, ℕ, length, take}
use Rattle.listlaws.specs.Pad.{pad}
use Rattle.listlaws.specs.Limit.{if_within}
use Rattle.register.specs.declared.Value.{Value}
use Rattle.register.specs.declared.Wide.{Wide}
use Rattle.register.specs.declared.Settled.{Settled}
use Rattle.limits.specs.Limits.{value_limit}
use Rattle.register.specs.Values.{no_value, register_of}

-- the room of a register in hand: two registers' values, before what follows has cut them
abbrev pub wide_room : ℕ
wide_room = 2 * value_limit

abbrev pub wide_values : Wide → List Value
wide_values w = take w.len w.values

abbrev pub wide_of : List Value → Wide
wide_of l = record { values = pad no_value wide_room l; len = length l }

-- the register of these values, or that it is over the limit
abbrev pub settled : List Value → Settled
settled l = if_within value_limit (λ v. record { over = false; register = register_of v }) (record { over = true; register = register_of [] }) l
