-- Entries by key as lists, and the limit on them.
use Rattle.std.specs.Prelude.{◌≡◌, List, [], ℕ, length, take}
use Rattle.listlaws.specs.Pad.{pad}
use Rattle.clock.specs.declared.Dot.{Dot}
use Rattle.clock.specs.Dots.{no_dot, dots_of, clock_of}
use Rattle.register.specs.declared.Value.{Value}
use Rattle.register.specs.Values.{no_value, values_of, register_of}
use Rattle.entries.specs.declared.Entry.{Entry}
use Rattle.entries.specs.declared.Entries.{Entries}
use Rattle.entries.specs.declared.Update.{Update}
use Rattle.limits.specs.Limits.{entry_limit}

-- an entry's dots and values
abbrev pub dots_in : Entry → List Dot
dots_in e = dots_of e.clock

abbrev pub values_in : Entry → List Value
values_in e = values_of e.register

abbrev pub entry_as : ℕ → List Dot → List Value → Entry
entry_as k c l = record { key = k; clock = clock_of c; register = register_of l }

abbrev pub no_entry : Entry
no_entry = entry_as 0 [] []

-- an entry laid down with zeros behind its dots and its values
abbrev pub LaidDown : Entry → Type 0
LaidDown e = e ≡ entry_as e.key (dots_in e) (values_in e)

abbrev pub entries_of : Entries → List Entry
entries_of e = take e.len e.items

abbrev pub entries_as : List Entry → Entries
entries_as l = record { items = pad no_entry entry_limit l; len = length l }

-- the part of an operation that is not in use
abbrev pub no_update : Update
no_update = record { dot = no_dot; key = 0; put = no_value }
