-- The limits of the sleds before change request 6, and those of the new ones.
use Rattle.scan.specs.Limits.{Limits}

abbrev pub old_sleds : Limits
old_sleds = record { entries = 16; waiting = 8 }

-- "New sleds need 32 entries and 16 waiting removals; other limits stay."
abbrev pub new_sleds : Limits
new_sleds = record { entries = 32; waiting = 16 }
