-- "Limits: 8 dots in any clock, 32 entries, 4 values in a register, 16 waiting removals, 16 keys in each or in a removal."
use Rattle.std.specs.Prelude.{ℕ}

abbrev pub dot_limit : ℕ
dot_limit = 8

abbrev pub entry_limit : ℕ
entry_limit = 32

abbrev pub value_limit : ℕ
value_limit = 4

abbrev pub waiting_limit : ℕ
waiting_limit = 16

abbrev pub key_limit : ℕ
key_limit = 16
