-- Little-endian numbers in lists of bytes.
use Rattle.std.specs.Prelude.{ℕ, zero, suc, ◌+◌, ◌*◌, ◌/◌, ◌%◌, ◌^◌, ◌<◌, Bool, cond, List, [], ◌∷◌, ◌++◌, length, take, drop, get_or}

-- the number that 2 ^ k bytes of s hold from `at` on: the low half stands first
abbrev pub num_at : ℕ → ℕ → List ℕ → ℕ
num_at zero at s = get_or s at 0
num_at (suc k) at s = num_at k at s + 256 ^ (2 ^ k) * num_at k (at + 2 ^ k) s

-- the 2 ^ k bytes of x
abbrev pub num_bytes : ℕ → ℕ → List ℕ
num_bytes zero x = x ∷ []
num_bytes (suc k) x = num_bytes k (x % 256 ^ (2 ^ k)) ++ num_bytes k (x / 256 ^ (2 ^ k))

-- s with the bytes b in place from `at` on
unfoldable pub placed : ℕ → List ℕ → List ℕ → List ℕ
placed at b s = take at s ++ (b ++ drop (at + length b) s)

-- each element is a byte
abbrev pub Bytes : List ℕ → Type 0
Bytes s = (i : ℕ) → get_or s i 0 < 256

-- a flag as a byte
abbrev pub flag_of : Bool → ℕ
flag_of b = cond b 1 0
