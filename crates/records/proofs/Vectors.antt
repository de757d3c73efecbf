-- Two worked examples, computed: a number's bytes, and the record `2 0 1 5 1` of document 01.
use mathlib.Core.Path.{◌≡◌, refl}
use mathlib.Core.List.{[], ◌∷◌}
use Rattle.records.specs.Bytes.{num_at, num_bytes}
use Rattle.records.specs.Records.{record_from}

number : num_at 3 0 (1 ∷ 2 ∷ 3 ∷ 4 ∷ 5 ∷ 6 ∷ 7 ∷ 8 ∷ []) ≡ 0x0807060504030201
number = refl

bytes : num_bytes 3 0x0807060504030201 ≡ 1 ∷ 2 ∷ 3 ∷ 4 ∷ 5 ∷ 6 ∷ 7 ∷ 8 ∷ []
bytes = refl

entry-dot : record_from (2 ∷ 0 ∷ 1 ∷ 0 ∷ 5 ∷ 0 ∷ 0 ∷ 0 ∷ 1 ∷ 0 ∷ 0 ∷ 0 ∷ 0 ∷ 0 ∷ 0 ∷ 0 ∷ []) 0
    ≡ record { kind = 2; index = 0; actor = 1; key = 5; number = 1 }
unfolding record_from
entry-dot = refl
