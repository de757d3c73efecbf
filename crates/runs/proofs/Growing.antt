-- The dots of the first records of some bytes, one more at a time.
use mathlib.Core.Path.{◌≡◌, refl, ap, ◌∙◌}
use mathlib.Core.List.{List, [], ◌∷◌, ◌++◌, map}
use Prim.Native.Nat.{ℕ, ◌+◌, ◌*◌}
use native.Mathlib.Omega.{arith}
use Rattle.records.specs.Records.{record_from, records_from}
use Rattle.records.proofs.Joined.{records-split}
use Rattle.clockimage.specs.Image.{dot_of}
use Rattle.clockimage.proofs.Dots.{map_snoc}

pub dots-none : (s : List ℕ) → map dot_of (records_from s 0 0) ≡ []
unfolding records_from
dots-none s = refl

pub dots-next : (s : List ℕ) (i : ℕ) → map dot_of (records_from s 0 (i + 1)) ≡ map dot_of (records_from s 0 i)
    ++ (dot_of (record_from s (i * 16)) ∷ [])
unfolding records_from
dots-next s i =
    let e : 0 + i * 16 ≡ i * 16 = omega arith in
    ap (map dot_of) (records-split i 1 0 s ∙ ap (λ k. records_from s 0 i ++ (record_from s k ∷ [])) e)
    ∙ map_snoc dot_of (records_from s 0 i) (record_from s (i * 16))
