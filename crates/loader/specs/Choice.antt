-- The loader's choice on one register: what it drops, what it takes, and what it reports; on values of any number.
use Rattle.std.specs.Prelude.{Bool, false, not, List, [], ◌∷◌, map, ℕ, min, eqb, length}
use Rattle.listlaws.specs.Sift.{those}
use Rattle.listlaws.specs.First.{some}
use Rattle.listlaws.specs.Fold.{fold}
use Rattle.clock.specs.declared.Dot.{Dot}
use Rattle.clock.specs.Dots.{dots_of}
use Rattle.register.specs.declared.Value.{Value}
use Rattle.register.specs.Values.{yields}
use Rattle.loader.specs.declared.Report.{Report}

-- "values whose clock is strictly below another in that register"
unfoldable pub is_below : List Value → Value → Bool
is_below l v = some (yields false v) l

-- it "drops" them
unfoldable pub undropped : List Value → List Value
undropped l = those (λ v. not (is_below l v)) l

-- "then takes the smallest remaining value"
unfoldable pub smallest : List Value → ℕ
smallest [] = 0
smallest (v ∷ l) = fold (λ n w. min n w.value.number) v.value.number l

-- a value that is not n
abbrev pub another : ℕ → Value → Bool
another n v = not (eqb n v.value.number)

-- "whether their values differ": beside one of them stands another
unfoldable pub differ : List Value → Bool
differ l = some (λ v. some (another v.value.number) l) l

-- "it reports the value, how many remained, and whether their values differ", and that there is one
abbrev pub report_on : List Value → Report
report_on l = record { count = length l; differ = differ l; found = not (eqb (length l) 0); value = smallest l }

unfoldable pub report_of : List Value → Report
report_of l = report_on (undropped l)

-- "the same value-and-clock pairs": what a register holds, as pairs of a clock's dots and a value
abbrev pub pairs_of : List Value → List (List Dot × ℕ)
pairs_of l = map (λ v. (dots_of v.clock, v.value.number)) l
