-- A register whose second value overwrites its first, beside a concurrent third: worked out, with its bytes.
use mathlib.Core.Path.{◌≡◌, refl}
use mathlib.Core.Bool.{true}
use mathlib.Core.List.{List, [], ◌∷◌}
use Rattle.listlaws.specs.Pad.{pad}
use Rattle.listlaws.specs.Sift.{sift}
use Rattle.listlaws.specs.First.{first_in}
use Rattle.listlaws.specs.Fold.{fold}
use Rattle.clock.specs.Dots.{counter_in, covers, order_of}
use Rattle.clock.proofs.Examples.{one}
use Rattle.register.specs.declared.Value.{Value}
use Rattle.register.specs.Values.{yields}
use Rattle.register.proofs.Examples.{value}
use Rattle.loader.specs.Choice.{is_below, undropped, smallest, differ, report_of}
use Rattle.loader.specs.Reports.{report_bytes}

abbrev register : List Value
register =
    value (one 1 1) 5
    ∷ value (one 1 2) 400
    ∷ value (one 2 1) 300
    ∷ []

-- end theorems, both: 5 is dropped though it is the smallest
two-remain : report_of register ≡ record { count = 2; differ = true; found = true; value = 300 }
unfolding report_of undropped is_below smallest differ yields order_of covers counter_in sift first_in fold pad
two-remain = refl

two_bytes : report_bytes (record { count = 2; differ = true; found = true; value = 300 }) ≡ 2 ∷ 1 ∷ 1 ∷ 44 ∷ 1 ∷ 0 ∷ 0 ∷ 0 ∷ 0 ∷ 0 ∷ 0 ∷ []
two_bytes = refl
