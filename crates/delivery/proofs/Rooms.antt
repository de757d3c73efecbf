-- Room for one more value of a register that a loop builds in place.
use mathlib.Core.Path.{◌≡◌, ap, ◌∙◌}
use mathlib.Core.List.{List}
use Prim.Native.Nat.{◌<◌}
use native.Mathlib.Omega.{arith}
use lib.ListN.{length}
use Rattle.listlaws.proofs.Pads.{length-pad}
use Rattle.register.specs.declared.Value.{Value}
use Rattle.register.specs.declared.Register.{Register}
use Rattle.limits.specs.Limits.{value_limit}
use Rattle.register.specs.Values.{no_value, register_of}

pub value_room : {r : Register} (l : List Value) → r ≡ register_of l → length l < value_limit
    → (r.len < value_limit) × (length r.values ≡ value_limit)
value_room l e h = (
  omega (arith, ap (λ (x : Register). x.len) e),
  ap (λ (x : Register). length x.values) e
      ∙ length-pad no_value value_limit l (omega arith),
)
