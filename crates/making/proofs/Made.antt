-- An operation made under a clock is the one that the map's definition names.
use mathlib.Core.Path.{◌≡◌, ap, ◌∙◌}
use mathlib.Core.Bool.{false}
use mathlib.Core.List.{[], ◌∷◌}
use Prim.Native.Nat.{ℕ}
use Rattle.clock.specs.declared.Clock.{Clock}
use Rattle.clock.specs.Dots.{dots_of}
use Rattle.register.specs.declared.Content.{Content}
use Rattle.removals.specs.Model.{keys_as}
use Rattle.entries.specs.Model.{no_update}
use Rattle.map.specs.Model.{seen_by}
use Rattle.map.specs.declared.Map.{Map}
use Rattle.map.specs.declared.Op.{Op}
use Rattle.asking.specs.declared.Made.{Made}
use Rattle.asking.specs.declared.AddCtx.{AddCtx}
use Rattle.asking.specs.Contexts.{add_context}
use Rattle.asking.specs.Asking.{update_under, make_update, removal_op}
use Rattle.map.specs.Valid.{Within}

-- a removal of one key under a clock
abbrev pub removal_under : Clock → ℕ → Op
removal_under clock key = record { up = false; removal = record { clock = clock; keys = keys_as (key ∷ []) }; update = no_update }

-- an update under the map clock is that of the map
pub update-is : (m : Map) (actor key : ℕ) (value : Content) {clock : Clock} {a : AddCtx} {j : Made} → clock ≡ m.clock
    → a ≡ add_context (dots_of clock) actor → j ≡ update_under a key value → j ≡ make_update m actor key value
unfolding make_update
update-is m actor key value p q e = e ∙ ap (λ x. update_under x key value) (q ∙ ap (λ c. add_context (dots_of c) actor) p)

-- a removal under the map clock is one under its dots
pub removal-is : {m : Map} {clock : Clock} (key : ℕ) → Within m → clock ≡ m.clock → {o : Op} → o ≡ removal_under clock key
    → o ≡ removal_op (seen_by m) key
removal-is key w p e = e ∙ ap (λ c. removal_under c key) (p ∙ ap (λ (m : Map). m.clock) w.valid.laid)
