-- A run of operations, by what the next one does.
use mathlib.Core.Path.{◌≡◌, ap, sym, ◌∙◌}
use mathlib.Core.List.{List, [], ◌∷◌}
use Prim.Native.Nat.{ℕ, ◌+◌, ◌*◌, ◌^◌, ◌≤◌, ◌<◌}
use native.Mathlib.Omega.{arith}
use lib.ListN.{take}
use Rattle.mapimage.specs.MapImage.{map_longest}
use Rattle.promises.specs.CatchUp.{Outcome, outcome_from}
use Rattle.promises.proofs.Outcomes.{outcome-on, outcome-stop, outcome-end}
use Rattle.catchup.specs.Walking.{Stepped, RanAs}

-- it is refused, or it is not
module _ {o : Outcome} (place : ℕ) (s op : List ℕ) (rest : List (List ℕ)) (e : o ≡ outcome_from place s (op ∷ rest)) {exit : List ℕ} {w : ℕ}
    (t : Stepped s op exit w) where
  pub ran-stop : 2 ^ 32 ≤ w → RanAs o exit (record { word = w; place = place; len = 0 })
  ran-stop h =
      let r = t.refused h in
      let f = sym (e ∙ outcome-stop place s op rest r.1) in
      record {
        word = r.0 ∙ ap (λ (x : Outcome). x.number * 2 ^ 32) f;
        place = ap (λ (x : Outcome). x.place) f;
        short = omega arith;
        image = λ z. absurd (omega (arith, z, h));
      }

  pub ran_on : w < 2 ^ 32 → o ≡ outcome_from (place + 1) (take w exit) rest
  ran_on l = e ∙ outcome-on place s op rest (t.number l) ∙ ap (λ i. outcome_from (place + 1) i rest) (sym (t.image l))

-- there is none
pub ran-end : {o : Outcome} (place left : ℕ) (here : List ℕ) {ops : List (List ℕ)} → left ≤ map_longest → o ≡ outcome_from place (take left here) ops
    → ops ≡ [] → RanAs o here (record { word = 0; place = 0; len = left })
ran-end place left here l e z =
    let f = sym (e ∙ ap (outcome_from place (take left here)) z ∙ outcome-end place (take left here)) in
    record {
      word = ap (λ (x : Outcome). x.number * 2 ^ 32) f;
      place = ap (λ (x : Outcome). x.place) f;
      short = l;
      image = λ y. ap (λ (x : Outcome). x.image) f;
    }
