-- Runs of the rules on maps, which the proofs speak of in place of calls.
use Rattle.std.specs.Prelude.{◌≡◌, ◌⊎◌, List, [], ◌∷◌}
use Rattle.listlaws.specs.Fold.{fold}
use Rattle.listlaws.specs.Order.{◌∈◌}
use Rattle.map.specs.declared.Map.{Map}
use Rattle.map.specs.declared.Op.{Op}
use Rattle.map.specs.Applying.{apply}
use Rattle.map.specs.Valid.{ValidOp}
use Rattle.readiness.specs.declared.Readiness.TheVariants.{Next, Seen}
use Rattle.readiness.specs.Ready.{ready}
use Rattle.alikelaws.specs.Source.{Source, ComesFrom, EveryValue}

-- one operation after the other
abbrev pub applied : Map → List Op → Map
applied m ops = fold apply m ops

abbrev pub ValidOps : List Op → Type 0
ValidOps ops = (o : Op) → o ∈ ops → ValidOp o

-- each is next, or was seen, where it comes
pub data Guarded : Map → List Op → Type 0 where
  none : {m : Map} → Guarded m []
  more : {m : Map} {o : Op} {ops : List Op} → (ready m o ≡ Next) ⊎ (ready m o ≡ Seen) → Guarded (apply m o) ops → Guarded m (o ∷ ops)

-- every value has a source
abbrev pub Sourced : Map → List Op → Map → Type 0
Sourced first ops m = EveryValue (λ k v. ComesFrom (Source first ops k) v) m
