-- `same_bytes` meets its contract: a pair of bytes that differ, or lists of different lengths, are told apart.
use mathlib.Core.Path.{◌≡◌, refl, ap, ◌∙◌}
use mathlib.Core.List.{List, [], ◌∷◌}
use mathlib.Core.Bool.{◌&&◌}
use Prim.Native.Nat.{ℕ}
use lib.Dec.{eqb}
use lib.Pointwise.{pointwise}
use Rattle.promises.specs.CatchUp.{same_bytes}
use Rattle.catchup.proofs.same_bytes.Goals as goal

by-pairs : (l m : List ℕ) → pointwise eqb l m ≡ same_bytes l m
unfolding same_bytes
by-pairs [] [] = refl
by-pairs [] (y ∷ m) = refl
by-pairs (x ∷ l) [] = refl
by-pairs (x ∷ l) (y ∷ m) = ap (λ b. eqb x y && b) (by-pairs l m)

pub returns : goal.returns
returns c = c.eq.ensures ∙ by-pairs _ _
