-- To wait is not to be covered: `waits-covers`; so the empty clock never waits.
use mathlib.Core.Path.{◌≡◌, refl, ap, sym, ◌∙◌}
use mathlib.Core.Bool.{Bool, true, false, not}
use mathlib.Core.List.{List}
use borrow.Author.Tests.{not-true}
use Rattle.clock.specs.declared.Dot.{Dot}
use Rattle.clock.specs.Dots.{covers, outcome, order_of, is_empty}
use Rattle.clock.proofs.Within.{some-uncovered}
use Rattle.removals.specs.declared.Removal.{Removal}
use Rattle.removals.specs.Model.{under_of}
use Rattle.removals.specs.Waits.{lacking, waits}

pub waits-covers : (seen : List Dot) (r : Removal) → waits seen r ≡ not (covers seen (under_of r))
unfolding waits order_of
waits-covers seen r = go (covers seen (under_of r)) (covers (under_of r) seen)
  where
    go : (b c : Bool) → lacking (outcome b c) ≡ not b
    go true true = refl
    go true false = refl
    go false true = refl
    go false false = refl

pub waits-same : (seen : List Dot) (x y : Removal) → under_of x ≡ under_of y → waits seen x ≡ waits seen y
unfolding waits
waits-same seen x y e = ap (λ c. lacking (order_of seen c)) e

pub waits-uncovered : (seen : List Dot) (r : Removal) → waits seen r ≡ true → covers seen (under_of r) ≡ false
waits-uncovered seen r t = not-true (covers seen (under_of r)) (sym (waits-covers seen r) ∙ t)

-- the empty clock never waits
pub waits-some : (seen : List Dot) (r : Removal) → waits seen r ≡ true → is_empty (under_of r) ≡ false
waits-some seen r t = some-uncovered seen (under_of r) (waits-uncovered seen r t)
