-- `rises` meets its contract: each dot stands from the place behind the last actor on.
use mathlib.Core.Path.{◌≡◌}
use lib.ListN.{drop}
use Rattle.advance.specs.Advancing.{rising_dots}
use Rattle.advance.proofs.rises.Given as goal

abbrev pub invariant-loop-d : goal.invariant-loop-d
invariant-loop-d l = rising_dots 0 l.d-items ≡ rising_dots l.low (drop l.d-index l.d-items)
