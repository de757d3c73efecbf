-- 01 "Map": applying an operation.
use Rattle.std.specs.Prelude.{cond}
use Rattle.map.specs.declared.Map.{Map}
use Rattle.map.specs.declared.Op.{Op}
use Rattle.map.specs.Removing.{remove}
use Rattle.map.specs.Updating.{update}

unfoldable pub apply : Map → Op → Map
apply m op = cond op.up (update m op.update) (remove m op.removal)
