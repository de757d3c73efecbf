-- The updates and the removals among operations.
use Rattle.std.specs.Prelude.{◌≡◌, true, false, List}
use Rattle.listlaws.specs.Order.{◌∈◌}
use Rattle.removals.specs.declared.Removal.{Removal}
use Rattle.entries.specs.declared.Update.{Update}
use Rattle.map.specs.declared.Op.{Op}

pub record UpdateIn (ops : List Op) (u : Update) : Type 0 where
  pub op : Op
  pub stands : op ∈ ops
  pub updates : op.up ≡ true
  pub is : op.update ≡ u

pub record RemovalIn (ops : List Op) (r : Removal) : Type 0 where
  pub op : Op
  pub stands : op ∈ ops
  pub removes : op.up ≡ false
  pub is : op.removal ≡ r
