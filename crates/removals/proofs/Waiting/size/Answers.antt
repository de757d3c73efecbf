-- `Waiting::size` meets its contract: the count, and the room where the count is larger.
use mathlib.Core.Path.{◌≡◌}
use lib.ListN.{length, length-take}
use Rattle.listlaws.proofs.Pads.{unmapped}
use borrow.Author.Rules.{rules}
use native.Mathlib.Omega.{arith}
use Rattle.limits.specs.Limits.{waiting_limit}
use Rattle.removals.proofs.Waiting.size.Goals as goal

pub returns : goal.returns
returns c = let h : length c.args.self.items ≡ waiting_limit = search (rules, unmapped) in simp length-take (omega (arith, c.min.ensures))
