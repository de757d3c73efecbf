-- `clear` meets its contract.
use mathlib.Core.Path.{ap, sym, ◌∙◌}
use lib.ListN.{set}
use lib.Seq.{set-get_or}
use Rattle.mailbox.proofs.clear.Goals as goal

pub returns-else-mem-at-ne0 : goal.returns-else-mem-at-ne0
returns-else-mem-at-ne0 c = sym (ap (set c.args.mem.now c.args.at) (sym c.if-mem-at-ne0.false) ∙ set-get_or _ _ 0)
