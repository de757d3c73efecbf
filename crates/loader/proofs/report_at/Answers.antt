-- `report_at` meets its contract.
use Rattle.loader.specs.Reports.{report_at}
use Rattle.loader.proofs.report_at.Goals as goal

pub choose-requires : goal.choose-requires
choose-requires c = (_, c.spans_of-at.ensures.register)

pub returns : goal.returns
unfolding report_at
returns c = c.choose.ensures _ c.spans_of-at.ensures.register
