-- `find_leads` meets its contract: the table is filled index by index.
use mathlib.Core.Path.{◌∙◌}
use native.Mathlib.Omega.{arith}
use lib.ListN.{length-set}
use Rattle.mending.specs.Tables.{fourth_of, Led}
use Rattle.mending.proofs.Leading.{table-set}
use Rattle.mending.proofs.Fourths.{byte-indexes}
use Rattle.mending.proofs.find_leads.Goals as goal

pub returns : goal.returns
returns c =
    let a = c.args in
    record {
      long = c.loop-i.invariant.0;
      each = λ w h. c.loop-i.invariant.1 w (omega (arith, c.loop-i-test.false));
      bytes = byte-indexes a.marks.now a.image.now (λ i. omega (arith, c.shared_slice_known-1.given i))
          c.requires.2;
    }

pub loop-i-preserved : goal.loop-i-preserved
loop-i-preserved c =
    let a = c.args in (
      length-set c.loop-i.leads c.loop-i.i _ ∙ c.loop-i.invariant.0,
      table-set (Led (fourth_of a.marks.now a.image.now)) c.loop-i.leads c.loop-i.i c.loop-i.invariant.1 _
          (omega (arith, c.loop-i-test.true, c.loop-i.invariant.0)) c.lead_of.ensures,
    )
