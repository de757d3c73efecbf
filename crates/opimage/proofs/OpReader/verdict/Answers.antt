-- `OpReader::verdict` meets its contract.
use mathlib.Core.Path.{refl, ◌∙◌, ap}
use Rattle.refusals.proofs.Handed.{handed, number-some}
use Rattle.scan.proofs.Numbers.{scan-min, passed}
use Rattle.opimage.specs.OpImage.{op_reading}
use borrow.Author.Tests.{eq-eqb, ne_eqb}
use Rattle.clockimage.specs.Image.{content_of}
use Rattle.opimage.proofs.Packs.{related-counts, one_of}
use Rattle.opimage.proofs.OpReader.verdict.Goals as goal

pub returns-in_err-verdict : goal.returns-in_err-verdict
returns-in_err-verdict c l s =
    let n = (rw s.scanned.number at c.in_err-verdict.ensures) ∙ scan-min 7 12 l in
    ap op_reading (handed c.from_residual.result _ c.from_residual.ensures.1) ∙ rw (← n, ne_eqb _ _ (number-some c.in_err-verdict.field-0.0)) refl

pub returns-then-removes-up : goal.returns-then-removes-up
returns-then-removes-up c l s =
    let z = passed _ c.in_ok-verdict.ensures in
    let p = s.parts z in
    rw (
      ← s.scanned.number,
      eq-eqb _ _ z,
      ← related-counts c.args.self.counts l
          p.counts,
      ← c.removes.ensures,
      ← c.updates-up.ensures,
      c.if-removes-up.true,
    )
    (λ i. record {
      number = 0;
      op = record {
        up = one_of c.args.self.counts l p.counts i;
        removal = record { clock = p.under i; keys = p.keys i };
        update = record {
          dot = record { actor = (p.head i).actor; counter = (p.head i).number };
          key = (p.head i).key;
          put = record { clock = p.put i; value = content_of (p.value i) };
        };
      };
    })

pub returns : goal.returns
returns c l s =
    let z = passed _ c.in_ok-verdict.ensures in
    let p = s.parts z in
    rw (
      ← s.scanned.number,
      eq-eqb _ _ z,
      ← related-counts c.args.self.counts l
          p.counts,
      ← c.removes.ensures,
      ← c.updates-up.ensures,
      c.if-removes-up.false,
    )
    refl
