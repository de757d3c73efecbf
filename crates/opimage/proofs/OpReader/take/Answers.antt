-- `OpReader::take` meets its contract.
use mathlib.Core.Path.{sym, ◌∙◌}
use Rattle.scan.proofs.Scanning.{scan-before, none-under}
use native.Mathlib.Omega.{arith}
use Rattle.opimage.proofs.OpReader.take.Goals as goal

pub with-requires : goal.with-requires
with-requires c =
    let p = c.requires in
    let now = c.take-scan.ensures p.0 p.1.scanned (λ _. none-under 7 12 p.0 _ 0 (λ a b. omega arith)) in
    let z = c.if-scan-eq0.true in
    (z, (p.0, (p.1.parts (p.1.scanned.number ∙ scan-before 7 12 p.0 _ (sym now.number ∙ z)), now)))

pub returns-then-scan-eq0 : goal.returns-then-scan-eq0
returns-then-scan-eq0 c l s =
    let now = c.take-scan.ensures l s.scanned (λ _. none-under 7 12 l _ 0 (λ a b. omega arith)) in
    let z = c.if-scan-eq0.true in
    c.with.ensures l (s.parts (s.scanned.number ∙ scan-before 7 12 l _ (sym now.number ∙ z))) now

pub returns : goal.returns
returns c l s =
    record {
      scanned = c.take-scan.ensures l s.scanned (λ _. none-under 7 12 l _ 0 (λ a b. omega arith));
      parts = λ z. absurd
          (c.if-scan-eq0.false z);
    }
