-- `ClockReader::take` meets its contract: a dot more, where nothing is wrong.
use mathlib.Core.Path.{refl, ap, sym, ◌∙◌}
use borrow.Author.Tests.{eq-eqb}
use Rattle.scan.proofs.Scanning.{scan-before, none-under}
use Rattle.clockimage.specs.Image.{is_kind}
use Rattle.clock.specs.Dots.{clock_of}
use Rattle.clockimage.proofs.Dots.{dots-more, dots-room}
use Rattle.clockimage.proofs.Clocks.{is-first}
use native.Mathlib.Omega.{arith}
use Rattle.clockimage.proofs.ClockReader.take.Goals as goal

pub returns : goal.returns
returns c l s =
    let now = c.take-scan.ensures l s.scanned (λ _. none-under 1 1 l _ 0 (λ a b. omega arith)) in
    record {
      scanned = now;
      clock = λ n. let z = sym now.number ∙ n in
          let first = is-first l _ z in
          c.clock_with-clock.ensures _ (s.clock (s.scanned.number ∙ scan-before 1 1 l _ z))
          (λ _. dots-room 1 1 l _ z 1 first (λ b. omega arith) refl refl)
          ∙ rw (eq-eqb _ 0 n) (sym (ap clock_of (dots-more (is_kind 1) l _ (eq-eqb _ 1 first))));
    }
