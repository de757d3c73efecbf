-- `castribba_bay` meets its contract: each way out is a law of `Answers`.
use mathlib.Core.Path.{refl, ap, sym, ◌∙◌}
use mathlib.Core.Bool.{cond}
use Prim.Native.Nat.{ℕ}
use borrow.Author.Tests.{not-true, not-false}
use Rattle.answers.proofs.Answers.{number-first, number-own, number_short, number-done, refuses, writes}
use native.Mathlib.Omega.{arith}
use mathlib.Core.Bool.{not}
use Rattle.loader.proofs.castribba_bay.Goals as goal

pub returns-then-l-ne0 : goal.returns-then-l-ne0
returns-then-l-ne0 c =
    let e = c.lay_out-l.ensures.0 in
    rw c.word.ensures (refuses _ _ (number-first _ _ e c.if-l-ne0.true) c.if-l-ne0.true)

pub returns-then-not-is_bay : goal.returns-then-not-is_bay
returns-then-not-is_bay c =
    let s = c.before.before.before in
    let no = sym c.is_bay.ensures ∙ not-true _ (ap not c.if-not-is_bay.true) in
    let own = ap {B = ℕ} (λ b. cond b 0 14) (sym no) in
    let first = sym s.lay_out-l.ensures.0 ∙ s.if-l-ne0.false in
    rw c.word-then-not-is_bay.ensures (refuses _ _ (number-own _ _ first refl own (omega arith)) (omega arith))

pub returns-then-out-lt-REPORT : goal.returns-then-out-lt-REPORT
returns-then-out-lt-REPORT c =
    let s = c.before.before.before.before in
    let yes = sym c.is_bay.ensures ∙ not-false _ (ap not c.if-not-is_bay.false) in
    let own = ap {B = ℕ} (λ b. cond b 0 14) yes in
    let first = sym s.lay_out-l.ensures.0 ∙ s.if-l-ne0.false in
    rw c.word-then-out-lt-REPORT.ensures (refuses _ _ (number_short _ _ first refl own (omega arith)) (omega arith))

pub report_at-r-requires : goal.report_at-r-requires
report_at-r-requires c = (c.lay_out-l.ensures.1 c.if-l-ne0.false).lies

pub returns : goal.returns
returns c =
    let w = c.before.before in
    let s = w.before.before.before.before.before.before in
    let yes = sym w.is_bay.ensures ∙ not-false _ (ap not w.if-not-is_bay.false) in
    let own = ap {B = ℕ} (λ b. cond b 0 14) yes in
    let m = s.lay_out-l.ensures in
    let first = sym m.0 ∙ s.if-l-ne0.false in
    writes _ _ (number-done _ _ first refl own (omega arith)) (rw (← w.report_at-r.ensures) w.write_report.ensures)
