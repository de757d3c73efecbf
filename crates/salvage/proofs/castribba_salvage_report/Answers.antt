-- `castribba_salvage_report` meets its contract: each way out is a law of `Answers`.
use mathlib.Core.Path.{refl, ap, sym}
use mathlib.Core.Bool.{cond}
use Prim.Native.Nat.{ℕ}
use native.Mathlib.Omega.{arith}
use borrow.Author.Tests.{lt-ltb, le-ltb}
use lib.ListN.{length}
use Rattle.mapimage.specs.MapImage.{map_longest}
use Rattle.answers.proofs.Answers.{number-first, number_short, number-done, refuses, writes}
use Rattle.salvage.proofs.Telling.{report-is, report-part, report-long, part-long, part-wrote, told-room}
use borrow.Author.Rules.{rules}
use Rattle.salvage.proofs.castribba_salvage_report.Goals as goal

pub returns-then-image-gt-MAP_LONGEST : goal.returns-then-image-gt-MAP_LONGEST
returns-then-image-gt-MAP_LONGEST c =
    let a = c.args in
    let e = ap {B = ℕ} (λ b. cond b 2 0) (sym (lt-ltb map_longest (length a.image.now) c.if-image-gt-MAP_LONGEST.true)) in
    rw c.word.ensures (refuses _ _ (number-first _ _ e (omega arith)) (omega arith))

pub returns-then-out-told : goal.returns-then-out-told
returns-then-out-told c =
    let a = c.args in
    let first = ap {B = ℕ} (λ b. cond b 2 0) (le-ltb map_longest (length a.image.now) (omega (
      arith,
      c.if-image-gt-MAP_LONGEST.false,
    ))) in
    let long = report-long _ a.image.now c.mark_all.ensures
    c.if-image-eq0.true _ c.count_told-told.ensures.0 in
    rw c.word-then-out-told.ensures (refuses _ _ (number_short _ _ first refl refl (omega (arith, long, c.if-out-told.true))) (omega arith))

pub returns-then-image-eq0 : goal.returns-then-image-eq0
returns-then-image-eq0 c =
    let a = c.args in
    let first = ap {B = ℕ} (λ b. cond b 2 0) (le-ltb map_longest (length a.image.now) (omega (
      arith,
      c.if-image-gt-MAP_LONGEST.false,
    ))) in
    let long = report-long _ a.image.now c.mark_all.ensures c.if-image-eq0.true _
    c.count_told-told.ensures.0 in
    writes _ _ (number-done _ _ first refl refl (omega (arith, long, c.if-out-told.false)))
    (rw (← report-is _ a.image.now c.mark_all.ensures
    c.if-image-eq0.true) c.write_report.ensures)

pub returns-then-out-told-2 : goal.returns-then-out-told-2
returns-then-out-told-2 c =
    let a = c.args in
    let first = ap {B = ℕ} (λ b. cond b 2 0) (le-ltb map_longest (length a.image.now) (omega (
      arith,
      c.if-image-gt-MAP_LONGEST.false,
    ))) in
    let long = part-long _ a.image.now c.mark_all.ensures (search rules)
    c.if-image-eq0.false _ c.count_told-told.ensures.0 in
    rw c.word-then-out-told-2.ensures (refuses _ _ (number_short _ _ first refl refl (omega (arith, long, c.if-out-told-2.true))) (omega arith))

pub write_told-requires : goal.write_told-requires
write_told-requires c = told-room _ c.write_report-next.ensures (omega (
  arith,
  c.count_told-told.ensures.0,
  c.if-out-told-2.false,
))

pub returns : goal.returns
returns c =
    let a = c.args in
    let first = ap {B = ℕ} (λ b. cond b 2 0) (le-ltb map_longest (length a.image.now) (omega (
      arith,
      c.if-image-gt-MAP_LONGEST.false,
    ))) in
    let long = part-long _ a.image.now c.mark_all.ensures (search rules)
    c.if-image-eq0.false _
    c.count_told-told.ensures.0 in
    writes _ _ (number-done _ _ first refl refl (omega (
      arith,
      long,
      c.if-out-told-2.false,
    )))
    (rw (← report-part _ a.image.now c.mark_all.ensures (search rules)
    c.if-image-eq0.false)
    (part-wrote _ _ c.write_report-next.ensures c.write_told.ensures (omega (
      arith,
      c.count_told-told.ensures.0,
      c.if-out-told-2.false,
    ))))
