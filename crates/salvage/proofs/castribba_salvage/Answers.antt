-- `castribba_salvage` meets its contract: each way out is a law of `Answers`.
use mathlib.Core.Path.{refl, ap, sym}
use mathlib.Core.Bool.{cond}
use Prim.Native.Nat.{ℕ}
use native.Mathlib.Omega.{arith}
use borrow.Author.Tests.{lt-ltb, le-ltb}
use lib.ListN.{length}
use Rattle.mapimage.specs.MapImage.{map_longest}
use Rattle.answers.proofs.Answers.{number-first, number_short, number-done, refuses, writes}
use Rattle.salvage.proofs.Selected.{image-is, image-long}
use borrow.Author.Rules.{rules}
use Rattle.salvage.proofs.castribba_salvage.Goals as goal

pub returns-then-image-gt-MAP_LONGEST : goal.returns-then-image-gt-MAP_LONGEST
returns-then-image-gt-MAP_LONGEST c =
    let a = c.args in
    let e = ap {B = ℕ} (λ b. cond b 2 0) (sym (lt-ltb map_longest (length a.image.now) c.if-image-gt-MAP_LONGEST.true)) in
    rw c.word.ensures (refuses _ _ (number-first _ _ e (omega arith)) (omega arith))

pub returns-then-out-n : goal.returns-then-out-n
returns-then-out-n c =
    let a = c.args in
    let first = ap {B = ℕ} (λ b. cond b 2 0) (le-ltb map_longest (length a.image.now) (omega (
      arith,
      c.if-image-gt-MAP_LONGEST.false,
    ))) in
    let long = image-long _ a.image.now c.mark_all.ensures _
    c.count_kept-n.ensures.0 in
    rw c.word-then-out-n.ensures (refuses _ _ (number_short _ _ first refl refl (omega (arith, long, c.if-out-n.true))) (omega arith))

pub write_kept-requires : goal.write_kept-requires
write_kept-requires c = (
  search rules,
  c.mark_all.ensures.small,
  omega (
    arith,
    c.if-out-n.false,
  ),
)

pub returns : goal.returns
returns c =
    let a = c.args in
    let first = ap {B = ℕ} (λ b. cond b 2 0) (le-ltb map_longest (length a.image.now) (omega (
      arith,
      c.if-image-gt-MAP_LONGEST.false,
    ))) in
    let long = image-long _ a.image.now c.mark_all.ensures _
    c.count_kept-n.ensures.0 in
    writes _ _ (number-done _ _ first refl refl (omega (arith, long, c.if-out-n.false)))
    (rw (← image-is _ a.image.now c.mark_all.ensures _
    c.count_kept-n.ensures.0) c.write_kept.ensures)
