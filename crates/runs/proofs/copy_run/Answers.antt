-- `copy_run` meets its contract: the loop copies a byte a turn.
use mathlib.Core.Path.{◌≡◌, refl, ap, ◌∙◌}
use mathlib.Core.List.{append_assoc}
use Prim.Native.Nat.{suc, ◌+◌}
use lib.ListN.{length, take, drop, get_or, set, length-set}
use lib.Seq.{paste, paste-zero, paste-suc, take-length}
use native.Mathlib.Omega.{arith}
use Rattle.records.specs.Bytes.{placed}
use Rattle.runs.proofs.copy_run.Goals as goal

pub loop-i-init : goal.loop-i-init
loop-i-init c = (refl, paste-zero c.args.out.now c.args.at c.args.run.now)

pub loop-i-preserved : goal.loop-i-preserved
loop-i-preserved c =
    let t = c.loop-i in
    let a = c.args in (
      length-set t.out (a.at + t.i) _ ∙ t.invariant.0,
      ap (λ o. set o (a.at + t.i) (get_or a.run.now t.i 0)) t.invariant.1
          ∙ paste-suc a.out.now a.at a.run.now t.i 0 (omega arith) (omega arith)
          ∙ ap (paste a.out.now a.at a.run.now) (let e : suc t.i ≡ t.i + 1 = omega arith in e),
    )

pub returns : goal.returns
unfolding placed
returns c =
    let a = c.args in
    let e : c.loop-i.i ≡ length a.run.now = omega arith in
    record {
      left = c.loop-i.invariant.1 ∙ ap (paste a.out.now a.at a.run.now) e
          ∙ rw (take-length a.run.now) (append_assoc (take a.at a.out.now) a.run.now
          (drop (a.at + length a.run.now) a.out.now));
      ends = refl;
    }
