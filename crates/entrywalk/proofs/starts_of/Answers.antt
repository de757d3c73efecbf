-- `starts_of` meets its contract: the run of one value a turn.
use mathlib.Core.Path.{refl}
use lib.ListN.{length-set}
use native.Mathlib.Omega.{arith}
use borrow.Author.Rules.{rules}
use Rattle.entrywalk.proofs.Starts.{started, started-on, started-all}
use Rattle.entrywalk.proofs.starts_of.Goals as goal

pub loop-i-init : goal.loop-i-init
loop-i-init c = (search rules, λ key l e p. started c.requires.1.0 refl p)

pub loop-i-preserved : goal.loop-i-preserved
loop-i-preserved c =
    let f = c.next_from-at.ensures in
    let v = c.loop-i.invariant in (
      (omega arith, simp length-set (omega arith)),
      λ key l e p. started-on (v.1 key l e p) (omega arith) (omega arith) (omega arith) _ f.0 f.1.0 f.1.1,
    )

pub returns : goal.returns
returns c = λ key l e p. started-all (c.loop-i.invariant.1 key l e p) (omega arith)
