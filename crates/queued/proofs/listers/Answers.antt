-- `listers` meets its contract: a record of the key marks the removal of its index.
use mathlib.Core.Path.{◌≡◌, subst}
use Prim.Native.Nat.{ℕ, ◌+◌}
use lib.ListN.{length-set}
use native.Mathlib.Omega.{arith}
use Rattle.mapimage.specs.MapImage.{key_number}
use Rattle.queued.specs.Queue.{Marked, Keyed}
use Rattle.queued.proofs.Marking.{mark-start, mark-pass, mark_on, mark-none, mark-over, mark-end, moved_on}
use borrow.Author.Rules.{rules}
use Rattle.queued.proofs.listers.Goals.{then-r-key+then-k-lt-WAITING, then-r-key+else-k-lt-WAITING, else-r-key}
use Rattle.queued.proofs.listers.Goals as goal

pub loop-i-init : goal.loop-i-init
loop-i-init c = (search rules, λ low w k h. mark-start _ k h)

pub returns-then-key-r : goal.returns-then-key-r
returns-then-key-r c = (
  (omega arith, (omega arith, λ a b. moved_on _ _ _ c.loop-i.i c.read_record-r.ensures c.if-key-r.true (omega arith) b)),
  λ low w k h. mark-over _ (c.loop-i.invariant.1 low w k h) (omega arith) c.read_record-r.ensures (omega arith) c.if-key-r.true,
)

pub loop-i-preserved : goal.loop-i-preserved
loop-i-preserved c =
    let g = c.loop-i.invariant in
    let e = c.read_record-r.ensures in
    elim c.if-r-key.branch [
      | then-r-key+then-k-lt-WAITING z ↦ rw z.under-is (
        simp length-set g.0,
        λ low w k h. mark_on _ (g.1 low w k h) (omega arith) e (omega arith) z.if-r-key.true (omega (arith, z.if-k-lt-WAITING.true, g.0)),
      )
      | then-r-key+else-k-lt-WAITING z ↦ rw z.under-is (
        g.0,
        λ low w k h. mark-none _ (g.1 low w k h) (omega arith) e (omega arith) z.if-k-lt-WAITING.false,
      )
      | else-r-key z ↦ rw z.under-is (
        g.0,
        λ low w k h. mark-pass _ (g.1 low w k h) (omega arith) e (omega arith) (omega (arith, z.if-r-key.false)),
      )
    ]

pub returns : goal.returns
returns c =
    let a = c.args in
    let e : c.loop-i.i ≡ a.end = omega arith in (
      omega arith,
      λ low w k h. subst (λ (z : ℕ). Marked w a.key c.loop-i.under × Keyed a.s.now z a.end (key_number 0 (a.key + 1)) w) e
          (mark-end _ (c.loop-i.invariant.1 low w k h) (omega arith)),
    )
