-- `has_left` meets its contract: the loop looks for the first record that is left and wanted.
use mathlib.Core.Path.{ap, ◌∙◌}
use mathlib.Core.Bool.{◌&&◌, and-false}
use Prim.Native.Nat.{◌<◌}
use native.Mathlib.Omega.{arith}
use lib.ListN.{length, take, length-take}
use Rattle.listlaws.proofs.Passing.{passing-start, passing-here, passing-on, passing-end}
use Rattle.scan.proofs.Eachs.{both}
use Rattle.culling.specs.Marks.{marked_of}
use Rattle.culling.specs.Looking.{is_wanted}
use Rattle.culling.proofs.Marked.{no_marked, count-marked, found_at, passed-at, some_left}
use Rattle.culling.proofs.has_left.Goals.{In-loop-i, else-is_left-via-then-is_left+else-is_wanted, else-is_left-via-else-is_left}
use Rattle.culling.proofs.has_left.Goals as goal

pub loop-i-init : goal.loop-i-init
loop-i-init c = passing-start

-- the place in hand is one of those in use
inside : (c : In-loop-i) → let a = c.args in
    c.loop-i.i < length (take a.n (marked_of a.marks.now a.image.now))
inside c =
    let a = c.args in
    let p = c.requires in
    omega (arith, p.0, length-take a.n (marked_of a.marks.now a.image.now), count-marked a.marks.now a.image.now p.1)

pub returns-then-is_wanted : goal.returns-then-is_wanted
returns-then-is_wanted c =
    let p = c.requires in
    let a = c.args in
    passing-here no_marked c.loop-i.invariant (inside (goal.at.returns-then-is_wanted c).In-loop-i)
    (found_at a.marks.now a.image.now p.1 c.loop-i.i (omega (arith, p.0, c.loop-i-test.true)) a.from (is_wanted a.w)
    c.is_left.ensures c.read_record.ensures c.is_wanted.ensures
    ∙ both _ _ c.if-is_left.true c.if-is_wanted.true)
    ∙ some_left a.from (is_wanted a.w) (take a.n (marked_of a.marks.now a.image.now))

pub loop-i-preserved : goal.loop-i-preserved
loop-i-preserved c =
    let p = c.requires in
    let a = c.args in
    passing-on no_marked c.loop-i.invariant (inside (goal.at.loop-i-preserved c).In-loop-i)
    (elim c.else-is_left.branch [
      | else-is_left-via-then-is_left+else-is_wanted w ↦
          found_at a.marks.now a.image.now p.1 c.loop-i.i (omega (arith, p.0, c.loop-i-test.true)) a.from (is_wanted a.w)
          c.is_left.ensures w.read_record.ensures w.is_wanted.ensures
          ∙ ap (λ b. c.is_left.result && b) w.if-is_wanted.false ∙ and-false c.is_left.result
      | else-is_left-via-else-is_left w ↦
          passed-at a.marks.now a.image.now p.1 c.loop-i.i (omega (arith, p.0, c.loop-i-test.true)) a.from (is_wanted a.w)
          c.is_left.ensures w.if-is_left.false
    ])

pub returns : goal.returns
returns c =
    let p = c.requires in
    let a = c.args in
    passing-end c.loop-i.invariant
    (omega (arith, c.loop-i-test.false, length-take a.n (marked_of a.marks.now a.image.now)))
    ∙ some_left a.from (is_wanted a.w) (take a.n (marked_of a.marks.now a.image.now))
