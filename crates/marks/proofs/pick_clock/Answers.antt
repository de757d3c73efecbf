-- `pick_clock` meets its contract: the loop adds each dot whose mark is set.
use mathlib.Core.Path.{◌≡◌, ap}
use mathlib.Core.Bool.{Bool}
use mathlib.Core.List.{List, ◌∷◌}
use Prim.Native.Nat.{ℕ, ◌<◌, ◌≤◌, ◌*◌}
use lib.ListN.{length}
use Rattle.listlaws.proofs.Growing.{Growing, grow-start, grow-add, grow-skip, grow-end, grow-room}
use Rattle.clock.specs.declared.Clock.{Clock}
use Rattle.clock.specs.declared.Dot.{Dot}
use Rattle.clock.specs.Dots.{clock_of}
use Rattle.limits.specs.Limits.{dot_limit}
use Rattle.clock.proofs.Packs.{pushed}
use Rattle.runs.specs.Run.{run_dots}
use Rattle.marks.specs.Marks.{picked}
use Rattle.marks.proofs.Dots.{length_run, marked, unmarked}
use Rattle.marks.proofs.Picks.{picked-short, picked-end}
use borrow.Author.Rules.{rules}
use native.Mathlib.Omega.{arith}
use Rattle.marks.proofs.pick_clock.Goals.{Then-marks-i, then-marks-i, else-marks-i}
use Rattle.marks.proofs.pick_clock.Goals as goal

pub loop-i-init : goal.loop-i-init
loop-i-init c = (search rules, grow-start c.new-clock.ensures)

-- where a dot comes next, there is room for it
room : (s : List ℕ) (bs : List Bool) {ahead more : List Dot} {d : Dot} {x : Clock} → length s ≤ dot_limit * 16
    → Growing clock_of (picked bs (run_dots s)) ahead x → ahead ≡ d ∷ more → x.len < dot_limit
room s bs h g e = omega (arith, ap (λ k. k.len) g.packed, grow-room g e, picked-short bs (run_dots s), length_run s)

room-here : (c : Then-marks-i) → c.loop-i.clock.len < dot_limit
room-here c =
    let s = c.before.before in
    let a = s.args in
    room a.run.now a.marks s.requires s.loop-i.invariant.1
    (marked a.run.now a.marks s.loop-i.i (omega (arith, s.loop-i.invariant.0)) (omega arith) c.dot_at-d.ensures c.if-marks-i.true)

pub loop-i-preserved : goal.loop-i-preserved
loop-i-preserved c =
    let s = c.before.before.before in
    let a = s.args in
    let g = s.loop-i.invariant.1 in
    let h : s.loop-i.i < length a.marks = omega (arith, s.loop-i.invariant.0) in (
      s.loop-i.invariant.0,
      elim c.if-marks-i.branch [
        | then-marks-i w ↦
            let e = marked a.run.now a.marks s.loop-i.i h (omega arith) c.dot_at-d.ensures w.if-marks-i.true in
            let r = room a.run.now a.marks s.requires g e in
            rw w.clock-is (grow-add g e (λ l e. pushed l _ e (omega (arith, ap (λ k. k.len) e, r))))
        | else-marks-i w ↦ rw w.clock-is (grow-skip g (unmarked a.run.now a.marks s.loop-i.i h (omega arith) w.if-marks-i.false))
      ],
    )

pub returns : goal.returns
returns c =
    let s = c.before in
    let a = s.args in
    grow-end s.loop-i.invariant.1 (picked-end a.marks (run_dots a.run.now) s.loop-i.i (omega (arith, length_run a.run.now)))

pub offset_bounds-clock-k : goal.offset_bounds-clock-k
offset_bounds-clock-k c = omega (arith, room-here c)

pub bounds-clock-k : goal.bounds-clock-k
bounds-clock-k c = omega (arith, room-here c)

pub overflow_add-clock : goal.overflow_add-clock
overflow_add-clock c = omega (arith, room-here c)
