-- `source_of` meets its contract: the run of the value's dots, cut.
use mathlib.Core.Path.{refl, ap, ◌∙◌}
use native.Mathlib.Omega.{arith}
use borrow.Author.Rules.{rules}
use Rattle.clock.specs.Dots.{clock_of, cut_dots}
use Rattle.queued.specs.Queue.{cuts_for}
use Rattle.entrywalk.proofs.Lying.{value-says, value-content, value-stands}
use Rattle.leaving.proofs.source_of.Goals as goal

pub overflow_mul-i : goal.overflow_mul-i
overflow_mul-i c =
    let p = c.requires.0 in
    let f = value-stands p.1 _ p.2 in
    let a = f.order in
    let b = f.run in
    search rules

pub overflow_mul-j : goal.overflow_mul-j
overflow_mul-j c =
    let p = c.requires.0 in
    let f = value-stands p.1 _ p.2 in
    let a = f.order in
    let b = f.run in
    search rules

pub slice_bounds-marks_left-count : goal.slice_bounds-marks_left-count
slice_bounds-marks_left-count c =
    let p = c.requires.0 in
    let f = value-stands p.1 _ p.2 in
    let a = f.order in
    let b = f.run in
    search rules

pub slice_bounds-marks_left-start : goal.slice_bounds-marks_left-start
slice_bounds-marks_left-start c =
    let p = c.requires.0 in
    let f = value-stands p.1 _ p.2 in
    let a = f.order in
    let b = f.run in
    search rules

pub slice_bounds-marks_left-end : goal.slice_bounds-marks_left-end
slice_bounds-marks_left-end c =
    let p = c.requires.0 in
    let f = value-stands p.1 _ p.2 in
    let a = f.order in
    let b = f.run in
    search rules

pub marks_left-marks-requires : goal.marks_left-marks-requires
marks_left-marks-requires c =
    let p = c.requires in
    let h = value-says p.0.1 _ p.0.2 in
    ((h.short, (p.1.0.0, (h.lawful, p.1.0.1.0))), p.1.1)

pub overflow_add-place : goal.overflow_add-place
overflow_add-place c =
    let p = c.requires.0 in
    let f = value-stands p.1 _ p.2 in
    let a = f.place in
    let b = f.inside in
    search rules

pub overflow_cast-result : goal.overflow_cast-result
overflow_cast-result c =
    let p = c.requires in
    let f = value-stands p.0.1 _ p.0.2 in
    let a = f.place in
    let b = f.inside in
    let d = p.1.0.1.1 in
    search rules

pub overflow_cast-result-2 : goal.overflow_cast-result-2
overflow_cast-result-2 c =
    let p = c.requires in
    let f = value-stands p.0.1 _ p.0.2 in
    let a = f.order in
    let b = f.run in
    let d = p.1.0.1.1 in
    search rules

pub overflow_cast-result-3 : goal.overflow_cast-result-3
overflow_cast-result-3 c =
    let p = c.requires in
    let f = value-stands p.0.1 _ p.0.2 in
    let b = f.run in
    let d = p.1.0.1.1 in
    search rules

pub returns : goal.returns
returns c =
    let p = c.requires.0 in
    let f = value-stands p.1 _ p.2 in (
      (refl, (f.order, f.few)),
      λ e u w h low q r m n.
          let g = value-stands h _ low in
          let a = g.place in
          let b = g.inside in
          let dots = c.marks_left-marks.ensures u w e.key q r m n
          ∙ ap (cuts_for w e.key) (ap (cuts_for u e.key) (ap (cut_dots _) (value-says h _ low).dots)) in (
            record { order = g.order; few = g.few; run = g.run; value = omega arith },
            λ i. record { clock = clock_of (dots i); value = value-content h _ low i },
          ),
    )
