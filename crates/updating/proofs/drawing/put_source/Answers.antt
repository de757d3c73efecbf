-- `put_source` meets its contract: the run of the put's dots, cut.
use mathlib.Core.Path.{refl, ap, sym, ◌∙◌}
use native.Mathlib.Omega.{arith}
use Rattle.limits.specs.Limits.{dot_limit}
use Rattle.clock.specs.Dots.{clock_of}
use Rattle.queued.specs.Queue.{cuts_for}
use Rattle.marks.proofs.Picks.{picked_all}
use Rattle.updating.proofs.Lying.{put-short, put-few}
use Rattle.updating.proofs.Values.{left-none}
use Rattle.updating.proofs.drawing.put_source.Goals as goal

pub cut_listed_marks-marks-requires : goal.cut_listed_marks-marks-requires
cut_listed_marks-marks-requires c =
    let p = c.requires in
    let h = p.0.1 in
    (p.1, (put-short h, rw h.dots h.lawful))

pub returns : goal.returns
returns c =
    let p = c.requires.0.1 in
    let some = p.some in
    let few = p.few in (
      (refl, (omega arith, omega arith)),
      λ u w key h q m.
          let dots = c.cut_listed_marks-marks.ensures w key q m
          ∙ ap (cuts_for w key) (picked_all _ dot_limit (put-few h) ∙ h.dots ∙ sym (left-none key h.lawful)) in (
            record { order = omega arith; few = omega arith; run = omega arith; value = omega arith },
            λ i. record { clock = clock_of (dots i); value = h.value i },
          ),
    )
