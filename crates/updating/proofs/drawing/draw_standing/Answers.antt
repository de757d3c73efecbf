-- `draw_standing` meets its contract: nothing else is cut, and no other removals.
use mathlib.Core.Path.{refl, subst}
use mathlib.Core.List.{[]}
use native.Mathlib.Omega.{arith}
use Rattle.listlaws.specs.Sift.{sift}
use Rattle.clock.proofs.Joins.{lawful-nil}
use Rattle.clock.proofs.Packs.{dots-of}
use Rattle.register.specs.Values.{alive}
use Rattle.entries.specs.Model.{values_in}
use Rattle.marks.specs.Marks.{picked}
use Rattle.sketch.specs.Drawn.{Draws}
use Rattle.leaving.specs.Left.{value_left}
use Rattle.updating.proofs.Values.{none-marked}
use Rattle.updating.proofs.drawing.draw_standing.Goals as goal

pub draw_values-requires : goal.draw_values-requires
draw_values-requires c =
    let p = c.requires in
    (omega (arith, p.0), (p.1.0, ((rw (dots-of [] c.new-nothing.ensures) lawful-nil, p.1.1.0), (([], c.none-others.ensures _), p.1.1.1))))

pub returns : goal.returns
returns c =
    let z = c.before.before.before.before in
    let s = z.args.s.now in (
      omega (arith, c.draw_values.ensures.0, z.requires.0),
      λ t key d e w g h q m. subst (λ x. Draws s t key d (sift alive (value_left w [] e.key x) (picked z.args.stand (values_in e)))
          c.draw_values.result) (dots-of [] c.new-nothing.ensures)
          (c.draw_values.ensures.1 s t key d [] e [] w refl g h (c.none-others.ensures s) q (none-marked e.key) m),
    )
