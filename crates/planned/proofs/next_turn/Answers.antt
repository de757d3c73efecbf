-- `next_turn` meets its contract: the one in turn is looked at.
use mathlib.Core.Path.{◌≡◌, refl, sym, ◌∙◌}
use mathlib.Core.Bool.{Bool, true, false, not, ◌&&◌, ◌||◌}
use Rattle.removals.specs.Waits.{clock_before}
use Rattle.planned.specs.Left.{left_in}
use Rattle.listlaws.proofs.Orders.{apart}
use Rattle.planned.proofs.next_turn.Goals as goal

and_first : (a b : Bool) → (a && b) ≡ true → a ≡ true
and_first true b e = refl
and_first false b e = e

-- where the first is not in turn, the second has one
other-one : (a b c : Bool) → (a && not (b && c)) ≡ false → (a || b) ≡ true → b ≡ true
other-one true true c e u = refl
other-one true false c e u = apart e
other-one false b c e u = u

pub in_turn-first-requires : goal.in_turn-first-requires
in_turn-first-requires c = let p = c.requires in (λ e. (p.0.0 e).placed, λ e. (p.0.1 e).placed)

pub in_turn-second-requires : goal.in_turn-second-requires
in_turn-second-requires c = let p = c.requires in (λ e. (p.0.1 e).placed, λ e. (p.0.0 e).placed)

pub waits-stays-requires : goal.waits-stays-requires
waits-stays-requires c =
    let p = c.requires in
    (p.0.0 (and_first _ _ (sym c.in_turn-first.ensures ∙ c.if-first.true)), p.1.1)

pub returns-then-first : goal.returns-then-first
returns-then-first c =
    let t = c.if-first.true in
    ((c.in_turn-first.ensures, c.in_turn-second.ensures), (rw t, rw t c.waits-stays.ensures))

pub waits-stays-requires-2 : goal.waits-stays-requires-2
waits-stays-requires-2 c =
    let p = c.requires in
    let a = c.args in (
      p.0.1 (other-one a.mine a.yours (clock_before (left_in a.t.now a.y) (left_in a.s.now a.x))
          (sym c.in_turn-first.ensures ∙ c.if-first.false) p.1.0),
      p.1.1,
    )

pub returns : goal.returns
returns c =
    let t = c.if-first.false in
    ((c.in_turn-first.ensures, c.in_turn-second.ensures), (rw t, rw t c.waits-stays-2.ensures))
