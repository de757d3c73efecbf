-- `merge_step` meets its contract: one side's entry alone, or both together.
use mathlib.Core.Path.{◌≡◌, refl}
use mathlib.Core.Bool.{Bool, true, false, not, ◌&&◌, ◌||◌}
use Rattle.listlaws.proofs.Orders.{apart}
use Rattle.entries.specs.Steps.{merge_step}
use Rattle.entries.proofs.by_key.merge_step.Goals as goal

pub returns-then-ours-theirs : goal.returns-then-ours-theirs
unfolding merge_step
returns-then-ours-theirs c = rw (c.if-ours-theirs.true, c.alone-survivor.ensures)

pub returns-then-ours-y : goal.returns-then-ours-y
unfolding merge_step
returns-then-ours-y c = rw (c.if-ours-theirs.false, c.if-ours-y.true, c.alone-survivor-then-ours-y.ensures)

-- where neither stands alone, both are there
both-there : (a b p q : Bool) → (a && (not b || p)) ≡ false → (not a || q) ≡ false → (a ≡ true) × (b ≡ true)
both-there true true p q s t = (refl, refl)
both-there true false p q s t = apart s
both-there false b p q s t = apart t

pub together-survivor-requires : goal.together-survivor-requires
together-survivor-requires c =
    let b = both-there _ _ _ _ c.if-ours-theirs.false c.if-ours-y.false in
    c.requires b.0 b.1

pub returns : goal.returns
unfolding merge_step
returns c = rw (c.if-ours-theirs.false, c.if-ours-y.false, c.together-survivor.ensures)
