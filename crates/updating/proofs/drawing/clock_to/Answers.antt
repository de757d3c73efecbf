-- `clock_to` meets its contract: the dot is added where the put goes.
use mathlib.Core.Path.{ap, ap₂, sym, subst, ◌∙◌}
use Prim.Native.Nat.{◌≤◌}
use lib.ListN.{length}
use Rattle.clock.specs.declared.Joined.{Joined}
use Rattle.limits.specs.Limits.{dot_limit}
use Rattle.clock.specs.Dots.{clock_of, fitted, add_dot}
use Rattle.clock.proofs.Packs.{dots-of, fits}
use Rattle.entries.specs.Model.{dots_in}
use Rattle.updating.specs.Updated.{dots_to}
use Rattle.updating.proofs.drawing.clock_to.Goals as goal

pub returns-then-put : goal.returns-then-put
returns-then-put c = λ u e q h n.
    let t = c.if-put.true in
    let own = dots-of (dots_in e) (c.own_clock-own.ensures e h) in
    let few : length (add_dot (dots_in e) u.dot) ≤ dot_limit = subst (λ b. length (dots_to u b e) ≤ dot_limit) t n in
    ap (λ (j : Joined). j.clock) (c.add-grown.ensures ∙ ap₂ (λ x y. fitted (add_dot x y)) own (sym q) ∙ fits _ few)
    ∙ ap (λ b. clock_of (dots_to u b e)) (sym t)

pub returns : goal.returns
returns c = λ u e q h n. c.own_clock-own.ensures e h ∙ ap (λ b. clock_of (dots_to u b e)) (sym c.if-put.false)
