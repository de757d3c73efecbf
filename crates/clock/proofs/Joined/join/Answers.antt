-- `Joined::join` meets its contract: what is over the limit stays over.
use mathlib.Core.Path.{ap, sym, ◌∙◌}
use Rattle.clock.specs.Dots.{dots_of, fitted, join_dots}
use Rattle.clock.proofs.Packs.{exceeds, over-means, within-clock, dots-of, join-longer}
use native.Mathlib.Omega.{arith}
use Rattle.clock.proofs.Joined.join.Goals as goal

pub returns-then-self : goal.returns-then-self
returns-then-self c = λ l e.
    let o = over-means l e c.if-self.true in
    e ∙ exceeds l o ∙ sym (exceeds _ (omega (arith, o, join-longer l (dots_of c.args.other))))

pub returns : goal.returns
returns c = λ l e.
    c.join.ensures ∙ ap (λ d. fitted (join_dots d (dots_of c.args.other))) (dots-of l (within-clock l e c.if-self.false))
