-- `Joined::push` meets its contract: over the limit stays over, and the ninth dot goes over.
use mathlib.Core.Path.{ap, sym, ◌∙◌}
use Rattle.listlaws.proofs.Pads.{length-snoc}
use Rattle.clock.proofs.Packs.{fits, exceeds, over-means, within-clock}
use native.Mathlib.Omega.{arith}
use Rattle.clock.proofs.Joined.push.Goals as goal

pub returns-then-self : goal.returns-then-self
returns-then-self c = λ l e. e ∙ exceeds l (over-means l e c.if-self.true) ∙ sym
    (exceeds _ (omega (arith, over-means l e c.if-self.true, length-snoc l c.args.d)))

pub returns-then-c-lt-DOTS : goal.returns-then-c-lt-DOTS
returns-then-c-lt-DOTS c = λ l e.
    let s = c.before.before.before.before in
    let w = within-clock l e s.if-self.false in
    rw (c.push-more.ensures l w) (sym (fits _ (omega (arith, ap (λ k. k.len) w, length-snoc l s.args.d))))

pub returns : goal.returns
returns c = λ l e.
    let s = c.before.before.before.before in
    let w = within-clock l e s.if-self.false in
    rw c.new-none.ensures (sym (exceeds _ (omega (arith, ap (λ k. k.len) w, length-snoc l s.args.d))))
