-- `Register::cut` meets its contract: in hand, cut, and laid down again, since a cut adds nothing.
use mathlib.Core.Path.{◌≡◌, ap, ◌∙◌}
use lib.ListN.{length}
use Rattle.listlaws.proofs.Pads.{unmapped, used}
use Rattle.clock.specs.Dots.{dots_of}
use Rattle.limits.specs.Limits.{value_limit}
use Rattle.register.specs.Values.{values_of, cut_values}
use Rattle.register.specs.InHand.{settled}
use Rattle.register.proofs.Packs.{wide-values, fits, cut-length}
use borrow.Author.Rules.{rules}
use native.Mathlib.Omega.{arith}
use Rattle.register.proofs.Register.cut.Goals.{Start}
use Rattle.register.proofs.Register.cut.Goals as goal

room : (c : Start) → length c.args.self.values ≡ value_limit
room c = search (rules, unmapped)

pub returns : goal.returns
returns c =
    let s = c.before in
    let z = s.before.before.before in
    let a = z.args in
    let w = wide-values _ s.cut.ensures in
    let v = wide-values _ s.wide.ensures in
    ap (λ k. k.register)
    (s.settle-s.ensures ∙ ap settled (w ∙ ap (cut_values (dots_of a.by)) v)
    ∙ fits _ (omega (arith, cut-length (dots_of a.by) (values_of a.self), used a.self.len value_limit a.self.values (room z))))
