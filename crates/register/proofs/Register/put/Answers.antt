-- `Register::put` meets its contract.
use mathlib.Core.Path.{◌≡◌, ap, sym, ◌∙◌}
use mathlib.Core.List.{[]}
use lib.ListN.{length}
use Rattle.listlaws.proofs.Pads.{unmapped, used}
use Rattle.limits.specs.Limits.{value_limit}
use Rattle.register.specs.Values.{values_of, register_of, remaining, put_values}
use Rattle.register.proofs.Packs.{values-of, remaining-length}
use borrow.Author.Rules.{rules}
use native.Mathlib.Omega.{arith}
use Rattle.register.proofs.Register.put.Goals.{After-standing-left, Start}
use Rattle.register.proofs.Register.put.Goals as goal

pub returns-then-is_empty : goal.returns-then-is_empty
unfolding put_values
returns-then-is_empty c = c.wide.ensures ∙ rw (sym c.is_empty.ensures ∙ c.if-is_empty.true)

pub push-put-requires : goal.push-put-requires
push-put-requires c = omega (arith, ap (λ k. k.len) c.new.ensures)

-- the values that remain, in their register
left : (c : After-standing-left)
    → c.standing-left.result ≡ register_of (remaining (values_of c.args.self)
    c.args.v)
unfolding remaining
left c = c.standing-left.ensures ∙ rw (values-of _ (c.push-put.ensures [] c.new.ensures))

pub returns-then-outdoes : goal.returns-then-outdoes
unfolding put_values
returns-then-outdoes c =
    let s = c.before.before.before in
    let i = s.before.before.before in
    let e = values-of _ (left s) in
    c.wide-out.ensures
    ∙ rw (e, sym i.is_empty.ensures ∙ i.if-is_empty.false, rw e at (sym c.outdoes.ensures ∙ c.if-outdoes.true))

room : (c : Start) → length c.args.self.values ≡ value_limit
room c = search (rules, unmapped)

pub push-requires : goal.push-requires
push-requires c =
    let s = c.before.before.before in
    let z = s.before.before.before.before.before in
    let a = z.args in
    omega (
      arith,
      ap (λ w. w.len) c.wide-out.ensures,
      ap length (values-of _ (left s)),
      remaining-length (values_of a.self) a.v,
      used a.self.len value_limit a.self.values (room z.before),
    )

pub returns : goal.returns
unfolding put_values
returns c =
    let s = c.before.before.before.before in
    let i = s.before.before.before in
    let e = values-of _ (left s) in
    c.push.ensures.1 _ c.wide-out.ensures
    ∙ rw (e, sym i.is_empty.ensures ∙ i.if-is_empty.false, rw e at (sym c.outdoes.ensures ∙ c.if-outdoes.false))
