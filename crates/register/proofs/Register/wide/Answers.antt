-- `Register::wide` meets its contract, by that of `trail`.
use mathlib.Core.Path.{◌≡◌, ap}
use mathlib.Core.List.{[]}
use lib.ListN.{length}
use Rattle.listlaws.proofs.Pads.{unmapped, used}
use borrow.Author.Rules.{rules}
use native.Mathlib.Omega.{arith}
use Rattle.limits.specs.Limits.{value_limit}
use Rattle.register.proofs.Register.wide.Goals as goal

pub trail-requires : goal.trail-requires
trail-requires c =
    let a = c.args.self in
    let h : length a.values ≡ value_limit = search (rules, unmapped) in
    omega (arith, ap (λ k. k.len) c.new.ensures, used a.len value_limit a.values h)

pub returns : goal.returns
returns c = c.trail.ensures [] c.new.ensures
