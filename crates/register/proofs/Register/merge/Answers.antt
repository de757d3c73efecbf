-- `Register::merge` meets its contract: ours that stand, and theirs that stand against those.
use mathlib.Core.Path.{◌≡◌, ap, ◌∙◌}
use mathlib.Core.Bool.{true, false}
use lib.ListN.{length}
use Rattle.listlaws.proofs.Pads.{unmapped, used}
use Rattle.listlaws.proofs.Sifts.{length-sift}
use Rattle.limits.specs.Limits.{value_limit}
use Rattle.register.specs.Values.{values_of, standing, ours_left, merge_values}
use Rattle.register.proofs.Packs.{values-of}
use borrow.Author.Rules.{rules}
use native.Mathlib.Omega.{arith}
use Rattle.register.proofs.Register.merge.Goals as goal

pub trail-requires : goal.trail-requires
trail-requires c =
    let a = c.args in
    let h : length a.self.values ≡ value_limit = search (rules, unmapped) in
    let k : length a.other.values ≡ value_limit = search (rules, unmapped) in
    omega (
      arith,
      ap (λ w. w.len) c.wide.ensures,
      ap length (values-of _ c.standing-ours.ensures),
      ap length (values-of _ c.standing-theirs.ensures),
      length-sift (standing false (values_of a.other)) (λ v. v) (values_of a.self),
      length-sift (standing true (values_of c.standing-ours.result)) (λ v. v) (values_of a.other),
      used a.self.len value_limit a.self.values h,
      used a.other.len value_limit a.other.values k,
    )

pub returns : goal.returns
unfolding merge_values ours_left
returns c =
    c.trail.ensures _ c.wide.ensures ∙ rw (values-of _ c.standing-theirs.ensures, values-of _ c.standing-ours.ensures)
