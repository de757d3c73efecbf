-- `JoinedWaiting::add` meets its contract: the removal is stored where all fit.
use mathlib.Core.Path.{◌≡◌, refl, ap, sym, ◌∙◌}
use mathlib.Core.Bool.{Bool, true, false, not, ◌&&◌, ◌||◌}
use lib.Dec.{ltb}
use Rattle.std.specs.Option.{is_some}
use Rattle.limits.specs.Limits.{waiting_limit}
use Rattle.removals.proofs.KeyLimits.{some-keys, none-told}
use Rattle.removals.proofs.Joining.{joined-one, joined-none}
use native.Mathlib.Omega.{arith}
use Rattle.removals.proofs.JoinedWaiting.add.Goals.{in-Some, in_default, in_default-via-in-Some+else-self-long, in_default-via-in_default}
use Rattle.removals.proofs.JoinedWaiting.add.Goals as goal

-- nothing is stored where there are no keys
no-keys : (a b c : Bool) → not c ≡ false → (a && not (b || c)) ≡ false
no-keys true true c e = refl
no-keys true false c e = e
no-keys false b c e = refl

pub returns : goal.returns
returns c =
    let z = c.args in
    elim c.match-united.branch [
      | in-Some w ↦ (
        omega (arith, w.push-waiting.ensures.0, ap (λ k. k.len) w.waiting-is, c.requires),
        λ l r q same laid p.
            rw w.waiting-is (joined-one l r q (none-told _ p c.is_none.ensures) same (some-keys _ (sym w.in-Some.is ∙ p) ∙ sym laid)
            w.if-self-long.true w.push-waiting.ensures.1),
      )
      | in_default w ↦ (
        omega (arith, ap (λ k. k.len) w.new-waiting.ensures, ap (λ k. k.len) w.waiting-is, c.requires),
        λ l r q same laid p.
            let full : (ltb z.self.count waiting_limit && not (z.self.long || c.is_none.result)) ≡ false =
            elim w.in_default.branch [
              | in_default-via-in-Some+else-self-long x ↦ x.if-self-long.false
              | in_default-via-in_default x ↦ no-keys _ z.self.long _ (sym c.is_none.ensures ∙ ap is_some x.in_default.is)
            ] in
            rw w.waiting-is (joined-none l r q (none-told _ p c.is_none.ensures) full w.new-waiting.ensures),
      )
    ]
