-- `Keys::grow` meets its contract: one key too many goes over.
use mathlib.Core.Path.{ap, sym}
use Rattle.listlaws.proofs.Pads.{length-snoc}
use Rattle.removals.proofs.KeyLimits.{keys-fit, keys-exceed, some-keys}
use native.Mathlib.Omega.{arith}
use Rattle.removals.proofs.Keys.grow.Goals as goal

pub returns-then-self-lt-KEYS : goal.returns-then-self-lt-KEYS
returns-then-self-lt-KEYS c = λ l e.
    let w = some-keys l e in
    rw (c.push.ensures l w) (sym (keys-fit _ (omega (arith, ap (λ k. k.len) w, length-snoc l c.args.key))))

pub returns-else-self-lt-KEYS : goal.returns-else-self-lt-KEYS
returns-else-self-lt-KEYS c = λ l e. sym (keys-exceed _ (omega (arith, ap (λ k. k.len) (some-keys l e), length-snoc l c.args.key)))
