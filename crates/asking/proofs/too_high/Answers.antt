-- `too_high` meets its contract.
use mathlib.Core.Bool.{Bool, true, false}
use mathlib.Core.Path.{◌≡◌, refl, sym}
use Prim.Native.Nat.{ℕ, ◌+◌, ◌-◌, ◌<◌}
use borrow.Author.Tests.{lt-ltb, le-ltb, ltb-true, ltb-false}
use lib.Dec.{ltb}
use native.Mathlib.Omega.{arith}
use Rattle.asking.proofs.too_high.Goals as goal

gap : (a n : ℕ) → a < n → ltb 1 (n - a) ≡ ltb (a + 1) n
gap a n h = go (ltb 1 (n - a)) refl
  where
    go : (b : Bool) → ltb 1 (n - a) ≡ b → b ≡ ltb (a + 1) n
    go true t = sym (lt-ltb (a + 1) n (omega (arith, ltb-true 1 (n - a) t)))
    go false t = sym (le-ltb (a + 1) n (omega (arith, ltb-false 1 (n - a) t)))

pub returns-then-above-counter : goal.returns-then-above-counter
returns-then-above-counter c = gap _ _ c.if-above-counter.true

pub returns-else-above-counter : goal.returns-else-above-counter
returns-else-above-counter c = let a = c.args in sym (le-ltb (a.above + 1) a.counter (omega arith))
