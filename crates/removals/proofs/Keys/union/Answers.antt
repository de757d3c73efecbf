-- `Keys::union` meets its contract: the loop walks both sets side by side, and the rest of one goes behind.
use mathlib.Core.Path.{◌≡◌, ap, sym, ◌∙◌}
use mathlib.Core.List.{List, ◌++◌, map-id}
use mathlib.Core.Logic.{◌⊎◌, inl, inr}
use Prim.Native.Nat.{ℕ, ◌-◌, ◌≤◌}
use lib.ListN.{length, take, drop}
use borrow.Author.Tests.{lt-ltb, le-ltb}
use Rattle.std.specs.Prelude.{Option}
use Rattle.listlaws.specs.Order.{by}
use Rattle.listlaws.proofs.SliceWeaving.{Weaving, weaving-start, weaving-first, weaving-second, weaving-both, weaving-end}
use Rattle.clock.proofs.Packs.{to-end}
use Rattle.removals.specs.declared.Keys.{Keys}
use Rattle.removals.specs.Counted.{united_as}
use Rattle.removals.specs.Waits.{union_keys}
use Rattle.removals.proofs.KeyLimits.{keys-fit, growing-none}
use native.Mathlib.Omega.{arith}
use Rattle.removals.proofs.Keys.union.Goals.{then-loop-i-test+else-j-ys, else-loop-i-test}
use Rattle.removals.proofs.Keys.union.Goals as goal

abbrev Walked : (xs : List ℕ) (i : ℕ) (ys : List ℕ) (j : ℕ) → Option Keys → Type 0
Walked xs i ys j u = Weaving united_as (by (λ k. k)) (λ k. k) (λ k. k) (λ x y. x) xs i ys j u

pub loop-i-init : goal.loop-i-init
loop-i-init c = (omega arith, omega arith, weaving-start (rw c.new-out.ensures (sym (keys-fit _ (omega arith)))))

pub loop-i-preserved-then-x-y : goal.loop-i-preserved-then-x-y
loop-i-preserved-then-x-y c =
    let t = weaving-first 0 c.loop-i.invariant.2 c.loop-i-test.true c.if-j-ys.true (lt-ltb _ _ c.if-x-y.true) c.grow.ensures in
    (omega arith, omega arith, rw c.in_ok-out.was at t)

pub returns-in_err-out : goal.returns-in_err-out
unfolding union_keys
returns-in_err-out c =
    let t = weaving-first 0 c.loop-i.invariant.2 c.loop-i-test.true c.if-j-ys.true (lt-ltb _ _ c.if-x-y.true) c.grow.ensures in
    rw (← c.as_slice-xs.ensures, ← c.as_slice-ys.ensures) (c.from_residual.ensures ∙ growing-none (rw c.in_err-out.was at t).growing)

pub loop-i-preserved-then-y-x : goal.loop-i-preserved-then-y-x
loop-i-preserved-then-y-x c =
    let t = weaving-second 0 c.loop-i.invariant.2 c.loop-i-test.true c.if-j-ys.true (le-ltb _ _ c.if-x-y.false) (lt-ltb _ _ c.if-y-x.true)
    c.grow-then-y-x.ensures in
    (omega arith, omega arith, rw c.in_ok-out-2.was at t)

pub returns-in_err-out-2 : goal.returns-in_err-out-2
unfolding union_keys
returns-in_err-out-2 c =
    let t = weaving-second 0 c.loop-i.invariant.2 c.loop-i-test.true c.if-j-ys.true (le-ltb _ _ c.if-x-y.false) (lt-ltb _ _ c.if-y-x.true)
    c.grow-then-y-x.ensures in
    rw (← c.as_slice-xs.ensures, ← c.as_slice-ys.ensures)
    (c.from_residual-in_err-out-2.ensures ∙ growing-none (rw c.in_err-out-2.was at t).growing)

pub loop-i-preserved : goal.loop-i-preserved
loop-i-preserved c =
    let t = weaving-both 0 c.loop-i.invariant.2 c.loop-i-test.true c.if-j-ys.true (le-ltb _ _ c.if-x-y.false) (le-ltb _ _ c.if-y-x.false)
    c.grow-else-y-x.ensures in
    (omega arith, omega arith, rw c.in_ok-out-3.was at t)

pub returns-in_err-out-3 : goal.returns-in_err-out-3
unfolding union_keys
returns-in_err-out-3 c =
    let t = weaving-both 0 c.loop-i.invariant.2 c.loop-i-test.true c.if-j-ys.true (le-ltb _ _ c.if-x-y.false) (le-ltb _ _ c.if-y-x.false)
    c.grow-else-y-x.ensures in
    rw (← c.as_slice-xs.ensures, ← c.as_slice-ys.ensures)
    (c.from_residual-in_err-out-3.ensures ∙ growing-none (rw c.in_err-out-3.was at t).growing)

-- one of the two is used up: what is left of both goes behind what is done
ends : {xs ys : List ℕ} {i j : ℕ} {u : Option Keys} (g : Walked xs i ys j u) → (length xs ≤ i) ⊎ (length ys ≤ j)
    → union_keys xs ys ≡ (g.growing.done ++ take (length xs - i) (drop i xs)) ++ take (length ys - j) (drop j ys)
unfolding union_keys
ends {xs} {ys} {i} {j} g left = rw (to-end i xs, to-end j ys) (rw (map-id (drop i xs), map-id (drop j ys)) at (weaving-end g left))

pub returns-in_err-trail : goal.returns-in_err-trail
returns-in_err-trail c =
    let g = c.loop-i.invariant.2 in
    let left : (length c.as_slice-xs.result.now ≤ c.loop-i.i) ⊎ (length c.as_slice-ys.result.now ≤ c.loop-i.j) =
    elim c.loop-i-test.branch [
      | then-loop-i-test+else-j-ys w ↦ inr w.if-j-ys.false
      | else-loop-i-test w ↦ inl w.loop-i-test.false
    ] in
    let over = growing-none (record { done = _; packed = sym c.in_err-trail.was ∙ c.trail.ensures _ g.growing.packed; parts = ends g left }) in
    rw (← c.as_slice-xs.ensures, ← c.as_slice-ys.ensures) (c.from_residual-in_err-trail.ensures ∙ over)

pub returns : goal.returns
returns c =
    let g = c.loop-i.invariant.2 in
    let left : (length c.as_slice-xs.result.now ≤ c.loop-i.i) ⊎ (length c.as_slice-ys.result.now ≤ c.loop-i.j) =
    elim c.loop-i-test.branch [
      | then-loop-i-test+else-j-ys w ↦ inr w.if-j-ys.false
      | else-loop-i-test w ↦ inl w.loop-i-test.false
    ] in
    let t = c.trail-2.ensures _ (sym c.in_ok-trail.was ∙ c.trail.ensures _ g.growing.packed) in
    rw (← c.as_slice-xs.ensures, ← c.as_slice-ys.ensures) (t ∙ ap united_as (sym (ends g left)))
