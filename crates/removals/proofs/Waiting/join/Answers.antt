-- `Waiting::join` meets its contract: the loop walks both lists side by side, and the rest of one goes behind.
use mathlib.Core.Path.{refl, ap, sym, ◌∙◌}
use mathlib.Core.List.Memᴰ
use mathlib.Core.List.{List, map-id}
use mathlib.Core.Logic.{◌⊎◌, inl, inr}
use Prim.Native.Nat.{ℕ, ◌-◌, ◌≤◌}
use lib.ListN.{length, take, drop, get_or, take-append-drop}
use Rattle.listlaws.specs.Order.{◌∈◌}
use Rattle.listlaws.proofs.SliceRests.{in_list}
use Rattle.listlaws.proofs.SliceWeaving.{weaving-first, weaving-second, weaving-both, weaving-end}
use Rattle.clock.proofs.Packs.{to-end}
use Rattle.removals.specs.declared.Removal.{Removal}
use Rattle.removals.specs.Model.{listed_in}
use Rattle.removals.specs.Counted.{joined_as}
use Rattle.removals.specs.Waits.{union_keys, unite_all}
use Rattle.removals.proofs.Packs.{no_removal_read, keys_from}
use native.Mathlib.Omega.{arith}
use Rattle.removals.proofs.Waiting.join.Goals.{then-loop-i-test+else-j-ys, else-loop-i-test}
use Rattle.removals.proofs.Waiting.join.Goals as goal

pub loop-i-preserved-then-clock_before : goal.loop-i-preserved-then-clock_before
loop-i-preserved-then-clock_before c =
    let p = rw (← c.as_slice-xs.ensures) at c.requires.0 in
    let g = c.loop-i.invariant in
    let h = c.loop-i-test.true in (
      omega arith,
      g.1,
      g.2,
      g.3,
      omega (arith, c.keep-out.ensures.0, g.4),
      weaving-first no_removal_read g.5 h c.if-j-ys.true (sym c.clock_before.ensures ∙ c.if-clock_before.true)
          (λ l q. c.keep-out.ensures.1 l q (p _ (in_list _ c.loop-i.i no_removal_read h))),
    )

pub loop-i-preserved-then-clock_before-2 : goal.loop-i-preserved-then-clock_before-2
loop-i-preserved-then-clock_before-2 c =
    let p = rw (← c.as_slice-ys.ensures) at c.requires.1 in
    let g = c.loop-i.invariant in
    let k = c.if-j-ys.true in (
      g.0,
      omega arith,
      g.2,
      g.3,
      omega (arith, c.keep-out-then-clock_before-2.ensures.0, g.4),
      weaving-second no_removal_read g.5 c.loop-i-test.true k (sym c.clock_before.ensures ∙ c.if-clock_before.false)
          (sym c.clock_before-else-clock_before.ensures ∙ c.if-clock_before-2.true)
          (λ l q. c.keep-out-then-clock_before-2.ensures.1 l q (p _ (in_list _ c.loop-i.j no_removal_read k))),
    )

pub loop-i-preserved : goal.loop-i-preserved
loop-i-preserved c =
    let g = c.loop-i.invariant in
    let e = keys_from (union_keys (listed_in (get_or c.as_slice-xs.result.now c.loop-i.i no_removal_read))
    (listed_in (get_or c.as_slice-ys.result.now c.loop-i.j no_removal_read))) refl in (
      omega arith,
      omega arith,
      g.2,
      g.3,
      omega (arith, c.add-out.ensures.0, g.4),
      weaving-both no_removal_read g.5 c.loop-i-test.true c.if-j-ys.true (sym c.clock_before.ensures ∙ c.if-clock_before.false)
          (sym c.clock_before-else-clock_before.ensures ∙ c.if-clock_before-2.false)
          (λ l q. c.add-out.ensures.1 l _ q refl (rw e refl) (c.union.ensures ∙ rw e refl)),
    )

-- what stands from a place on stands in the list
from_on : (l : List Removal) (i : ℕ) (r : Removal) → r ∈ take (length l - i) (drop i l) → r ∈ l
from_on l i r m = rw take-append-drop at (Memᴰ.append_right {a = r} (take i l) {t = drop i l} (rw (to-end i l) at m))

pub returns : goal.returns
unfolding unite_all
returns c =
    let g = c.loop-i.invariant.5 in
    let left : (length c.as_slice-xs.result.now ≤ c.loop-i.i) ⊎ (length c.as_slice-ys.result.now ≤ c.loop-i.j) =
    elim c.loop-i-test.branch [
      | then-loop-i-test+else-j-ys w ↦ inr w.if-j-ys.false
      | else-loop-i-test w ↦ inl w.loop-i-test.false
    ] in
    let xs = c.as_slice-xs in
    let ys = c.as_slice-ys in
    let p = rw (← xs.ensures) at c.requires.0 in
    let q = rw (← ys.ensures) at c.requires.1 in
    let e = rw (map-id (drop c.loop-i.i xs.result.now), map-id (drop c.loop-i.j ys.result.now)) at (weaving-end g left) in
    let first = c.trail.ensures.1 _ (λ r m. p r (from_on xs.result.now c.loop-i.i r m)) g.growing.packed in
    let both = c.trail-2.ensures.1 _ (λ r m. q r (from_on ys.result.now c.loop-i.j r m)) first in
    let t = rw (to-end c.loop-i.i xs.result.now, to-end c.loop-i.j ys.result.now) at both in
    rw (← xs.ensures, ← ys.ensures) (t ∙ ap joined_as (sym e))
