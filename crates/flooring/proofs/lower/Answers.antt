-- `lower` meets its contract: the loop sifts the clock's dots.
use mathlib.Core.Path.{◌≡◌, ap, ◌∙◌}
use mathlib.Core.List.{List, []}
use Prim.Native.Nat.{ℕ, ◌<◌, min}
use lib.ListN.{length, length-take, get_or}
use borrow.Author.Tests.{lt-ltb, le-ltb}
use Rattle.listlaws.proofs.Pads.{unmapped}
use Rattle.listlaws.proofs.SliceSifting.{Sifting, sifting-keep, sifting-drop, sifting-room, sifting-end}
use Rattle.listlaws.proofs.Sifts.{length-sift}
use Rattle.limits.specs.Limits.{dot_limit}
use Rattle.clock.specs.declared.Clock.{Clock}
use Rattle.clock.specs.declared.Dot.{Dot}
use Rattle.clock.specs.Dots.{no_dot, dots_of, clock_of, counter_in}
use Rattle.clock.proofs.Packs.{pushed}
use Rattle.flooring.specs.Floor.{counted}
use Rattle.flooring.specs.Steps.{lower_dot, lowered_by}
use borrow.Author.Rules.{rules}
use native.Mathlib.Omega.{arith}
use Rattle.flooring.proofs.lower.Goals.{Then-least-gt0, then-least-gt0, else-least-gt0}
use Rattle.flooring.proofs.lower.Goals as goal

-- the dot in hand, at the smaller counter
lowest : (peer : List Dot) (d : Dot) {seen least : ℕ} → least ≡ min d.counter seen → seen ≡ counter_in peer d.actor
    → ◌≡◌ {A = Dot} (record { actor = d.actor; counter = least }) (lower_dot peer d)
lowest peer d e f = let q = e ∙ ap (min d.counter) f in λ i. record { actor = d.actor; counter = q i }

-- there is room for one more
room : (clock : Clock) (peer : List Dot) {items : List Dot} {i seen least : ℕ} {out : Clock} → length clock.dots ≡ dot_limit → items ≡ dots_of clock
    → Sifting clock_of counted (lower_dot peer) [] items i out → i < length items → least ≡ min (get_or items i no_dot).counter seen
    → seen ≡ counter_in peer (get_or items i no_dot).actor → 0 < least → out.len < dot_limit
room clock peer {items} full same s h e f more =
    let r = sifting-room no_dot s h (lowest peer _ e f) (lt-ltb 0 _ more) in
    let n = ap length same ∙ length-take clock.len clock.dots in
    omega (arith, ap (λ k. k.len) r.1, r.2, length-sift counted (lower_dot peer) items, n)

room-here : (c : Then-least-gt0) → c.loop-d.out.len < dot_limit
room-here c =
    let full : length c.args.clock.dots ≡ dot_limit = search (rules, unmapped) in
    room c.args.clock (dots_of c.args.peer) full c.as_slice-d-items.ensures c.loop-d.invariant c.loop-d-test.true c.smaller-least.ensures
    c.get-seen.ensures c.if-least-gt0.true

pub loop-d-preserved : goal.loop-d-preserved
loop-d-preserved c =
    let e = lowest (dots_of c.args.peer) _ c.smaller-least.ensures c.get-seen.ensures in
    let h = c.loop-d-test.true in
    elim c.if-least-gt0.branch [
      | then-least-gt0 w ↦
          let full : length c.args.clock.dots ≡ dot_limit = search (rules, unmapped) in
          let r = room c.args.clock (dots_of c.args.peer) full c.as_slice-d-items.ensures c.loop-d.invariant h c.smaller-least.ensures
          c.get-seen.ensures w.if-least-gt0.true in
          sifting-keep no_dot c.loop-d.invariant h e (lt-ltb 0 _ w.if-least-gt0.true)
          (λ l q. w.out-is ∙ pushed l _ q (omega (arith, ap (λ k. k.len) q, r)))
      | else-least-gt0 w ↦ rw w.out-is (sifting-drop no_dot c.loop-d.invariant h e (le-ltb 0 _ w.if-least-gt0.false))
    ]

pub returns : goal.returns
unfolding lowered_by
returns c = rw (← c.as_slice-d-items.ensures) (sifting-end c.loop-d.invariant (omega arith))

pub offset_bounds-out-k : goal.offset_bounds-out-k
offset_bounds-out-k c = omega (arith, room-here c)

pub overflow_add-out : goal.overflow_add-out
overflow_add-out c = omega (arith, room-here c)

pub bounds-out-k : goal.bounds-out-k
bounds-out-k c = omega (arith, room-here c)
