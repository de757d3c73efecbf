-- `castribba_floor` meets its contract, by that of `begin` and `next`: the floor of all peers is what the walk ends with.
use mathlib.Core.Path.{◌≡◌, ap, sym, ◌∙◌}
use mathlib.Core.List.{List}
use Prim.Native.Nat.{ℕ, ◌+◌, ◌<◌}
use lib.ListN.{length, length-take, take, get_or}
use borrow.Author.Tests.{eq-eqb, ne_eqb}
use native.Mathlib.Omega.{arith}
use Rattle.std.proofs.lemmas.List.{get_or-take}
use Rattle.clock.specs.declared.Clock.{Clock}
use Rattle.flooring.specs.declared.Floored.{Floored}
use Rattle.flooring.specs.Steps.{peers_read, begun_of, next_of, floored_to, floored_all}
use Rattle.flooring.proofs.Walks.{floor-start, floor-many, floor-next, read-within}
use Rattle.flooring.proofs.Lowering.{floor-word, floor-stored, floor-kept}
use Rattle.castribba.proofs.castribba_floor.Goals.{After-loop-peer}
use Rattle.castribba.proofs.castribba_floor.Goals as goal

-- how many the walk reads
many : (peers : List Clock) {f : Floored} → f ≡ begun_of (length peers) → f.many ≡ peers_read (length peers)
many peers e = ap (λ (f : Floored). f.many) (e ∙ floor-start peers) ∙ floor-many peers

pub slice_bounds-peer-items-end : goal.slice_bounds-peer-items-end
slice_bounds-peer-items-end c =
    let peers = c.args.peers.now in
    omega (arith, length-take c.begin-f.result.many peers, many peers c.begin-f.ensures, read-within (length peers))

pub loop-peer-init : goal.loop-peer-init
loop-peer-init c = c.begin-f.ensures ∙ floor-start c.args.peers.now

-- one peer more
step : (peers : List Clock) (n i : ℕ) (d : Clock) {f : Floored} → i < length (take n peers) → f ≡ floored_to peers i
    → next_of f (get_or (take n peers) i d) ≡ floored_to peers (i + 1)
step peers n i d {f} h e =
    let l = length-take n peers in
    let less : i < n = omega arith in
    ap (next_of f) (get_or-take n peers i d less) ∙ ap (λ g. next_of g (get_or peers i d)) e ∙ floor-next peers i d (omega arith)

pub loop-peer-preserved : goal.loop-peer-preserved
loop-peer-preserved c = c.next-f.ensures ∙ step c.args.peers.now _ c.loop-peer.peer-index _ c.loop-peer-test.true c.loop-peer.invariant

-- the walk ends with the floor of all peers
whole : (c : After-loop-peer) → c.loop-peer.f ≡ floored_all c.args.peers.now
whole c =
    let peers = c.args.peers.now in
    let m = many peers c.begin-f.ensures in
    let t = length-take c.begin-f.result.many peers in
    let e : c.loop-peer.peer-index ≡ peers_read (length peers) = omega (arith, t, m, read-within (length peers)) in
    c.loop-peer.invariant ∙ ap (λ i. floored_to peers i) e

pub returns-then-f-eq0 : goal.returns-then-f-eq0
returns-then-f-eq0 c =
    let peers = c.args.peers.now in
    let e = whole (goal.at.returns-then-f-eq0 c).After-loop-peer in (
      ap (λ (f : Floored). f.word) e ∙ floor-word peers,
      ap (λ (f : Floored). f.clock) e
          ∙ floor-stored peers c.args.floor.now (eq-eqb _ 0 (ap (λ (f : Floored). f.word) (sym e) ∙ c.if-f-eq0.true)),
    )

pub returns-else-f-eq0 : goal.returns-else-f-eq0
returns-else-f-eq0 c =
    let peers = c.args.peers.now in
    let e = whole (goal.at.returns-else-f-eq0 c).After-loop-peer in (
      ap (λ (f : Floored). f.word) e ∙ floor-word peers,
      floor-kept peers c.args.floor.now (ne_eqb _ 0 (λ h. c.if-f-eq0.false (ap (λ (f : Floored). f.word) e ∙ h))),
    )
