-- `first_twice` meets its contract: the walk looks for an entry at which something is spent twice.
use mathlib.Core.Path.{sym, ◌∙◌}
use native.Mathlib.Omega.{arith}
use Rattle.clock.proofs.Packs.{dots-of}
use Rattle.keyed.proofs.Walks.{owned-all}
use Rattle.direct.proofs.Seeking.{seek-start, seek-here, seek-on, seek-end}
use Rattle.direct.proofs.validating.first_twice.Goals as goal

pub loop-at-init : goal.loop-at-init
loop-at-init g c = ((_, owned-all c.requires.lies), λ f told. seek-start c.requires.lies)

pub stop_at-entry-requires : goal.stop_at-entry-requires
stop_at-entry-requires g c = (c.loop-at-test.true, c.loop-at.invariant.0)

pub returns-then-twice : goal.returns-then-twice
returns-then-twice g c = λ f told.
    let v = c.loop-at.invariant.1 f told in
    let s = c.stop_at-entry.ensures in
    let q = s v.rest v.owned in
    seek-here v s _ (told q.entry _ _ q.key (dots-of _ q.clock) c.spent-found.ensures) (sym c.twice.ensures ∙ c.if-twice.true)

pub loop-at-smaller : goal.loop-at-smaller
loop-at-smaller g c =
    let q = c.stop_at-entry.ensures c.loop-at.invariant.0.0 c.loop-at.invariant.0.1 in
    omega (arith, q.onward, q.rest.order)

pub loop-at-preserved : goal.loop-at-preserved
loop-at-preserved g c =
    let s = c.stop_at-entry.ensures in
    let w = s c.loop-at.invariant.0.0 c.loop-at.invariant.0.1 in (
      (w.more, w.rest),
      λ f told.
          let v = c.loop-at.invariant.1 f told in
          let q = s v.rest v.owned in
          seek-on v s _ (told q.entry _ _ q.key (dots-of _ q.clock) c.spent-found.ensures) (sym c.twice.ensures ∙ c.if-twice.false),
    )

pub returns : goal.returns
returns g c = λ f told. seek-end (c.loop-at.invariant.1 f told) (omega arith)
