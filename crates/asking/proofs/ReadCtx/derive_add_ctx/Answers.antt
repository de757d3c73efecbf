-- `ReadCtx::derive_add_ctx` meets its contract: 9 at the last counter, 4 for a ninth dot, else the dot and the clock.
use mathlib.Core.Path.{◌∙◌}
use borrow.Author.Tests.{le-leb, lt-leb, lt-ltb, le-ltb}
use Rattle.clock.proofs.Packs.{over-means, within-means, within-clock}
use Rattle.asking.specs.Contexts.{add_context}
use Rattle.asking.proofs.ReadCtx.derive_add_ctx.Goals as goal

pub returns-then-c-ge18446744073709551615 : goal.returns-then-c-ge18446744073709551615
unfolding add_context
returns-then-c-ge18446744073709551615 c =
    let g = c.before.before in
    c.refused.ensures ∙ rw (le-leb _ _ (rw g.get-c.ensures at c.if-c-ge18446744073709551615.true))

pub returns-then-grown : goal.returns-then-grown
unfolding add_context
returns-then-grown c =
    let a = c.before.before in
    let g = a.before.before in
    let e = rw g.get-c.ensures at (over-means _ a.add-grown.ensures c.if-grown.true) in
    c.refused-then-grown.ensures ∙ rw (lt-leb _ _ (rw g.get-c.ensures at a.if-c-ge18446744073709551615.false), lt-ltb _ _ e)

pub returns : goal.returns
unfolding add_context
returns c =
    let i = c.before in
    let a = i.before in
    let g = a.before.before in
    let few = rw g.get-c.ensures at (within-means _ a.add-grown.ensures i.if-grown.false) in
    rw (
      lt-leb _ _ (rw g.get-c.ensures at a.if-c-ge18446744073709551615.false),
      le-ltb _ _ few,
      within-clock _ a.add-grown.ensures i.if-grown.false,
      g.get-c.ensures,
    )
