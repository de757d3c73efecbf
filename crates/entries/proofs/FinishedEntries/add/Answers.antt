-- `FinishedEntries::add` meets its contract: an emptied entry is left out; one that is kept is laid down behind the last.
use mathlib.Core.Path.{◌≡◌, ap, sym, ◌∙◌}
use mathlib.Core.List.{[], ◌∷◌, ◌++◌, append-nil}
use Rattle.listlaws.specs.Sift.{sift, those}
use Rattle.entries.specs.Entries.{stays}
use Rattle.entries.proofs.Finishing.{finish-one}
use borrow.Author.Rules.{rules}
use Rattle.entries.proofs.FinishedEntries.add.Goals as goal

pub returns-then-is_empty : goal.returns-then-is_empty
unfolding sift
returns-then-is_empty c = (
  search rules,
  λ l e laid q h.
      let t = rw (ap (λ k. k.clock) h) at (sym c.is_empty.ensures ∙ c.if-is_empty.true) in
      let same : l ++ those stays (e ∷ []) ≡ l = rw t (append-nil l) in
      rw same q,
)

pub returns : goal.returns
unfolding sift
returns c =
    let w = c.before.before.before in
    let i = w.before in (
      search rules,
      λ l e laid q h.
          let t = rw (ap (λ k. k.clock) h) at (sym i.is_empty.ensures ∙ i.if-is_empty.false) in
          rw t (finish-one l e q h laid w.lay-laid.ensures c.slot-k.ensures.1),
    )
