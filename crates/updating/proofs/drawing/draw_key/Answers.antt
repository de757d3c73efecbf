-- `draw_key` meets its contract: the values are drawn where something is left of the clock.
use mathlib.Core.Path.{◌≡◌, ap, sym, subst, ◌∙◌}
use mathlib.Core.List.{List, []}
use Prim.Native.Nat.{ℕ, ◌≤◌}
use lib.ListN.{length}
use Rattle.listlaws.specs.Sift.{sift}
use Rattle.listlaws.proofs.Orders.{apart}
use Rattle.clock.specs.declared.Dot.{Dot}
use Rattle.limits.specs.Limits.{dot_limit, value_limit}
use Rattle.clock.specs.Dots.{clock_of, is_empty}
use Rattle.clock.proofs.Packs.{dots-of}
use Rattle.register.specs.declared.Value.{Value}
use Rattle.register.specs.Values.{alive}
use Rattle.entries.specs.declared.Entry.{Entry}
use Rattle.removals.specs.declared.Removal.{Removal}
use Rattle.entries.specs.declared.Update.{Update}
use Rattle.entries.specs.Model.{values_in}
use Rattle.queued.specs.Queue.{cuts_for, Queued, Marked}
use Rattle.marks.proofs.Picks.{picked_all}
use Rattle.sketch.specs.declared.Sketched.{Sketched}
use Rattle.entrywalk.specs.Walking.{LiesAt}
use Rattle.sketch.specs.Drawn.{Draws}
use Rattle.leaving.specs.Left.{value_left}
use Rattle.updating.specs.Updated.{dots_to, values_to}
use Rattle.updating.proofs.drawing.draw_key.Goals.{After-new-bare, Start}
use Rattle.updating.proofs.drawing.draw_key.Goals as goal

-- the same entry, by equal values
draws-as : {s t : List ℕ} {key : ℕ} {d : List Dot} {l v : List Value} {k : Sketched} → l ≡ v → Draws s t key d l k → Draws s t key d v k
draws-as {s} {t} {key} {d} {l} {v} {k} q h = subst (λ z. Draws s t key d z k) q h

-- what is left of the clock, and the entry that has no value yet
module _ (n : After-new-bare) where
  abbrev z : Start
  z = n.before.before.before.before.before.before.before

  abbrev cut : Update → Entry → List Removal → List Dot
  cut u e w = cuts_for w e.key (dots_to u z.args.c.put e)

  module _ (u : Update) {e : Entry} {w : List Removal} (q : u.dot ≡ z.args.dot) (l : LiesAt z.args.s.now e z.args.c.entry)
      (few : length (dots_to u z.args.c.put e) ≤ dot_limit)
      (k : Queued z.args.s.now z.args.q w) (m : Marked w e.key z.args.under) where
    left : n.cut_listed-left.result ≡ clock_of (cut u e w)
    left = n.cut_listed-left.ensures w e.key (dots_to u z.args.c.put e) k m (n.clock_to-grown.ensures u e q l few)

    bare : Draws z.args.s.now z.args.op.now z.args.c.entry.key (cut u e w) [] n.new-bare.result
    bare = n.new-bare.ensures.1 z.args.s.now z.args.op.now (cut u e w) left

pub returns-then-is_empty : goal.returns-then-is_empty
returns-then-is_empty c = λ u e w q h l few k m.
    let n = c.before.before in (
      (bare (goal.at.returns-then-is_empty c).After-new-bare u q l few k m).clock,
      λ no. apart
          (sym c.if-is_empty.true ∙ c.is_empty.ensures
          ∙ ap is_empty (dots-of (cut (goal.at.returns-then-is_empty c).After-new-bare u e w)
          (left (goal.at.returns-then-is_empty c).After-new-bare u q l few k m)) ∙ no),
    )

pub returns-then-put : goal.returns-then-put
returns-then-put c = λ u e w q h l few k m.
    let n = c.before.before.before.before in
    let drawn = c.draw_put.ensures u _ (cut (goal.at.returns-then-put c).After-new-bare u e w) e w h
    (bare (goal.at.returns-then-put c).After-new-bare u q l few k m) l k m in
    (drawn.clock, λ no. draws-as (ap (λ b. sift alive (value_left w [] e.key []) (values_to u b e)) (sym c.if-put.true)) drawn)

pub returns : goal.returns
returns c = λ u e w q h l few k m.
    let n = c.before.before.before.before in
    let drawn = c.draw_standing.ensures.1 (z (goal.at.returns c).After-new-bare).args.op.now _ (cut (goal.at.returns c).After-new-bare u e w) e w
    (bare (goal.at.returns c).After-new-bare u q l few k m) l k m in
    let values = picked_all (values_in e) value_limit l.fit.few ∙ ap (λ b. values_to u b e) (sym c.if-put.false) in
    (drawn.clock, λ no. draws-as (ap (sift alive (value_left w [] e.key [])) values) drawn)
