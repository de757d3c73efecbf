-- `Entries::merge` meets its contract: the loop finishes the next of both maps' entries, and the next, until neither has more.
use mathlib.Core.Path.{◌≡◌, refl, ap, sym, ◌∙◌}
use mathlib.Core.Bool.{Bool, true, false, not, ◌||◌}
use mathlib.Core.Logic.{⊎_elim}
use mathlib.Core.List.{[], ◌∷◌, flatten}
use Prim.Native.Nat.{ℕ, ◌≤◌, ◌<◌, ◌-◌, ◌+◌}
use lib.Dec.{ltb}
use lib.ListN.{length, drop, get_or}
use borrow.Author.Tests.{ltb-true, ltb-false}
use Rattle.listlaws.specs.Order.{by}
use Rattle.listlaws.specs.Sift.{sift}
use Rattle.listlaws.proofs.Orders.{apart}
use Rattle.listlaws.proofs.Rests.{in_list, weave-second-left, drop-end}
use Rattle.clock.specs.Dots.{dots_of}
use Rattle.entries.specs.declared.Entries.{Entries}
use Rattle.entries.specs.declared.Entry.{Entry}
use Rattle.limits.specs.Limits.{entry_limit}
use Rattle.entries.specs.Model.{entries_of, LaidDown}
use Rattle.removals.specs.Model.{waiting_of}
use Rattle.entries.specs.declared.WideEntry.{WideEntry}
use Rattle.entries.specs.Steps.{wide_entry, survivor_of}
use Rattle.std.specs.Prelude.{Some, None}
use Rattle.std.proofs.lemmas.Option.{none-some, same_Some}
use Rattle.entries.specs.Entries.{stays, alone, together, merge_entries}
use Rattle.entries.proofs.Runs.{run-laid}
use Rattle.entries.proofs.Packs.{none_read}
use Rattle.entries.proofs.Finishing.{go-start, go-keep, go-skip, go-end, finish-one, one-stays, one-goes}
use Rattle.entries.proofs.MergeSteps.{Next, At, next, none_left, one_left}
use borrow.Author.Rules.{rules}
use native.Mathlib.Omega.{arith}
use mathlib.Core.Bool.{not}
use Rattle.entries.proofs.Entries.merge.Invariants.{finished, left}
use Rattle.entries.proofs.Entries.merge.Goals.{After-merge_step-step}
use Rattle.entries.proofs.Entries.merge.Goals as goal

pub loop-i-init : goal.loop-i-init
loop-i-init c = (search rules, search rules, omega (arith, c.new-out.ensures.0), go-start [] c.new-out.ensures.1)

-- the place that is read is the one that is meant, where there is one
place : (from : Entries) (n i k : ℕ) → (n ≡ length (entries_of from)) × (n ≤ entry_limit) → (i < entry_limit → k ≡ i)
    → At from.items from.len i (ltb i n) (get_or from.items k none_read)
place from n i k e f = (
  λ t. let b : i < n = ltb-true i n t in (omega (arith, e), ap (λ p. get_or from.items p none_read) (f (omega (arith, e)))),
  λ t. let b : n ≤ i = ltb-false i n t in omega (arith, e),
)

pub merge_step-step-requires : goal.merge_step-step-requires
merge_step-step-requires c =
    let s = c.before.before.before.before.before in
    let z = s.before.before.before.before in
    let a = z.args in
    λ p q.
    let h : s.loop-i.i < s.size-n.result = ltb-true _ _ p in
    let k : s.loop-i.j < s.size-m.result = ltb-true _ _ q in
    let x = c.slot-a.ensures.1 (omega (arith, s.size-n.ensures)) in
    let y = c.slot-b.ensures.1 (omega (arith, s.size-m.ensures)) in
    z.requires _ _ (in_list a.self.items a.self.len _ none_read (omega (arith, x, s.size-n.ensures)))
    (in_list a.other.items a.other.len _ none_read (omega (arith, y, s.size-m.ensures)))

-- the step takes the next
step : (c : After-merge_step-step)
    → let s = c.before.before.before.before.before.before in let a = s.args in
    Next (dots_of a.mine) (dots_of a.yours) (entries_of a.self) (entries_of a.other) s.loop-i.i s.loop-i.j c.merge_step-step.result
step c =
    let s = c.before.before.before.before.before.before in
    let a = s.args in
    let n = s.size-n.ensures in
    let m = s.size-m.ensures in
    next (dots_of a.mine) (dots_of a.yours) a.self.items a.self.len s.loop-i.i a.other.items a.other.len s.loop-i.j _ _
    (omega (arith, s.loop-i.invariant.0, n)) (omega (arith, s.loop-i.invariant.1, m))
    (place a.self _ _ _ n c.slot-a.ensures.1) (place a.other _ _ _ m c.slot-b.ensures.1)
    c.loop-i-test.true c.merge_step-step.ensures

pub overflow_add-i : goal.overflow_add-i
overflow_add-i c =
    let k = c.before in
    let s = k.before.before.before.before.before.before in
    omega (arith, (step k).few, s.loop-i.invariant.0, s.size-n.ensures)

pub overflow_add-j : goal.overflow_add-j
overflow_add-j c =
    let k = c.before.before in
    let s = k.before.before.before.before.before.before in
    omega (arith, (step k).few, s.loop-i.invariant.1, s.size-m.ensures)

-- less is left of both
less : (c : After-merge_step-step) → let s = c.before.before.before.before.before.before in
    (s.size-n.result - (s.loop-i.i + c.merge_step-step.result.ours)) + (s.size-m.result - (s.loop-i.j + c.merge_step-step.result.theirs)) <
    (s.size-n.result - s.loop-i.i) + (s.size-m.result - s.loop-i.j)
less c =
    let s = c.before.before.before.before.before.before in
    omega (arith, (step c).ours, (step c).theirs, (step c).some, s.size-n.ensures, s.size-m.ensures)

pub loop-i-smaller-then-not-is_empty : goal.loop-i-smaller-then-not-is_empty
loop-i-smaller-then-not-is_empty c = less c.before.before.before.before.before.before.before.before.before.before.before.before

pub loop-i-smaller-else-not-is_empty : goal.loop-i-smaller-else-not-is_empty
loop-i-smaller-else-not-is_empty c = less c.before.before.before.before.before.before.before.before

pub loop-i-smaller : goal.loop-i-smaller
loop-i-smaller c = less c.before.before.before

-- the entry that is left of the step
here : (c : After-merge_step-step) (h : WideEntry) → c.merge_step-step.result.survivor ≡ Some h
    → (e : Entry) × ((step c).entries ≡ e ∷ []) × LaidDown e × (h ≡ wide_entry e)
here c h t = ⊎_elim
    (λ n. absurd (none-some h (sym (sym t ∙ (step c).left ∙ ap survivor_of n))))
    (λ f. (f.0, f.1, f.2, same_Some h (wide_entry f.0) (sym t ∙ (step c).left ∙ ap survivor_of f.1)))
    (step c).one

gone : (c : After-merge_step-step) → c.merge_step-step.result.survivor ≡ None → (step c).entries ≡ []
gone c t = ⊎_elim (λ n. n) (λ f. absurd (none-some (wide_entry f.0) (sym (sym (ap survivor_of f.1) ∙ sym (step c).left ∙ t)))) (step c).one

pub loop-i-preserved-then-not-is_empty : goal.loop-i-preserved-then-not-is_empty
loop-i-preserved-then-not-is_empty c =
    let k = c.before.before.before.before.before.before.before.before.before.before.before.before in
    let a = c.args in
    let g = step k in
    let h = here k c.in-Some.left c.in-Some.is in
    let f : Entry → Entry = left (waiting_of a.ours) (waiting_of a.theirs) in
    let q = c.run-h.ensures _ (c.run.ensures h.0 h.3) in
    let u : stays (f h.0) ≡ true = rw (ap (λ o. o.clock) q) at (ap not (sym c.is_empty.ensures ∙ c.if-not-is_empty.true)) in (
      omega (arith, g.ours, c.size-n.ensures),
      omega (arith, g.theirs, c.size-m.ensures),
      omega (arith, g.some, c.loop-i.invariant.2),
      go-keep c.loop-i.invariant.3 (ap (finished (waiting_of a.ours) (waiting_of a.theirs)) g.rest ∙ one_left f _ h.0 h.1
          ∙ one-stays f h.0 _ u)
          (λ l p. finish-one l (f h.0) p q (run-laid (waiting_of a.ours) (run-laid (waiting_of a.theirs) h.2)) c.lay-laid.ensures
          c.slot-k.ensures.1),
    )

pub loop-i-preserved-else-not-is_empty : goal.loop-i-preserved-else-not-is_empty
loop-i-preserved-else-not-is_empty c =
    let k = c.before.before.before.before.before.before.before.before in
    let a = c.args in
    let g = step k in
    let h = here k c.in-Some.left c.in-Some.is in
    let f : Entry → Entry = left (waiting_of a.ours) (waiting_of a.theirs) in
    let q = c.run-h.ensures _ (c.run.ensures h.0 h.3) in
    let u : stays (f h.0) ≡ false = rw (ap (λ o. o.clock) q) at (ap not (sym c.is_empty.ensures ∙ c.if-not-is_empty.false)) in (
      omega (arith, g.ours, c.size-n.ensures),
      omega (arith, g.theirs, c.size-m.ensures),
      omega (arith, g.some, c.loop-i.invariant.2),
      go-skip c.loop-i.invariant.3 (ap (finished (waiting_of a.ours) (waiting_of a.theirs)) g.rest ∙ one_left f _ h.0 h.1
          ∙ one-goes f h.0 _ u),
    )

pub loop-i-preserved : goal.loop-i-preserved
loop-i-preserved c =
    let k = c.before.before.before in
    let a = c.args in
    let g = step k in (
      omega (arith, g.ours, c.size-n.ensures),
      omega (arith, g.theirs, c.size-m.ensures),
      omega (arith, g.some, c.loop-i.invariant.2),
      go-skip c.loop-i.invariant.3 (ap (finished (waiting_of a.ours) (waiting_of a.theirs)) g.rest ∙ none_left _ _ (gone k c.in_default.is)),
    )

-- both are used up
neither : (a b : Bool) → (a || b) ≡ false → (a ≡ false) × (b ≡ false)
neither true b t = apart t
neither false true t = apart t
neither false false t = (refl, refl)

pub returns : goal.returns
unfolding sift flatten merge_entries
returns c =
    let s = c.before in
    let a = s.args in
    let f : Entry → Entry = left (waiting_of a.ours) (waiting_of a.theirs) in
    let o = neither _ _ c.loop-i-test.false in
    let h : s.size-n.result ≤ s.loop-i.i = ltb-false _ _ o.0 in
    let k : s.size-m.result ≤ s.loop-i.j = ltb-false _ _ o.1 in
    go-end s.loop-i.invariant.3
    (rw (
      weave-second-left (by (λ e. e.key)) (alone (dots_of a.yours)) (alone (dots_of a.mine)) (together (dots_of a.mine) (dots_of a.yours))
          (entries_of a.self) (drop s.loop-i.j (entries_of a.other)) s.loop-i.i (omega (arith, h, s.size-n.ensures)),
      drop-end (entries_of a.other) s.loop-i.j (omega (arith, k, s.size-m.ensures)),
    ))
