-- `draw_cut` meets its contract: one entry after the other.
use mathlib.Core.Path.{◌≡◌, refl, ap, sym, ◌∙◌}
use mathlib.Core.Bool.{true, false, not, cond, ◌||◌}
use mathlib.Core.List.{[]}
use Prim.Native.Nat.{◌-◌, ◌<◌}
use lib.ListN.{length-set}
use native.Mathlib.Omega.{arith}
use Rattle.clock.specs.Dots.{dots_of, clock_of, cut_dots}
use Rattle.entries.specs.Model.{dots_in}
use Rattle.removals.specs.Model.{keys_of}
use Rattle.entries.specs.Entries.{stays}
use Rattle.removals.specs.Waits.{listed}
use Rattle.cutting.specs.Cut.{cut_where}
use Rattle.sketch.proofs.Adding.{sketch-none, push-one, push-over}
use Rattle.cutting.proofs.Walked.{walked_start, walked_skip, walked-keep, walked-few, walked_end, here-lawful, left-stays, left-entry}
use mathlib.Core.Bool.{not}
use Rattle.cutting.proofs.draw_cut.Goals.{After-entry_at-e}
use Rattle.cutting.proofs.draw_cut.Goals as goal

pub loop-x-init : goal.loop-x-init
loop-x-init c =
    let z = c.before.before.before.before in (
      walked_start (cut_where z.args.all (keys_of z.args.keys) (dots_of z.args.by)) z.requires.0
          (λ other. sketch-none c.new-sums.ensures.0 c.new-sums.ensures.1),
      refl,
    )

pub entry_at-e-requires : goal.entry_at-e-requires
entry_at-e-requires c = let w = c.loop-x.invariant.0 in (c.loop-x-test.true, (w.rest, w.ahead))

pub own_left-left-requires : goal.own_left-left-requires
own_left-left-requires c =
    let s = c.before.before.before.before.before in
    let z = s.before.before.before.before.before in
    let w = s.loop-x.invariant.0 in
    let g = c.entry_at-e.ensures w.rest w.ahead in (
      (g.entry, g.lies),
      here-lawful z.args.by (z.args.all || listed (keys_of z.args.keys) c.entry_at-e.result.key) _
          c.cutter-here.ensures z.requires.1.1,
    )

pub draw_values-d-requires : goal.draw_values-d-requires
draw_values-d-requires c =
    let s = c.before.before.before.before.before.before.before.before.before in
    let z = s.before.before.before.before.before in
    let w = s.loop-x.invariant.0 in
    let o = c.entry_at-e in
    let g = o.ensures w.rest w.ahead in
    let n = c.new-k.ensures.0 in (
      omega arith,
      (
        z.requires.1.0,
        (
          (g.entry, g.lies),
          here-lawful z.args.by
              (z.args.all || listed (keys_of z.args.keys) o.result.key) _ c.cutter-here.ensures
              z.requires.1.1,
        ),
      ),
    )

pub with-more-requires : goal.with-more-requires
with-more-requires c =
    let s = c.before.before.before.before.before.before.before.before.before.before in
    let z = s.before.before.before.before.before in
    let w = s.loop-x.invariant.0 in
    (walked-few (cut_where z.args.all (keys_of z.args.keys) (dots_of z.args.by)) w, (_, (w.holds z.args.s.now).sums))

-- less is left behind an entry
less : (c : After-entry_at-e) → let s = c.before.before.before in
    s.args.l.third - c.entry_at-e.result.next.own < s.args.l.third - s.loop-x.x.own
less c =
    let s = c.before.before.before in
    let w = s.loop-x.invariant.0 in
    let g = c.entry_at-e.ensures w.rest w.ahead in
    let k = g.onward in
    let t = c.loop-x-test.true in
    omega arith

pub loop-x-smaller-then-n-lt-ENTRIES : goal.loop-x-smaller-then-n-lt-ENTRIES
loop-x-smaller-then-n-lt-ENTRIES c = less (goal.at.loop-x-smaller-then-n-lt-ENTRIES c).After-entry_at-e

pub loop-x-smaller-else-n-lt-ENTRIES : goal.loop-x-smaller-else-n-lt-ENTRIES
loop-x-smaller-else-n-lt-ENTRIES c = less (goal.at.loop-x-smaller-else-n-lt-ENTRIES c).After-entry_at-e

pub loop-x-smaller : goal.loop-x-smaller
loop-x-smaller c = less (goal.at.loop-x-smaller c).After-entry_at-e

pub loop-x-preserved-then-n-lt-ENTRIES : goal.loop-x-preserved-then-n-lt-ENTRIES
loop-x-preserved-then-n-lt-ENTRIES c =
    let s = c.before.before.before.before.before.before.before.before.before.before.before.before in
    let z = s.before.before.before.before.before in
    let a = z.args in
    let w = s.loop-x.invariant.0 in
    let o = c.entry_at-e in
    let g = o.ensures w.rest w.ahead in
    let f = cut_where a.all (keys_of a.keys) (dots_of a.by) in
    let here = c.cutter-here in
    let q = here.ensures ∙ ap (λ n. cond (a.all || listed (keys_of a.keys) n) a.by (clock_of [])) g.lies.key in
    let b = a.all || listed (keys_of a.keys) g.entry.key in
    let left = c.own_left-left.ensures g.entry g.lies in
    let d = cut_dots (dots_of here.result) (dots_in g.entry) in
    let t : stays (f g.entry) ≡ true = left-stays a.by b here.result q g.lies.fit left
    ∙ ap not (sym c.is_empty.ensures)
    ∙ (ap not c.if-not-is_empty.true) in (
      walked-keep f w g t (left-entry a.by b here.result q g.lies.fit o.result.key g.lies.key) (λ other.
          let v = c.draw_values-d.ensures.1 a.s.now other g.entry o.result.key d [] refl g.lies
          (c.new-k.ensures.1 _ _ d left) in
          push-one (w.holds other) v (c.with-more.ensures.1 _ _ _ _ _ _ (w.holds other).sums v) c.with-more.ensures.0
          s.loop-x.invariant.1 c.if-n-lt-ENTRIES.true),
      length-set s.loop-x.items s.loop-x.sums.count c.draw_values-d.result ∙ s.loop-x.invariant.1,
    )

pub loop-x-preserved-else-n-lt-ENTRIES : goal.loop-x-preserved-else-n-lt-ENTRIES
loop-x-preserved-else-n-lt-ENTRIES c =
    let s = c.before.before.before.before.before.before.before.before.before.before.before.before in
    let z = s.before.before.before.before.before in
    let a = z.args in
    let w = s.loop-x.invariant.0 in
    let o = c.entry_at-e in
    let g = o.ensures w.rest w.ahead in
    let f = cut_where a.all (keys_of a.keys) (dots_of a.by) in
    let here = c.cutter-here in
    let q = here.ensures ∙ ap (λ n. cond (a.all || listed (keys_of a.keys) n) a.by (clock_of [])) g.lies.key in
    let b = a.all || listed (keys_of a.keys) g.entry.key in
    let left = c.own_left-left.ensures g.entry g.lies in
    let d = cut_dots (dots_of here.result) (dots_in g.entry) in
    let t : stays (f g.entry) ≡ true = left-stays a.by b here.result q g.lies.fit left
    ∙ ap not (sym c.is_empty.ensures)
    ∙ (ap not c.if-not-is_empty.true) in (
      walked-keep f w g t (left-entry a.by b here.result q g.lies.fit o.result.key g.lies.key) (λ other.
          let v = c.draw_values-d.ensures.1 a.s.now other g.entry o.result.key d [] refl g.lies
          (c.new-k.ensures.1 _ _ d left) in
          push-over (w.holds other) v (c.with-more.ensures.1 _ _ _ _ _ _ (w.holds other).sums v) c.with-more.ensures.0
          (omega arith)),
      s.loop-x.invariant.1,
    )

pub loop-x-preserved : goal.loop-x-preserved
loop-x-preserved c =
    let s = c.before.before.before.before.before.before.before.before in
    let a = s.args in
    let w = s.loop-x.invariant.0 in
    let g = c.entry_at-e.ensures w.rest w.ahead in
    let f = cut_where a.all (keys_of a.keys) (dots_of a.by) in
    let here = c.cutter-here in
    let q = here.ensures ∙ ap (λ n. cond (a.all || listed (keys_of a.keys) n) a.by (clock_of [])) g.lies.key in
    let b = a.all || listed (keys_of a.keys) g.entry.key in
    let left = c.own_left-left.ensures g.entry g.lies in
    let t : stays (f g.entry) ≡ false = left-stays a.by b here.result q g.lies.fit left ∙ ap not (sym c.is_empty.ensures)
    ∙ (ap not c.if-not-is_empty.false) in
    (walked_skip f w g t, s.loop-x.invariant.1)

pub returns : goal.returns
returns c =
    let a = c.args in
    walked_end (cut_where a.all (keys_of a.keys) (dots_of a.by)) c.loop-x.invariant.0 (omega arith)
