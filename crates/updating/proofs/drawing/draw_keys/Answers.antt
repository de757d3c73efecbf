-- `draw_keys` meets its contract: the loop draws the next key, and the next, until neither an entry nor the put is left.
use mathlib.Core.Path.{◌≡◌, refl, ap, sym, subst, ◌∙◌}
use mathlib.Core.Bool.{Bool, true, false, not, ◌||◌}
use mathlib.Core.List.{List}
use Prim.Native.Nat.{ℕ, ◌+◌, ◌-◌}
use lib.ListN.{length-set}
use native.Mathlib.Omega.{arith}
use borrow.Author.Tests.{ltb-false}
use Rattle.listlaws.proofs.Orders.{apart}
use Rattle.clock.specs.declared.Dot.{Dot}
use Rattle.clock.specs.Dots.{dots_of, is_empty}
use Rattle.clock.proofs.Packs.{dots-of}
use Rattle.map.specs.declared.Map.{Map}
use Rattle.map.specs.Model.{waiting_in}
use Rattle.maprecords.specs.Related.{read_map}
use Rattle.mapimage.specs.MapImage.{key_number}
use Rattle.queued.specs.Queue.{Marked, Keyed}
use Rattle.sketch.specs.Drawn.{clock_apart}
use Rattle.sketch.proofs.Adding.{sketch-none, push-one, push-over}
use Rattle.leaving.proofs.Fates.{some_left, none_left}
use Rattle.updating.specs.Updated.{UpdateComes, PutLies}
use Rattle.updating.proofs.Lying.{put-lies}
use Rattle.updating.proofs.Updates.{drawing-start, fits_next, cut_key, Drew, drew, grown-goes, grown-stays, drawing-on, drawing-end}
use Rattle.updating.proofs.drawing.draw_keys.Goals.{After-draw_key-k, After-next-c}
use Rattle.updating.proofs.drawing.draw_keys.Goals as goal

pub loop-x-init : goal.loop-x-init
loop-x-init c =
    let p = c.requires in
    (refl, drawing-start _ p.0.0 p.1.1.1.1.1 c.new-sums.ensures.0 (sketch-none c.new-sums.ensures.0 c.new-sums.ensures.1))

pub next-c-requires : goal.next-c-requires
next-c-requires c = let d = c.loop-x.invariant.1 in (c.loop-x-test.true, (d.es, d.ahead))

-- what comes next
came : (c : After-next-c) → let w = c.before.before.before in
    let a = w.args in
    UpdateComes a.s.now a.l a.u w.loop-x.x w.loop-x.done w.loop-x.invariant.1.es c.next-c.result
came c = let d = c.loop-x.invariant.1 in c.next-c.ensures _ d.es refl d.ahead

pub listers-listing-requires : goal.listers-listing-requires
listers-listing-requires c = let d = c.loop-x.invariant.1 in (d.listed.order, d.listed.within)

pub draw_key-k-requires : goal.draw_key-k-requires
draw_key-k-requires c =
    let r = came (goal.at.draw_key-k-requires c).After-next-c in
    (((r.entry, r.lies), (c.requires.1.1.1.0, (_, c.requires.0.1))), (_, put-lies _ c.requires.1.0.0 c.requires.1.0.1))

pub with-more-requires : goal.with-more-requires
with-more-requires c =
    let d = c.loop-x.invariant.1 in
    (omega (arith, d.few, (came (goal.at.with-more-requires c).After-next-c).fewer), (_, d.grown.holds.sums))

pub loop-x-smaller-then-n-lt-ENTRIES : goal.loop-x-smaller-then-n-lt-ENTRIES
loop-x-smaller-then-n-lt-ENTRIES c = (came (goal.at.loop-x-smaller-then-n-lt-ENTRIES c).After-next-c).less

pub loop-x-smaller-else-n-lt-ENTRIES : goal.loop-x-smaller-else-n-lt-ENTRIES
loop-x-smaller-else-n-lt-ENTRIES c = (came (goal.at.loop-x-smaller-else-n-lt-ENTRIES c).After-next-c).less

pub loop-x-smaller : goal.loop-x-smaller
loop-x-smaller c = (came (goal.at.loop-x-smaller c).After-next-c).less

-- both are used up
neither : (a b : Bool) → (a || not b) ≡ false → (a ≡ false) × (b ≡ true)
neither true b t = apart t
neither false true t = (refl, refl)
neither false false t = apart t

pub returns : goal.returns
returns c =
    let o = neither _ _ c.loop-x-test.false in
    drawing-end c.loop-x.invariant.1 (ltb-false _ _ o.0) o.1

-- what was drawn of the key that came, and where the keys behind it lie
module _ (c : After-draw_key-k)
    (r : UpdateComes c.args.s.now c.args.l c.args.u c.loop-x.x c.loop-x.done c.loop-x.invariant.1.es c.next-c.result) where
  abbrev m : Map
  m = (read_map c.args.s.now).map

  abbrev key : ℕ
  key = c.next-c.result.entry.key

  ours : let q = c.listers-listing.result in Marked (waiting_in m) key q.under
      × Keyed c.args.s.now q.next c.args.last (key_number 0 (key + 1)) (waiting_in m)
  ours =
      let d = c.loop-x.invariant.1 in
      let bound = r.least d.low d.above d.goal in
      c.listers-listing.ensures.1 (key_number 0 d.low) (waiting_in m) d.listed (omega (arith, bound))

  drawn : Drew c.loop-x.invariant.1 r key c.draw_key-k.result
  drawn =
      let p = c.requires in
      drew c.loop-x.invariant.1 r (c.draw_key-k.ensures c.args.u r.entry (waiting_in m) refl
      (put-lies _ c.requires.1.0.0 c.requires.1.0.1) r.lies
      (fits_next c.loop-x.invariant.1 r p.0.0 p.1.1.0.1) p.0.1
      (subst (λ x. Marked (waiting_in m) x c.listers-listing.result.under) r.lies.key ours.0))

  abbrev drawn_dots : List Dot
  drawn_dots = dots_of (clock_apart c.draw_key-k.result.own)

  left : is_empty (cut_key c.loop-x.invariant.1 r) ≡ is_empty drawn_dots
  left = ap is_empty (sym (dots-of (cut_key c.loop-x.invariant.1 r) drawn.0))

pub loop-x-preserved-then-n-lt-ENTRIES : goal.loop-x-preserved-then-n-lt-ENTRIES
loop-x-preserved-then-n-lt-ENTRIES c =
    let v = (goal.at.loop-x-preserved-then-n-lt-ENTRIES c).After-draw_key-k in
    let d = v.loop-x.invariant.1 in
    let r = came (goal.at.loop-x-preserved-then-n-lt-ENTRIES c).After-next-c in
    let e = left v r ∙ some_left (drawn_dots v r) c.size.ensures.0 c.if-size-ne0.true in
    let s = c.with-more.ensures in (
      simp length-set v.loop-x.invariant.0,
      drawing-on d r (ours v r).1 (omega (arith, s.0)) (grown-stays d r v.requires.1.0.0 e
          (λ done g. push-one g ((drawn v r).1 e) (s.1 _ _ _ _ _ _ g.sums ((drawn v r).1 e)) s.0 v.loop-x.invariant.0 c.if-n-lt-ENTRIES.true)),
    )

pub loop-x-preserved-else-n-lt-ENTRIES : goal.loop-x-preserved-else-n-lt-ENTRIES
loop-x-preserved-else-n-lt-ENTRIES c =
    let v = (goal.at.loop-x-preserved-else-n-lt-ENTRIES c).After-draw_key-k in
    let d = v.loop-x.invariant.1 in
    let r = came (goal.at.loop-x-preserved-else-n-lt-ENTRIES c).After-next-c in
    let e = left v r ∙ some_left (drawn_dots v r) c.size.ensures.0 c.if-size-ne0.true in
    let s = c.with-more.ensures in (
      v.loop-x.invariant.0,
      drawing-on d r (ours v r).1 (omega (arith, s.0)) (grown-stays d r v.requires.1.0.0 e
          (λ done g. push-over g ((drawn v r).1 e) (s.1 _ _ _ _ _ _ g.sums ((drawn v r).1 e)) s.0 (omega arith))),
    )

pub loop-x-preserved : goal.loop-x-preserved
loop-x-preserved c =
    let v = (goal.at.loop-x-preserved c).After-draw_key-k in
    let d = v.loop-x.invariant.1 in
    let r = came (goal.at.loop-x-preserved c).After-next-c in (
      v.loop-x.invariant.0,
      drawing-on d r (ours v r).1 (omega arith)
          (grown-goes d r v.requires.1.0.0 (left v r ∙ none_left (drawn_dots v r) c.size.ensures.0 c.if-size-ne0.false)),
    )
