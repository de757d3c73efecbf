-- `draw_keys` meets its contract: the loop draws the next key of both maps, and the next, until neither has more.
use mathlib.Core.Path.{◌≡◌, refl, ap, sym, subst, ◌∙◌}
use mathlib.Core.Bool.{Bool, true, false, ◌||◌}
use mathlib.Core.List.{List}
use Prim.Native.Nat.{ℕ, ◌+◌, ◌-◌, ◌≤◌, ◌<◌}
use lib.ListN.{length-set}
use native.Mathlib.Omega.{arith}
use borrow.Author.Tests.{ltb-false}
use Rattle.listlaws.proofs.Orders.{apart}
use Rattle.clock.specs.declared.Dot.{Dot}
use Rattle.clock.specs.Dots.{dots_of, is_empty}
use Rattle.clock.specs.Lawful.{Lawful}
use Rattle.clock.proofs.Packs.{dots-of}
use Rattle.map.specs.declared.Map.{Map}
use Rattle.map.specs.Model.{seen_by, waiting_in}
use Rattle.maprecords.specs.Related.{read_map}
use Rattle.mapimage.specs.MapImage.{key_number}
use Rattle.queued.specs.Queue.{Marked, Keyed}
use Rattle.sketch.specs.Drawn.{clock_apart}
use Rattle.sketch.proofs.Adding.{sketch-none, push-one, push-over}
use Rattle.merging.specs.Coming.{MergeComes}
use Rattle.merging.proofs.Merges.{drawing-start, fit-both, cut_key, Drew, drew, grown-goes, grown-stays, drawing-on, drawing-end}
use Rattle.merging.proofs.Merges.{comes-seen}
use Rattle.leaving.proofs.Fates.{some_left, none_left}
use Rattle.merging.proofs.drawing.draw_keys.Goals.{After-draw_key-k, After-next-c}
use Rattle.merging.proofs.drawing.draw_keys.Goals as goal

pub loop-x-init : goal.loop-x-init
loop-x-init c =
    let p = c.requires in
    (drawing-start p.0.0.lies p.0.1.lies c.new-sums.ensures.0 (sketch-none c.new-sums.ensures.0 c.new-sums.ensures.1), refl)

pub next-c-requires : goal.next-c-requires
next-c-requires c =
    let w = c.before.before.before in
    let d = w.loop-x.invariant.0 in
    let p = w.requires in
    let a = p.0.0 in
    let b = p.0.1 in (
      c.loop-x-test.true,
      (
        (
          subst (λ z. Lawful (dots_of z)) (sym a.clock) a.lies.within.valid.clock,
          subst (λ z. Lawful (dots_of z)) (sym b.clock) b.lies.within.valid.clock,
        ),
        (d.es, d.fs, d.ours, d.theirs, fit-both d a.lies b.lies p.1.1.1),
      ),
    )

-- what comes next
came : (c : After-next-c) → let w = c.before.before.before.before in
    let a = w.args in
    MergeComes a.s.now a.t.now a.a.layout a.b.layout (seen_by (read_map a.s.now).map) (seen_by (read_map a.t.now).map)
    w.loop-x.x w.loop-x.y w.loop-x.invariant.0.es w.loop-x.invariant.0.fs c.next-c.result
came c =
    let w = c.before.before.before.before in
    let d = w.loop-x.invariant.0 in
    let p = w.requires in
    comes-seen (ap dots_of p.0.0.clock) (ap dots_of p.0.1.clock) (c.next-c.ensures d.es d.fs d.ours d.theirs)

pub listers-ours-requires : goal.listers-ours-requires
listers-ours-requires c = let d = c.loop-x.invariant.0 in
    (d.listed.order, d.listed.within)

pub listers-theirs-requires : goal.listers-theirs-requires
listers-theirs-requires c = let d = c.loop-x.invariant.0 in
    (d.others.order, d.others.within)

pub draw_key-k-requires : goal.draw_key-k-requires
draw_key-k-requires c =
    let k = c.before.before.before.before.before.before.before.before in
    let r = came (goal.at.draw_key-k-requires c).After-next-c in
    let p = k.requires in
    (((r.ours, r.here), (r.theirs, r.there)), ((rw (dots-of r.gone r.lost) r.lawful, p.1.1.0), ((_, p.1.0.0), (_, p.1.0.1))))

pub with-more-requires : goal.with-more-requires
with-more-requires c =
    let d = c.loop-x.invariant.0 in (
      omega (arith, d.few, (came (goal.at.with-more-requires c).After-next-c).fewer),
      (_, d.grown.holds.sums),
    )

-- less is left of both
less : (c : After-next-c) → let w = c.before.before.before.before in
    let a = w.args in
    (a.a.layout.third - c.next-c.result.x.next.own) + (a.b.layout.third - c.next-c.result.y.next.own) < (a.a.layout.third - w.loop-x.x.own) +
    (a.b.layout.third - w.loop-x.y.own)
less c = let r = came c in omega (arith, r.onward, r.outward, r.some, r.ahead.own.order, r.beside.own.order)

pub loop-x-smaller-then-n-lt-ENTRIES : goal.loop-x-smaller-then-n-lt-ENTRIES
loop-x-smaller-then-n-lt-ENTRIES c = less (goal.at.loop-x-smaller-then-n-lt-ENTRIES c).After-next-c

pub loop-x-smaller-else-n-lt-ENTRIES : goal.loop-x-smaller-else-n-lt-ENTRIES
loop-x-smaller-else-n-lt-ENTRIES c = less (goal.at.loop-x-smaller-else-n-lt-ENTRIES c).After-next-c

pub loop-x-smaller : goal.loop-x-smaller
loop-x-smaller c = less (goal.at.loop-x-smaller c).After-next-c

-- both are used up
neither : (a b : Bool) → (a || b) ≡ false → (a ≡ false) × (b ≡ false)
neither true b t = apart t
neither false b t = (refl, t)

pub returns : goal.returns
returns c =
    let o = neither _ _ c.loop-x-test.false in
    drawing-end c.loop-x.invariant.0 (ltb-false _ _ o.0) (ltb-false _ _ o.1)

-- what was drawn of the key that came, and where the keys behind it lie
module _ (c : After-draw_key-k)
    (r : MergeComes c.args.s.now c.args.t.now c.args.a.layout c.args.b.layout (seen_by (read_map c.args.s.now).map)
    (seen_by (read_map c.args.t.now).map) c.loop-x.x c.loop-x.y c.loop-x.invariant.0.es c.loop-x.invariant.0.fs c.next-c.result) where
  abbrev m : Map
  m = (read_map c.args.s.now).map

  abbrev n : Map
  n = (read_map c.args.t.now).map

  abbrev key : ℕ
  key = c.next-c.result.x.key

  bound : c.loop-x.invariant.0.low ≤ key
  bound = let d = c.loop-x.invariant.0 in r.least d.low d.above d.over

  ours : let q = c.listers-ours.result in Marked (waiting_in m) key q.under
      × Keyed c.args.s.now q.next c.args.a.layout.end (key_number 0 (key + 1)) (waiting_in m)
  ours = c.listers-ours.ensures.1 (key_number 0 c.loop-x.invariant.0.low) (waiting_in m) c.loop-x.invariant.0.listed (omega (arith, bound))

  theirs : let q = c.listers-theirs.result in Marked (waiting_in n) key q.under
      × Keyed c.args.t.now q.next c.args.b.layout.end (key_number 0 (key + 1)) (waiting_in n)
  theirs = c.listers-theirs.ensures.1 (key_number 0 c.loop-x.invariant.0.low) (waiting_in n) c.loop-x.invariant.0.others (omega (arith, bound))

  drawn : Drew c.loop-x.invariant.0 r key r.gone c.draw_key-k.result
  drawn =
      let p = c.requires in
      drew c.loop-x.invariant.0 r (c.draw_key-k.ensures r.keep r.ours r.theirs (waiting_in n) (waiting_in m) r.kept r.here r.there
      r.level p.1.0.1 p.1.0.0
      (subst (λ x. Marked (waiting_in n) x c.listers-theirs.result.under) r.here.key theirs.0)
      (subst (λ x. Marked (waiting_in m) x c.listers-ours.result.under) r.here.key ours.0))

  abbrev drawn_dots : List Dot
  drawn_dots = dots_of (clock_apart c.draw_key-k.result.own)

  left : is_empty (cut_key c.loop-x.invariant.0 r) ≡ is_empty drawn_dots
  left = ap is_empty (sym (dots-of (cut_key c.loop-x.invariant.0 r) drawn.0))

pub loop-x-preserved-then-n-lt-ENTRIES : goal.loop-x-preserved-then-n-lt-ENTRIES
loop-x-preserved-then-n-lt-ENTRIES c =
    let v = (goal.at.loop-x-preserved-then-n-lt-ENTRIES c).After-draw_key-k in
    let d = v.loop-x.invariant.0 in
    let long = v.loop-x.invariant.1 in
    let r = came (goal.at.loop-x-preserved-then-n-lt-ENTRIES c).After-next-c in
    let e = left v r ∙ some_left (drawn_dots v r) c.size.ensures.0 c.if-size-ne0.true in
    let s = c.with-more.ensures in (
      drawing-on d r (ours v r).1 (theirs v r).1 (omega (arith, s.0))
          (grown-stays d r e (λ done g. push-one g ((drawn v r).1 e) (s.1 _ _ _ _ _ _ g.sums ((drawn v r).1 e)) s.0 long c.if-n-lt-ENTRIES.true)),
      length-set v.loop-x.items v.loop-x.sums.count v.draw_key-k.result ∙ long,
    )

pub loop-x-preserved-else-n-lt-ENTRIES : goal.loop-x-preserved-else-n-lt-ENTRIES
loop-x-preserved-else-n-lt-ENTRIES c =
    let v = (goal.at.loop-x-preserved-else-n-lt-ENTRIES c).After-draw_key-k in
    let d = v.loop-x.invariant.0 in
    let r = came (goal.at.loop-x-preserved-else-n-lt-ENTRIES c).After-next-c in
    let e = left v r ∙ some_left (drawn_dots v r) c.size.ensures.0 c.if-size-ne0.true in
    let s = c.with-more.ensures in (
      drawing-on d r (ours v r).1 (theirs v r).1 (omega (arith, s.0))
          (grown-stays d r e (λ done g. push-over g ((drawn v r).1 e) (s.1 _ _ _ _ _ _ g.sums ((drawn v r).1 e)) s.0 (omega arith))),
      v.loop-x.invariant.1,
    )

pub loop-x-preserved : goal.loop-x-preserved
loop-x-preserved c =
    let v = (goal.at.loop-x-preserved c).After-draw_key-k in
    let d = v.loop-x.invariant.0 in
    let r = came (goal.at.loop-x-preserved c).After-next-c in (
      drawing-on d r (ours v r).1 (theirs v r).1 (omega arith) (grown-goes d r
          (left v r ∙ none_left (drawn_dots v r) c.size.ensures.0 c.if-size-ne0.false)),
      v.loop-x.invariant.1,
    )
