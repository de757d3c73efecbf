-- `count_sources` meets its contract: the loop adds up what each stands for.
use mathlib.Core.Path.{◌≡◌, ap, subst}
use mathlib.Core.List.{List}
use lib.ListN.{length, take, get_or, length-take}
use native.Mathlib.Omega.{arith}
use borrow.Author.Rules.{rules}
use Rattle.limits.specs.Limits.{value_limit}
use Rattle.listlaws.specs.Fold.{total_of}
use Rattle.listlaws.specs.Order.{◌∈◌}
use Rattle.listlaws.proofs.Pads.{unmapped}
use Rattle.listlaws.proofs.SliceRests.{in_list}
use Rattle.marks.specs.Marks.{marks_set}
use Rattle.sketch.specs.declared.Source.{Source}
use Rattle.sketch.specs.Drawn.{source_size}
use Rattle.sketch.proofs.Counts.{total_on, total-end}
use Rattle.sketch.proofs.Sources.{no_source_read}
use Rattle.sketch.proofs.counting.count_sources.Goals as goal

pub loop-x-init : goal.loop-x-init
loop-x-init c = (omega arith, λ s t h. omega arith)

pub loop-x-preserved : goal.loop-x-preserved
loop-x-preserved c =
    let items = c.as_slice-x-items.result.now in
    let i = c.loop-x.x-index in
    let r = c.run_length.ensures in
    let n = c.count_marks.ensures in (
      omega (arith, c.loop-x.invariant.0, n.1, r.0),
      λ s t h.
          let p = h.each _ (subst (λ (z : List Source). get_or items i no_source_read ∈ z) c.as_slice-x-items.ensures
          (in_list items i no_source_read c.loop-x-test.true)) in
          let m = ap (λ j. marks_set (take j (get_or items i no_source_read).marks)) (r.1 _ p) in
          omega (arith, c.loop-x.invariant.1 s t h, total_on source_size items i no_source_read c.loop-x-test.true, n.0, m),
    )

pub returns : goal.returns
returns c =
    let e = c.args.e in
    let room : length e.sources ≡ value_limit = search (rules, unmapped) in
    let items = c.as_slice-x-items.result.now in (
      omega (arith, c.loop-x.invariant.0, ap length c.as_slice-x-items.ensures, length-take e.len e.sources),
      λ s t h. omega (
        arith,
        c.loop-x.invariant.1 s t h,
        total-end source_size items c.loop-x.x-index (omega arith),
        ap (total_of source_size) c.as_slice-x-items.ensures,
      ),
    )
