-- `needs_met` meets its contract: each kind looks for what it needs.
use mathlib.Core.Path.{refl, ap, ap₂, ◌∙◌}
use mathlib.Core.Bool.{◌&&◌}
use Prim.Native.Nat.{◌/◌}
use native.Mathlib.Omega.{arith}
use lib.ListN.{length, take}
use lib.Seq.{take_all}
use borrow.Author.Tests.{eq-eqb, ne_eqb}
use Rattle.listlaws.specs.First.{some}
use Rattle.culling.specs.Marks.{marked_of, left_items}
use Rattle.culling.specs.Looking.{is_wanted}
use Rattle.maprecords.specs.Reading.{under_both}
use Rattle.culling.proofs.Marked.{count-marked}
use Rattle.culling.proofs.Looked.{by_index, by_key, by_both, by-dot}
use Rattle.culling.proofs.needs_met.Goals as goal

pub returns-then-r-eq-ENTRY_DOT : goal.returns-then-r-eq-ENTRY_DOT
returns-then-r-eq-ENTRY_DOT c =
    let a = c.args in
    let l = left_items 0 (take a.i (marked_of a.marks.now a.image.now)) in
    rw (eq-eqb _ 2 c.if-r-eq-ENTRY_DOT.true) (c.has_left.ensures ∙ ap (λ w. some (is_wanted w) l) c.of_dot.ensures
    ∙ by-dot l a.r)

pub returns-then-r-eq-VALUE : goal.returns-then-r-eq-VALUE
returns-then-r-eq-VALUE c =
    let a = c.args in
    let p = c.requires in
    let xs = marked_of a.marks.now a.image.now in
    let l = left_items 0 (take a.i xs) in
    let m = left_items 4 (take (length a.image.now / 16) xs) in
    rw (ne_eqb _ 2 c.if-r-eq-ENTRY_DOT.false, eq-eqb _ 3 c.if-r-eq-VALUE.true)
    (ap₂ (λ x y. x && y)
    (c.has_left-entered.ensures ∙ ap (λ w. some (is_wanted w) l) c.of_key.ensures ∙ by_key l 2 _)
    (c.has_left-dotted.ensures ∙ ap (λ w. some (is_wanted w) m) c.of_both.ensures ∙ by_both m 4 _ _
    ∙ ap (λ t. some (under_both 4 a.r.key a.r.index) (left_items 4 t)) (take_all (length a.image.now / 16) xs (omega (
      arith,
      count-marked a.marks.now a.image.now p.1,
    )))))

pub returns-then-r-eq-VALUE_DOT : goal.returns-then-r-eq-VALUE_DOT
returns-then-r-eq-VALUE_DOT c =
    let a = c.args in
    let l = left_items 0 (take a.i (marked_of a.marks.now a.image.now)) in
    rw (
      ne_eqb _ 2 c.if-r-eq-ENTRY_DOT.false,
      ne_eqb _ 3 c.if-r-eq-VALUE.false,
      eq-eqb _ 4 c.if-r-eq-VALUE_DOT.true,
    )
    (c.has_left-then-r-eq-VALUE_DOT.ensures ∙ ap (λ w. some (is_wanted w) l) c.of_both-then-r-eq-VALUE_DOT.ensures ∙ by_both l 3 _ _)

pub returns-then-r-eq-WAITING_KEY : goal.returns-then-r-eq-WAITING_KEY
returns-then-r-eq-WAITING_KEY c =
    let a = c.args in
    let l = left_items 0 (take a.i (marked_of a.marks.now a.image.now)) in
    rw (
      ne_eqb _ 2 c.if-r-eq-ENTRY_DOT.false,
      ne_eqb _ 3
          c.if-r-eq-VALUE.false,
      ne_eqb _ 4 c.if-r-eq-VALUE_DOT.false,
      eq-eqb _ 6
          c.if-r-eq-WAITING_KEY.true,
    )
    (c.has_left-then-r-eq-WAITING_KEY.ensures ∙ ap (λ w. some (is_wanted w) l) c.of_index.ensures ∙ by_index l 5 _)

pub returns : goal.returns
returns c =
    rw (
      ne_eqb _ 2 c.if-r-eq-ENTRY_DOT.false,
      ne_eqb _ 3 c.if-r-eq-VALUE.false,
      ne_eqb _ 4 c.if-r-eq-VALUE_DOT.false,
      ne_eqb _ 6 c.if-r-eq-WAITING_KEY.false,
    ) refl
