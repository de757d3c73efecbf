-- The values of both sides that stand, where they lie and what is left of them.
use mathlib.Core.Path.{◌≡◌, ap, sym, ◌∙◌}
use mathlib.Core.Bool.{Bool}
use mathlib.Core.List.{List, ◌++◌}
use Rattle.listlaws.specs.Sift.{sift}
use Rattle.listlaws.proofs.Sifts.{sift-append}
use Rattle.clock.specs.declared.Dot.{Dot}
use Rattle.register.specs.Values.{alive, merge_values}
use Rattle.entries.specs.declared.Entry.{Entry}
use Rattle.removals.specs.declared.Removal.{Removal}
use Rattle.entries.specs.Model.{values_in}
use Rattle.marks.specs.Marks.{picked}
use Rattle.leaving.specs.Left.{value_left}

pub both_left : (ours theirs : List Removal) (gone : List Dot) (e f : Entry) (x y : List Bool) → f.key ≡ e.key
    → picked x (values_in e) ++ picked y (values_in f) ≡ merge_values (values_in e) (values_in f)
    → sift alive (value_left ours theirs e.key gone) (picked x (values_in e)) ++ sift alive (value_left ours theirs f.key gone)
    (picked y (values_in f))
    ≡ sift alive (value_left ours theirs e.key gone) (merge_values (values_in e) (values_in f))
both_left ours theirs gone e f x y same q =
    let change = value_left ours theirs e.key gone in
    ap (λ k. sift alive change (picked x (values_in e)) ++ sift alive (value_left ours theirs k gone) (picked y (values_in f))) same
    ∙ sym (sift-append alive change (picked x (values_in e)) (picked y (values_in f)))
    ∙ ap (sift alive change) q
