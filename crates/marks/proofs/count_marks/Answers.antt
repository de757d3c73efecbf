-- `count_marks` meets its contract: what is counted are the marks that are set.
use Rattle.std.proofs.Common.{rules, ◌≡◌, arith, length, take, Bool, List, [], ◌∷◌, true, false, refl, ap, sym, ◌∙◌, length-take}
use Rattle.std.specs.List.{filter, count_by}
use Rattle.std.proofs.lemmas.List.Sums.{length-filter, count_by-le-length}
use Rattle.listlaws.specs.Sift.{sift, those}
use Rattle.marks.specs.Marks.{marks_set}
use Rattle.marks.proofs.count_marks.Goals as goal

set-marks : (bs : List Bool) → filter (λ b. b) bs ≡ those (λ b. b) bs
unfolding sift
set-marks [] = refl
set-marks (true ∷ bs) = ap (λ l. true ∷ l) (set-marks bs)
set-marks (false ∷ bs) = set-marks bs

pub returns : goal.returns
returns c =
    let bs = take c.args.n c.args.marks in
    let e : c.count.result ≡ count_by (λ b. b) bs = search rules in
    let h : count_by (λ b. b) bs ≡ marks_set bs = sym (length-filter (λ b. b) bs) ∙ ap length (set-marks bs) in
    (e ∙ h, omega (arith, e, h, count_by-le-length (λ b. b) bs, length-take c.args.n c.args.marks))
