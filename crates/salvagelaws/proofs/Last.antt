-- Step 3 in the request's own words: of records that ascend, what stands above the last stands above all.
use mathlib.Core.Path.{◌≡◌, refl, sym, ◌∙◌}
use mathlib.Core.Bool.{true}
use mathlib.Core.Logic.{⊎_elim}
use mathlib.Core.List.Memᴰ
use mathlib.Core.List.{List, [], ◌∷◌, ◌++◌}
use Rattle.listlaws.specs.Order.{Ascending}
use Rattle.listlaws.proofs.Orders.{apart}
use Rattle.records.specs.declared.Record.{Record}
use Rattle.records.specs.Kinds.{before}
use Rattle.scan.specs.Each.{every}
use Rattle.scan.proofs.Eachs.{decide, every-at, every_of}
use Rattle.salvagelaws.proofs.Walks.{left-before}
use Rattle.salvagelaws.proofs.Stages.{above_kept}
use Rattle.salvagelaws.proofs.Fifth.{records-lead}

pub above-last : (seen : List Record) (last r : Record) → Ascending before (seen ++ (last ∷ [])) → above_kept (seen ++ (last ∷ [])) r ≡ before last r
above-last seen last r a =
    decide (before last r)
    (λ t. every_of (λ s. before s r) (seen ++ (last ∷ []))
    (λ s i. ⊎_elim
    (λ j. records-lead s last r (left-before a (record { left = seen; right = []; parts = refl }) s j) t)
    (λ j. let e : s ≡ last = Memᴰ.eq_of_singleton j in rw e t)
    (Memᴰ.append_cases seen i)) ∙ sym t)
    (λ f. decide (above_kept (seen ++ (last ∷ [])) r)
    (λ t. apart (sym (every-at (λ s. before s r) (seen ++ (last ∷ [])) last t (Memᴰ.append_right seen (Memᴰ.head refl))) ∙ f))
    (λ u. u ∙ sym f))

-- the first stands above none
pub above-none : (r : Record) → above_kept [] r ≡ true
unfolding every
above-none r = refl
