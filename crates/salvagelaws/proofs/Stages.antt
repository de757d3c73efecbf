-- The records that each step leaves, and that what step 4 leaves is well formed and within the limits.
use mathlib.Core.Path.{◌≡◌, refl, ap, sym, ◌∙◌}
use mathlib.Core.Bool.{Bool, true, ◌&&◌}
use mathlib.Core.List.{List, [], ◌∷◌, ◌++◌, map}
use lib.Dec.{eqb}
use borrow.Author.Tests.{eqb-true}
use Rattle.listlaws.specs.Order.{◌∈◌, Ascending, nil, next}
use Rattle.listlaws.specs.Sift.{sift}
use Rattle.records.specs.declared.Record.{Record}
use Rattle.records.specs.Kinds.{record_ok, before}
use Rattle.records.proofs.RoundTrips.{by-fields}
use Rattle.scan.specs.Each.{every, each_after, each}
use Rattle.scan.specs.Limits.{room, within}
use Rattle.scan.specs.Numbers.{scan_number}
use Rattle.scan.proofs.Eachs.{decide, both, both_left, both_right, every-at}
use Rattle.scan.proofs.Builds.{formed-of}
use Rattle.salvagerules.specs.Fates.{Fate, untouched, staying}
use Rattle.salvagerules.specs.Needs.{need_met, kept_by_four}
use Rattle.salvagerules.specs.Indexes.{new_index, with_index, kept_by_five}
use Rattle.salvagerules.specs.Steps.{step_two, step_three, step_four, step_five, fates_of, renumbered, salvaged, in_order_by}
use Rattle.salvagelaws.proofs.Walks.{each_at, kept, kept-means, kept-each, kept-ascends, staying-taken}

-- good by itself; above all that stay
abbrev pub good_alone : List Record → Record → Bool
good_alone seen r = record_ok 1 6 r

abbrev pub above_kept : List Record → Record → Bool
above_kept seen r = every (λ s. before s r) seen

abbrev pub left_by_two : List Record → List Record
left_by_two l = kept good_alone l

abbrev pub left_by_three : List Record → List Record
left_by_three l = kept above_kept (left_by_two l)

abbrev pub left_by_four : List Record → List Record
left_by_four l = kept (kept_by_four (left_by_three l)) (left_by_three l)

-- of those that step 4 left: what stays, and each with its new index
abbrev pub united : List Record → List Record
united k = kept (kept_by_five k) k

abbrev pub renamed : List Record → Record → Record
renamed k r = with_index (new_index k r) r

abbrev pub closed : List Record → List Record
closed k = map (renamed k) (united k)

pub staying-came : (l : List Record) → staying (map untouched l) ≡ l
unfolding sift
staying-came [] = refl
staying-came (r ∷ l) = ap (λ m. r ∷ m) (staying-came l)

staying-named : (k : List Record) (l : List Fate) → staying (map (renumbered k) l) ≡ map (renamed k) (staying l)
unfolding sift
staying-named k [] = refl
staying-named k (f ∷ l) =
    decide f.stays
    (λ s. decide (eqb (new_index k f.item) f.item.index)
    (λ t. rw (s, t) (ap (λ m. f.item ∷ m) (staying-named k l) ∙ ap (λ r. r ∷ map (renamed k) (staying l)) (same t)))
    (λ t. rw (s, t) (ap (λ m. renamed k f.item ∷ m) (staying-named k l))))
    (λ s. rw s (staying-named k l))
  where
    same : eqb (new_index k f.item) f.item.index ≡ true → f.item ≡ renamed k f.item
    same t = by-fields refl (sym (eqb-true (new_index k f.item) f.item.index t)) refl refl refl

module _ (l : List Record) where
  pub staying-two : staying (step_two (map untouched l)) ≡ left_by_two l
  unfolding step_two
  staying-two = staying-taken 2 good_alone [] (map untouched l) ∙ ap (kept good_alone) (staying-came l)

  pub staying-three : staying (step_three (step_two (map untouched l))) ≡ left_by_three l
  unfolding step_three
  staying-three = staying-taken 3 above_kept [] (step_two (map untouched l)) ∙ ap (kept above_kept) staying-two

  pub staying-four : staying (step_four (step_three (step_two (map untouched l)))) ≡ left_by_four l
  unfolding step_four
  staying-four =
      staying-taken 4 (kept_by_four (staying (step_three (step_two (map untouched l))))) [] (step_three (step_two (map untouched l)))
      ∙ ap (λ m. kept (kept_by_four m) m) staying-three

  pub staying-five : staying (fates_of l) ≡ closed (left_by_four l)
  unfolding fates_of step_five
  staying-five =
      let f = step_four (step_three (step_two (map untouched l))) in
      staying-named (staying f) _ ∙ ap (map (renamed (staying f))) (staying-taken 5 (kept_by_five (staying f)) [] f) ∙ ap closed staying-four

  pub salvaged-is : salvaged l ≡ in_order_by before (closed (left_by_four l))
  unfolding salvaged
  salvaged-is = ap (in_order_by before) staying-five

-- two tests that each passes
module _ {A : Type 0} (p q : List A → A → Bool) where
  each-left-after : (seen l : List A) → each_after (λ s x. p s x && q s x) seen l ≡ true → each_after p seen l ≡ true
  unfolding each_after
  each-left-after seen [] e = refl
  each-left-after seen (x ∷ l) e =
      both (p seen x) _ (both_left (p seen x) (q seen x) (both_left (p seen x && q seen x) _ e))
      (each-left-after (seen ++ (x ∷ [])) l (both_right (p seen x && q seen x) _ e))

  each-right-after : (seen l : List A) → each_after (λ s x. p s x && q s x) seen l ≡ true → each_after q seen l ≡ true
  unfolding each_after
  each-right-after seen [] e = refl
  each-right-after seen (x ∷ l) e =
      both (q seen x) _ (both_right (p seen x) (q seen x) (both_left (p seen x && q seen x) _ e))
      (each-right-after (seen ++ (x ∷ [])) l (both_right (p seen x && q seen x) _ e))

  each-both-after : (seen l : List A) → each_after p seen l ≡ true → each_after q seen l ≡ true → each_after (λ s x. p s x && q s x) seen l ≡ true
  unfolding each_after
  each-both-after seen [] e f = refl
  each-both-after seen (x ∷ l) e f =
      both (p seen x && q seen x) _ (both (p seen x) (q seen x) (both_left (p seen x) _ e) (both_left (q seen x) _ f))
      (each-both-after (seen ++ (x ∷ [])) l (both_right (p seen x) _ e) (both_right (q seen x) _ f))

  pub each_left : (l : List A) → each (λ s x. p s x && q s x) l ≡ true → each p l ≡ true
  each_left l e = each-left-after [] l e

  pub each_right : (l : List A) → each (λ s x. p s x && q s x) l ≡ true → each q l ≡ true
  each_right l e = each-right-after [] l e

  pub each_both : (l : List A) → each p l ≡ true → each q l ≡ true → each (λ s x. p s x && q s x) l ≡ true
  each_both l e f = each-both-after [] l e f

-- records each of which stands above all before it ascend
ascends-above : (seen l : List Record) → each_after above_kept seen l ≡ true
    → ((s x : Record) → s ∈ seen → x ∈ l → before s x ≡ true) × Ascending before l
unfolding each_after
ascends-above seen [] e = ((λ s x i j. absurd (mathlib.Core.List.Memᴰ.not-nil j)), nil)
ascends-above seen (y ∷ l) e =
    let (f, a) = ascends-above (seen ++ (y ∷ [])) l (both_right (above_kept seen y) _ e) in (
      (λ s x i j. mathlib.Core.Logic.⊎_elim
          (λ (q : x ≡ y). rw q (every-at (λ s. before s y) seen s (both_left (above_kept seen y) _ e) i))
          (λ k. f s x (mathlib.Core.List.Memᴰ.append_left (y ∷ []) i) k) (mathlib.Core.List.Memᴰ.cases_cons j)),
      next (λ x j. f y x (mathlib.Core.List.Memᴰ.append_right seen (mathlib.Core.List.Memᴰ.head refl)) j) a,
    )

module _ (l : List Record) where
  pub three-good : (x : Record) → x ∈ left_by_three l → record_ok 1 6 x ≡ true
  three-good x i = (each_at good_alone (left_by_two l) (kept-each good_alone l) (kept-means above_kept [] (left_by_two l) i)).1

  pub three-ascends : Ascending before (left_by_three l)
  three-ascends = (ascends-above [] (left_by_three l) (kept-each above_kept (left_by_two l))).1

  pub four-three : {x : Record} → x ∈ left_by_four l → x ∈ left_by_three l
  four-three i = kept-means (kept_by_four (left_by_three l)) [] (left_by_three l) i

  pub four-ascends : Ascending before (left_by_four l)
  four-ascends = kept-ascends (kept_by_four (left_by_three l)) [] (left_by_three l) three-ascends

  pub four-each : each (kept_by_four (left_by_three l)) (left_by_four l) ≡ true
  four-each = kept-each (kept_by_four (left_by_three l)) (left_by_three l)

  pub four-within : within (left_by_four l) ≡ true
  unfolding within
  four-within = each_right (need_met (left_by_three l)) room (left_by_four l) four-each

  pub four-scan : scan_number 1 6 (left_by_four l) ≡ 0
  unfolding scan_number
  four-scan = rw (formed-of 1 6 (left_by_four l) four-ascends (λ x i. three-good x (four-three i)), four-within)
