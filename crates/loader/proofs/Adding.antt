-- What is reported of some values and one more.
use mathlib.Core.Path.{◌≡◌, refl, ap, ap₂, sym, ◌∙◌}
use mathlib.Core.Bool.{true, false, not, ◌||◌}
use mathlib.Core.List.Memᴰ
use mathlib.Core.List.{List, [], ◌∷◌, ◌++◌}
use Prim.Native.Nat.{ℕ, ◌+◌, ◌<◌, ◌≤◌, min}
use native.Mathlib.Omega.{arith}
use lib.Dec.{eqb, ltb, eqb-suc-zero}
use lib.ListN.{length}
use borrow.Author.Tests.{eq-eqb, ne_eqb, ltb-true, ltb-false}
use Rattle.listlaws.specs.First.{first_in, some}
use Rattle.listlaws.specs.Fold.{fold}
use Rattle.listlaws.proofs.Folds.{fold-append}
use Rattle.listlaws.proofs.Pads.{length-snoc}
use Rattle.listlaws.proofs.Somes.{some_holds}
use Rattle.listlaws.proofs.Tally.{some-snoc}
use Rattle.listlaws.proofs.Orders.{apart}
use Rattle.scan.proofs.Eachs.{decide}
use Rattle.register.specs.declared.Value.{Value}
use Rattle.loader.specs.declared.Report.{Report}
use Rattle.loader.specs.Choice.{smallest, another, differ, report_on}
use Rattle.loader.proofs.Smallest.{lower, smallest-stands, differ-smallest}

module _ (w : Value) (m : List Value) (v : Value) where
  abbrev before : List Value
  before = w ∷ m

  abbrev after : List Value
  after = before ++ (v ∷ [])

  smallest-more : smallest after ≡ min (smallest before) v.value.number
  unfolding smallest fold
  smallest-more = fold-append lower w.value.number m (v ∷ [])

  differ-more : differ after ≡ (some (another (smallest after)) before || another (smallest after) v)
  differ-more = differ-smallest after ∙ some-snoc (another (smallest after)) before v

  -- a smaller one
  module _ (h : v.value.number < smallest before) where
    now-smallest : smallest after ≡ v.value.number
    now-smallest = let e = smallest-more in omega arith

    now-differ : differ after ≡ true
    now-differ =
        let s = smallest-stands before (Memᴰ.head refl) in
        let t : another v.value.number s.0 ≡ true = ap not (ne_eqb _ _ (λ (e : v.value.number ≡ s.0.value.number). let q = s.2 in
        omega (arith, e))) in
        differ-more ∙ ap (λ n. some (another n) before || another n v) now-smallest
        ∙ ap (λ b. b || another v.value.number v) (some_holds (another v.value.number) s.1 t)

  -- one as small or larger
  module _ (h : smallest before ≤ v.value.number) where
    still-smallest : smallest after ≡ smallest before
    still-smallest = let e = smallest-more in omega arith

    still-differ : differ after ≡ (differ before || ltb (smallest before) v.value.number)
    still-differ =
        differ-more ∙ ap (λ n. some (another n) before || another n v) still-smallest
        ∙ ap₂ (λ a b. a || b) (sym (differ-smallest before)) (same (smallest before) v.value.number h)
      where
        same : (a b : ℕ) → a ≤ b → not (eqb a b) ≡ ltb a b
        same a b k = decide (ltb a b) (λ t. let h = ltb-true a b t in rw t (ap not (ne_eqb a b (λ (e : a ≡ b). omega arith))))
            (λ f. let h = ltb-false a b f in rw f (ap not (eq-eqb a b (omega arith))))

-- where something is found there is a value
some-there : {r : Report} (l : List Value) → r ≡ report_on l → r.found ≡ true → (w : Value) × (m : List Value) × (l ≡ w ∷ m)
some-there [] e z = apart (sym z ∙ ap (λ (x : Report). x.found) e)
some-there (w ∷ m) e z = (w, m, refl)

-- a report, and what it becomes
module _ {r : Report} {n : ℕ} where
  -- of the first value
  pub first_more : (l : List Value) (v : Value) → r ≡ report_on l → n ≡ v.value.number → r.found ≡ false
      → record { count = r.count + 1; differ = false; found = true; value = n } ≡ report_on (l ++ (v ∷ []))
  unfolding smallest differ fold first_in
  first_more [] v e f z =
      let alone : not (eqb v.value.number v.value.number) ≡ false = ap not (eq-eqb v.value.number v.value.number refl) in
      let c : r.count + 1 ≡ 1 = ap (λ (x : Report). x.count + 1) e in
      rw (c, f, alone)
  first_more (w ∷ m) v e f z = apart (ap not (sym (eqb-suc-zero (length m))) ∙ sym (ap (λ (x : Report). x.found) e) ∙ z)

  -- of a value more
  module _ (l : List Value) (v : Value) (e : r ≡ report_on l) (f : n ≡ v.value.number) (z : r.found ≡ true) where
    count-more : r.count + 1 ≡ length (l ++ (v ∷ []))
    count-more = ap (λ (x : Report). x.count + 1) e ∙ sym (length-snoc l v)

    found-more : true ≡ not (eqb (length (l ++ (v ∷ []))) 0)
    found-more = sym (ap not (ne_eqb (length (l ++ (v ∷ []))) 0 (λ (q : length (l ++ (v ∷ [])) ≡ 0). omega (arith, count-more))))

    pub lower-more : n < r.value → record { count = r.count + 1; differ = true; found = true; value = n } ≡ report_on (l ++ (v ∷ []))
    lower-more h =
        let (w, m, q) = some-there l e z in
        let k : v.value.number < smallest (w ∷ m) = let s = ap (λ (x : Report). x.value) e in omega (arith, ap smallest q) in
        λ i. record {
          count = count-more i;
          differ = (sym (now-differ w m v k) ∙ ap (λ x. differ (x ++ (v ∷ []))) (sym q)) i;
          found = found-more i;
          value = (f ∙ sym (now-smallest w m v k) ∙ ap (λ x. smallest (x ++ (v ∷ []))) (sym q)) i;
        }

    pub upper-more : r.value ≤ n → record { count = r.count + 1; differ = r.differ || ltb r.value n; found = true; value = r.value } ≡ report_on
        (l ++ (v ∷ []))
    upper-more h =
        let (w, m, q) = some-there l e z in
        let s : r.value ≡ smallest (w ∷ m) = ap (λ (x : Report). x.value) e ∙ ap smallest q in
        let d : r.differ ≡ differ (w ∷ m) = ap (λ (x : Report). x.differ) e ∙ ap differ q in
        let k : smallest (w ∷ m) ≤ v.value.number = omega arith in
        λ i. record {
          count = count-more i;
          differ =
              (ap₂ (λ a b. a || b) d (ap₂ ltb s f) ∙ sym (still-differ w m v k) ∙ ap (λ x. differ (x ++ (v ∷ []))) (sym q)) i;
          found = found-more i;
          value = (s ∙ sym (still-smallest w m v k) ∙ ap (λ x. smallest (x ++ (v ∷ []))) (sym q)) i;
        }
