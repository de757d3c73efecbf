-- A loop that takes a step in order, in place: the marks of the places passed say what the step made of them.
use mathlib.Core.Path.{◌≡◌, refl, ap, ap₂, sym, ◌∙◌}
use mathlib.Core.Bool.{Bool, true, false}
use mathlib.Core.List.{List, [], ◌∷◌, ◌++◌, append-nil}
use Prim.Native.Nat.{ℕ, ◌+◌, ◌≤◌, ◌<◌}
use native.Mathlib.Omega.{arith}
use native.Mathlib.Numerals.{add-one}
use borrow.Author.Tests.{eq-eqb, ne_eqb}
use lib.Dec.{eqb}
use lib.ListN.{length, take, drop, get_or, set, length-set}
use lib.Seq.{take-suc, take-suc-set, take_all, drop-cons, drop-set-lt, get_or-drop}
use Rattle.records.specs.declared.Record.{Record}
use Rattle.salvagerules.specs.Fates.{Fate, staying, tested, taken_after, taken}
use Rattle.culling.specs.Marks.{MarkedRecord, left_items, plain_fate, plain_fates}
use Rattle.culling.proofs.Taking.{map-append, taken-snoc, tested-gone, tested-kept, tested-goes}
use Rattle.culling.proofs.Marked.{no_marked, staying-plain, left-append, left_one, left-none}

-- of the records xs₀, i are passed by step n; xs is what became of all marks
pub record Pass (n : ℕ) (test : List Record → Record → Bool) (xs₀ : List MarkedRecord) (i : ℕ) (xs : List MarkedRecord) : Type 0 where
  pub passed : plain_fates (take i xs) ≡ taken n test (plain_fates (take i xs₀))
  pub ahead : drop i xs ≡ drop i xs₀
  pub long : length xs ≡ length xs₀

module _ {n : ℕ} {test : List Record → Record → Bool} {xs₀ : List MarkedRecord} where
  pub pass-start : Pass n test xs₀ 0 xs₀
  unfolding taken_after
  pass-start = record { passed = refl; ahead = refl; long = refl }

  module _ {i : ℕ} {xs : List MarkedRecord} (g : Pass n test xs₀ i xs) (h : i < length xs₀) where
    pub pass-here : get_or xs i no_marked ≡ get_or xs₀ i no_marked
    pass-here =
        let e : i + 0 ≡ i = omega arith in
        ap (λ k. get_or xs k no_marked) (sym e) ∙ sym (get_or-drop i xs 0 no_marked) ∙ ap (λ l. get_or l 0 no_marked) g.ahead
        ∙ get_or-drop i xs₀ 0 no_marked
        ∙ ap (λ k. get_or xs₀ k no_marked) e

    more : (f : Fate) → tested n test (left_items 0 (take i xs)) (plain_fate (get_or xs i no_marked)) ≡ f
        → taken n test (plain_fates (take (i + 1) xs₀)) ≡ plain_fates (take i xs) ++ (f ∷ [])
    more f e =
        let fates = plain_fates (take i xs₀) in
        rw (add-one i)
        (ap (λ l. taken n test (plain_fates l)) (take-suc xs₀ i no_marked h)
        ∙ ap (taken n test) (map-append plain_fate (take i xs₀) (get_or xs₀ i no_marked ∷ []))
        ∙ taken-snoc n test fates (plain_fate (get_or xs₀ i no_marked))
        ∙ ap₂ (λ t s. t ++ (tested n test s (plain_fate (get_or xs₀ i no_marked)) ∷ [])) (sym g.passed)
        (ap staying (sym g.passed) ∙ staying-plain (take i xs))
        ∙ ap (λ z. plain_fates (take i xs) ++ (tested n test (left_items 0 (take i xs)) (plain_fate z) ∷ [])) (sym pass-here)
        ∙ ap (λ t. plain_fates (take i xs) ++ (t ∷ [])) e)

    next : drop (i + 1) xs ≡ drop (i + 1) xs₀
    next = rw (add-one i)
        (ap (drop 1) (sym (drop-cons xs i no_marked (omega (arith, g.long)))) ∙ ap (drop 1) g.ahead ∙ ap (drop 1) (drop-cons xs₀ i no_marked h))

    -- the mark stays as it is
    pub pass_same : tested n test (left_items 0 (take i xs)) (plain_fate (get_or xs i no_marked)) ≡ plain_fate (get_or xs i no_marked)
        → Pass n test xs₀ (i + 1) xs
    pass_same e = record {
      passed = rw (add-one i) (ap plain_fates (take-suc xs i no_marked (omega (arith, g.long))) ∙ map-append plain_fate (take i xs) _)
          ∙ sym (more _ e);
      ahead = next;
      long = g.long;
    }

    -- another mark is set
    pub pass-set : (z : MarkedRecord) → tested n test (left_items 0 (take i xs)) (plain_fate (get_or xs i no_marked)) ≡ plain_fate z
        → Pass n test xs₀ (i + 1) (set xs i z)
    pass-set z e = record {
      passed = rw (add-one i) (ap plain_fates (take-suc-set xs i z (omega (arith, g.long))) ∙ map-append plain_fate (take i xs) _)
          ∙ sym (more _ e);
      ahead = drop-set-lt (i + 1) xs i z (omega arith) ∙ next;
      long = length-set xs i z ∙ g.long;
    }

    -- the three ways of a record
    pub pass-gone : ((get_or xs i no_marked).mark ≡ 0 → ⊥) → Pass n test xs₀ (i + 1) xs
    pass-gone k = pass_same (tested-gone n test _ _ (ne_eqb _ 0 k))

    pub pass_kept : test (left_items 0 (take i xs)) (get_or xs i no_marked).item ≡ true → Pass n test xs₀ (i + 1) xs
    pass_kept t = pass_same (tested-kept n test _ _ t)

    pub pass-goes : (z : MarkedRecord) → (get_or xs i no_marked).mark ≡ 0 → test (left_items 0 (take i xs)) (get_or xs i no_marked).item ≡ false
        → z.mark ≡ n → z.item ≡ (get_or xs i no_marked).item → (n ≡ 0 → ⊥) → Pass n test xs₀ (i + 1) (set xs i z)
    pass-goes z k t m w p = pass-set z
        (tested-goes n test _ _ (eq-eqb _ 0 k) t
        ∙ sym (λ j. record { item = w j; stays = (ap (λ q. eqb q 0) m ∙ ne_eqb n 0 p) j; step = m j }))

  pub pass-end : {i : ℕ} {xs : List MarkedRecord} → Pass n test xs₀ i xs → length xs₀ ≤ i → plain_fates xs ≡ taken n test (plain_fates xs₀)
  pass-end {i} {xs} g h =
      sym (ap plain_fates (take_all i xs (omega (arith, g.long)))) ∙ g.passed ∙ ap (λ l. taken n test (plain_fates l)) (take_all i xs₀ h)

-- what stays of the places passed, with one more
module _ (xs : List MarkedRecord) (i : ℕ) (h : i < length xs) where
  pub kept_more : (get_or xs i no_marked).mark ≡ 0 → left_items 0 (take (i + 1) xs) ≡ left_items 0 (take i xs) ++ ((get_or xs i no_marked).item ∷ [])
  kept_more e = rw (add-one i) (ap (left_items 0) (take-suc xs i no_marked h) ∙ left-append 0 (take i xs) _
      ∙ ap (λ l. left_items 0 (take i xs) ++ l) (left_one 0 (get_or xs i no_marked) (rw (eq-eqb _ 0 e))))

  pub kept_same : ((get_or xs i no_marked).mark ≡ 0 → ⊥) → left_items 0 (take (i + 1) xs) ≡ left_items 0 (take i xs)
  kept_same e = rw (add-one i) (ap (left_items 0) (take-suc xs i no_marked h) ∙ left-append 0 (take i xs) _
      ∙ ap (λ l. left_items 0 (take i xs) ++ l) (left-none 0 (get_or xs i no_marked) (rw (ne_eqb _ 0 e))) ∙ append-nil _)

  pub kept-gone : (z : MarkedRecord) → (z.mark ≡ 0 → ⊥) → left_items 0 (take (i + 1) (set xs i z)) ≡ left_items 0 (take i xs)
  kept-gone z e = rw (add-one i) (ap (left_items 0) (take-suc-set xs i z h) ∙ left-append 0 (take i xs) _
      ∙ ap (λ l. left_items 0 (take i xs) ++ l) (left-none 0 z (rw (ne_eqb _ 0 e))) ∙ append-nil _)
