-- The walk from the start of an operation to its end.
use mathlib.Core.Path.{◌≡◌, refl, ap, sym, ◌∙◌}
use mathlib.Core.Bool.{true, false}
use mathlib.Core.List.{List, [], ◌∷◌, ◌++◌, append-nil}
use Prim.Native.Nat.{ℕ, ◌+◌, ◌-◌, ◌≤◌, ◌<◌}
use native.Mathlib.Omega.{arith}
use lib.Dec.{eqb}
use lib.ListN.{length, take, drop, length-drop, take-append-drop}
use lib.Seq.{drop-drop, take-add, take_all, drop-length}
use Rattle.listlaws.proofs.Orders.{apart}
use Rattle.promises.specs.CatchUp.{head_first, in_front, less_than_record, operations_of}
use Rattle.operations.specs.Walking.{EndsAt}
use Rattle.promises.proofs.Cuts.{cut-less, cut-nothing, cut_on, in-front-on, no-head}

-- no head has come between `at` and p
pub record Walked (list : List ℕ) (at p : ℕ) : Type 0 where
  pub left : operations_of (drop at list) ≡ in_front (take (p - at) (drop at list)) (head_first (drop p list)) (operations_of (drop p list))

some : (s : List ℕ) → 0 < length s → less_than_record s ≡ s ∷ []
unfolding less_than_record
some [] z = apart (let e : ◌≡◌ {A = ℕ} 0 1 = omega arith in ap (λ n. eqb n 0) e)
some (x ∷ s) z = refl

joined : (k : ℕ) (s : List ℕ) {t : List ℕ} → drop k s ≡ t → take k s ++ t ≡ s
joined k s e = rw (← e) (take-append-drop k s)

last : (b s : List ℕ) → in_front b false (less_than_record s) ≡ (b ++ s) ∷ []
unfolding in_front less_than_record
last b [] = ap (λ l. l ∷ []) (sym (append-nil b))
last b (x ∷ s) = refl

module _ (list : List ℕ) (at : ℕ) where
  beyond : (p : ℕ) → at ≤ p → drop (p - at) (drop at list) ≡ drop p list
  beyond p h = drop-drop (p - at) at list ∙ ap (λ n. drop n list) (let e : at + (p - at) ≡ p = omega arith in e)

  pub walked_start : at + 16 ≤ length list → Walked list at (at + 16)
  walked_start h =
      let e : at + 16 - at ≡ 16 = omega arith in
      record { left = cut_on (drop at list) (omega (arith, length-drop at list)) ∙ rw (e, drop-drop 16 at list) refl }

  module _ (p : ℕ) (h : at < p) (w : Walked list at p) where
    record_on : p + 16 ≤ length list → head_first (drop p list) ≡ false → Walked list at (p + 16)
    record_on l f =
        let e : p + 16 - at ≡ (p - at) + 16 = omega arith in
        let longer : take (p + 16 - at) (drop at list) ≡ take (p - at) (drop at list) ++ take 16 (drop p list)
        = ap (λ n. take n (drop at list)) e ∙ take-add (p - at) 16 (drop at list)
        ∙ ap (λ s. take (p - at) (drop at list) ++ take 16 s) (beyond p (omega arith)) in
        record {
          left = w.left
              ∙ ap (λ b. in_front (take (p - at) (drop at list)) b (operations_of (drop p list))) f
              ∙ ap (in_front (take (p - at) (drop at list)) false) (cut_on (drop p list) (omega (arith, length-drop p list))
              ∙ rw (drop-drop 16 p list) refl)
              ∙ in-front-on (take (p - at) (drop at list)) (take 16 (drop p list)) (head_first (drop (p + 16) list))
              (operations_of (drop (p + 16) list))
              ∙ ap (λ b. in_front b (head_first (drop (p + 16) list)) (operations_of (drop (p + 16) list))) (sym longer);
        }

    pub walked_on : {q : ℕ} → q ≡ p + 16 → p + 16 ≤ length list → head_first (drop p list) ≡ false → Walked list at q
    walked_on r l f = rw r (record_on l f)

    pub walked-head : p ≤ length list → head_first (drop p list) ≡ true → EndsAt list at p
    unfolding in_front
    walked-head l t = record {
      past = h;
      within = l;
      cut = w.left ∙ ap (λ b. in_front (take (p - at) (drop at list)) b (operations_of (drop p list))) t;
    }

  -- all that is left is the operation
  all_left : at < length list → (o : List ℕ) → o ≡ drop at list → operations_of (drop at list) ≡ o ∷ [] → EndsAt list at (length list)
  all_left h o e c = record {
    past = h;
    within = omega arith;
    cut = c ∙ ap (λ l. l ∷ []) (e ∙ sym (take_all (length list - at) (drop at list) (omega (arith, length-drop at list))))
        ∙ ap (λ l. take (length list - at) (drop at list) ∷ l) (sym (ap operations_of (drop-length list) ∙ cut-nothing));
  }

  pub short-end : at < length list → length list < at + 16 → EndsAt list at (length list)
  short-end h l = all_left h (drop at list) refl
      (cut-less (drop at list) (omega (arith, length-drop at list)) ∙ some (drop at list) (omega (arith, length-drop at list)))

  pub walked_end : (p : ℕ) → at < p → p ≤ length list → length list < p + 16 → Walked list at p → EndsAt list at (length list)
  walked_end p h l m w = all_left (omega arith) (take (p - at) (drop at list) ++ drop p list)
      (joined (p - at) (drop at list) (beyond p (omega arith)))
      (w.left ∙ ap (λ b. in_front (take (p - at) (drop at list)) b (operations_of (drop p list)))
      (no-head (drop p list) (omega (arith, length-drop p list)))
      ∙ ap (in_front (take (p - at) (drop at list)) false) (cut-less (drop p list) (omega (arith, length-drop p list)))
      ∙ last (take (p - at) (drop at list)) (drop p list))
