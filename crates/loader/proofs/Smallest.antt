-- The smallest of some numbers: one of them, of which none is smaller (`smallest-stands`, `smallest-least`); and whether they differ
-- (`differ-smallest`).
use mathlib.Core.Path.{◌≡◌, refl, ap, sym, ◌∙◌}
use mathlib.Core.Bool.{true, not}
use mathlib.Core.Logic.{◌⊎◌, inl, inr, ⊎_elim}
use mathlib.Core.List.Memᴰ
use mathlib.Core.List.{List, [], ◌∷◌}
use Prim.Native.Nat.{ℕ, ◌≤◌, min}
use native.Mathlib.Omega.{arith}
use lib.Dec.{ltb}
use borrow.Author.Tests.{ltb-true, ltb-false, eq-eqb, eqb-true, not-false}
use Rattle.listlaws.specs.First.{some}
use Rattle.listlaws.specs.Fold.{fold}
use Rattle.listlaws.specs.Order.{◌∈◌}
use Rattle.listlaws.proofs.Somes.{some-cases, some_holds, false-some}
use Rattle.scan.proofs.Eachs.{decide}
use Rattle.register.specs.declared.Value.{Value}
use Rattle.loader.specs.Choice.{smallest, another, differ}

-- the smaller of a number and a value
abbrev pub lower : ℕ → Value → ℕ
lower n v = min n v.value.number

fold_start : (n : ℕ) (l : List Value) → fold lower n l ≤ n
unfolding fold
fold_start n [] = omega arith
fold_start n (v ∷ l) = omega (arith, fold_start (lower n v) l)

fold-each : (n : ℕ) (l : List Value) (w : Value) → w ∈ l → fold lower n l ≤ w.value.number
unfolding fold
fold-each n [] w i = absurd (Memᴰ.not-nil i)
fold-each n (v ∷ l) w i =
    ⊎_elim (λ (e : w ≡ v). omega (arith, ap (λ (x : Value). x.value.number) e, fold_start (lower n v) l)) (λ j. fold-each (lower n v) l w j)
    (Memᴰ.cases_cons i)

-- it is the start, or some value
abbrev Stands : ℕ → List Value → Type 0
Stands n l = (w : Value) × (w ∈ l) × (w.value.number ≡ n)

fold-stands : (n : ℕ) (l : List Value) → (fold lower n l ≡ n) ⊎ Stands (fold lower n l) l
unfolding fold
fold-stands n [] = inl refl
fold-stands n (v ∷ l) = ⊎_elim (λ e. go e (lower-is n v.value.number)) (λ s. inr (s.0, Memᴰ.tail s.1, s.2)) (fold-stands (lower n v) l)
  where
    lower-is : (a b : ℕ) → (min a b ≡ a) ⊎ (min a b ≡ b)
    lower-is a b = decide (ltb a b) (λ t. let h = ltb-true a b t in inl (omega arith)) (λ f. let h = ltb-false a b f in inr (omega arith))

    go : fold lower (lower n v) l ≡ lower n v → (lower n v ≡ n) ⊎ (lower n v ≡ v.value.number)
        → (fold lower (lower n v) l ≡ n) ⊎ Stands (fold lower (lower n v) l) (v ∷ l)
    go e (inl f) = inl (e ∙ f)
    go e (inr f) = inr (v, Memᴰ.head refl, sym (e ∙ f))

-- none is smaller
pub smallest-least : (l : List Value) (w : Value) → w ∈ l → smallest l ≤ w.value.number
unfolding smallest
smallest-least [] w i = absurd (Memᴰ.not-nil i)
smallest-least (v ∷ l) w i =
    ⊎_elim (λ (e : w ≡ v). omega (arith, ap (λ (x : Value). x.value.number) e, fold_start v.value.number l))
    (λ j. fold-each v.value.number l w j) (Memᴰ.cases_cons i)

-- it is one of the values
pub smallest-stands : (l : List Value) {w : Value} → w ∈ l → Stands (smallest l) l
unfolding smallest
smallest-stands [] i = absurd (Memᴰ.not-nil i)
smallest-stands (v ∷ l) i =
    ⊎_elim (λ e. (v, Memᴰ.head refl, sym e)) (λ s. (s.0, Memᴰ.tail s.1, s.2)) (fold-stands v.value.number l)

-- values differ where one differs from the smallest
pub differ-smallest : (l : List Value) → differ l ≡ some (another (smallest l)) l
unfolding differ
differ-smallest l =
    ⊎_elim
    (λ r.
    let s = smallest-stands l r.1 in
    let t : some (another s.0.value.number) l ≡ true = some_holds (another s.0.value.number) r.1
    (ap (λ n. another n r.0) s.2 ∙ r.2) in
    some_holds (λ v. some (another v.value.number) l) s.1 t ∙ sym (some_holds (another (smallest l)) r.1 r.2))
    (λ f.
    let equal : (v : Value) → v ∈ l → smallest l ≡ v.value.number = λ v i. eqb-true _ _ (not-false _ (f v i)) in
    false-some (λ v. some (another v.value.number) l) l
    (λ v i. false-some (another v.value.number) l (λ w j. ap not (eq-eqb _ _ (sym (equal v i) ∙ equal w j))))
    ∙ sym (false-some (another (smallest l)) l f))
    (some-cases (another (smallest l)) l)
