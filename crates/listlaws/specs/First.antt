-- What the first element that passes a test gives, and z where none passes.
use Rattle.std.specs.Prelude.{Bool, true, false, cond, List, [], ◌∷◌}

unfoldable pub first_in {ℓ ℓ'} : {A : Type ℓ} {R : Type ℓ'} → (A → Bool) → (A → R) → R → List A → R
first_in test give z [] = z
first_in test give z (x ∷ l) = cond (test x) (give x) (first_in test give z l)

-- some element passes
abbrev pub some {ℓ} : {A : Type ℓ} → (A → Bool) → List A → Bool
some test l = first_in test (λ x. true) false l

-- none passes
abbrev pub none {ℓ} : {A : Type ℓ} → (A → Bool) → List A → Bool
none test l = first_in test (λ x. false) true l
