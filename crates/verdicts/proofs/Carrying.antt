-- The numbers that an answer carries, as the calls find them.
use mathlib.Core.Path.{◌≡◌, refl, sym}
use mathlib.Core.Bool.{Bool, true, false, cond, ◌&&◌}
use mathlib.Core.List.{[], ◌∷◌}
use Prim.Native.Nat.{ℕ}
use lib.Dec.{eqb}
use borrow.Author.Tests.{eqb-true}
use Rattle.scan.proofs.Eachs.{decide}
use Rattle.asking.specs.declared.CmRDTValidation.{CmRDTValidation}
use Rattle.asking.specs.declared.CmRDTValidation.TheVariants.{Fits, Missing}
use Rattle.asking.specs.declared.CvRDTValidation.{CvRDTValidation}
use Rattle.asking.specs.declared.CvRDTValidation.TheVariants.{Once, Twice}
use Rattle.asking.specs.Asking.{order_number, order_start, order_end, spent_number}
use Rattle.readiness.specs.declared.Readiness.{Readiness}
use Rattle.readiness.specs.declared.Readiness.TheVariants.{Next, Foreign, Seen, Hold}
use Rattle.readiness.specs.Ready.{ready_number}
use Rattle.answers.specs.Answer.{Answer, first_of, number_of, carried_of}
use Rattle.promises.specs.Calls.{bare_answer}

-- what is found where both images pass is carried with the number that says so
module _ {F : Type 0} (number_in carried_in : F → ℕ) (nothing : F) (with : ℕ) (none : carried_in nothing ≡ 0)
    (told : (f : F) → cond (eqb (number_in f) with) (carried_in f) 0 ≡ carried_in f) where
  pub carries : (first second : ℕ) (f : F)
      → carried_in (cond (eqb (first_of (first ∷ second ∷ [])) 0) f nothing) ≡ carried_of with (bare_answer first second (number_in f)) (carried_in f)
  unfolding carried_of
  carries first second f = by_cases (eqb (first_of (first ∷ second ∷ [])) 0)
    where
      by_cases : (b : Bool) → carried_in (cond b f nothing) ≡ cond (b && eqb (number_in f) with) (carried_in f) 0
      by_cases true = sym (told f)
      by_cases false = none

start-told : (o : CmRDTValidation) → cond (eqb (order_number o) 11) (order_start o) 0 ≡ order_start o
start-told Fits = refl
start-told (Missing start end) = refl

end-told : (o : CmRDTValidation) → cond (eqb (order_number o) 11) (order_end o) 0 ≡ order_end o
end-told Fits = refl
end-told (Missing start end) = refl

spent-told : (carried : CvRDTValidation → ℕ) → carried Once ≡ 0 → (s : CvRDTValidation) → cond (eqb (spent_number s) 12) (carried s) 0 ≡ carried s
spent-told carried z Once = sym z
spent-told carried z (Twice d k h) = refl

pub start-carried : (first second : ℕ) (o : CmRDTValidation)
    → order_start (cond (eqb (first_of (first ∷ second ∷ [])) 0) o Fits) ≡ carried_of 11 (bare_answer first second (order_number o)) (order_start o)
start-carried = carries order_number order_start Fits 11 refl start-told

pub end-carried : (first second : ℕ) (o : CmRDTValidation)
    → order_end (cond (eqb (first_of (first ∷ second ∷ [])) 0) o Fits) ≡ carried_of 11 (bare_answer first second (order_number o)) (order_end o)
end-carried = carries order_number order_end Fits 11 refl end-told

pub spent-carried : (carried : CvRDTValidation → ℕ) → carried Once ≡ 0 → (first second : ℕ) (s : CvRDTValidation)
    → carried (cond (eqb (first_of (first ∷ second ∷ [])) 0) s Once) ≡ carried_of 12 (bare_answer first second (spent_number s)) (carried s)
spent-carried carried z = carries spent_number carried Once 12 z (spent-told carried z)

ready-told : (carried : Readiness → ℕ) → carried Next ≡ 0 → carried Foreign ≡ 0 → carried Seen ≡ 0 → (g : Readiness)
    → cond (eqb (ready_number g) 21) (carried g) 0 ≡ carried g
ready-told carried n f s Next = sym n
ready-told carried n f s Foreign = sym f
ready-told carried n f s Seen = sym s
ready-told carried n f s (Hold actor counter) = refl

pub ready-carried : (carried : Readiness → ℕ) → carried Next ≡ 0 → carried Foreign ≡ 0 → carried Seen ≡ 0 → (first second : ℕ) (g : Readiness)
    → carried (cond (eqb (first_of (first ∷ second ∷ [])) 0) g Next) ≡ carried_of 21 (bare_answer first second (ready_number g)) (carried g)
ready-carried carried n f s = carries ready_number carried Next 21 n (ready-told carried n f s)

-- the count is carried where the image passes
pub carried-not : (with : ℕ) (a : Answer) (n : ℕ) → eqb (first_of (a.first ∷ a.second ∷ [])) 0 ≡ false → 0 ≡ carried_of with a n
unfolding carried_of
carried-not with a n e = rw e

pub carried_here : (with : ℕ) (a : Answer) (n : ℕ) → eqb (first_of (a.first ∷ a.second ∷ [])) 0 ≡ true → eqb a.own with ≡ true
    → n ≡ carried_of with a n
unfolding carried_of
carried_here with a n e f = rw (e, f)

-- the number where both images pass is the call's own, and where there is one image alone its own
pub number_passed : (first second own : ℕ) → first ≡ 0 → second ≡ 0 → own ≡ number_of (bare_answer first second own) []
unfolding number_of first_of
number_passed first second own p q = rw (p, q) (decide (eqb own 0) (λ t. rw t (eqb-true own 0 t)) (λ f. rw f))

pub number-alone : (n : ℕ) → number_of (bare_answer n 0 0) [] ≡ n
unfolding number_of first_of
number-alone n = decide (eqb n 0) (λ t. rw t (sym (eqb-true n 0 t))) (λ f. rw f)

-- what a validation finds, or nothing where an image is refused
pub nothing-found : {F : Type 0} (first second : ℕ) (f nothing : F) → eqb (first_of (first ∷ second ∷ [])) 0 ≡ false
    → nothing ≡ cond (eqb (first_of (first ∷ second ∷ [])) 0) f nothing
nothing-found first second f nothing e = rw e

pub found : {F : Type 0} (first second : ℕ) (f nothing : F) → eqb (first_of (first ∷ second ∷ [])) 0 ≡ true
    → f ≡ cond (eqb (first_of (first ∷ second ∷ [])) 0) f nothing
found first second f nothing e = rw e
