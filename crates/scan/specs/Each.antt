-- What holds of each element of a list, by itself or given those before it.
use Rattle.std.specs.Prelude.{ℕ, suc, Bool, true, cond, ◌&&◌, List, [], ◌∷◌, ◌++◌}

module _ {A : Type 0} where
  unfoldable pub every : (A → Bool) → List A → Bool
  every test [] = true
  every test (x ∷ l) = test x && every test l

  -- each element passes, given those before it, which begin with `seen`
  unfoldable pub each_after : (List A → A → Bool) → List A → List A → Bool
  each_after test seen [] = true
  each_after test seen (x ∷ l) = test seen x && each_after test (seen ++ (x ∷ [])) l

  -- how many elements pass, given those before them, which begin with `seen`
  unfoldable pub count_after : (List A → A → Bool) → List A → List A → ℕ
  count_after test seen [] = 0
  count_after test seen (x ∷ l) = cond (test seen x) (suc (count_after test (seen ++ (x ∷ [])) l)) (count_after test (seen ++ (x ∷ [])) l)

  abbrev pub each : (List A → A → Bool) → List A → Bool
  each test l = each_after test [] l

  abbrev pub count_given : (List A → A → Bool) → List A → ℕ
  count_given test l = count_after test [] l
