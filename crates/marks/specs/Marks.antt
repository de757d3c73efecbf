-- Marks: which elements of a list are left.
use Rattle.std.specs.Prelude.{Bool, cond, List, [], ◌∷◌, ℕ, length}
use Rattle.listlaws.specs.Sift.{those}

-- the elements whose marks are set, in order
unfoldable pub picked : {A : Type 0} → List Bool → List A → List A
picked [] l = []
picked (b ∷ bs) [] = []
picked (b ∷ bs) (x ∷ l) = cond b (x ∷ picked bs l) (picked bs l)

-- how many marks are set
abbrev pub marks_set : List Bool → ℕ
marks_set bs = length (those (λ b. b) bs)
