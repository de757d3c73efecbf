-- Two ascending lists walked side by side: what stands in the first alone, in the second alone, and in both.
use Rattle.std.specs.Prelude.{Bool, cond, List, [], ◌∷◌, map}

-- `before` is the order; `first` and `second` say what becomes of an element that one side has alone, `both` of two that stand level
module _ {A B : Type 0} (before : A → A → Bool) (first second : A → B) (both : A → A → B) where
  -- x and what `rest` makes of the first list behind it, against the second list
  abbrev pub against : A → List A → (List A → List B) → List A → List B
  against x l rest [] = first x ∷ map first l
  against x l rest (y ∷ m) =
      cond (before x y) (first x ∷ rest (y ∷ m)) (cond (before y x) (second y ∷ against x l rest m) (both x y ∷ rest m))

  unfoldable pub weave : List A → List A → List B
  weave [] m = map second m
  weave (x ∷ l) m = against x l (weave l) m
