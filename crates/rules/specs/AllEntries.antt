-- 01 "Map", what becomes of all entries: stated once, over what becomes of one.
use Rattle.std.specs.Prelude.{Bool, true, false, cond, List, [], ◌∷◌, ◌++◌, ℕ, ltb}
use Rattle.listlaws.specs.Sift.{those}
use Rattle.listlaws.specs.Weave.{weave}
use Rattle.listlaws.specs.Order.{by}
use Rattle.clock.specs.declared.Dot.{Dot}
use Rattle.clock.specs.Dots.{is_empty, covers}
use Rattle.removals.specs.declared.Removal.{Removal}
use Rattle.removals.specs.Model.{under_of, listed_in}
use Rattle.removals.specs.Waits.{listed}
use Rattle.rules.specs.OneEntry.{Stored, keep_dots}

module _ {A E : Type 0} (s : Stored A E) where
  -- "for each listed entry, cut its clock; if empty the entry goes, register included; else cut the register": `cut` does both cuts
  abbrev pub remove_from_by : (List Dot → E → E) → Removal → E → E
  remove_from_by cut r e = cond (listed (listed_in r) (s.key e)) (cut (under_of r) e) e

  -- the entries below a key, or those above it
  abbrev pub aside_by : Bool → ℕ → E → Bool
  aside_by below k e = cond below (ltb (s.key e) k) (ltb k (s.key e))

  -- all entries with the one of a key changed: "add the dot to the entry (a new one if absent), apply the put"
  abbrev pub put_entries_by : (E → E) → (ℕ → List E → E) → ℕ → List E → List E
  put_entries_by put at k l = those (aside_by true k) l ++ (put (at k l) ∷ those (aside_by false k) l)

  -- "Merge, entry on one side only: if the other map's clock covers the entry clock, it goes. Else" it is cut: nothing is left of it, or one entry
  abbrev pub alone_by : (List Dot → E → E) → List Dot → E → List E
  alone_by cut other e = cond (covers other (s.dots e)) [] (cut other e ∷ [])

  -- "Merge, entry on both: .. Empty: the entry goes. Else" they are merged
  abbrev pub together_by : (List Dot → List Dot → E → E → E) → List Dot → List Dot → E → E → List E
  together_by both ours theirs e f = cond (is_empty (keep_dots ours theirs (s.dots e) (s.dots f))) [] (both ours theirs e f ∷ [])

  -- what is left of each that stands on one side only, and of two that stand on both, by key
  abbrev pub weave_by : (List Dot → E → List E) → (List Dot → List Dot → E → E → List E) → List Dot → List Dot → List E → List E → List (List E)
  weave_by alone together ours theirs l m = weave (by s.key) (alone theirs) (alone ours) (together ours theirs) l m
