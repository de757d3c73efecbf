-- 01's examples W4, W7 and W10 as widely as they hold: every key and put, every register both ways round, and the whole of `validate_op`.
use mathlib.Core.Path.{◌≡◌, refl}
use mathlib.Core.Bool.{true}
use mathlib.Core.List.{List, [], ◌∷◌, flatten}
use Prim.Native.Nat.{ℕ}
use Rattle.listlaws.specs.Pad.{pad}
use Rattle.listlaws.specs.Sift.{sift}
use Rattle.listlaws.specs.First.{first_in}
use Rattle.listlaws.specs.Fold.{fold}
use Rattle.listlaws.specs.Weave.{weave}
use Rattle.clock.specs.declared.Dot.{Dot}
use Rattle.clock.specs.Dots.{clock_of, is_empty, counter_in, covers, cut_dots, join_dots, common_dots}
use Rattle.register.specs.declared.Value.{Value}
use Rattle.removals.specs.declared.Removal.{Removal}
use Rattle.entries.specs.Model.{entry_as}
use Rattle.entries.specs.Entries.{alone, keep_dots, together, merge_entries}
use Rattle.map.specs.declared.Map.{Map}
use Rattle.asking.specs.declared.CmRDTValidation.{CmRDTValidation}
use Rattle.asking.specs.declared.CmRDTValidation.TheVariants.{Missing}
use Rattle.map.specs.Model.{map_as}
use Rattle.map.specs.Removing.{remove, afresh}
use Rattle.map.specs.Updating.{update}
use Rattle.map.specs.Merging.{merge}
use Rattle.asking.specs.Asking.{clock_at, following, validate_update, validate_op, order_number, order_start, order_end}

-- actor : counter
abbrev pub dot : ℕ → ℕ → Dot
dot a n = record { actor = a; counter = n }

abbrev pub one : ℕ → ℕ → List Dot
one a n = dot a n ∷ []

-- clock {1:1}, entry 5 {1:1} holding ({1:1}, 40)
abbrev pub M : Map
M = map_as (one 1 1) (entry_as 5 (one 1 1) (record { clock = clock_of (one 1 1); value = record { number = 40; origin = 0 } } ∷ []) ∷ []) []

-- clock {1:1,2:1}, entry 5 under a clock, holding values
abbrev both : List Dot → List Value → Map
both c l = map_as (dot 1 1 ∷ dot 2 1 ∷ []) (entry_as 5 c l ∷ []) []

-- (1,2) on key 6, whatever is put and whatever stands in the unused half
abbrev asked : Value → Removal → CmRDTValidation
asked put unused = validate_op M (record { up = true; removal = unused; update = record { dot = dot 1 2; key = 6; put = put } })

pub record Wider : Type 0 where
  pub w4 : (key : ℕ) (put : Value) → update M (record { dot = dot 1 1; key = key; put = put }) ≡ M
  pub w7 : (l h : List Value) → merge (both (one 1 1) l) (both (one 2 1) h) ≡ map_as (dot 1 1 ∷ dot 2 1 ∷ []) [] []
  pub w7-other-way : (l h : List Value) → merge (both (one 2 1) h) (both (one 1 1) l) ≡ map_as (dot 1 1 ∷ dot 2 1 ∷ []) [] []
  pub w10 : (put : Value) (unused : Removal) → asked put unused ≡ Missing 1 2
  pub w10-number : (put : Value) (unused : Removal) → order_number (asked put unused) ≡ 11
  pub w10-start : (put : Value) (unused : Removal) → order_start (asked put unused) ≡ 1
  pub w10-end : (put : Value) (unused : Removal) → order_end (asked put unused) ≡ 2

-- the end theorem of this file
pub wider : Wider
unfolding pad sift first_in fold weave is_empty counter_in covers cut_dots join_dots common_dots remove afresh update alone keep_dots together flatten
    merge_entries merge clock_at following validate_update validate_op
wider = record {
  w4 = λ key put. refl;
  w7 = λ l h. refl;
  w7-other-way = λ l h. refl;
  w10 = λ put unused. refl;
  w10-number = λ put unused. refl;
  w10-start = λ put unused. refl;
  w10-end = λ put unused. refl;
}
