-- The twelve settled examples of 01, as a single table under a single theorem.
use mathlib.Core.Path.{◌≡◌, refl}
use mathlib.Core.List.{List, [], ◌∷◌, ◌++◌, flatten}
use Prim.Native.Nat.{ℕ, zero, suc, ◌-◌, ◌^◌}
use Rattle.listlaws.specs.Pad.{pad}
use Rattle.listlaws.specs.Sift.{sift}
use Rattle.listlaws.specs.First.{first_in}
use Rattle.listlaws.specs.Fold.{fold}
use Rattle.listlaws.specs.Weave.{weave}
use Rattle.clock.specs.declared.Dot.{Dot}
use Rattle.clock.specs.Dots.{is_empty, counter_in, covers, order_of, cut_dots, join_dots, common_dots, add_dot}
use Rattle.clock.proofs.Examples.{dot, one}
use Rattle.register.proofs.Examples.{value}
use Rattle.register.specs.Values.{no_content, yields, outdone, remaining, put_values, cut_values, ours_left, merge_values}
use Rattle.entries.specs.declared.Entry.{Entry}
use Rattle.entries.specs.declared.Update.{Update}
use Rattle.map.specs.declared.Map.{Map}
use Rattle.asking.specs.declared.CmRDTValidation.TheVariants.{Missing}
use Rattle.entries.specs.Model.{entry_as}
use Rattle.removals.specs.Model.{removal_as}
use Rattle.map.specs.Model.{map_as, no_map, no_op}
use Rattle.entries.specs.Entries.{cut_entry, remove_from, remove_entries, put_entry, entry_at, put_entries, cut_alone, alone, keep_dots, merge_both}
use Rattle.entries.specs.Entries.{together}
use Rattle.entries.specs.Entries.{merge_entries}
use Rattle.removals.specs.Waits.{listed, waits, clock_before, union_keys, unite_all, reset_waiting}
use Rattle.map.specs.Removing.{remove, afresh}
use Rattle.map.specs.Updating.{update}
use Rattle.map.specs.Merging.{merge}
use Rattle.map.specs.Resetting.{reset}
use Rattle.map.specs.Judging.{over_dots, over_entries, over_values, over_waiting, over_keys, over_number, judged}
use Rattle.asking.specs.Contexts.{add_context}
use Rattle.asking.specs.Asking.{clock_at, following, validate_update, update_under, make_update}

-- actor : counter
abbrev updates : ℕ → ℕ → ℕ → ℕ → Update
updates a n k x = record { dot = dot a n; key = k; put = value (one a n) x }

-- clock {1:1}, entry 5 {1:1} holding ({1:1}, 40)
abbrev M : Map
M = map_as (one 1 1) (entry_as 5 (one 1 1) (value (one 1 1) 40 ∷ []) ∷ []) []

-- entries k = 1 to n with clock {1:k} and no values
abbrev entries_to : ℕ → List Entry
entries_to zero = []
entries_to (suc n) = entries_to n ++ (entry_as (suc n) (one 1 (suc n)) [] ∷ [])

abbrev both : List Dot
both = dot 1 1 ∷ dot 2 1 ∷ []

pub record Settled : Type 0 where
  pub w1 : remove M (removal_as (one 1 1) (5 ∷ [])) ≡ map_as (one 1 1) [] []
  pub w2 : remove M (removal_as (one 1 2) (5 ∷ [])) ≡ map_as (one 1 1) [] (removal_as (one 1 2) (5 ∷ []) ∷ [])
  pub w3 : update (map_as (one 1 1) [] (removal_as (one 1 2) (5 ∷ []) ∷ [])) (updates 1 2 5 41) ≡ map_as (one 1 2) [] []
  pub w4 : update M (updates 1 1 5 41) ≡ M
  pub w5 : remove M (removal_as [] (5 ∷ [])) ≡ M
  pub w6 : remove M (removal_as (one 2 1) []) ≡ record {
    clock = M.clock;
    entries = M.entries;
    waiting = (map_as [] []
        (removal_as (one 2 1) [] ∷ [])).waiting;
  }
  pub w7 : merge (map_as both (entry_as 5 (one 1 1) [] ∷ []) []) (map_as both (entry_as 5 (one 2 1) [] ∷ []) []) ≡ map_as both [] []
  pub w8 : reset (map_as [] [] (removal_as (dot 1 4 ∷ dot 2 1 ∷ []) (6 ∷ []) ∷ removal_as (dot 1 5 ∷ dot 2 1 ∷ []) (5 ∷ []) ∷ [])) (one 1 5)
      ≡ map_as [] [] (removal_as (one 2 1) (5 ∷ 6 ∷ []) ∷ [])
  pub w9 : judged (update (map_as (one 1 32) (entries_to 32) (removal_as (one 9 1) (77 ∷ []) ∷ [])) (updates 9 1 77 7))
      ≡ record { number = 0; map = map_as (dot 1 32 ∷ dot 9 1 ∷ []) (entries_to 32) [] }
  pub w9-without : judged (update (map_as (one 1 32) (entries_to 32) []) (updates 9 1 77 7)) ≡ record { number = 5; map = no_map }
  pub w10 : validate_update M (updates 1 2 6 0) ≡ Missing 1 2
  pub w11 : make_update (map_as (one 1 (2 ^ 64 - 1)) [] []) 1 5 no_content ≡ record { number = 9; op = no_op }
  pub w12 : put_values (value (one 1 1) 7 ∷ []) (value (one 1 1) 8) ≡ value (one 1 1) 8 ∷ []

-- the end theorem: the whole table
pub settled : Settled
unfolding pad sift first_in fold weave is_empty counter_in covers order_of cut_dots join_dots common_dots add_dot yields outdone remaining put_values
    cut_values
    ours_left merge_values cut_entry listed remove_from remove_entries waits clock_before union_keys unite_all remove afresh put_entry entry_at
    put_entries
    update cut_alone alone keep_dots merge_both together flatten merge_entries merge reset_waiting reset over_dots over_entries over_values
    over_waiting
    over_keys over_number judged clock_at following validate_update add_context update_under make_update
settled = record {
  w1 = refl;
  w2 = refl;
  w3 = refl;
  w4 = refl;
  w5 = refl;
  w6 = refl;
  w7 = refl;
  w8 = refl;
  w9 = refl;
  w9-without = refl;
  w10 = refl;
  w11 = refl;
  w12 = refl;
}
