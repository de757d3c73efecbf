-- Small nested maps with the Rust's own answers, as a single table under a single theorem, by computation. Each row was run with the published
-- crate (host/oracle/tests/nested.rs), but for the limits, which are CR 10's; and n6 unites as 01 does, where the Rust keeps one by hash order.
use mathlib.Core.Path.{◌≡◌, refl}
use mathlib.Core.List.{List, [], ◌∷◌, flatten}
use Prim.Native.Nat.{ℕ, zero, suc}
use Rattle.listlaws.specs.Pad.{pad}
use Rattle.listlaws.specs.Sift.{sift}
use Rattle.listlaws.specs.First.{first_in}
use Rattle.listlaws.specs.Fold.{fold, total_of}
use Rattle.listlaws.specs.Weave.{weave}
use Rattle.clock.specs.declared.Dot.{Dot}
use Rattle.clock.specs.Dots.{is_empty, counter_in, covers, order_of, cut_dots, join_dots, common_dots, add_dot}
use Rattle.clock.proofs.Examples.{dot, one}
use Rattle.register.specs.declared.Value.{Value}
use Rattle.register.specs.Values.{yields, outdone, remaining, put_values, cut_values, ours_left, merge_values}
use Rattle.register.proofs.Examples.{value}
use Rattle.removals.specs.declared.Removal.{Removal}
use Rattle.removals.specs.Model.{removal_as}
use Rattle.removals.specs.Waits.{listed, waits, clock_before, union_keys, unite_all, reset_waiting}
use Rattle.rules.specs.OneEntry.{keep_dots}
use Rattle.asking.specs.declared.CmRDTValidation.TheVariants.{Fits, Missing}
use Rattle.asking.specs.declared.CvRDTValidation.TheVariants.{Once, Twice}
use Rattle.asking.specs.Asking.{following, first_spent, spent_under}
use Rattle.levels.specs.MapOver.{EntryOf, MapOf, up, rm, entry_with, map_with, cut_entry_of, entry_at_of, cut_alone_of, merge_both_of, remove_from_of}
use Rattle.levels.specs.MapOver.{put_entries_of, alone_of, together_of, merge_entries_of, remove_of, afresh_of, update_map_of, merge_of, reset_of}
use Rattle.levels.specs.MapOver.{map_rules}
use Rattle.levels.specs.Level.{Val, Op, rules_at}
use Rattle.levels.specs.OverLimits.{rack_limits, over_dots_at, entries_within, over_values_at, waiting_within, over_keys_at, over_number_at}
use Rattle.levels.specs.Validating.{order_at, spent_at}

-- a map of one entry, in which nothing waits
abbrev holding : {A : Type 0} → List Dot → ℕ → List Dot → A → MapOf A
holding c k d v = map_with c (entry_with k d v ∷ []) []

-- {1:1,2:1}
abbrev pair : List Dot
pair = dot 1 1 ∷ dot 2 1 ∷ []

-- three maps within each other, under keys 1, 2 and 3: actor 1's counters in each map's clock and in its entry's
abbrev nest : ℕ → ℕ → ℕ → ℕ → ℕ → ℕ → Val 3
nest a b c d e f = holding (one 1 a) 1 (one 1 b) (holding (one 1 c) 2 (one 1 d) (holding (one 1 e) 3 (one 1 f) []))

-- an update of actor 1 down to a put
abbrev down : ℕ → Op 3
down n = up (dot 1 n) 1 (up (dot 1 n) 2 (up (dot 1 n) 3 (value (one 1 n) 40)))

-- maps within each other, of which ours and theirs have a dot of actor 1 under different keys: at the top, one level lower, at the lowest
abbrev apart_top : ℕ → Val 3
apart_top k = holding (one 1 1) k (one 1 1) (map_with [] [] [])

abbrev apart_middle : ℕ → ℕ → Val 3
apart_middle a k = holding (one a 1) 1 (one a 1) (holding (one 1 1) k (one 1 1) (map_with [] [] []))

abbrev apart_lowest : ℕ → ℕ → ℕ → Val 3
apart_lowest a b k = holding (one a 1) 1 (one a 1) (holding (one b 1) 2 (one b 1) (holding (one 1 1) k (one 1 1) []))

-- removals under {9:n}, n and downwards, that list nothing
abbrev held : ℕ → List Removal → List Removal
held zero l = l
held (suc n) l = held n (removal_as (one 9 (suc n)) [] ∷ l)

-- seven that wait at the top, and one within the map under 4
abbrev eight_wait : Val 2
eight_wait = map_with (one 1 1) (entry_with 4 (one 1 1) (map_with (one 1 1) [] (removal_as (one 8 1) [] ∷ [])) ∷ []) (held 7 [])

-- entries k = 1 to n of a map, each with no value
abbrev bare : ℕ → List (EntryOf (List Value)) → List (EntryOf (List Value))
bare zero l = l
bare (suc n) l = bare n (entry_with (suc n) (one 1 1) [] ∷ l)

pub record NestedExamples : Type 0 where
  -- a put three levels down on the empty map: each map above it takes the dot
  pub n1 : (rules_at 3).apply (rules_at 3).none (down 1) ≡ holding (one 1 1) 1 (one 1 1)
      (holding (one 1 1) 2 (one 1 1) (holding (one 1 1) 3 (one 1 1) (value (one 1 1) 40 ∷ [])))
  -- a removal inside an inner map, which that map's clock does not take, though the map above does
  pub n2 : (rules_at 2).apply (holding (one 1 1) 4 (one 1 1) (holding (one 1 1) 6 (one 1 1) (value (one 1 1) 40 ∷ [])))
      (up (dot 1 2) 4 (rm (removal_as (one 1 1) (6 ∷ []))))
      ≡ holding (one 1 2) 4 (one 1 2) (map_with (one 1 1) [] [])
  -- a removal of more than the inner map has seen waits in it
  pub n3 : (rules_at 2).apply (holding (one 1 1) 4 (one 1 1) (holding (one 1 1) 6 (one 1 1) (value (one 1 1) 40 ∷ [])))
      (up (dot 1 2) 4 (rm (removal_as pair (6 ∷ []))))
      ≡ holding (one 1 2) 4 (one 1 2) (map_with (one 1 1) [] (removal_as pair (6 ∷ []) ∷ []))
  -- an inner map left empty stays
  pub n4 : (rules_at 2).apply (holding pair 4 pair (holding (one 1 1) 6 (one 1 1) (value (one 1 1) 40 ∷ [])))
      (rm (removal_as (one 1 1) (4 ∷ [])))
      ≡ holding pair 4 (one 2 1) (map_with [] [] [])
  -- a removal at the top cuts down to the values three levels lower
  pub n5 : (rules_at 3).apply (holding pair 1 pair (holding pair 2 pair
      (holding pair 3 pair (value (one 1 1) 40 ∷ value (one 2 1) 41 ∷ [])))) (rm (removal_as (one 1 1) (1 ∷ [])))
      ≡ holding pair 1 (one 2 1) (holding (one 2 1) 2 (one 2 1) (holding (one 2 1) 3 (one 2 1) (value (one 2 1) 41 ∷ [])))
  -- waiting clocks of an inner map that become equal are united
  pub n6 : (rules_at 2).cut (one 1 5) (holding (one 3 1) 4 (one 3 1) (map_with [] []
      (removal_as (dot 1 4 ∷ dot 2 1 ∷ []) (6 ∷ []) ∷ removal_as (dot 1 5 ∷ dot 2 1 ∷ []) (5 ∷ []) ∷ [])))
      ≡ holding (one 3 1) 4 (one 3 1) (map_with [] [] (removal_as (one 2 1) (5 ∷ 6 ∷ []) ∷ []))
  -- a cut applies no waiting removal of an inner map: it is left covered, beside the entry that it lists
  pub n7 : (rules_at 2).cut (one 1 5) (holding (one 3 1) 4 (one 3 1) (map_with (one 2 1) (entry_with 6 (one 2 1) [] ∷ [])
      (removal_as (dot 1 5 ∷ dot 2 1 ∷ []) (6 ∷ []) ∷ [])))
      ≡ holding (one 3 1) 4 (one 3 1) (map_with (one 2 1) (entry_with 6 (one 2 1) [] ∷ []) (removal_as (one 2 1) (6 ∷ []) ∷ []))
  -- maps under one key are merged first, and cut by what was deleted then: the value that theirs had overwritten does not come back
  pub n8 : (rules_at 2).merge (holding pair 4 (one 1 1) (holding (one 1 1) 6 (one 1 1) (value (one 1 1) 40 ∷ [])))
      (holding pair 4 pair (holding pair 6 pair (value pair 41 ∷ [])))
      ≡ holding pair 4 (one 1 1) (holding (one 1 1) 6 (one 1 1) (value (one 1 1) 41 ∷ []))
  -- a merge leaves a map that one side has alone cut, and so its waiting removals as n7 has them: covered ones are possible below the top
  pub n9 : (rules_at 2).merge (holding (dot 1 5 ∷ dot 3 1 ∷ []) 4 (dot 1 5 ∷ dot 3 1 ∷ []) (map_with (one 2 1) (entry_with 6 (one 2 1) [] ∷ [])
      (removal_as (dot 1 5 ∷ dot 2 1 ∷ []) (6 ∷ []) ∷ []))) (map_with (one 1 5) [] [])
      ≡ holding (dot 1 5 ∷ dot 3 1 ∷ []) 4 (one 3 1)
      (map_with (one 2 1) (entry_with 6 (one 2 1) [] ∷ []) (removal_as (one 2 1) (6 ∷ []) ∷ []))
  -- `validate_op`, a gap at each level: in each map's clock and in each entry's
  pub gap1 : order_at 3 (nest 1 1 8 8 8 8) (down 9) ≡ Missing 2 9
  pub gap2 : order_at 3 (nest 8 2 8 8 8 8) (down 9) ≡ Missing 3 9
  pub gap3 : order_at 3 (nest 8 8 3 3 8 8) (down 9) ≡ Missing 4 9
  pub gap4 : order_at 3 (nest 8 8 8 4 8 8) (down 9) ≡ Missing 5 9
  pub gap5 : order_at 3 (nest 8 8 8 8 5 5) (down 9) ≡ Missing 6 9
  pub gap6 : order_at 3 (nest 8 8 8 8 8 6) (down 9) ≡ Missing 7 9
  pub no_gap : order_at 3 (nest 8 8 8 8 8 8) (down 9) ≡ Fits
  -- a removal passes, inside too, once the maps above it fit
  pub removal-passes : order_at 2 (holding (one 1 1) 4 (one 1 1) (map_with [] [] []))
      (up (dot 1 2) 4 (rm (removal_as (one 7 9) (6 ∷ [])))) ≡ Fits
  -- `validate_merge`, a dot spent twice at each level; below the top only where both entry clocks are concurrent
  pub spent1 : spent_at 3 (apart_top 5) (apart_top 6) ≡ Twice (dot 1 1) 5 6
  pub spent2 : spent_at 3 (apart_middle 2 5) (apart_middle 3 6) ≡ Twice (dot 1 1) 5 6
  pub spent3 : spent_at 3 (apart_lowest 2 4 5) (apart_lowest 3 6 6) ≡ Twice (dot 1 1) 5 6
  pub not-asked2 : spent_at 3 (apart_middle 2 5) (apart_middle 2 6) ≡ Once
  pub not-asked3 : spent_at 3 (apart_lowest 2 4 5) (apart_lowest 3 4 6) ≡ Once
  -- 7 counts over the tree: one more at the top is the ninth, unless a removal of 4 took the inner one before
  pub over7 : over_number_at rack_limits 2 ((rules_at 2).apply eight_wait (rm (removal_as (one 9 8) []))) ≡ 7
  pub within7 : over_number_at rack_limits 2
      ((rules_at 2).apply ((rules_at 2).apply eight_wait (rm (removal_as (one 1 1) (4 ∷ [])))) (rm (removal_as (one 9 8) []))) ≡ 0
  -- so does 5: an entry that holds a map counts beside those in it
  pub over5 : over_number_at rack_limits 2 (holding (one 1 1) 4 (one 1 1) (map_with (one 1 1) (bare 32 []) [])) ≡ 5
  pub within5 : over_number_at rack_limits 2 (holding (one 1 1) 4 (one 1 1) (map_with (one 1 1) (bare 31 []) [])) ≡ 0

-- the end theorem: the whole table
pub nested : NestedExamples
unfolding pad sift first_in fold total_of weave flatten is_empty counter_in covers order_of cut_dots join_dots common_dots add_dot yields outdone
    remaining
    put_values cut_values ours_left merge_values listed waits clock_before union_keys unite_all reset_waiting keep_dots following first_spent
    spent_under
    cut_entry_of entry_at_of cut_alone_of merge_both_of remove_from_of put_entries_of alone_of together_of merge_entries_of remove_of afresh_of
    update_map_of merge_of
    reset_of
    map_rules rules_at over_dots_at entries_within over_values_at waiting_within over_keys_at over_number_at order_at spent_at
nested = record {
  n1 = refl;
  n2 = refl;
  n3 = refl;
  n4 = refl;
  n5 = refl;
  n6 = refl;
  n7 = refl;
  n8 = refl;
  n9 = refl;
  gap1 = refl;
  gap2 = refl;
  gap3 = refl;
  gap4 = refl;
  gap5 = refl;
  gap6 = refl;
  no_gap = refl;
  removal-passes = refl;
  spent1 = refl;
  spent2 = refl;
  spent3 = refl;
  not-asked2 = refl;
  not-asked3 = refl;
  over7 = refl;
  within7 = refl;
  over5 = refl;
  within5 = refl;
}
