-- The sled's map as a map of one level: what its arrays hold, as lists. And what it means that level 1 is the sled.
use Rattle.std.specs.Prelude.{◌≡◌, List, map}
use Rattle.clock.specs.declared.Dot.{Dot}
use Rattle.register.specs.declared.Value.{Value}
use Rattle.removals.specs.declared.Removal.{Removal}
use Rattle.entries.specs.declared.Entry.{Entry}
use Rattle.entries.specs.declared.Update.{Update}
use Rattle.entries.specs.Model.{dots_in, values_in}
use Rattle.map.specs.declared.Map.{Map}
use Rattle.map.specs.Model.{seen_by, entries_in, waiting_in}
use Rattle.map.specs.Removing.{remove, afresh}
use Rattle.map.specs.Updating.{update}
use Rattle.map.specs.Merging.{merge}
use Rattle.map.specs.Resetting.{reset}
use Rattle.map.specs.Judging.{over_number}
use Rattle.map.specs.Valid.{Valid}
use Rattle.asking.specs.Asking.{validate_update, validate_merge}
use Rattle.levels.specs.MapOver.{EntryOf, up, entry_with, map_with, remove_of, afresh_of, update_map_of, merge_of, reset_of}
use Rattle.levels.specs.Level.{Val, rules_at}
use Rattle.levels.specs.Good.{GoodAt}
use Rattle.levels.specs.OverLimits.{sled_limits, over_number_at}
use Rattle.levels.specs.Validating.{order_at, spent_at}

abbrev pub opened : Entry → EntryOf (List Value)
opened e = entry_with e.key (dots_in e) (values_in e)

abbrev pub opened_map : Map → Val 1
opened_map m = map_with (seen_by m) (map opened (entries_in m)) (waiting_in m)

-- each rule, each validation and the limits' number: the same on the sled's arrays and on the lists of level 1
pub record SledIsLevelOne : Type 0 where
  pub removed : (m : Map) (w : Removal) → opened_map (remove m w) ≡ remove_of (rules_at 0) (opened_map m) w
  pub applied-afresh : (m : Map) → opened_map (afresh m) ≡ afresh_of (rules_at 0) (opened_map m)
  pub updated : (m : Map) (u : Update) → opened_map (update m u) ≡ update_map_of (rules_at 0) (opened_map m) u.dot u.key u.put
  pub merged : (m n : Map) → opened_map (merge m n) ≡ merge_of (rules_at 0) (opened_map m) (opened_map n)
  pub cut : (m : Map) (c : List Dot) → opened_map (reset m c) ≡ reset_of (rules_at 0) c (opened_map m)
  pub over : (m : Map) → over_number_at sled_limits 1 (opened_map m) ≡ over_number m
  pub order : (m : Map) (u : Update) → order_at 1 (opened_map m) (up u.dot u.key u.put) ≡ validate_update m u
  pub spent : (m n : Map) → spent_at 1 (opened_map m) (opened_map n) ≡ validate_merge m n
  pub valid : (m : Map) → Valid m → GoodAt 1 (opened_map m)
