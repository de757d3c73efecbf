-- 01 "Numbers returned", 4 to 8: the limits, judged on the finished result.
use Rattle.std.specs.Prelude.{Bool, ◌||◌, cond, List, ℕ, ltb, eqb, length}
use Rattle.listlaws.specs.First.{some}
use Rattle.limits.specs.Limits.{dot_limit, value_limit, entry_limit, waiting_limit, key_limit}
use Rattle.clock.specs.Dots.{dots_of}
use Rattle.map.specs.declared.Map.{Map}
use Rattle.std.specs.declared.result.Result.{Result}
use Rattle.refusals.specs.declared.Refusal.{Refusal}
use Rattle.refusals.specs.Numbers.{number_told, done_or}
use Rattle.entries.specs.Model.{dots_in, values_in}
use Rattle.removals.specs.Model.{under_of, listed_in}
use Rattle.map.specs.Model.{seen_by, entries_in, waiting_in, no_map}

abbrev pub exceeding : {A : Type 0} → ℕ → List A → Bool
exceeding limit l = ltb limit (length l)

-- "over the limit on clock dots, entries, values, waiting removals, keys of one"
unfoldable pub over_dots : Map → Bool
over_dots m =
    exceeding dot_limit (seen_by m) || (some (λ e. exceeding dot_limit (dots_in e) || some (λ v. exceeding dot_limit (dots_of v.clock)) (values_in e))
    (entries_in m)
    || some (λ r. exceeding dot_limit (under_of r)) (waiting_in m))

unfoldable pub over_entries : Map → Bool
over_entries m = exceeding entry_limit (entries_in m)

unfoldable pub over_values : Map → Bool
over_values m = some (λ e. exceeding value_limit (values_in e)) (entries_in m)

unfoldable pub over_waiting : Map → Bool
over_waiting m = exceeding waiting_limit (waiting_in m)

unfoldable pub over_keys : Map → Bool
over_keys m = some (λ r. exceeding key_limit (listed_in r)) (waiting_in m)

unfoldable pub over_number : Map → ℕ
over_number m = cond (over_dots m) 4 (cond (over_entries m) 5 (cond (over_values m) 6 (cond (over_waiting m) 7 (cond (over_keys m) 8 0))))

-- a number, and the map, which is empty where the number is not 0
pub record Judged : Type 0 where
  pub number : ℕ
  pub map : Map

-- what a change answers
abbrev pub judgement : Result Map Refusal → Judged
judgement r = record { number = number_told r; map = done_or no_map r }

-- the map, or the number of the first limit that it breaks
unfoldable pub judged : Map → Judged
judged m = cond (eqb (over_number m) 0) (record { number = 0; map = m }) (record { number = over_number m; map = no_map })
