-- 01 "Errors that look right": an update that crosses a removal of its own key leaves two values one way and one the other, on a valid map
-- where neither order refuses.
use mathlib.Core.Path.{◌≡◌, refl, ap, sym, ◌∙◌}
use mathlib.Core.Bool.{true}
use mathlib.Core.List.Memᴰ
use mathlib.Core.List.{List, [], ◌∷◌}
use Prim.Native.Nat.{ℕ}
use native.Mathlib.Omega.{arith}
use lib.ListN.{get_or}
use Rattle.listlaws.specs.Pad.{pad}
use Rattle.listlaws.specs.Sift.{sift}
use Rattle.listlaws.specs.First.{first_in}
use Rattle.listlaws.specs.Fold.{fold}
use Rattle.listlaws.specs.Weave.{weave}
use Rattle.listlaws.specs.Rise.{rising}
use Rattle.listlaws.proofs.Sides.{one-ascends}
use Rattle.clock.specs.declared.Dot.{Dot}
use Rattle.clock.specs.Dots.{clock_of, is_empty, counter_in, covers, order_of, cut_dots, join_dots, add_dot}
use Rattle.clock.specs.Lawful.{Lawful}
use Rattle.clock.specs.Walking.{is_lawful}
use Rattle.clock.proofs.Joins.{lawful-one}
use Rattle.clock.proofs.Walks.{lawful-told}
use Rattle.register.specs.declared.Value.{Value}
use Rattle.register.specs.Values.{yields, outdone, remaining, put_values, cut_values}
use Rattle.removals.specs.declared.Removal.{Removal}
use Rattle.entries.specs.declared.Update.{Update}
use Rattle.entries.specs.Model.{no_entry, entry_as}
use Rattle.removals.specs.Model.{removal_as, listed_in}
use Rattle.entries.specs.Entries.{cut_entry, remove_from, remove_entries, put_entry, entry_at, put_entries}
use Rattle.removals.specs.Waits.{listed, waits, clock_before, union_keys, unite_all}
use Rattle.entries.specs.Valid.{ValidEntry}
use Rattle.removals.specs.Valid.{ValidRemoval}
use Rattle.removals.proofs.WaitingValid.{valid-none}
use Rattle.map.specs.declared.Map.{Map}
use Rattle.map.specs.Model.{map_as}
use Rattle.map.specs.Removing.{remove, afresh}
use Rattle.map.specs.Updating.{update}
use Rattle.map.specs.Judging.{over_dots, over_entries, over_values, over_waiting, over_keys, over_number}
use Rattle.map.specs.Valid.{Valid, ValidUpdate, Within}
use Rattle.map.proofs.Kept.{valid-as}
use Rattle.maplaws.proofs.Examples.{dot, one}

abbrev value : List Dot → ℕ → Value
value c x = record { clock = clock_of c; value = record { number = x; origin = 0 } }

-- clock {1:1,2:1}, entry 5 {1:1} holding ({1:1,2:1},7)
abbrev before : Map
before = map_as (dot 1 1 ∷ dot 2 1 ∷ []) (entry_as 5 (one 1 1) (value (dot 1 1 ∷ dot 2 1 ∷ []) 7 ∷ []) ∷ []) []

-- update (3,1) put {3:1} 9
abbrev put : Update
put = record { dot = dot 3 1; key = 5; put = value (one 3 1) 9 }

-- remove 5 under {1:1}
abbrev removal : Removal
removal = removal_as (one 1 1) (5 ∷ [])

abbrev later : List Dot
later = dot 1 1 ∷ dot 2 1 ∷ dot 3 1 ∷ []

-- each of the four calls' maps, in either order
abbrev Accepted : Map → Type 0
Accepted m = over_number m ≡ 0

pub record Crossed : Type 0 where
  pub valid : Within before
  pub valid-removal : ValidRemoval removal
  pub valid-update : ValidUpdate put
  pub own : listed (listed_in removal) put.key ≡ true
  pub removal-first : Accepted (remove before removal) × Accepted (update (remove before removal) put)
  pub update-first : Accepted (update before put) × Accepted (remove (update before put) removal)
  pub one_value : update (remove before removal) put ≡ map_as later (entry_as 5 (one 3 1) (value (one 3 1) 9 ∷ []) ∷ []) []
  pub two-values : remove (update before put) removal ≡ map_as later (entry_as 5 (one 3 1) (value (one 2 1) 7 ∷ value (one 3 1) 9 ∷ []) ∷ []) []

-- one dot, and the two of the map clock
lawful-dot : (a : ℕ) → Lawful (one a 1)
lawful-dot a = lawful-one (dot a 1) (omega arith)

lawful-two : Lawful (dot 1 1 ∷ dot 2 1 ∷ [])
lawful-two = lawful-told (unfold is_lawful rising in refl)

valid-entry : ValidEntry (dot 1 1 ∷ dot 2 1 ∷ []) (entry_as 5 (one 1 1) (value (dot 1 1 ∷ dot 2 1 ∷ []) 7 ∷ []))
unfolding pad first_in is_empty counter_in covers
valid-entry = record {
  laid = refl;
  clock = lawful-dot 1;
  some = refl;
  covered = refl;
  values = λ v i. let same : v ≡ value (dot 1 1 ∷ dot 2 1 ∷ []) 7 = Memᴰ.eq_of_singleton i in
      rw same (record { laid = refl; clock = lawful-two; some = refl });
}

valid-before : Valid before
valid-before =
    valid-as lawful-two
    (record {
      rising = one-ascends (entry_as 5 (one 1 1) (value (dot 1 1 ∷ dot 2 1 ∷ []) 7 ∷ []));
      each = λ e i. let same : e ≡ entry_as 5 (one 1 1)
          (value (dot 1 1 ∷ dot 2 1 ∷ []) 7 ∷ []) = Memᴰ.eq_of_singleton i in rw same valid-entry;
    })
    valid-none

pub crossed : Crossed
unfolding pad sift first_in fold weave is_empty counter_in covers order_of cut_dots join_dots add_dot yields outdone remaining put_values cut_values
    cut_entry
    listed remove_from remove_entries waits clock_before union_keys unite_all remove afresh put_entry entry_at put_entries update over_dots
    over_entries
    over_values over_waiting over_keys over_number
crossed = record {
  valid = record { valid = valid-before; limits = refl };
  valid-removal = record { laid = refl; clock = lawful-dot 1; keys = one-ascends 5 };
  valid-update = record { dot = omega arith; laid = refl; clock = lawful-dot 3 };
  own = refl;
  removal-first = (refl, refl);
  update-first = (refl, refl);
  one_value = refl;
  two-values = refl;
}

-- an end theorem: so such a removal and the update do not trade places
pub no-trade : update (remove before removal) put ≡ remove (update before put) removal → ⊥
unfolding pad
no-trade e =
    let z : ◌≡◌ {A = ℕ} 1 2 = ap (λ m. (get_or m.entries.items 0 no_entry).register.len) (sym crossed.one_value ∙ e ∙ crossed.two-values) in
    omega arith
