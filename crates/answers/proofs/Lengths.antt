-- How long the image of a map is.
use mathlib.Core.Path.{◌≡◌, refl, ap, ◌∙◌}
use mathlib.Core.List.{List}
use Prim.Native.Nat.{◌+◌, ◌*◌, ◌≤◌}
use native.Mathlib.Omega.{arith}
use lib.ListN.{length, length-append, length-map}
use Rattle.clock.specs.Dots.{dots_of}
use Rattle.register.specs.declared.Value.{Value}
use Rattle.entries.specs.declared.Entry.{Entry}
use Rattle.removals.specs.declared.Removal.{Removal}
use Rattle.limits.specs.Limits.{waiting_limit}
use Rattle.removals.specs.Model.{under_of, listed_in}
use Rattle.entries.specs.Model.{dots_in, values_in}
use Rattle.map.specs.declared.Map.{Map}
use Rattle.map.specs.Model.{seen_by, entries_in, waiting_in}
use Rattle.map.specs.Valid.{Valid}
use Rattle.records.proofs.RoundTrips.{length-bytes}
use Rattle.clockimage.specs.Image.{dot_record}
use Rattle.mapimage.specs.Sorted.{in_order}
use Rattle.mapimage.specs.MapImage.{flat_from, value_records, entry_records, waiting_dots, key_numbers, number_record, waiting_keys, map_records}
use Rattle.mapimage.specs.MapImage.{map_image}
use Rattle.listlaws.specs.Fold.{total_of}
use Rattle.answers.specs.Sizes.{value_size, entry_size, removal_size, map_size}
use Rattle.answers.proofs.Totals.{length-flat, total-sum, total-same}
use Rattle.answers.proofs.Distinct.{length-order, keys-distinct}

-- the records of each kind
module _ (e : List Entry) where
  pub entry-dots : length (flat_from (entry_records 2) 0 e) ≡ total_of (λ x. length (dots_in x)) e
  entry-dots = length-flat _ (entry_records 2) (λ i x. length-map (dots_in x) _) 0 e

  entry-values : length (flat_from (entry_records 3) 0 e) ≡ total_of (λ x. total_of (λ v. 1) (values_in x)) e
  entry-values = length-flat _ (entry_records 3) (λ i x. length-flat _ (value_records 3 x.key) (λ j v. refl) 0 (values_in x)) 0 e

  value-dots : length (flat_from (entry_records 4) 0 e) ≡ total_of (λ x. total_of (λ (v : Value). length (dots_of v.clock)) (values_in x)) e
  value-dots = length-flat _ (entry_records 4) (λ i x. length-flat _ (value_records 4 x.key) (λ j v. length-map (dots_of v.clock) _) 0
      (values_in x)) 0 e

  pub in-entries : length (flat_from (entry_records 2) 0 e) + (length (flat_from (entry_records 3) 0 e) + length (flat_from (entry_records 4) 0 e))
      ≡ total_of entry_size e
  in-entries =
      let p = total-sum (λ (x : Entry). total_of (λ v. 1) (values_in x)) (λ x. total_of (λ (v : Value). length (dots_of v.clock)) (values_in x)) e in
      let q = total-same _ (λ (x : Entry). total_of value_size (values_in x))
      (λ x. total-sum (λ v. 1) (λ (v : Value). length (dots_of v.clock)) (values_in x)) e in
      let r = total-sum (λ (x : Entry). length (dots_in x)) (λ x. total_of value_size (values_in x)) e in
      omega (arith, entry-dots, entry-values, value-dots)

module _ {m : Map} (v : Valid m) (few : length (waiting_in m) ≤ waiting_limit) where
  in-waiting : length (flat_from waiting_dots 0 (waiting_in m)) + length (waiting_keys (waiting_in m)) ≡ total_of removal_size (waiting_in m)
  in-waiting =
      let w = waiting_in m in
      let d = length-flat (λ r. length (under_of r)) waiting_dots (λ i r. length-map (under_of r) _) 0 w in
      let k = length-flat (λ r. length (listed_in r)) key_numbers (λ i r. length-map (listed_in r) _) 0 w in
      let o = length-order (flat_from key_numbers 0 w) (keys-distinct 0 w (omega arith) (λ r i. (v.waiting.each r i).keys)) in
      let n = length-map (in_order (flat_from key_numbers 0 w)) number_record in
      let s = total-sum (λ (r : Removal). length (under_of r)) (λ r. length (listed_in r)) w in
      omega arith

  pub length-image : length (map_image m) ≡ map_size m * 16
  unfolding map_size
  length-image =
      length-bytes (map_records m) ∙ ap (λ n. n * 16) (simp length-append
      (omega (arith, length-map (seen_by m) (dot_record 1 0 0), in-entries (entries_in m), in-waiting)))
