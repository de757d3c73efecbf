-- Every record of a part of a map that was read stands in the image that it was read from.
use mathlib.Core.Path.{◌≡◌, ap, sym, ◌∙◌}
use mathlib.Core.Bool.{Bool, true}
use mathlib.Core.List.Memᴰ
use mathlib.Core.List.{List}
use Prim.Native.Nat.{ℕ, ◌≤◌, ◌<◌}
use native.Mathlib.Omega.{arith}
use Rattle.listlaws.specs.Order.{◌∈◌}
use Rattle.listlaws.specs.Sift.{those}
use Rattle.listlaws.proofs.Those.{those-means}
use Rattle.clock.specs.declared.Dot.{Dot}
use Rattle.clock.specs.Dots.{dots_of}
use Rattle.clock.proofs.Packs.{dots-of}
use Rattle.register.specs.declared.Value.{Value}
use Rattle.entries.specs.declared.Entry.{Entry}
use Rattle.removals.specs.declared.Removal.{Removal}
use Rattle.limits.specs.Limits.{waiting_limit}
use Rattle.removals.specs.Model.{under_of, listed_in}
use Rattle.entries.specs.Model.{dots_in, values_in}
use Rattle.entries.proofs.Packs.{dots-in, values-in}
use Rattle.records.specs.declared.Record.{Record}
use Rattle.scan.specs.Each.{each}
use Rattle.scan.specs.Numbers.{scan_number}
use Rattle.clockimage.specs.Image.{is_kind, dot_of, dot_record, dots_from}
use Rattle.opimage.specs.OpImage.{no_record, keys_in}
use Rattle.mapimage.specs.MapImage.{value_record, key_number, number_record}
use Rattle.maprecords.specs.Reading.{under_key, under_index, under_both, value_in, values_under, entry_in, entry_keys, entries_for, waiting_count}
use Rattle.maprecords.specs.Reading.{waiting_removal_in, waiting_for}
use Rattle.clockimage.specs.ClockImage.{clock_in}
use Rattle.maprecords.specs.Related.{finds_place}
use Rattle.acceptancelaws.proofs.Grouped.{fine}
use Rattle.acceptancelaws.proofs.Waited.{under-as, listed-as}
use Rattle.oneimagelaws.proofs.Rising.{Fields}
use Rattle.oneimagelaws.proofs.Stands.{Part, clock-dot, entry-dot, value, value-dot, waiting-dot, waiting-key, Place, place_in}
use Rattle.oneimagelaws.proofs.Made.{of-place, number-place}
use Rattle.oneimagelaws.proofs.Placing.{place-index}
use Rattle.oneimagelaws.proofs.Remade.{dot-remade, clock-fields, entry-fields, value-dot-fields, waiting-fields, value-remade, key-remade}

module _ (l : List Record) (z : scan_number 1 6 l ≡ 0) (p : each finds_place l ≡ true) (few : waiting_count l ≤ waiting_limit) where
  -- a dot of a group comes from a record of the group
  dot-comes : (test : Record → Bool) {kind key index : ℕ} → ((x : Record) → x ∈ l → test x ≡ true → Fields kind key index x) → (d : Dot)
      → d ∈ dots_from test l → dot_record kind index key d ∈ l
  dot-comes test {kind} {key} {index} f d i =
      let (x, a, e) = Memᴰ.of_map dot_of (those test l) i in
      let (j, t) = those-means test l a in
      Memᴰ.cast (ap (dot_record kind index key) (sym e) ∙ dot-remade (f x j t)) j

  clock-comes : (d : Dot) → d ∈ clock_in l → dot_record 1 0 0 d ∈ l
  clock-comes = dot-comes (is_kind 1) (λ x j t. clock-fields x (fine 1 6 l z x j) t)

  module _ (key : ℕ) where
    entry-comes : (d : Dot) → d ∈ dots_in (entry_in l key) → dot_record 2 0 key d ∈ l
    entry-comes d i =
        dot-comes (under_key 2 key) (λ x j t. entry-fields x (fine 1 6 l z x j) t) d
        (rw (dots-in key (dots_from (under_key 2 key) l) (values_under l key)) at i)

    -- a value at its place
    its-record : (j : ℕ) (v : Value) → Place v j (values_in (entry_in l key))
        → (x : Record) × Place x j (those (under_key 3 key) l) × (v ≡ value_in l key j x)
    its-record j v s = of-place (value_in l key) no_record (rw (values-in key (dots_from (under_key 2 key) l) (values_under l key)) at s)

    value-comes : (j : ℕ) (v : Value) → Place v j (values_in (entry_in l key)) → value_record key j v ∈ l
    value-comes j v s =
        let (x, a, e) = its-record j v s in
        let (i, t) = those-means (under_key 3 key) l (place_in a) in
        Memᴰ.cast (value-remade x (fine 1 6 l z x i) v t (place-index key l p a) (ap (λ (y : Value). y.value) e)) i

    value-dot-comes : (j : ℕ) (v : Value) → Place v j (values_in (entry_in l key)) → (d : Dot) → d ∈ dots_of v.clock → dot_record 4 j key d ∈ l
    value-dot-comes j v s d i =
        let (x, a, e) = its-record j v s in
        dot-comes (under_both 4 key j) (λ x j t. value-dot-fields x (fine 1 6 l z x j) t) d
        (rw (dots-of (dots_from (under_both 4 key j) l) (ap (λ (y : Value). y.clock) e)) at i)

  waiting-comes : (j : ℕ) (d : Dot) → d ∈ under_of (waiting_removal_in l j) → dot_record 5 j 0 d ∈ l
  waiting-comes j d i =
      dot-comes (under_index 5 j) (λ x j t. waiting-fields x (fine 1 6 l z x j) t) d
      (rw (under-as (dots_from (under_index 5 j) l) (keys_in (under_index 6 j) l)) at i)

  key-comes : (j k : ℕ) → j < waiting_count l → k ∈ listed_in (waiting_removal_in l j) → number_record (key_number j k) ∈ l
  key-comes j k h i =
      let (x, a, e) = Memᴰ.of_map (λ (x : Record). x.key) (those (under_index 6 j) l)
      (rw (listed-as (dots_from (under_index 5 j) l) (keys_in (under_index 6 j) l)) at i) in
      let (m, t) = those-means (under_index 6 j) l a in
      Memᴰ.cast (ap (λ y. number_record (key_number j y)) (sym e) ∙ key-remade x (fine 1 6 l z x m) t (omega arith)) m

  -- what holds of each entry under its key
  of_entry : (P : Entry → Type 0) → ((key : ℕ) → P (entry_in l key)) → (e : Entry) → e ∈ entries_for l → P e
  of_entry P f e i = let y = Memᴰ.of_map (entry_in l) (entry_keys l) i in rw (← y.2) (f y.0)

  -- and of each removal at its place
  of-removal : (P : ℕ → Removal → Type 0) → ((j : ℕ) → j < waiting_count l → P j (waiting_removal_in l j)) → (j : ℕ) (q : Removal)
      → Place q j (waiting_for l) → P j q
  of-removal P f j q s = let (h, e) = number-place (waiting_removal_in l) (waiting_count l) s in rw e (f j h)

  pub comes-from : (r : Record) → Part (clock_in l) (entries_for l) (waiting_for l) r → r ∈ l
  comes-from r (clock-dot d i e) = Memᴰ.cast e (clock-comes d i)
  comes-from r (entry-dot x i d k e) = Memᴰ.cast e (of_entry (λ x. (d : Dot) → d ∈ dots_in x → dot_record 2 0 x.key d ∈ l) entry-comes x i d k)
  comes-from r (value x i j v s e) = Memᴰ.cast e (of_entry (λ x. (j : ℕ) (v : Value) → Place v j (values_in x)
      → value_record x.key j v ∈ l) value-comes x i j v s)
  comes-from r (value-dot x i j v s d k e) =
      Memᴰ.cast e (of_entry (λ x. (j : ℕ) (v : Value) → Place v j (values_in x) → (d : Dot) → d ∈ dots_of v.clock
      → dot_record 4 j x.key d ∈ l) value-dot-comes x i j v s d k)
  comes-from r (waiting-dot j q s d k e) = Memᴰ.cast e (of-removal (λ j q. (d : Dot) → d ∈ under_of q → dot_record 5 j 0 d ∈ l)
      (λ j h. waiting-comes j) j q s d k)
  comes-from r (waiting-key j q s k i e) = Memᴰ.cast e (of-removal (λ j q. (k : ℕ) → k ∈ listed_in q → number_record (key_number j k) ∈ l)
      (λ j h k. key-comes j k h) j q s k i)
