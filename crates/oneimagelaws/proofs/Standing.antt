-- Every record of an accepted map's image is that of a part of the map that was read.
use mathlib.Core.Path.{◌≡◌, refl, sym}
use mathlib.Core.Bool.{Bool, true}
use mathlib.Core.List.Memᴰ
use mathlib.Core.List.{List}
use Prim.Native.Nat.{ℕ, ◌≤◌}
use native.Mathlib.Omega.{arith}
use lib.Dec.{eqb}
use lib.ListN.{get_or}
use borrow.Author.Tests.{eqb-true, eqb-false, eq-eqb}
use Rattle.listlaws.specs.Order.{◌∈◌}
use Rattle.listlaws.specs.Sift.{those}
use Rattle.listlaws.proofs.Those.{those-holds}
use Rattle.clock.specs.declared.Dot.{Dot}
use Rattle.clock.proofs.Packs.{dots-of}
use Rattle.limits.specs.Limits.{waiting_limit}
use Rattle.entries.specs.Model.{values_in}
use Rattle.entries.proofs.Packs.{dots-in, values-in}
use Rattle.records.specs.declared.Record.{Record}
use Rattle.records.specs.Kinds.{record_ok}
use Rattle.scan.specs.Each.{each}
use Rattle.scan.specs.Numbers.{scan_number}
use Rattle.scan.proofs.Eachs.{decide, both}
use Rattle.scan.proofs.Rooms.{kind-range}
use Rattle.clockimage.specs.Image.{is_kind, dot_of, dots_from}
use Rattle.opimage.specs.OpImage.{no_record, keys_in}
use Rattle.maprecords.specs.Reading.{under_key, under_index, under_both, value_in, values_under, entry_in, entries_for, waiting_count}
use Rattle.maprecords.specs.Reading.{waiting_removal_in}
use Rattle.maprecords.specs.Reading.{waiting_for}
use Rattle.clockimage.specs.ClockImage.{clock_in}
use Rattle.maprecords.specs.Related.{finds_place}
use Rattle.acceptancelaws.proofs.Grouped.{fine}
use Rattle.acceptancelaws.proofs.Waited.{under-as, listed-as}
use Rattle.oneimagelaws.proofs.Stands.{Part, clock-dot, entry-dot, value, value-dot, waiting-dot, waiting-key, Place, place-get}
use Rattle.oneimagelaws.proofs.Made.{place_of, place-number}
use Rattle.oneimagelaws.proofs.Placing.{settled, value-place}
use Rattle.oneimagelaws.proofs.Remade.{dot-remade, clock-fields, entry-fields, value-dot-fields, waiting-fields, value-remade, key-remade}

module _ (l : List Record) (z : scan_number 1 6 l ≡ 0) (p : each finds_place l ≡ true) (few : waiting_count l ≤ waiting_limit) (r : Record)
    (i : r ∈ l) where
  abbrev Again : Type 0
  Again = Part (clock_in l) (entries_for l) (waiting_for l) r

  good : record_ok 1 6 r ≡ true
  good = fine 1 6 l z r i

  -- the record passes the test of its own kind, key and index
  own_key : (kind : ℕ) → r.kind ≡ kind → under_key kind r.key r ≡ true
  own_key kind k = both (is_kind kind r) (eqb r.key r.key) (eq-eqb r.kind kind k) (eq-eqb r.key r.key refl)

  own-index : (kind : ℕ) → r.kind ≡ kind → under_index kind r.index r ≡ true
  own-index kind k = both (is_kind kind r) (eqb r.index r.index) (eq-eqb r.kind kind k) (eq-eqb r.index r.index refl)

  own-both : r.kind ≡ 4 → under_both 4 r.key r.index r ≡ true
  own-both k = both (under_key 4 r.key r) (eqb r.index r.index) (own_key 4 k) (eq-eqb r.index r.index refl)

  its-dot : (test : Record → Bool) → test r ≡ true → dot_of r ∈ dots_from test l
  its-dot test t = Memᴰ.map dot_of (those-holds test i t)

  its-entry : 2 ≤ r.kind → r.kind ≤ 4 → entry_in l r.key ∈ entries_for l
  its-entry a b = Memᴰ.map (entry_in l) ((settled l p r i).entry a b)

  its-removal : 5 ≤ r.kind → r.kind ≤ 6 → Place (waiting_removal_in l r.index) r.index (waiting_for l)
  its-removal a b = place-number (waiting_removal_in l) (waiting_count l) ((settled l p r i).waiting a b)

  -- the dots and the values of its entry
  abbrev dots : List Dot
  dots = dots_from (under_key 2 r.key) l

  its-value : {x : Record} → Place x r.index (those (under_key 3 r.key) l)
      → Place (value_in l r.key r.index x) r.index (values_in (entry_in l r.key))
  its-value s = rw (values-in r.key dots (values_under l r.key)) (place_of (value_in l r.key) s)

  clock-again : r.kind ≡ 1 → Again
  clock-again k = let t = eq-eqb r.kind 1 k in clock-dot (dot_of r) (its-dot (is_kind 1) t) (sym (dot-remade (clock-fields r good t)))

  entry-again : r.kind ≡ 2 → Again
  entry-again k =
      let t = own_key 2 k in
      entry-dot (entry_in l r.key) (its-entry (omega arith) (omega arith)) (dot_of r)
      (rw (dots-in r.key dots (values_under l r.key)) (its-dot (under_key 2 r.key) t)) (sym (dot-remade (entry-fields r good t)))

  value-again : r.kind ≡ 3 → Again
  value-again k =
      let t = own_key 3 k in
      value (entry_in l r.key) (its-entry (omega arith) (omega arith)) r.index (value_in l r.key r.index r)
      (its-value (value-place l p r i t)) (sym (value-remade r good (value_in l r.key r.index r) t refl refl))

  value-dot-again : r.kind ≡ 4 → Again
  value-dot-again k =
      let t = own-both k in
      let vs = those (under_key 3 r.key) l in
      value-dot (entry_in l r.key) (its-entry (omega arith) (omega arith)) r.index (value_in l r.key r.index (get_or vs r.index no_record))
      (its-value (place-get vs r.index no_record ((settled l p r i).value k))) (dot_of r)
      (rw (dots-of (dots_from (under_both 4 r.key r.index) l) refl) (its-dot (under_both 4 r.key r.index) t))
      (sym (dot-remade (value-dot-fields r good t)))

  waiting-again : r.kind ≡ 5 → Again
  waiting-again k =
      let t = own-index 5 k in
      waiting-dot r.index (waiting_removal_in l r.index) (its-removal (omega arith) (omega arith)) (dot_of r)
      (rw (under-as (dots_from (under_index 5 r.index) l) (keys_in (under_index 6 r.index) l)) (its-dot (under_index 5 r.index) t))
      (sym (dot-remade (waiting-fields r good t)))

  key-again : r.kind ≡ 6 → Again
  key-again k =
      let t = own-index 6 k in
      let h = (settled l p r i).waiting (omega arith) (omega arith) in
      waiting-key r.index (waiting_removal_in l r.index) (its-removal (omega arith) (omega arith)) r.key
      (rw (listed-as (dots_from (under_index 5 r.index) l) (keys_in (under_index 6 r.index) l))
      (Memᴰ.map (λ (x : Record). x.key) (those-holds (under_index 6 r.index) i t)))
      (sym (key-remade r good t (omega arith)))

  pub stands-again : Again
  stands-again =
      let (low, high) = kind-range 1 6 r good in
      by_kind 1 clock-again (λ a. by_kind 2 entry-again (λ b. by_kind 3 value-again
      (λ c. by_kind 4 value-dot-again (λ d. by_kind 5 waiting-again (λ e. key-again (omega arith))))))
    where
      by_kind : (kind : ℕ) → (r.kind ≡ kind → Again) → ((r.kind ≡ kind → ⊥) → Again) → Again
      by_kind kind f g = decide (eqb r.kind kind) (λ t. f (eqb-true r.kind kind t)) (λ t. g (eqb-false r.kind kind t))
