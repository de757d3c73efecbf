-- An image of before there were origins, and one that has them, before a reader of then and a reader of now.
use mathlib.Core.Path.{◌≡◌, refl, ap, sym, ◌∙◌}
use mathlib.Core.Bool.{Bool, true, cond}
use mathlib.Core.List.Memᴰ
use mathlib.Core.List.{List}
use Prim.Native.Nat.{ℕ, ◌%◌}
use native.Mathlib.Omega.{arith}
use lib.Dec.{eqb, ltb}
use lib.ListN.{length}
use borrow.Author.Tests.{eqb-true}
use Rattle.listlaws.specs.Order.{◌∈◌}
use Rattle.listlaws.specs.Sift.{those}
use Rattle.listlaws.proofs.Those.{those-means}
use Rattle.listlaws.proofs.Sides.{fold-keeps}
use Rattle.entries.proofs.Packs.{entries-of, values-in}
use Rattle.records.specs.declared.Record.{Record}
use Rattle.records.specs.Records.{records_of}
use Rattle.records.proofs.Rule.{is_value}
use Rattle.scan.specs.Limits.{today}
use Rattle.scan.proofs.Eachs.{decide}
use Rattle.clockimage.specs.Image.{is_kind, dots_from, image_of}
use Rattle.opimage.specs.OpImage.{op_longest, no_record, record_of, op_related, op_in, refused_op, read_op}
use Rattle.mapimage.specs.MapImage.{map_longest}
use Rattle.maprecords.specs.Reading.{under_key, value_in, values_under, entry_in, entry_keys, entries_for, map_in}
use Rattle.maprecords.specs.Related.{related, refused_map, read_map}
use Rattle.acceptancelaws.proofs.Limited.{at_key}
use Rattle.oneimagelaws.proofs.Fields.{places-every}
use Rattle.oneimagelaws.proofs.Maps.{one-map-image}
use Rattle.oneimagelaws.proofs.Ops.{one-op-image}
use Rattle.originlaws.specs.Before.{old_formed, old_within, old_judged, old_map, old_op}
use Rattle.originlaws.specs.Origins.{NoOrigins, Origins}
use Rattle.originlaws.proofs.Records.{Unnamed}
use Rattle.originlaws.proofs.Lists.{all-unnamed, judged_by, judged-same, judged-one}

-- a reader of then and one of now, of maps or of operations
module _ {R : Type 0} (longest low high : ℕ) (number : R → ℕ) (refused : ℕ → R) (numbered : (n : ℕ) → number (refused n) ≡ n) (fit : List Record
    → Bool) (meant : List Record → R) (s : List ℕ) where
  abbrev l : List Record
  l = records_of s

  abbrev old : R
  old = image_of longest refused (old_judged today low high refused fit meant) s

  abbrev new : R
  new = image_of longest refused (judged_by low high refused fit meant) s

  -- an image that is accepted was judged by its records
  by-records : (judged other : List Record → R) → number (image_of longest refused judged s) ≡ 0 → image_of longest refused other s ≡ other l
  by-records judged other h =
      decide (ltb longest (length s)) (λ t. absurd (let z = sym (numbered 2) ∙ (rw t at h) in omega arith))
      (λ n. decide (eqb (length s % 16) 0) (λ t. rw (n, t) refl) (λ m. absurd (let z = sym (numbered 1) ∙ (rw (n, m) at h) in omega arith)))

  formed : number (old_judged today low high refused fit meant l) ≡ 0 → old_formed low high l ≡ true
  formed h = decide (old_formed low high l) (λ t. t) (λ f. absurd (let z = sym (numbered 1) ∙ (rw f at h) in omega arith))

  means : number (old_judged today low high refused fit meant l) ≡ 0 → old_judged today low high refused fit meant l ≡ meant l
  means h =
      let t = formed h in
      decide (old_within today l)
      (λ u. decide (fit l) (λ v. rw (t, u, v) refl) (λ f. absurd (let z = sym (numbered 3) ∙ (rw (t, u, f) at h) in omega arith)))
      (λ f. absurd (let z = sym (numbered 2) ∙ (rw (t, f) at h) in omega arith))

  pub stands : number old ≡ 0 → (new ≡ old) × ((new ≡ meant l) × ((x : Record) → x ∈ l → Unnamed x))
  stands h =
      let a = by-records (old_judged today low high refused fit meant) (old_judged today low high refused fit meant) h in
      let b = by-records (old_judged today low high refused fit meant) (judged_by low high refused fit meant) h in
      let z = sym (ap number a) ∙ h in
      let same = b ∙ judged-same low high refused fit meant l (formed z) ∙ sym a in
      (same, (same ∙ a ∙ means z, all-unnamed low high l (formed z)))

  -- one that is accepted now, and whose values cannot all be without a name
  pub refuses : number new ≡ 0 → (new ≡ meant l → ((x : Record) → x ∈ l → Unnamed x) → ⊥) → old ≡ refused 1
  refuses h f =
      let a = by-records (judged_by low high refused fit meant) (old_judged today low high refused fit meant) h in
      decide (old_formed low high l)
      (λ t. let b = by-records (judged_by low high refused fit meant) (judged_by low high refused fit meant) h in
      let same = b ∙ judged-same low high refused fit meant l t in
      absurd (f (same ∙ means (sym (ap number same) ∙ h)) (all-unnamed low high l t)))
      (λ n. a ∙ judged-one low high refused fit meant l n)

-- records of values that name nobody stand for values of origin 0
module _ (l : List Record) (h : (x : Record) → x ∈ l → Unnamed x) where
  zero-map : NoOrigins (map_in l)
  zero-map e i =
      let y = Memᴰ.of_map (entry_in l) (entry_keys l) (rw (entries-of (entries_for l)) at i) in
      rw (← y.2)
      (λ v j. places-every (λ v. v.value.origin ≡ 0) (value_in l y.0) 0 (those (under_key 3 y.0) l)
      (λ n r a. let m = those-means (under_key 3 y.0) l a in h r m.0 (ap is_value (at_key y.0 3 r m.1).0))
      v (rw (values-in y.0 (dots_from (under_key 2 y.0) l) (values_under l y.0)) at j))

  zero-op : (op_in l).update.put.value.origin ≡ 0
  unfolding record_of
  zero-op = fold-keeps (λ q r. cond (is_kind 11 r) r q) (λ q. q.actor ≡ 0) l kept no_record refl
    where
      kept : (q r : Record) → r ∈ l → q.actor ≡ 0 → (cond (is_kind 11 r) r q).actor ≡ 0
      kept q r i p = decide (is_kind 11 r) (λ t. rw t (h r i (ap is_value (eqb-true r.kind 11 t)))) (λ f. rw f p)

-- the two kinds of image
module _ (s : List ℕ) where
  map-stands : (old_map s).number ≡ 0 → (read_map s ≡ old_map s) × ((read_map s ≡ record { number = 0; map = map_in (records_of s) })
      × ((x : Record) → x ∈ records_of s → Unnamed x))
  unfolding read_map old_map
  map-stands h = stands map_longest 1 6 (λ r. r.number) refused_map (λ n. refl) related (λ l. record { number = 0; map = map_in l }) s h

  map-refuses : (read_map s).number ≡ 0 → (read_map s ≡ record { number = 0; map = map_in (records_of s) }
      → ((x : Record) → x ∈ records_of s → Unnamed x)
      → ⊥) → old_map s ≡ refused_map 1
  unfolding read_map old_map
  map-refuses h f = refuses map_longest 1 6 (λ r. r.number) refused_map (λ n. refl) related (λ l. record { number = 0; map = map_in l }) s h f

  op-stands : (old_op s).number ≡ 0 → (read_op s ≡ old_op s) × ((read_op s ≡ record { number = 0; op = op_in (records_of s) })
      × ((x : Record) → x ∈ records_of s → Unnamed x))
  unfolding read_op old_op
  op-stands h = stands op_longest 7 12 (λ r. r.number) refused_op (λ n. refl) op_related (λ l. record { number = 0; op = op_in l }) s h

  op-refuses : (read_op s).number ≡ 0 → (read_op s ≡ record { number = 0; op = op_in (records_of s) } → ((x : Record) → x ∈ records_of s → Unnamed x)
      → ⊥)
      → old_op s ≡ refused_op 1
  unfolding read_op old_op
  op-refuses h f = refuses op_longest 7 12 (λ r. r.number) refused_op (λ n. refl) op_related (λ l. record { number = 0; op = op_in l }) s h f

-- the end theorem of this crate
pub origins : Origins
origins = record {
  same_map = λ s h. (map-stands s h).0;
  map-zero = λ s h. let m = map-stands s h in rw m.1.0 (zero-map (records_of s) m.1.1);
  map-unchanged = λ s b h. (one-map-image.again s b (ap (λ r. r.number) (map-stands s h).0 ∙ h)).1;
  same_op = λ s h. (op-stands s h).0;
  op-zero = λ s h. let m = op-stands s h in rw m.1.0 (zero-op (records_of s) m.1.1);
  op-unchanged = λ s b h. (one-op-image.again s b (ap (λ r. r.number) (op-stands s h).0 ∙ h)).1;
  map-refused = λ s h o. map-refuses s h
      (λ e z. o.other (zero-map (records_of s) z o.entry (rw e at o.stands) o.value o.holds));
  op-refused = λ s h o. op-refuses s h (λ e z. o (rw e (zero-op (records_of s) z)));
}
