-- A good record of a map's image is the one that is written again of what it holds.
use mathlib.Core.Path.{◌≡◌, refl, ap, sym, ◌∙◌}
use mathlib.Core.Bool.{true}
use Prim.Native.Nat.{ℕ, ◌<◌}
use native.Mathlib.Omega.{arith}
use Rattle.register.specs.declared.Value.{Value}
use Rattle.records.specs.declared.Record.{Record}
use Rattle.records.specs.Kinds.{record_ok}
use Rattle.records.proofs.RoundTrips.{by-fields}
use Rattle.scan.proofs.Rooms.{no_index, no-actor, no_key, no_number}
use Rattle.clockimage.specs.Image.{is_kind, dot_of, dot_record, content_of}
use Rattle.mapimage.specs.MapImage.{value_record, key_number, number_record}
use Rattle.maprecords.specs.Reading.{under_key, under_index, under_both}
use Rattle.acceptancelaws.proofs.Limited.{is-kind, at_key, at_both, at-index}
use Rattle.oneimagelaws.proofs.Rising.{Fields}

pub dot-remade : {kind key index : ℕ} {r : Record} → Fields kind key index r → dot_record kind index key (dot_of r) ≡ r
dot-remade f = by-fields (sym f.kind-is) (sym f.index_is) refl (sym f.key-is) refl

module _ (r : Record) (good : record_ok 1 6 r ≡ true) where
  -- the fields of a record that passes a test: what its kind does not use is zero
  pub clock-fields : is_kind 1 r ≡ true → Fields 1 0 0 r
  clock-fields t =
      let k = is-kind 1 r t in
      record { kind-is = k; key-is = no_key 1 6 r good k refl; index_is = no_index 1 6 r good k refl }

  pub entry-fields : {key : ℕ} → under_key 2 key r ≡ true → Fields 2 key 0 r
  entry-fields {key} t = let k = at_key key 2 r t in record { kind-is = k.0; key-is = k.1; index_is = no_index 1 6 r good k.0 refl }

  pub value-dot-fields : {key index : ℕ} → under_both 4 key index r ≡ true → Fields 4 key index r
  value-dot-fields {key} {index} t = let k = at_both key index r t in record { kind-is = k.0.0; key-is = k.0.1; index_is = k.1 }

  pub waiting-fields : {index : ℕ} → under_index 5 index r ≡ true → Fields 5 0 index r
  waiting-fields {index} t = let k = at-index index 5 r t in record { kind-is = k.0; key-is = no_key 1 6 r good k.0 refl; index_is = k.1 }

  -- records that hold no dot
  pub value-remade : {key index : ℕ} (v : Value) → under_key 3 key r ≡ true → r.index ≡ index → v.value ≡ content_of r → value_record key index v ≡ r
  value-remade {key} v t e n = let k = at_key key 3 r t in by-fields (sym k.0) (sym e) (ap (λ x. x.origin) n) (sym k.1) (ap (λ x. x.number) n)

  pub key-remade : {index : ℕ} → under_index 6 index r ≡ true → index < 256 → number_record (key_number index r.key) ≡ r
  key-remade {index} t h =
      let k = at-index index 6 r t in
      by-fields (sym k.0) (low ∙ sym k.1) (sym (no-actor 1 6 r good k.0 refl)) high (sym (no_number 1 6 r good k.0 refl))
    where
      low : (number_record (key_number index r.key)).index ≡ index
      low = omega arith

      high : (number_record (key_number index r.key)).key ≡ r.key
      high = omega arith
