-- The image of a good map, and of a good operation, is made of bytes.
use mathlib.Core.Path.{◌≡◌}
use mathlib.Core.Bool.{Bool, true, false, cond}
use mathlib.Core.Logic.{⊎_elim}
use mathlib.Core.List.Memᴰ
use mathlib.Core.List.{List, ◌∷◌, map}
use Prim.Native.Nat.{ℕ, ◌<◌}
use native.Mathlib.Omega.{arith}
use Rattle.listlaws.specs.Order.{◌∈◌}
use Rattle.clock.specs.declared.Dot.{Dot}
use Rattle.clock.specs.Dots.{dots_of}
use Rattle.removals.specs.Model.{under_of, listed_in}
use Rattle.map.specs.declared.Map.{Map}
use Rattle.map.specs.declared.Op.{Op}
use Rattle.records.specs.declared.Record.{Record}
use Rattle.records.specs.Bytes.{Bytes}
use Rattle.records.proofs.RoundTrips.{Fitting, written-bytes}
use Rattle.clockimage.specs.Image.{dot_record, dot_records}
use Rattle.opimage.specs.OpImage.{key_record, removal_head, update_head, put_value, removal_records, update_records, op_records, op_image}
use Rattle.mapimage.specs.MapImage.{map_records, map_image}
use Rattle.oneimagelaws.specs.Narrow.{NarrowDots, NarrowOp}
use Rattle.oneimagelaws.specs.One.{GoodMap, GoodOp}
use Rattle.oneimagelaws.proofs.Written.{records-fit}

pub map-bytes : (m : Map) → GoodMap m → Bytes (map_image m)
map-bytes m g = written-bytes (map_records m) (records-fit g.within g.narrow)

dots-fit : (kind : ℕ) (l : List Dot) → kind < 256 → NarrowDots l → (r : Record) → r ∈ dot_records kind 0 0 l → Fitting r
dots-fit kind l p f r i =
    let y = Memᴰ.of_map (dot_record kind 0 0) l i in
    let n = f y.0 y.1 in
    rw (← y.2) (record { kind = omega arith; index = omega arith; actor = n.actor; key = omega arith; number = n.counter })

module _ (op : Op) (n : NarrowOp op) where
  update-fits : (r : Record) → r ∈ update_records op.update → Fitting r
  update-fits r i =
      ⊎_elim
      (λ (e : r ≡ update_head op.update). rw e
      (record { kind = omega arith; index = omega arith; actor = n.update.dot.actor; key = n.update.key; number = n.update.dot.counter }))
      (λ (j : r ∈ (put_value op.update ∷ dot_records 12 0 0 (dots_of op.update.put.clock))). ⊎_elim
      (λ (e : r ≡ put_value op.update). rw e
      (record {
        kind = omega arith;
        index = omega arith;
        actor = n.update.put.value.origin;
        key = omega arith;
        number = n.update.put.value.number;
      }))
      (dots-fit 12 (dots_of op.update.put.clock) (omega arith) n.update.put.dots r) (Memᴰ.cases_cons j))
      (Memᴰ.cases_cons i)

  removal-fits : (r : Record) → r ∈ removal_records op.removal → Fitting r
  removal-fits r i =
      ⊎_elim
      (λ (e : r ≡ removal_head). rw e (record {
        kind = omega arith;
        index = omega arith;
        actor = omega arith;
        key = omega arith;
        number = omega
            arith;
      }))
      (λ j. ⊎_elim (dots-fit 8 (under_of op.removal) (omega arith) n.removal.dots r) keys
      (Memᴰ.append_cases (dot_records 8 0 0 (under_of op.removal)) j))
      (Memᴰ.cases_cons i)
    where
      keys : r ∈ map (key_record 9 0) (listed_in op.removal) → Fitting r
      keys j =
          let y = Memᴰ.of_map (key_record 9 0) (listed_in op.removal) j in
          rw (← y.2) (record {
            kind = omega arith;
            index = omega arith;
            actor = omega arith;
            key = n.removal.keys y.0
                y.1;
            number = omega arith;
          })

pub op_bytes : (op : Op) → GoodOp op → Bytes (op_image op)
op_bytes op g = written-bytes (op_records op) (λ r i. go op.up r i)
  where
    go : (b : Bool) (r : Record) → r ∈ cond b (update_records op.update) (removal_records op.removal) → Fitting r
    go true = update-fits op g.narrow
    go false = removal-fits op g.narrow
