-- T1 and T1b over the calls; and what a map that was fed by the guard holds, its clock covers.
use mathlib.Core.Path.{◌≡◌, refl, ap, ◌∙◌}
use mathlib.Core.List.Memᴰ
use mathlib.Core.List.{List, [], ◌∷◌, map}
use Prim.Native.Nat.{ℕ}
use Rattle.listlaws.specs.Fold.{fold}
use Rattle.map.specs.declared.Map.{Map}
use Rattle.map.specs.Removing.{remove}
use Rattle.map.specs.Updating.{update}
use Rattle.map.specs.Applying.{apply}
use Rattle.map.specs.Valid.{ValidOp}
use Rattle.maprecords.specs.Related.{read_map}
use Rattle.acceptancelaws.proofs.Maps.{map-within}
use Rattle.acceptancelaws.proofs.Ops.{op-within}
use Rattle.anyorderlaws.specs.Calls.{image_after, AllDone, none, more, end, Called, MapImage, OpImages, RemovalImage, removal_of}
use Rattle.anyorderlaws.proofs.Images.{ImageOf, reads, start, done-means, image-next, image-accepted}
use Rattle.anyorderlaws.proofs.Leaves.{called-passed}
use Rattle.alikelaws.specs.Runs.{op_of, ops_of, OwnDots}
use Rattle.alikelaws.specs.Withdrawal.{StaysAway}
use Rattle.alikelaws.specs.OnMaps.{applied, ValidOps}
use Rattle.alikelaws.proofs.Withdrawing.{stays-away, sourced, removes-within}

-- a run of calls is a run of the rules
pub ends_as : {s : List ℕ} {m : Map} (ops : List (List ℕ)) → ImageOf s m → OpImages ops → AllDone s ops → ImageOf (end s ops) (applied m (ops_of ops))
unfolding fold
ends_as [] r f none = r
ends_as {s = s} (o ∷ ops) r f (more d p) =
    let i = f o (Memᴰ.head refl) in
    ends_as {s = image_after s o} ops (image-next r i (done-means r i d)) (λ q j. f q (Memᴰ.tail j)) p

pub valid-op : (o : List ℕ) → ValidOp (op_of o)
valid-op o = let w = op-within o in record { removal = w.removal.valid; update = λ t. (w.update t).valid }

pub valid-ops : (ops : List (List ℕ)) → ValidOps (ops_of ops)
valid-ops ops o i = let y = Memᴰ.of_map op_of ops i in rw (← y.2) (valid-op y.0)

module _ {s : List ℕ} {ops : List (List ℕ)} (h : MapImage s) (f : OpImages ops) where
  -- the map that calls end in
  pub called-map : {last : List ℕ} → Called s ops last → (read_map last).map ≡ applied (read_map s).map (ops_of ops)
  called-map c =
      let t = called-passed c in ap (λ x. (read_map x).map) t.1 ∙ ap (λ q. q.map) (reads (ends_as ops (start h) f t.0))

-- one call with a removal
one-removed : {s o after : List ℕ} → MapImage s → RemovalImage o → Called s (o ∷ []) after
    → (read_map after).map ≡ remove (read_map s).map (removal_of o)
unfolding fold apply
one-removed {s} {o} h i c = called-map h (λ q j. let same : q ≡ o = Memᴰ.eq_of_singleton j in rw same i.image) c ∙ rw i.removes refl

-- T1 and T1b
pub stays-away-called : {s : List ℕ} {ops : List (List ℕ)} → MapImage s → OpImages ops → OwnDots (ops_of ops) → StaysAway s ops
stays-away-called {s} {ops} h f own = record {
  in-any-order = λ c i r. rw (called-map h f c) (stays-away (map-within s).valid (valid-ops ops) own
      (record { op = op_of _; stands = Memᴰ.map op_of i; removes = r.removes; is = refl }));
  applied-again = λ {last} {after} {o} c r d.
      let t = called-passed c in
      let image : MapImage last = rw t.1 (image-accepted (ends_as ops (start h) f t.0)) in
      rw (one-removed image r d) (removes-within (read_map s).map (ops_of ops) (map-within last).valid (op-within o).removal.valid
      (rw (called-map h f c) (sourced (map-within s).valid (valid-ops ops) own)));
}
