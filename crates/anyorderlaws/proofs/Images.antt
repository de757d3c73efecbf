-- The order theorem over castribba_apply: runs of calls on images.
use mathlib.Core.Path.{◌≡◌, refl, ap, sym, ◌∙◌}
use mathlib.Core.Bool.{false}
use mathlib.Core.List.Memᴰ
use mathlib.Core.List.{List, [], ◌∷◌, map}
use Prim.Native.Nat.{ℕ}
use native.Mathlib.Omega.{arith}
use lib.ListN.{length, replicate, length-replicate}
use Rattle.listlaws.specs.Fold.{fold}
use Rattle.listlaws.specs.Order.{◌∈◌}
use Rattle.removals.specs.declared.Removal.{Removal}
use Rattle.removals.specs.Model.{listed_in}
use Rattle.removals.specs.Waits.{listed}
use Rattle.map.specs.declared.Map.{Map}
use Rattle.map.specs.Removing.{remove}
use Rattle.map.specs.Updating.{update}
use Rattle.map.specs.Applying.{apply}
use Rattle.map.specs.Judging.{over_number, judged}
use Rattle.map.specs.Valid.{Within}
use Rattle.map.proofs.Accepts.{stage}
use Rattle.map.proofs.Verdicts.{judged-number, judged-map}
use Rattle.opimage.specs.OpImage.{read_op}
use Rattle.mapimage.specs.MapImage.{map_longest, map_image}
use Rattle.maprecords.specs.Related.{read_map}
use Rattle.answers.specs.Answer.{number_of}
use Rattle.answers.proofs.Answers.{number-done}
use Rattle.acceptancelaws.proofs.Maps.{map-within}
use Rattle.acceptancelaws.proofs.Ops.{op-within}
use Rattle.maplaws.specs.Among.{Exactly}
use Rattle.selfmergelaws.specs.Pairs.{Independent}
use Rattle.selfmergelaws.proofs.Either.{updates-trade}
use Rattle.anyorderlaws.specs.Ends.{EndMap}
use Rattle.promises.specs.Calls.{apply_answer}
use Rattle.anyorderlaws.specs.Calls.{Done, image_after, AllDone, none, more, end, Trade, MapImage, OpImage, RemovalImage, UpdateImage}
use Rattle.anyorderlaws.specs.Calls.{removal_of, update_of, RemovalImages}
use Rattle.anyorderlaws.proofs.Runs.{Removals, maps-end}
use Rattle.anyorderlaws.proofs.Unique.{ends_same, same-removals}
use Rattle.anyorderlaws.proofs.Trades.{maps-trade}
use Rattle.oneimagelaws.specs.One.{GoodMap}
use Rattle.readbacklaws.proofs.Goods.{good_apply}
use Rattle.readbacklaws.proofs.Images.{map-bytes}
use Rattle.readbacklaws.proofs.Back.{zeros}
use Rattle.oneimagelaws.proofs.Fields.{op-narrow}
use Rattle.oneimagelaws.proofs.Sizes.{image-most}
use Rattle.oneimagelaws.proofs.Again.{reads-written}
use Rattle.oneimagelaws.proofs.Maps.{one-map-image}

-- the image of a map within the limits
pub record ImageOf (s : List ℕ) (m : Map) : Type 0 where
  pub image : s ≡ map_image m
  pub good : GoodMap m

pub reads : {s : List ℕ} {m : Map} → ImageOf s m → read_map s ≡ record { number = 0; map = m }
reads r = ap read_map r.image ∙ reads-written r.good.within r.good.narrow

-- what an accepted image reads as
pub start : {s : List ℕ} → MapImage s → ImageOf s (read_map s).map
start {s} i = let a = one-map-image.again s i.bytes i.accepted in record { image = sym a.1; good = a.0 }

-- the image of a map within the limits is accepted
pub image-accepted : {s : List ℕ} {m : Map} → ImageOf s m → MapImage s
image-accepted r = record { bytes = rw r.image (map-bytes _ r.good); accepted = ap (λ q. q.number) (reads r) }

module _ {s o : List ℕ} {m : Map} (r : ImageOf s m) (i : OpImage o) where
  abbrev next : Map
  next = apply m (read_op o).op

  same : judged (apply (read_map s).map (read_op o).op) ≡ judged next
  same = ap (λ q. judged (apply q.map (read_op o).op)) (reads r)

  -- a call that answers 0
  pub done-means : Done s o → over_number next ≡ 0
  unfolding number_of
  done-means d =
      let e = d (replicate map_longest 0) (omega (arith, length-replicate {A = ℕ} map_longest 0)) in
      sym (judged-number next) ∙ ap (λ q. q.number) (sym same) ∙ (zeros (apply_answer s o) (replicate map_longest 0) e).own

  module _ (z : over_number next ≡ 0) where
    next-good : GoodMap next
    next-good = good_apply r.good (op-within o) (op-narrow o i.bytes) z

    step_is : image_after s o ≡ map_image next
    unfolding image_after
    step_is = ap (λ q. map_image q.map) same ∙ ap map_image (judged-map next (judged-number next ∙ z))

    pub done-holds : Done s o
    unfolding image_after
    done-holds out n =
        number-done (apply_answer s o) out (ap (λ q. q.number) (reads r)) i.accepted
        (ap (λ q. q.number) same ∙ judged-number next ∙ z) (omega (arith, ap length step_is, image-most next-good.within))

    pub image-next : ImageOf (image_after s o) next
    image-next = record { image = step_is; good = next-good }

-- a call with a removal
removes-is : (m : Map) {o : List ℕ} → RemovalImage o → apply m (read_op o).op ≡ remove m (removal_of o)
unfolding apply
removes-is m i = rw i.removes refl

-- a call with an update
updates-is : (m : Map) {o : List ℕ} → UpdateImage o → apply m (read_op o).op ≡ update m (update_of o)
unfolding apply
updates-is m i = rw i.updates refl

valid-removals : (ops : List (List ℕ)) → Removals (map removal_of ops)
valid-removals ops w i = let y = Memᴰ.of_map removal_of ops i in rw (← y.2) (op-within y.0).removal.valid

module _ {s o : List ℕ} {m : Map} (r : ImageOf s m) (i : RemovalImage o) where
  removal-means : Done s o → over_number (remove m (removal_of o)) ≡ 0
  removal-means d = ap over_number (sym (removes-is m i)) ∙ done-means r i.image d

  module _ (z : over_number (remove m (removal_of o)) ≡ 0) where
    abbrev over : over_number (apply m (read_op o).op) ≡ 0
    over = ap over_number (removes-is m i) ∙ z

    removal-holds : Done s o
    removal-holds = done-holds r i.image over

    removal-next : ImageOf (image_after s o) (remove m (removal_of o))
    removal-next = rw (removes-is m i) at (image-next r i.image over)

-- every call answers 0 exactly when the end map is within the limits
run-means : {s : List ℕ} {m : Map} {ops : List (List ℕ)} → ImageOf s m → RemovalImages ops → AllDone s ops
    → over_number (fold remove m (map removal_of ops)) ≡ 0
unfolding fold
run-means r f none = r.good.within.limits
run-means {ops = o ∷ ops} r f (more d p) =
    let i = f o (Memᴰ.head refl) in run-means (removal-next r i (removal-means r i d)) (λ q j. f q (Memᴰ.tail j)) p

early : {m : Map} (o : List ℕ) (ops : List (List ℕ)) → Within m → over_number (fold remove m (map removal_of (o ∷ ops))) ≡ 0
    → over_number (remove m (removal_of o)) ≡ 0
unfolding fold
early o ops h z = stage (removal_of o ∷ []) (map removal_of ops) h.valid (valid-removals (o ∷ ops)) h.limits z

run_holds : {s : List ℕ} {m : Map} (ops : List (List ℕ)) → ImageOf s m → RemovalImages ops → over_number (fold remove m (map removal_of ops)) ≡ 0
    → AllDone s ops
unfolding fold
run_holds [] r f z = none
run_holds {s = s} (o ∷ ops) r f z =
    let i = f o (Memᴰ.head refl) in
    let y = early o ops r.good.within z in
    more (removal-holds r i y) (run_holds {s = image_after s o} ops (removal-next r i y) (λ q j. f q (Memᴰ.tail j)) z)

-- the last image is the end map's
run-image : {s : List ℕ} {m : Map} (ops : List (List ℕ)) → ImageOf s m → RemovalImages ops → over_number (fold remove m (map removal_of ops)) ≡ 0
    → ImageOf (end s ops) (fold remove m (map removal_of ops))
unfolding fold
run-image [] r f z = r
run-image {s = s} (o ∷ ops) r f z =
    let i = f o (Memᴰ.head refl) in
    run-image {s = image_after s o} ops (removal-next r i (early o ops r.good.within z)) (λ q j. f q (Memᴰ.tail j)) z

-- images of the same removals are the same removals
same-among : {ops vs : List (List ℕ)} → ((o : List ℕ) → Exactly (o ∈ ops) (o ∈ vs)) → (w : Removal)
    → Exactly (w ∈ map removal_of ops) (w ∈ map removal_of vs)
same-among {ops} {vs} e w = (
  λ i. let y = Memᴰ.of_map removal_of ops i in Memᴰ.cast (sym y.2) (Memᴰ.map removal_of ((e y.0).0 y.1)),
  λ i. let y = Memᴰ.of_map removal_of vs i in Memᴰ.cast (sym y.2) (Memᴰ.map removal_of ((e y.0).1 y.1)),
)

module _ {s : List ℕ} {ops : List (List ℕ)} (h : MapImage s) (f : RemovalImages ops) where
  abbrev r : ImageOf s (read_map s).map
  r = start h

  abbrev last : Map
  last = fold remove (read_map s).map (map removal_of ops)

  -- its last image
  ends-in : AllDone s ops → ImageOf (end s ops) last
  ends-in p = run-image ops r f (run-means r f p)

  -- what that reads as
  pub end-map : AllDone s ops → EndMap (read_map s).map (map removal_of ops) (read_map (end s ops)).map
  end-map p = rw (reads (ends-in p)) (maps-end (map-within s).valid (valid-removals ops))

  -- no other image reads as such a map
  pub only-map : AllDone s ops → (other : List ℕ) → MapImage other → EndMap (read_map s).map (map removal_of ops) (read_map other).map
      → other ≡ end s ops
  only-map p other i q =
      (start i).image
      ∙ ap map_image (ends_same (λ w. (λ j. j, λ j. j)) q (end-map p) (map-within other).valid (map-within (end s ops)).valid
      ∙ ap (λ x. x.map) (reads (ends-in p)))
      ∙ sym (ends-in p).image

  -- the same removals, in another order or more than once, are accepted too, and end in the same image
  pub same_end : {vs : List (List ℕ)} → ((o : List ℕ) → Exactly (o ∈ ops) (o ∈ vs)) → AllDone s ops → AllDone s vs × (end s vs ≡ end s ops)
  same_end {vs} e p =
      let g : RemovalImages vs = λ o i. f o ((e o).1 i) in
      let one = same-removals (map-within s).valid (valid-removals ops) (valid-removals vs) (same-among e) in
      let z = ap over_number (sym one) ∙ run-means r f p in
      (run_holds vs r g z, (run-image vs r g z).image ∙ ap map_image (sym one) ∙ sym (ends-in p).image)

-- two operations that trade places on the map do so on its image, where neither order refuses
pub neighbours : {s u v : List ℕ} {m : Map} → ImageOf s m → OpImage u → OpImage v
    → apply (apply m (read_op u).op) (read_op v).op ≡ apply (apply m (read_op v).op) (read_op u).op → Trade s u v
unfolding fold
neighbours r i j e (more a (more b none)) (more c (more d none)) =
    let p = image-next r i (done-means r i a) in
    let q = image-next r j (done-means r j c) in
    (image-next p j (done-means p j b)).image ∙ ap map_image e ∙ sym (image-next q i (done-means q i d)).image

-- an update and a removal that does not list its key
pub update-trades : {s u r : List ℕ} → MapImage s → UpdateImage u → RemovalImage r → listed (listed_in (removal_of r)) (update_of u).key ≡ false
    → Trade s u r
update-trades {s} {u} {r} h i j n =
    neighbours (start h) i.image j.image
    (removes-is (apply m (read_op u).op) j ∙ ap (λ x. remove x (removal_of r)) (updates-is m i)
    ∙ sym (maps-trade (map-within s).valid ((op-within u).update i.updates).valid (op-within r).removal.valid n)
    ∙ sym (updates-is (remove m (removal_of r)) i) ∙ ap (λ x. apply x (read_op u).op) (sym (removes-is m j)))
  where
    m : Map
    m = (read_map s).map

-- two unseen updates by different actors on different keys, where nothing is waiting
pub two-updates : {s u v : List ℕ} → MapImage s → UpdateImage u → UpdateImage v → Independent (read_map s).map (update_of u) (update_of v)
    → Trade s u v
two-updates {s} {u} {v} h i j a =
    neighbours (start h) i.image j.image
    (twice i j ∙ updates-trade (map-within s).valid ((op-within u).update i.updates).valid ((op-within v).update j.updates).valid a
    ∙ sym (twice j i))
  where
    m : Map
    m = (read_map s).map

    twice : {x y : List ℕ} → UpdateImage x → UpdateImage y → apply (apply m (read_op x).op) (read_op y).op ≡ update (update m (update_of x))
        (update_of y)
    twice {x} {y} k l = updates-is (apply m (read_op x).op) l ∙ ap (λ n. update n (update_of y)) (updates-is m k)
