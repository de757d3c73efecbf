-- Operations played on the calls from the empty image: what castribba_apply leaves, what the other calls answer there.
use mathlib.Core.Path.{◌≡◌, ap, ap₂, sym, ◌∙◌}
use mathlib.Core.List.{List, [], ◌∷◌, map}
use Prim.Native.Nat.{ℕ, ◌*◌, ◌^◌, ◌<◌}
use native.Mathlib.Omega.{arith}
use Rattle.listlaws.specs.Fold.{fold}
use Rattle.clock.specs.declared.Dot.{Dot}
use Rattle.map.specs.declared.Map.{Map}
use Rattle.map.specs.declared.Op.{Op}
use Rattle.map.specs.Model.{seen_by, no_map}
use Rattle.map.specs.Applying.{apply}
use Rattle.map.specs.Judging.{over_number}
use Rattle.asking.specs.declared.Made.{Made}
use Rattle.asking.specs.Asking.{clock_at, make_update, removal_op}
use Rattle.readiness.specs.declared.Readiness.{Readiness}
use Rattle.readiness.specs.Ready.{ready, ready_number, ready_actor, ready_counter}
use Rattle.opimage.specs.OpImage.{ReadOp}
use Rattle.opimage.specs.OpImage.{read_op, op_image}
use Rattle.mapimage.specs.MapImage.{map_image}
use Rattle.maprecords.specs.Related.{ReadMap}
use Rattle.maprecords.specs.Related.{read_map}
use Rattle.answers.specs.Answer.{Answer, word_of, carried_of}
use Rattle.oneimagelaws.specs.One.{GoodMap, GoodOp}
use Rattle.oneimagelaws.proofs.Ops.{one-op-image}
use Rattle.readbacklaws.proofs.Images.{op_bytes}
use Rattle.readbacklaws.proofs.Goods.{good-seen, good-removal, good-update}
use Rattle.promises.specs.Calls.{given, op_answer, bare_answer, update_answer, rm_get_answer, rm_read_ctx_answer}
use Rattle.promises.specs.Ready.{readiness_of, ready_answer, ReadyPromise, ReadyActorPromise, ReadyCounterPromise}
use Rattle.anyorderlaws.specs.Calls.{image_after, AllDone, end, OpImage}
use Rattle.anyorderlaws.specs.Calls
use Rattle.anyorderlaws.proofs.Images.{ImageOf, reads, start, image-next, done-holds}
use Rattle.alikelaws.specs.Runs.{op_of}
use Rattle.alikelaws.specs.OnMaps.{applied}
use Rattle.alikelaws.proofs.Agreeing.{empty-reads, empty-image}

-- the image that calls of castribba_apply with these operations leave
abbrev pub after : List Op → List ℕ
after ops = end [] (map op_image ops)

-- an answer of 0 with these bytes
abbrev pub writes : List ℕ → Answer
writes bytes = record { first = 0; second = 0; own = 0; bytes = bytes }

-- every call is answered 0, and the last image is that of this map
pub record Ends (ops : List Op) (m : Map) : Type 0 where
  pub done : AllDone [] (map op_image ops)
  pub last : after ops ≡ map_image m

-- what castribba_update, castribba_rm_read_ctx and castribba_rm_get write on the image that operations leave
abbrev pub Sets : List Op → ℕ → ℕ → ℕ → Op → Type 0
Sets before actor key x o = update_answer (after before) actor key x 0 ≡ writes (op_image o)

abbrev pub Removes : List Op → ℕ → List Dot → Type 0
Removes before key c = rm_read_ctx_answer (after before) key ≡ writes (op_image (removal_op c key))

abbrev pub RemovesEntry : List Op → ℕ → List Dot → Type 0
RemovesEntry before key c = rm_get_answer (after before) key ≡ writes (op_image (removal_op c key))

-- what castribba_ready and the two calls beside it answer there
pub record Told (before : List Op) (o : Op) (number actor counter : ℕ) : Type 0 where
  pub word : ReadyPromise (after before) (op_image o) (number * 2 ^ 32)
  pub missing-actor : ReadyActorPromise (after before) (op_image o) actor
  pub missing-counter : ReadyCounterPromise (after before) (op_image o) counter

-- good operations, each within the limits where it comes
pub data Plays : Map → List Op → Type 0 where
  none : {m : Map} → Plays m []
  more : {m : Map} {o : Op} {ops : List Op} → GoodOp o → over_number (apply m o) ≡ 0 → Plays (apply m o) ops → Plays m (o ∷ ops)

pub op-reads : {o : Op} → GoodOp o → read_op (op_image o) ≡ record { number = 0; op = o }
op-reads {o} g = let b = one-op-image.back o g in λ i. record { number = b.0 i; op = b.1 i }

op-image : {o : Op} → GoodOp o → OpImage (op_image o)
op-image {o} g = record { bytes = op_bytes o g; accepted = (one-op-image.back o g).0 }

module _ {s : List ℕ} {m : Map} (r : ImageOf s m) {o : Op} (g : GoodOp o) (z : over_number (apply m o) ≡ 0) where
  over : over_number (apply m (op_of (op_image o))) ≡ 0
  over = ap (λ x. over_number (apply m x.op)) (op-reads g) ∙ z

  pub played-done : Calls.Done s (op_image o)
  played-done = done-holds r (op-image g) over

  pub played-next : ImageOf (image_after s (op_image o)) (apply m o)
  played-next = let q : op_of (op_image o) ≡ o = ap (λ x. x.op) (op-reads g) in rw q at (image-next r (op-image g) over)

played : {m : Map} {s : List ℕ} {ops : List Op} → ImageOf s m → Plays m ops
    → AllDone s (map op_image ops) × ImageOf (end s (map op_image ops)) (applied m ops)
unfolding fold
played r none = (Calls.none, r)
played r (more g z p) = let t = played (played-next r g z) p in (Calls.more (played-done r g z) t.0, t.1)

pub empty_of : ImageOf [] no_map
empty_of = rw (ap (λ q. q.map) empty-reads) at (start empty-image)

module _ {before : List Op} (p : Plays no_map before) where
  pub reads-after : read_map (after before) ≡ record { number = 0; map = applied no_map before }
  reads-after = reads (played empty_of p).1

  good-after : GoodMap (applied no_map before)
  good-after = (played empty_of p).1.good

  pub ends : {m : Map} → applied no_map before ≡ m → Ends before m
  ends e = let t = played empty_of p in record { done = t.0; last = t.1.image ∙ ap map_image e }

  -- an update that is made there
  module _ (actor key x : ℕ) (o : Op) (e : make_update (applied no_map before) actor key (given x 0) ≡ record { number = 0; op = o }) where
    pub sets-there : Sets before actor key x o
    sets-there = ap (λ (r : ReadMap). op_answer r.number (make_update r.map actor key (given x 0))) reads-after
        ∙ ap (λ (m : Made). op_answer 0 m) e

    pub good-there : actor < 2 ^ 16 → key < 2 ^ 32 → x < 2 ^ 64 → GoodOp o
    good-there a k n =
        let q : (make_update (applied no_map before) actor key (given x 0)).op ≡ o = ap (λ (m : Made). m.op) e in
        rw q at (good-update good-after actor key (given x 0) a k (record { number = n; origin = omega arith }) (ap (λ (m : Made). m.number) e))

  -- a removal
  pub removes-there : (key : ℕ) (c : List Dot) → seen_by (applied no_map before) ≡ c → Removes before key c
  removes-there key c e = ap (λ (r : ReadMap). op_answer r.number (record { number = 0; op = removal_op (seen_by r.map) key })) reads-after
      ∙ ap (λ d. writes (op_image (removal_op d key))) e

  pub removes-entry-there : (key : ℕ) (c : List Dot) → clock_at (applied no_map before) key ≡ c → RemovesEntry before key c
  removes-entry-there key c e =
      ap (λ (r : ReadMap). op_answer r.number (record { number = 0; op = removal_op (clock_at r.map key) key })) reads-after
      ∙ ap (λ d. writes (op_image (removal_op d key))) e

  -- and is good
  pub good-removal-there : (key : ℕ) (c : List Dot) → key < 2 ^ 32 → seen_by (applied no_map before) ≡ c → GoodOp (removal_op c key)
  good-removal-there key c k e = rw e at (good-removal (good-seen good-after) key k)

  -- the guard
  module _ (o : Op) (g : GoodOp o) (answer : Readiness) (e : ready (applied no_map before) o ≡ answer) where
    readiness-there : readiness_of (after before) (op_image o) ≡ answer
    readiness-there = ap₂ (λ (r : ReadMap) (q : ReadOp). ready r.map q.op) reads-after (op-reads g) ∙ e

    answer-there : ready_answer (after before) (op_image o) ≡ bare_answer 0 0 (ready_number answer)
    answer-there =
        ap₂ (λ (r : ReadMap) (q : ReadOp). bare_answer r.number q.number (ready_number (ready r.map q.op))) reads-after (op-reads g)
        ∙ ap (λ x. bare_answer 0 0 (ready_number x)) e

    pub told-there : (number actor counter : ℕ) → number * 2 ^ 32 ≡ word_of (bare_answer 0 0 (ready_number answer)) []
        → actor ≡ carried_of 21 (bare_answer 0 0 (ready_number answer)) (ready_actor answer)
        → counter ≡ carried_of 21 (bare_answer 0 0 (ready_number answer)) (ready_counter answer) → Told before o number actor counter
    told-there number actor counter w a n = record {
      word = w ∙ ap (λ x. word_of x []) (sym answer-there);
      missing-actor = a ∙ ap₂ (λ x y. carried_of 21 x (ready_actor y)) (sym answer-there) (sym readiness-there);
      missing-counter = n ∙ ap₂ (λ x y. carried_of 21 x (ready_counter y)) (sym answer-there) (sym readiness-there);
    }
