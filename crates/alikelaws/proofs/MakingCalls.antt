-- T2b over the calls: operations that castribba_update and castribba_rm_read_ctx wrote on drives fed by the guard are honest; and what such a removal
-- withdraws stands in no map of a run that has it.
use mathlib.Core.Path.{◌≡◌, refl, ap, ap₂, sym, ◌∙◌}
use mathlib.Core.Bool.{true}
use mathlib.Core.Logic.{⊎_elim}
use mathlib.Core.List.Memᴰ
use mathlib.Core.List.{List, [], ◌∷◌, map}
use Prim.Native.Nat.{ℕ, ◌^◌, ◌%◌, ◌<◌}
use native.Mathlib.Omega.{arith}
use lib.ListN.{take}
use Rattle.listlaws.proofs.Orders.{apart}
use Rattle.clock.specs.Dots.{clock_of, covers}
use Rattle.clock.proofs.Packs.{dots-of}
use Rattle.entries.specs.declared.Update.{Update}
use Rattle.removals.specs.Model.{under_of, listed_in}
use Rattle.removals.specs.Waits.{listed}
use Rattle.removals.proofs.Packs.{keys-of}
use Rattle.removals.proofs.Unions.{listed-holds}
use Rattle.map.specs.Model.{seen_by, no_map}
use Rattle.asking.specs.Asking.{make_update, removal_op}
use Rattle.maprecords.specs.Related.{read_map}
use Rattle.promises.specs.Calls.{given, update_answer}
use Rattle.promises.specs.Promises.{UpdatePromise, RmReadCtxPromise}
use Rattle.readbacklaws.specs.Reads.{ReadsOp}
use Rattle.readbacklaws.proofs.Back.{answers-read-back, zeros}
use Rattle.anyorderlaws.specs.Calls.{MapImage, OpImage, OpImages, RemovalImage, removal_of}
use Rattle.anyorderlaws.proofs.Leaves.{answers-zero}
use Rattle.alikelaws.specs.Among.{UpdateIn}
use Rattle.alikelaws.specs.Runs.{op_of, ops_of}
use Rattle.alikelaws.specs.Honest.{Honest}
use Rattle.alikelaws.specs.Withdrawal.{StandsNowhere}
use Rattle.alikelaws.specs.MadeOps
use Rattle.alikelaws.specs.MadeOps.{Stage}
use Rattle.alikelaws.specs.MadeCalls.{Drive, MadeCalls, nothing, updated, removed}
use Rattle.alikelaws.specs.OnMaps.{applied}
use Rattle.alikelaws.proofs.Making.{honest-made, valid-made}
use Rattle.alikelaws.proofs.Agreeing.{fed-image, fed-run, fed-map, same-ops, empty-image}
use Rattle.alikelaws.proofs.Calls.{stays-away-called}
use Rattle.alikelaws.proofs.Converging.{right_end}

-- images of operations that were made
record Built (h : List (List ℕ)) : Type 0 where
  made : MadeOps.MadeOps (ops_of h)
  images : OpImages h

images-more : {h : List (List ℕ)} {o : List ℕ} → OpImages h → OpImage o → OpImages (o ∷ h)
images-more {o = o} f i x j = ⊎_elim (λ (q : x ≡ o). rw q i) (λ k. f x k) (Memᴰ.cases_cons j)

-- an image as long as a word below 2^32 says
whole_word : (T : List ℕ → Type 0) {word : ℕ} (exit : List ℕ) → word < 2 ^ 32 → T (take (word % 2 ^ 32) exit) → T (take word exit)
whole_word T {word} exit w t = let e : word % 2 ^ 32 ≡ word = omega arith in rw e at t

-- a drive's map
module _ {h : List (List ℕ)} (b : Built h) {map : List ℕ} (d : Drive h map) where
  its-images : OpImages d.ops
  its-images o i = b.images o (d.among o i)

  its_map : (read_map map).map ≡ applied no_map (ops_of d.ops)
  its_map = fed-map its-images d.fed

  its-stage : Stage (ops_of h) (ops_of d.ops)
  its-stage = record { among = same-ops d.ops h d.among; guarded = fed-run its-images d.fed }

  its-image : MapImage map
  its-image = fed-image empty-image its-images d.fed

  -- castribba_update on it
  update-built : {entry exit : List ℕ} {word actor key value origin : ℕ}
      → ((u : Update) → UpdateIn (ops_of h) u → u.dot.actor ≡ actor → UpdateIn (ops_of d.ops) u)
      → actor < 2 ^ 16 → key < 2 ^ 32 → value < 2 ^ 64 → origin < 2 ^ 16
      → UpdatePromise map actor key value origin entry exit word → word < 2 ^ 32 → Built (take word exit ∷ h)
  update-built {entry} {exit} {word} {actor} {key} {value} {origin} e a k v o p w =
      let made = make_update (read_map map).map actor key (given value origin) in
      let r = whole_word (ReadsOp made.op) exit w
      (answers-read-back.update map actor key value origin its-image.bytes a k v o entry exit word p (omega arith)) in
      let z : made.number ≡ 0 = (zeros (update_answer map actor key value origin) entry (answers-zero p w)).own in
      let same : made ≡ record { number = 0; op = op_of (take word exit) } = λ i. record { number = z i; op = sym r.same i } in
      record {
        made = MadeOps.updated actor key (given value origin) b.made its-stage e (rw its_map at same);
        images = images-more b.images (record { bytes = r.bytes; accepted = r.accepted });
      }

  -- castribba_rm_read_ctx on it
  removal-reads : {entry exit : List ℕ} {word key : ℕ} → key < 2 ^ 32 → RmReadCtxPromise map key entry exit word → word < 2 ^ 32
      → ReadsOp (removal_op (seen_by (read_map map).map) key) (take word exit)
  removal-reads {entry} {exit} {word} {key} k p w =
      whole_word (ReadsOp (removal_op (seen_by (read_map map).map) key)) exit w
      (answers-read-back.rm-read-ctx map key its-image.bytes k entry exit word p (omega arith))

  removal-built : {entry exit : List ℕ} {word key : ℕ} → key < 2 ^ 32 → RmReadCtxPromise map key entry exit word → word < 2 ^ 32
      → Built (take word exit ∷ h)
  removal-built {key = key} k p w =
      let r = removal-reads k p w in
      record {
        made = MadeOps.removed key b.made its-stage (ap (λ m. removal_op (seen_by m) key) (sym its_map) ∙ sym r.same);
        images = images-more b.images (record { bytes = r.bytes; accepted = r.accepted });
      }

built : {h : List (List ℕ)} → MadeCalls h → Built h
built nothing = record { made = MadeOps.nothing; images = λ o i. absurd (Memᴰ.not-nil i) }
built (updated m d e a k v o p w) = update-built (built m) d e a k v o p w
built (removed m d k p w) = removal-built (built m) d k p w

-- T2b over the calls
pub calls-honest : {h : List (List ℕ)} → MadeCalls h → OpImages h × Honest (ops_of h)
calls-honest m = let b = built m in (b.images, honest-made b.made)

-- what a drive withdraws by castribba_rm_read_ctx stands nowhere
pub made-nowhere : {h : List (List ℕ)} → MadeCalls h → {map : List ℕ} (d : Drive h map) {entry exit : List ℕ} {word key : ℕ} → key < 2 ^ 32
    → RmReadCtxPromise map key entry exit word → word < 2 ^ 32 → StandsNowhere d.ops key (take word exit)
made-nowhere m {map} d {exit = exit} {word = word} {key = key} k p w = record {
  nowhere = λ i f own j c e x q v y.
      let b = built m in
      let r = removal-reads b d k p w in
      let image : RemovalImage (take word exit) = record {
        image = record { bytes = r.bytes; accepted = r.accepted };
        removes = ap (λ o. o.up) r.same;
      } in
      let under : under_of (removal_of (take word exit)) ≡ seen_by (read_map map).map = ap (λ o. under_of o.removal) r.same
      ∙ dots-of {c = clock_of (seen_by (read_map map).map)} (seen_by (read_map map).map) refl in
      let lists : listed_in (removal_of (take word exit)) ≡ key ∷ [] = ap (λ o. listed_in o.removal) r.same ∙ keys-of (key ∷ []) in
      let t : listed (listed_in (removal_of (take word exit))) e.key ≡ true = rw (lists, q) (listed-holds (Memᴰ.head refl)) in
      let a = (stays-away-called i f own).in-any-order c j image e x v y t in
      let known = (right_end (valid-made b.made) (honest-made b.made) (ops_of d.ops) (its-stage b d).among (its-stage b d).guarded).known in
      record {
        under = a.under;
        source = (
          a.source.0,
          λ u z g. apart (sym (known u z) ∙ ap₂ covers (ap (λ n. seen_by n) (sym (its_map b d)) ∙ sym under) g ∙ a.source.1),
        );
        within = a.within;
      };
}
