-- Every answer reads back: one law, at each of the seven calls that write.
use mathlib.Core.Path.{◌≡◌, refl, ap, sym, ◌∙◌}
use mathlib.Core.Bool.{true}
use mathlib.Core.List.{List, ◌∷◌, []}
use Prim.Native.Nat.{ℕ, ◌+◌, ◌*◌, ◌/◌, ◌%◌, ◌^◌}
use native.Mathlib.Omega.{arith}
use borrow.Author.Tests.{eqb-true, eqb-false}
use lib.Dec.{eqb}
use lib.ListN.{length, take, drop}
use lib.Seq.{take_at}
use Rattle.map.specs.declared.Map.{Map}
use Rattle.asking.specs.declared.Made.{Made}
use Rattle.map.specs.Judging.{over_number, judged}
use Rattle.map.proofs.Verdicts.{judged-number, judged-map}
use Rattle.records.specs.Bytes.{Bytes}
use Rattle.scan.proofs.Eachs.{decide}
use Rattle.mapimage.specs.MapImage.{map_image}
use Rattle.maprecords.specs.Related.{read_map}
use Rattle.answers.specs.Answer.{Answer, first_of, number_of, word_of, out_of, short_of}
use Rattle.acceptancelaws.proofs.Maps.{map-within}
use Rattle.acceptancelaws.proofs.Ops.{op-within}
use Rattle.oneimagelaws.specs.One.{OneImage, GoodMap, GoodOp}
use Rattle.oneimagelaws.proofs.Fields.{map-narrow, op-narrow}
use Rattle.oneimagelaws.proofs.Maps.{one-map-image}
use Rattle.oneimagelaws.proofs.Ops.{one-op-image}
use Rattle.promises.specs.Calls.{given, map_answer, op_answer}
use Rattle.readbacklaws.specs.Reads.{Reads, ReadsMap, ReadsOp, Written, ReadsBack}
use Rattle.readbacklaws.proofs.Images.{map-bytes, op_bytes}
use Rattle.readbacklaws.proofs.Goods.{good_apply, good-merge, good-reset, good-read, good-seen, good-at, good-removal, good-update}

-- where the word's number is 0, so is the answer's, and the word is the length
pub record Done (a : Answer) (entry : List ℕ) (word : ℕ) : Type 0 where
  pub number : number_of a entry ≡ 0
  pub long : word % 2 ^ 32 ≡ length a.bytes

pub word-done : (a : Answer) (entry : List ℕ) {word : ℕ} → word ≡ word_of a entry → word / 2 ^ 32 ≡ 0 → Done a entry word
unfolding word_of
word-done a entry {word} e z = decide (eqb (number_of a entry) 0) done (λ f. absurd (eqb-false (number_of a entry) 0 f (omega arith)))
  where
    done : eqb (number_of a entry) 0 ≡ true → Done a entry word
    done t =
        let n = eqb-true (number_of a entry) 0 t in
        let w : word ≡ number_of a entry * 2 ^ 32 + length a.bytes = rw t at e in
        record { number = n; long = omega (arith, w, n, z) }

-- the numbers of an answer that is done
pub record Zeros (a : Answer) (entry : List ℕ) : Type 0 where
  pub first : a.first ≡ 0
  pub second : a.second ≡ 0
  pub own : a.own ≡ 0
  pub short : short_of a.bytes entry ≡ 0

pub first-zero : (n : ℕ) (l : List ℕ) → first_of (n ∷ l) ≡ 0 → (n ≡ 0) × (first_of l ≡ 0)
unfolding first_of
first-zero n l e = decide (eqb n 0) (λ t. (eqb-true n 0 t, rw t at e)) (λ f. absurd (eqb-false n 0 f (rw f at e)))

pub zeros : (a : Answer) (entry : List ℕ) → number_of a entry ≡ 0 → Zeros a entry
unfolding number_of
zeros a entry e =
    let p = first-zero a.first _ e in
    let q = first-zero a.second _ p.1 in
    let t = first-zero a.own _ q.1 in
    record { first = p.0; second = q.0; own = t.0; short = (first-zero (short_of a.bytes entry) [] t.1).0 }

-- the law: an answer with the image of what is good, where its own number is 0, reads back
module _ {T : Type 0} {Good : T → Type 0} {image : T → List ℕ} {number : List ℕ → ℕ} {read : List ℕ → T} (one : OneImage Good image number read)
    (bytes : (x : T) → Good x → Bytes (image x)) where
  reads-back : (a : Answer) (x : T) → (a.own ≡ 0 → Good x × (a.bytes ≡ image x)) → Written a (Reads number read x)
  unfolding out_of
  reads-back a x f entry exit word w z =
      let d = word-done a entry w.packed z in
      let g = f (zeros a entry d.number).own in
      let e : take (word % 2 ^ 32) exit ≡ image x =
      rw (d.long, w.left, d.number) (take_at a.bytes (drop (length a.bytes) entry) (length a.bytes) refl ∙ g.1) in
      rw e (record { bytes = bytes x g.0; accepted = (one.back x g.0).0; same = (one.back x g.0).1 })

-- a judged map, and a made operation
judged-back : (first second : ℕ) (m : Map) → (over_number m ≡ 0 → GoodMap m) → Written (map_answer first second (judged m)) (ReadsMap m)
judged-back first second m f =
    reads-back one-map-image map-bytes (map_answer first second (judged m)) m (λ z. (f (sym (judged-number m) ∙ z), ap map_image (judged-map m z)))

made-back : (first : ℕ) (m : Made) → (m.number ≡ 0 → GoodOp m.op) → Written (op_answer first m) (ReadsOp m.op)
made-back first m f = reads-back one-op-image op_bytes (op_answer first m) m.op (λ z. (f z, refl))

-- what is read from bytes is good
good : (s : List ℕ) → Bytes s → GoodMap (read_map s).map
good s b = record { within = map-within s; narrow = map-narrow s b }

pub answers-read-back : ReadsBack
answers-read-back = record {
  apply = λ map op b c. judged-back _ _ _ (λ z. good_apply (good map b) (op-within op) (op-narrow op c) z);
  merge = λ map other b c. judged-back _ _ _ (λ z. good-merge (good map b) (good other c) z);
  reset-remove = λ map clock b. judged-back _ _ _ (λ z. good-reset (good map b) _ z);
  update = λ map actor key value origin b p q r s. made-back _ _ (λ z. good-update (good map b) actor key (given value origin) p q
      (record { number = r; origin = s }) z);
  rm-get = λ map key b p. made-back _ _ (λ z. good-removal (good-at (good map b) key) key p);
  rm-read-ctx = λ map key b p. made-back _ _ (λ z. good-removal (good-seen (good map b)) key p);
  get = λ map key b. reads-back one-map-image map-bytes _ _ (λ z. (good-read (good map b) key, refl));
}
