-- The lists that castribba_catch_up accepts: exactly those that bring our map to theirs, and what follows from that.
use mathlib.Core.Path.{◌≡◌, refl, ap, sym, ◌∙◌}
use mathlib.Core.Bool.{true}
use mathlib.Core.List.Memᴰ
use mathlib.Core.List.{List, [], ◌∷◌, ◌++◌, flatten, Permᴰ}
use mathlib.Core.Logic.{⊎_elim}
use Prim.Native.Nat.{ℕ, ◌+◌, ◌≤◌}
use native.Mathlib.Omega.{arith}
use borrow.Author.Tests.{eqb-true, eqb-false, ltb-false, le-ltb}
use lib.Dec.{eqb, ltb}
use lib.ListN.{length, replicate, length-replicate, length-append}
use Rattle.listlaws.specs.Fold.{fold}
use Rattle.listlaws.specs.Order.{◌∈◌}
use Rattle.listlaws.proofs.Folds.{fold-append}
use Rattle.listlaws.proofs.Often.{perm-length}
use Rattle.listlaws.proofs.Perms.{perm_in}
use Rattle.scan.proofs.Eachs.{decide}
use Rattle.records.specs.Bytes.{Bytes}
use Rattle.opimage.specs.OpImage.{read_op}
use Rattle.mapimage.specs.MapImage.{map_longest}
use Rattle.maprecords.specs.Related.{read_map}
use Rattle.answers.specs.Answer.{Answer, first_of, number_of, word_of, short_of}
use Rattle.answers.proofs.Answers.{number-done, bare}
use Rattle.acceptancelaws.proofs.Maps.{map-within}
use Rattle.readbacklaws.proofs.Back.{zeros, first-zero}
use Rattle.promises.specs.Calls.{apply_answer}
use Rattle.promises.specs.CatchUp.{operation_limit, operations_of, apply_number, Outcome, outcome_from, outcome_of, same_bytes, many_number}
use Rattle.promises.specs.CatchUp.{elsewhere_number}
use Rattle.promises.specs.CatchUp.{catch_up_answer}
use Rattle.promises.proofs.Cuts.{cut-nothing}
use Rattle.promises.proofs.Outcomes.{outcome-on, outcome-stop, outcome-end, same_bytes_lem, bytes_same}
use Rattle.anyorderlaws.specs.Calls.{Done, image_after, AllDone, none, more, end, MapImage, OpImages, RemovalImages}
use Rattle.anyorderlaws.proofs.Composed.{passed-join}
use Rattle.anyorderlaws.proofs.AnyOrder.{in-any-order}
use Rattle.catchuplaws.specs.Accepting.{Accepts, BringsTo, CatchesUp}
use Rattle.catchuplaws.proofs.Joined.{joined, cut-joined, cut-both, operations-bytes}

-- an operation's own answer is 0 where the call answers 0 with every output of the longest size
done-number : (s o : List ℕ) → Done s o → apply_number s o ≡ 0
unfolding apply_number
done-number s o d = d (replicate map_longest 0) (omega (arith, length-replicate {A = ℕ} map_longest 0))

room : (bytes out : List ℕ) → short_of bytes out ≡ 0 → length bytes ≤ length out
room bytes out e = decide (ltb (length out) (length bytes)) (λ t. let z : ◌≡◌ {A = ℕ} 10 0 = rw t at e in omega arith) (λ f. ltb-false _ _ f)

number-done-all : (s o : List ℕ) → apply_number s o ≡ 0 → Done s o
unfolding apply_number
number-done-all s o e out l =
    let z = zeros (apply_answer s o) (replicate map_longest 0) e in
    number-done (apply_answer s o) out z.first z.second z.own
    (omega (arith, room (apply_answer s o).bytes (replicate map_longest 0) z.short, length-replicate {A = ℕ} map_longest 0, l))

-- a run that is never refused
run-means : (place : ℕ) (s : List ℕ) (ops : List (List ℕ)) → (outcome_from place s ops).number ≡ 0
    → AllDone s ops × ((outcome_from place s ops).image ≡ end s ops)
unfolding fold image_after
run-means place s [] z = (none, ap (λ (x : Outcome). x.image) (outcome-end place s))
run-means place s (o ∷ ops) z = decide (eqb (apply_number s o) 0)
    (λ t. let n = eqb-true (apply_number s o) 0 t in
    let e = outcome-on place s o ops n in
    let r = run-means (place + 1) (apply_answer s o).bytes ops (ap (λ (x : Outcome). x.number) (sym e) ∙ z) in
    (more (number-done-all s o n) r.0, ap (λ (x : Outcome). x.image) e ∙ r.1))
    (λ f. let h = eqb-false (apply_number s o) 0 f in
    absurd (h (ap (λ (x : Outcome). x.number) (sym (outcome-stop place s o ops h)) ∙ z)))

run_holds : (place : ℕ) {s : List ℕ} {ops : List (List ℕ)} → AllDone s ops
    → outcome_from place s ops ≡ record { number = 0; place = 0; image = end s ops }
unfolding fold image_after
run_holds place {s} none = outcome-end place s
run_holds place {s} (more {o = o} {ops = ops} d p) = outcome-on place s o ops (done-number s o d) ∙ run_holds (place + 1) p

-- the word and its numbers
few-means : (list : List ℕ) → many_number list ≡ 0 → length (operations_of list) ≤ operation_limit
few-means list e = decide (ltb operation_limit (length (operations_of list))) (λ t. let z : ◌≡◌ {A = ℕ} 17 0 = rw t at e in omega arith)
    (λ f. ltb-false _ _ f)

there-means : (image other : List ℕ) → elsewhere_number image other ≡ 0 → image ≡ other
there-means image other e = decide (same_bytes image other) (λ t. bytes_same image other t)
    (λ f. let z : ◌≡◌ {A = ℕ} 16 0 = rw f at e in absurd (omega arith))

word-zero : (a : Answer) → 0 ≡ word_of a [] → number_of a [] ≡ 0
unfolding word_of
word-zero a e = omega (arith, e)

accepts-means : (map other list : List ℕ) → Accepts map other list → BringsTo map other list
accepts-means map other list e =
    let z = zeros (catch_up_answer map other list) [] (word-zero (catch_up_answer map other list) e) in
    let m = first-zero (many_number list) _ z.own in
    let n = first-zero (outcome_of map list).number _ m.1 in
    let r = run-means 0 map (operations_of list) n.0 in
    record {
      ours = z.first;
      theirs = z.second;
      few = few-means list m.0;
      done = r.0;
      ends = sym r.1 ∙ there-means (outcome_of map list).image other (first-zero (elsewhere_number (outcome_of map list).image other) [] n.1).0;
    }

all-zero : (a b c : ℕ) → a ≡ 0 → b ≡ 0 → c ≡ 0 → first_of (a ∷ b ∷ c ∷ []) ≡ 0
unfolding first_of
all-zero a b c p q r = rw (p, q, r) refl

accepts-holds : (map other list : List ℕ) → BringsTo map other list → Accepts map other list
accepts-holds map other list b =
    let r = run_holds 0 b.done in
    let there : same_bytes (outcome_of map list).image other ≡ true
    = ap (λ (x : Outcome). same_bytes x.image other) r ∙ ap (λ s. same_bytes s other) b.ends ∙ same_bytes_lem other in
    bare (catch_up_answer map other list) 0
    (number-done (catch_up_answer map other list) [] b.ours b.theirs
    (all-zero (many_number list) (outcome_of map list).number (elsewhere_number (outcome_of map list).image other)
    (rw (le-ltb operation_limit (length (operations_of list)) b.few) refl) (ap (λ (x : Outcome). x.number) r) (rw there refl))
    (omega arith)) refl

-- each operation of an accepted run is an accepted image
run-images : {s : List ℕ} {ops : List (List ℕ)} → AllDone s ops → ((o : List ℕ) → o ∈ ops → Bytes o) → OpImages ops
run-images none b o i = absurd (Memᴰ.not-nil i)
run-images {s} (more {o = p} {ops = ops} d q) b o i = ⊎_elim
    (λ (e : o ≡ p). record {
      bytes = b o i;
      accepted = ap (λ x. (read_op x).number) e ∙ (zeros (apply_answer s p) (replicate map_longest 0)
          (d (replicate map_longest 0) (omega (arith, length-replicate {A = ℕ} map_longest 0)))).second;
    })
    (λ j. run-images q (λ x k. b x (mathlib.Core.List.Memᴰ.tail k)) o j) (Memᴰ.cases_cons i)

-- an empty list does nothing
nothing-done : (map : List ℕ) → end map (operations_of []) ≡ map
unfolding fold
nothing-done map = ap (end map) cut-nothing

-- the end theorem
pub catches-up : CatchesUp
catches-up = record {
  exactly = λ map other list. (accepts-means map other list, accepts-holds map other list);
  empty = λ map other p q. (
    λ e. sym (nothing-done map) ∙ (accepts-means map other [] e).ends,
    λ e. accepts-holds map other [] (record {
      ours = p;
      theirs = q;
      few = omega (arith, ap length cut-nothing);
      done = rw cut-nothing none;
      ends = nothing-done map ∙ e;
    }),
  );
  valid = λ map other list e. (map-within (end map (operations_of list))).valid;
  reads = λ map other list e. ap read_map (accepts-means map other list e).ends;
  joined = joined;
  composed = λ map between other l m f g e d n.
      composed-lists map between other l m f g (accepts-means map between l e) (accepts-means between other m d) n;
  any_order = λ map other list h f d e. other-order map other list h f d (accepts-means map other list e);
}
  where
    composed-lists : (map between other l m : List ℕ) → Bytes l → Bytes m → BringsTo map between l → BringsTo between other m
        → length (operations_of l) + length (operations_of m) ≤ operation_limit → Accepts map other (l ++ m)
    composed-lists map between other l m f g a b n =
        let cut = cut-both l m (run-images a.done (operations-bytes l f)) (run-images b.done (operations-bytes m g)) in
        accepts-holds map other (l ++ m) (record {
          ours = a.ours;
          theirs = b.theirs;
          few = omega (arith, ap length cut, length-append (operations_of l) (operations_of m), n);
          done = rw cut (passed-join a.done (rw a.ends b.done));
          ends = ap (end map) cut ∙ fold-append image_after map (operations_of l) (operations_of m)
              ∙ ap (λ s. end s (operations_of m)) a.ends ∙ b.ends;
        })

    other-order : (map other list : List ℕ) {others : List (List ℕ)} → MapImage map → RemovalImages (operations_of list)
        → Permᴰ (operations_of list) others → BringsTo map other list → Accepts map other (flatten others)
    other-order map other list {others} h f d b =
        let cut = cut-joined others (λ o i. (f o (perm_in d o i)).image) in
        let r = in-any-order h f in
        accepts-holds map other (flatten others) (record {
          ours = b.ours;
          theirs = b.theirs;
          few = omega (arith, ap length cut, perm-length d, b.few);
          done = rw cut (r.every-order d b.done);
          ends = ap (end map) cut ∙ r.same_map d b.done ∙ b.ends;
        })
