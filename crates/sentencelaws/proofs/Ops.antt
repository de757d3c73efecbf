-- An operation's records are related exactly where every sentence of 01 holds of them.
use mathlib.Core.Path.{◌≡◌, refl}
use mathlib.Core.Bool.{Bool, true, false, ◌||◌}
use mathlib.Core.List.Memᴰ
use mathlib.Core.List.{List, [], ◌∷◌}
use Prim.Native.Nat.{ℕ, ◌<◌}
use native.Mathlib.Omega.{arith}
use lib.Dec.{eqb}
use lib.ListN.{length}
use borrow.Author.Tests.{eq-eqb, eqb-true, eqb-false}
use Rattle.listlaws.specs.Order.{◌∈◌}
use Rattle.listlaws.specs.Sift.{those}
use Rattle.listlaws.proofs.Often.{first_of}
use Rattle.listlaws.proofs.Those.{those-means, those-holds}
use Rattle.records.specs.declared.Record.{Record}
use Rattle.scan.proofs.Eachs.{decide, both, both_left, both_right}
use Rattle.clockimage.specs.Image.{is_kind}
use Rattle.opimage.specs.OpImage.{how_many, removes, updates, op_related}
use Rattle.sentencelaws.specs.Sentences.{Stands, OpSentences}

some-length : {A : Type 0} {l : List A} {x : A} → x ∈ l → 0 < length l
some-length {l = []} i = absurd (Memᴰ.not-nil i)
some-length {l = y ∷ l} i = omega arith

module _ (l : List Record) where
  -- records of a kind are counted
  some-of-kind : (kind : ℕ) {r : Record} → r ∈ l → r.kind ≡ kind → 0 < how_many kind l
  some-of-kind kind {r} i k = some-length (those-holds (is_kind kind) i (eq-eqb r.kind kind k))

  of-kind : (kind : ℕ) → 0 < how_many kind l → Stands l (λ s. s.kind ≡ kind)
  of-kind kind h =
      let (s, i) = first_of (those (is_kind kind) l) h in
      let m = those-means (is_kind kind) l i in
      (s, m.0, eqb-true s.kind kind m.1)

  -- none of a kind, where each needs another that is not there
  none_of : (kind other : ℕ) → ((r : Record) → r ∈ l → r.kind ≡ kind → Stands l (λ s. s.kind ≡ other)) → how_many other l ≡ 0 → how_many kind l ≡ 0
  none_of kind other f z =
      decide (eqb (how_many kind l) 0) (λ t. eqb-true (how_many kind l) 0 t)
      (λ n. let (r, i, k) = of-kind kind (omega (arith, eqb-false (how_many kind l) 0 n)) in
      let (s, j, e) = f r i k in
      absurd (omega (arith, some-of-kind other j e)))

  -- nothing of a kind stands there
  nothing : {X : Type 0} (kind : ℕ) → how_many kind l ≡ 0 → (r : Record) → r ∈ l → r.kind ≡ kind → X
  nothing kind z r i k = absurd (omega (arith, some-of-kind kind i k))

  removal-holds : removes (λ k. how_many k l) ≡ true → OpSentences l
  removal-holds t =
      let seven = eqb-true (how_many 7 l) 1 (both_left (eqb (how_many 7 l) 1) _ t) in
      let t10 = both_right (eqb (how_many 7 l) 1) _ t in
      let ten = eqb-true (how_many 10 l) 0 (both_left (eqb (how_many 10 l) 0) _ t10) in
      let t11 = both_right (eqb (how_many 10 l) 0) _ t10 in
      let eleven = eqb-true (how_many 11 l) 0 (both_left (eqb (how_many 11 l) 0) (eqb (how_many 12 l) 0) t11) in
      let twelve = eqb-true (how_many 12 l) 0 (both_right (eqb (how_many 11 l) 0) (eqb (how_many 12 l) 0) t11) in
      record {
        one-head = omega arith;
        dots-with-removal = λ r i k. of-kind 7 (omega arith);
        keys-with-removal = λ r i k. of-kind 7 (omega arith);
        one_value = nothing 10 ten;
        value-with-update = nothing 11 eleven;
        dots-with-update = nothing 12 twelve;
      }

  update-holds : updates (λ k. how_many k l) ≡ true → OpSentences l
  update-holds t =
      let ten = eqb-true (how_many 10 l) 1 (both_left (eqb (how_many 10 l) 1) _ t) in
      let t11 = both_right (eqb (how_many 10 l) 1) _ t in
      let eleven = eqb-true (how_many 11 l) 1 (both_left (eqb (how_many 11 l) 1) _ t11) in
      let t7 = both_right (eqb (how_many 11 l) 1) _ t11 in
      let seven = eqb-true (how_many 7 l) 0 (both_left (eqb (how_many 7 l) 0) _ t7) in
      let t8 = both_right (eqb (how_many 7 l) 0) _ t7 in
      let eight = eqb-true (how_many 8 l) 0 (both_left (eqb (how_many 8 l) 0) (eqb (how_many 9 l) 0) t8) in
      let nine = eqb-true (how_many 9 l) 0 (both_right (eqb (how_many 8 l) 0) (eqb (how_many 9 l) 0) t8) in
      record {
        one-head = omega arith;
        dots-with-removal = nothing 8 eight;
        keys-with-removal = nothing 9 nine;
        one_value = λ r i k. eleven;
        value-with-update = λ r i k. of-kind 10 (omega arith);
        dots-with-update = λ r i k. of-kind 10 (omega arith);
      }

  pub op-holding : op_related l ≡ true → OpSentences l
  unfolding op_related
  op-holding t = decide (removes (λ k. how_many k l)) removal-holds (λ f. update-holds (rw f at t))

  pub op-needing : OpSentences l → op_related l ≡ true
  unfolding op_related
  op-needing h = decide (eqb (how_many 10 l) 0) removal update
    where
      either : (a b : Bool) → a ≡ true → (a || b) ≡ true
      either a b e = rw e refl

      or : (a b : Bool) → b ≡ true → (a || b) ≡ true
      or true b e = refl
      or false b e = e

      removal : eqb (how_many 10 l) 0 ≡ true → (removes (λ k. how_many k l) || updates (λ k. how_many k l)) ≡ true
      removal t =
          let ten = eqb-true (how_many 10 l) 0 t in
          either (removes (λ k. how_many k l)) (updates (λ k. how_many k l))
          (both (eqb (how_many 7 l) 1) _ (eq-eqb (how_many 7 l) 1 (omega (arith, h.one-head, ten)))
          (both (eqb (how_many 10 l) 0) _ t
          (both (eqb (how_many 11 l) 0) (eqb (how_many 12 l) 0) (eq-eqb (how_many 11 l) 0 (none_of 11 10 h.value-with-update ten))
          (eq-eqb (how_many 12 l) 0 (none_of 12 10 h.dots-with-update ten)))))

      update : eqb (how_many 10 l) 0 ≡ false → (removes (λ k. how_many k l) || updates (λ k. how_many k l)) ≡ true
      update f =
          let some = eqb-false (how_many 10 l) 0 f in
          let seven : how_many 7 l ≡ 0 = omega (arith, h.one-head) in
          let (r, i, k) = of-kind 10 (omega arith) in
          or (removes (λ k. how_many k l)) (updates (λ k. how_many k l))
          (both (eqb (how_many 10 l) 1) _ (eq-eqb (how_many 10 l) 1 (omega (arith, h.one-head)))
          (both (eqb (how_many 11 l) 1) _ (eq-eqb (how_many 11 l) 1 (h.one_value r i k))
          (both (eqb (how_many 7 l) 0) _ (eq-eqb (how_many 7 l) 0 seven)
          (both (eqb (how_many 8 l) 0) (eqb (how_many 9 l) 0) (eq-eqb (how_many 8 l) 0 (none_of 8 7 h.dots-with-removal seven))
          (eq-eqb (how_many 9 l) 0 (none_of 9 7 h.keys-with-removal seven))))))
