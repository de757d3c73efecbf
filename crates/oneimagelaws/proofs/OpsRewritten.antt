-- What was read as an operation writes as it was.
use mathlib.Core.Path.{◌≡◌, refl, ap, ap₂, sym, ◌∙◌}
use mathlib.Core.Bool.{true, false, cond}
use mathlib.Core.List.Memᴰ
use mathlib.Core.List.{List, [], ◌∷◌, ◌++◌, map, append-nil}
use Prim.Native.Nat.{ℕ, ◌+◌}
use native.Mathlib.Omega.{arith}
use lib.Dec.{eqb, leb}
use lib.ListN.{length}
use borrow.Author.Tests.{eqb-true, eqb-false, le-leb, lt-leb}
use Rattle.listlaws.specs.Order.{◌∈◌}
use Rattle.listlaws.specs.Sift.{sift, those}
use Rattle.listlaws.specs.Fold.{fold}
use Rattle.listlaws.proofs.Pads.{take-pad}
use Rattle.listlaws.proofs.Those.{those-means, those-all, those-none}
use Rattle.limits.specs.Limits.{dot_limit, key_limit}
use Rattle.clock.specs.Dots.{no_dot, dots_of}
use Rattle.records.specs.declared.Record.{Record}
use Rattle.records.specs.Bytes.{Bytes}
use Rattle.records.specs.Kinds.{record_ok}
use Rattle.records.specs.Records.{records_of, bytes_of}
use Rattle.records.proofs.RoundTrips.{by-fields, written_read}
use Rattle.scan.specs.Numbers.{scan_number}
use Rattle.scan.proofs.Eachs.{decide, both_left, both_right}
use Rattle.records.proofs.Rule.{uses_index, uses_key}
use Rattle.scan.proofs.Rooms.{good-at, kind-range, no_index, no-actor, no_key, no_number}
use Rattle.scan.proofs.Scanning.{scan_good}
use Rattle.scan.proofs.Builds.{formed-ascends}
use Rattle.scan.proofs.Splits.{of_kind, from, split}
use Rattle.clockimage.specs.Image.{is_kind, dot_of, dot_record, dot_records, content_of, content_record, dots_from}
use Rattle.clockimage.proofs.RoundTrip.{accepted}
use Rattle.opimage.specs.OpImage.{op_longest, key_record, removal_head, update_head, put_value, op_records, op_image, how_many, removes, updates}
use Rattle.opimage.specs.OpImage.{op_related}
use Rattle.opimage.specs.OpImage.{no_record, record_of, keys_in, update_in, op_in, judged_op, refused_op, read_op}

-- a list of no elements, and of one
pub none_left : {A : Type 0} (l : List A) → eqb (length l) 0 ≡ true → l ≡ []
none_left [] e = refl
none_left (x ∷ l) e = absurd (let z = eqb-true (length (x ∷ l)) 0 e in omega arith)

one_left : {A : Type 0} (l : List A) → eqb (length l) 1 ≡ true → (x : A) × (l ≡ x ∷ [])
one_left [] e = absurd (let z = eqb-true 0 1 e in omega arith)
one_left (x ∷ []) e = (x, refl)
one_left (x ∷ (y ∷ l)) e = absurd (let z = eqb-true (length (x ∷ (y ∷ l))) 1 e in omega arith)

-- the last record of a kind is the last of those of the kind
last_of : (kind : ℕ) (l : List Record) (q : Record) → fold (λ q r. cond (is_kind kind r) r q) q l ≡ fold (λ q r. r) q (those (is_kind kind) l)
unfolding fold sift
last_of kind [] q = refl
last_of kind (x ∷ l) q = decide (is_kind kind x) (λ t. rw t (last_of kind l x)) (λ f. rw f (last_of kind l q))

pub only : (kind : ℕ) (l : List Record) (x : Record) → those (is_kind kind) l ≡ x ∷ [] → record_of kind l ≡ x
unfolding record_of fold
only kind l x e = last_of kind l no_record ∙ ap (fold (λ q r. r) no_record) e

pub no_record_lem : (kind : ℕ) (l : List Record) → those (is_kind kind) l ≡ [] → record_of kind l ≡ no_record
unfolding record_of fold
no_record_lem kind l e = last_of kind l no_record ∙ ap (fold (λ q r. r) no_record) e

-- records that are made again of what they hold
made_again : {A : Type 0} (f : Record → A) (g : A → Record) (l : List Record) → ((x : Record) → x ∈ l → g (f x) ≡ x) → map g (map f l) ≡ l
made_again f g [] h = refl
made_again f g (x ∷ l) h = ap₂ ◌∷◌ (h x (Memᴰ.head refl)) (made_again f g l (λ y i. h y (Memᴰ.tail i)))

still : (m : List Record) → m ≡ m
still m = refl

joined : {a b c d e f a' b' c' d' e' f' : List Record} → a ≡ a' → b ≡ b' → c ≡ c' → d ≡ d' → e ≡ e' → f ≡ f'
    → a ++ (b ++ (c ++ (d ++ (e ++ (f ++ []))))) ≡ a' ++ (b' ++ (c' ++ (d' ++ (e' ++ (f' ++ [])))))
joined p q r s t u = ap₂ ◌++◌ p (ap₂ ◌++◌ q (ap₂ ◌++◌ r (ap₂ ◌++◌ s (ap₂ ◌++◌ t (ap₂ ◌++◌ u refl)))))

module _ (l : List Record) (z : scan_number 7 12 l ≡ 0) where
  good : (x : Record) → x ∈ l → record_ok 7 12 x ≡ true
  good x i = good-at 7 12 l (scan_good 7 12 l z).0 x i

  -- kind by kind
  kinds : l ≡ of_kind 7 l ++ (of_kind 8 l ++ (of_kind 9 l ++ (of_kind 10 l ++ (of_kind 11 l ++ (of_kind 12 l ++ [])))))
  kinds =
      let a = formed-ascends 7 12 l (scan_good 7 12 l z).0 in
      sym (those-all (λ x. leb 7 x.kind) l (λ x i. le-leb 7 x.kind (kind-range 7 12 x (good x i)).0))
      ∙ (split 7 l a ∙ ap (λ m. of_kind 7 l ++ m)
      (split 8 l a ∙ ap (λ m. of_kind 8 l ++ m)
      (split 9 l a ∙ ap (λ m. of_kind 9 l ++ m)
      (split 10 l a ∙ ap (λ m. of_kind 10 l ++ m)
      (split 11 l a ∙ ap (λ m. of_kind 11 l ++ m)
      (split 12 l a ∙ ap (λ m. of_kind 12 l ++ m) none_above))))))
    where
      none_above : from 13 l ≡ []
      none_above = those-none (λ x. leb 13 x.kind) l (λ x i. let h = (kind-range 7 12 x (good x i)).1 in lt-leb 13 x.kind (omega arith))

  -- a record of a kind, and what it does not use
  module _ (kind : ℕ) where
    record Plain (x : Record) : Type 0 where
      pub kind-is : x.kind ≡ kind
      pub fine : record_ok 7 12 x ≡ true

    plain : (x : Record) → x ∈ those (is_kind kind) l → Plain x
    plain x i = let m = those-means (is_kind kind) l i in record { kind-is = eqb-true x.kind kind m.1; fine = good x m.0 }

    dots-again : uses_index kind ≡ false → uses_key kind ≡ false → dot_records kind 0 0 (dots_from (is_kind kind) l) ≡ of_kind kind l
    dots-again a b =
        made_again dot_of (dot_record kind 0 0) (those (is_kind kind) l)
        (λ x i. let p = plain x i in let k = p.kind-is in
        by-fields (sym p.kind-is) (sym (no_index 7 12 x p.fine k a)) refl (sym (no_key 7 12 x p.fine k b)) refl)

  keys-again : map (key_record 9 0) (keys_in (is_kind 9) l) ≡ of_kind 9 l
  keys-again =
      made_again (λ x. x.key) (key_record 9 0) (those (is_kind 9) l)
      (λ x i. let p = plain 9 x i in let k = p.kind-is in
      by-fields (sym p.kind-is) (sym (no_index 7 12 x p.fine k refl)) (sym (no-actor 7 12 x p.fine k refl)) refl
      (sym (no_number 7 12 x p.fine k refl)))

  one_of : (kind : ℕ) (x : Record) → those (is_kind kind) l ≡ x ∷ [] → Plain kind x
  one_of kind x e = plain kind x (rw e (Memᴰ.head refl))

  removal-again : removes (λ k. how_many k l) ≡ true → op_records (op_in l) ≡ l
  removal-again t =
      let a = both_left (eqb (how_many 7 l) 1) _ t in
      let t10 = both_right (eqb (how_many 7 l) 1) _ t in
      let b = both_left (eqb (how_many 10 l) 0) _ t10 in
      let t11 = both_right (eqb (how_many 10 l) 0) _ t10 in
      let c = both_left (eqb (how_many 11 l) 0) (eqb (how_many 12 l) 0) t11 in
      let d = both_right (eqb (how_many 11 l) 0) (eqb (how_many 12 l) 0) t11 in
      let one = one_left (those (is_kind 7) l) a in
      let p = one_of 7 one.0 one.1 in
      let k = p.kind-is in
      let head : one.0 ≡ removal_head =
      by-fields p.kind-is (no_index 7 12 one.0 p.fine k refl) (no-actor 7 12 one.0 p.fine k refl)
      (no_key 7 12 one.0 p.fine k refl) (no_number 7 12 one.0 p.fine k refl) in
      rw (eqb-true (how_many 10 l) 0 b)
      (ap₂ (λ u h. removal_head ∷ (dot_records 8 0 0 u ++ map (key_record 9 0) h)) (take-pad no_dot dot_limit (dots_from (is_kind 8) l))
      (take-pad 0 key_limit (keys_in (is_kind 9) l))
      ∙ ap₂ (λ u h. removal_head ∷ (u ++ h)) (dots-again 8 refl refl) keys-again
      ∙ ap (λ h. h ∷ (of_kind 8 l ++ of_kind 9 l)) (sym head)
      ∙ ap (λ m. one.0 ∷ (of_kind 8 l ++ m)) (sym (append-nil (of_kind 9 l)))
      ∙ sym (kinds ∙ joined one.1 (still (of_kind 8 l)) (still (of_kind 9 l)) (none_left (those (is_kind 10) l) b)
      (none_left (those (is_kind 11) l) c)
      (none_left (those (is_kind 12) l) d)))

  update-again : updates (λ k. how_many k l) ≡ true → op_records (op_in l) ≡ l
  update-again t =
      let a = both_left (eqb (how_many 10 l) 1) _ t in
      let t11 = both_right (eqb (how_many 10 l) 1) _ t in
      let b = both_left (eqb (how_many 11 l) 1) _ t11 in
      let t7 = both_right (eqb (how_many 11 l) 1) _ t11 in
      let c = both_left (eqb (how_many 7 l) 0) _ t7 in
      let t8 = both_right (eqb (how_many 7 l) 0) _ t7 in
      let d = both_left (eqb (how_many 8 l) 0) (eqb (how_many 9 l) 0) t8 in
      let e = both_right (eqb (how_many 8 l) 0) (eqb (how_many 9 l) 0) t8 in
      let h = one_left (those (is_kind 10) l) a in
      let v = one_left (those (is_kind 11) l) b in
      let p = one_of 10 h.0 h.1 in
      let q = one_of 11 v.0 v.1 in
      let k = q.kind-is in
      let head : update_head (update_in l) ≡ h.0 =
      ap (λ x. record { kind = 10; index = 0; actor = x.actor; key = x.key; number = x.number }) (only 10 l h.0 h.1)
      ∙ by-fields (sym p.kind-is) (sym (no_index 7 12 h.0 p.fine p.kind-is refl)) refl refl refl in
      let value : put_value (update_in l) ≡ v.0 =
      ap (λ x. content_record 11 0 0 (content_of x)) (only 11 l v.0 v.1)
      ∙ by-fields (sym q.kind-is) (sym (no_index 7 12 v.0 q.fine k refl)) refl (sym (no_key 7 12 v.0 q.fine k refl)) refl in
      rw (eqb-true (how_many 10 l) 1 a)
      (ap₂ (λ x y. x ∷ (y ∷ dot_records 12 0 0 (dots_of (update_in l).put.clock))) head value
      ∙ ap (λ m. h.0 ∷ (v.0 ∷ m)) (ap (dot_records 12 0 0) (take-pad no_dot dot_limit (dots_from (is_kind 12) l)) ∙ dots-again 12 refl refl
      ∙ sym (append-nil (of_kind 12 l)))
      ∙ sym (kinds ∙ joined (none_left (those (is_kind 7) l) c) (none_left (those (is_kind 8) l) d) (none_left (those (is_kind 9) l) e) h.1 v.1
      (still (of_kind 12 l))))

  -- related records are those of the operation that they stand for
  pub op-again : op_related l ≡ true → op_records (op_in l) ≡ l
  unfolding op_related
  op-again t = decide (removes (λ k. how_many k l)) (λ a. removal-again a) (λ f. update-again (rw f at t))

-- what was read writes as it was
pub op-accepted : (s : List ℕ) → Bytes s → (read_op s).number ≡ 0 → op_image (read_op s).op ≡ s
unfolding read_op
op-accepted s b e =
    let a = accepted (λ r. r.number) op_longest refused_op judged_op s (λ n. refl) e in
    let l = records_of s in
    let n = ap (λ r. r.number) (sym a.same) ∙ e in
    decide (eqb (scan_number 7 12 l) 0)
    (λ t. decide (op_related l)
    (λ u. let z = eqb-true (scan_number 7 12 l) 0 t in
    let read : (judged_op l).op ≡ op_in l = rw (t, u) in
    ap (λ r. op_image r.op) a.same ∙ ap op_image read ∙ ap bytes_of (op-again l z u) ∙ written_read s b a.whole)
    (λ f. absurd (let q = rw (t, f) at n in omega arith)))
    (λ f. let q = rw f at n in absurd (eqb-false (scan_number 7 12 l) 0 f q))
