-- What the reader promises of the operation that it gives: valid, and within its limits; also of a refused image.
use mathlib.Core.Path.{◌≡◌, refl, ap, sym, ◌∙◌}
use mathlib.Core.Bool.{Bool, true, false, cond}
use mathlib.Core.Logic.{◌⊎◌, inl, inr, ⊎_elim}
use mathlib.Core.List.Memᴰ
use mathlib.Core.List.{List, [], ◌∷◌}
use Prim.Native.Nat.{ℕ, ◌≤◌, ◌<◌, ◌%◌}
use native.Mathlib.Omega.{arith}
use lib.Dec.{eqb, ltb}
use lib.ListN.{length, length-map}
use borrow.Author.Tests.{ne_eqb, eqb-true}
use Rattle.listlaws.specs.Order.{◌∈◌, Ascending, nil, by}
use Rattle.listlaws.specs.Fold.{fold}
use Rattle.listlaws.specs.Sift.{sift, those}
use Rattle.listlaws.proofs.Orders.{apart}
use Rattle.limits.specs.Limits.{dot_limit, key_limit}
use Rattle.clock.specs.Dots.{clock_of}
use Rattle.clock.specs.Lawful.{Lawful}
use Rattle.clock.proofs.Packs.{dots-of}
use Rattle.map.specs.Valid.{RemovalWithin, UpdateWithin, OpWithin}
use Rattle.records.specs.declared.Record.{Record}
use Rattle.records.specs.Records.{records_of}
use Rattle.scan.specs.Limits.{limit_at, inner_limits}
use Rattle.scan.specs.Numbers.{scan_number}
use Rattle.scan.proofs.Eachs.{decide}
use Rattle.records.proofs.Rule.{uses_index, uses_key, uses_number}
use Rattle.scan.proofs.Rooms.{no_index, no_key, unordered, counter-from-one, outer-room}
use Rattle.scan.proofs.Scanning.{scan_good}
use Rattle.clockimage.specs.Image.{is_kind, dot_of, content_of, dots_from}
use Rattle.clockimage.proofs.Dots.{dots-room}
use Rattle.opimage.specs.OpImage.{op_longest, how_many, op_related, no_record, record_of, keys_in, removal_in, update_in, op_in, refused_op}
use Rattle.opimage.specs.OpImage.{judged_op, read_op}
use Rattle.acceptancelaws.proofs.Grouped.{fine, dots-lawful, keys-rise}
use Rattle.acceptancelaws.proofs.Limited.{is-kind, few, few-dots}
use Rattle.acceptancelaws.proofs.Waited.{under-as, listed-as, removal-as}

-- the last record of a kind, where there is one
abbrev Last : ℕ → List Record → Record → Record → Type 0
Last kind l q x = ((those (is_kind kind) l ≡ []) × (x ≡ q)) ⊎ ((x ∈ l) × (is_kind kind x ≡ true))

last-that : (kind : ℕ) (l : List Record) (q : Record) → Last kind l q (fold (λ q r. cond (is_kind kind r) r q) q l)
unfolding fold sift
last-that kind [] q = inl (refl, refl)
last-that kind (x ∷ l) q = go (is_kind kind x) refl (last-that kind l x) (last-that kind l q)
  where
    go : (b : Bool) → is_kind kind x ≡ b → Last kind l x (fold (λ q r. cond (is_kind kind r) r q) x l)
        → Last kind l q (fold (λ q r. cond (is_kind kind r) r q) q l) → Last kind (x ∷ l) q (fold (λ q r. cond (is_kind kind r) r q) (cond b x q) l)
    go true t u v = ⊎_elim (λ m. inr (Memᴰ.head m.1, ap (is_kind kind) m.1 ∙ t)) (λ m. inr (Memᴰ.tail m.0, m.1)) u
    go false f u v = ⊎_elim (λ m. inl (rw f m.0, m.1)) (λ m. inr (Memᴰ.tail m.0, m.1)) v

module _ (l : List Record) (z : scan_number 7 12 l ≡ 0) where
  lawful : (kind : ℕ) → uses_index kind ≡ false → uses_key kind ≡ false → uses_number kind ≡ true → (kind ≡ 3 → ⊥) → (kind ≡ 11 → ⊥)
      → Lawful (dots_from (is_kind kind) l)
  lawful kind index key number three eleven =
      dots-lawful 7 12 l z (is_kind kind) kind 0 0 (rw (ne_eqb kind 3 three, ne_eqb kind 11 eleven) refl)
      (λ x i t. let k = is-kind kind x t in let g = fine 7 12 l z x i in record {
        kind-is = k;
        key-is = no_key 7 12 x g k key;
        index_is = no_index 7 12 x g k index;
        counter = counter-from-one 7 12 x g k number (λ e. three (sym k ∙ e)) (λ e. eleven (sym k ∙ e));
      })

  keys : Ascending (by (λ k. k)) (keys_in (is_kind 9) l)
  keys =
      keys-rise 7 12 l z (is_kind 9) 9 0
      (λ x i t. let k = is-kind 9 x t in let g = fine 7 12 l z x i in
      record { kind-is = k; index_is = no_index 7 12 x g k refl; no-actor = unordered 7 12 x g k refl })

  dots-few : (kind : ℕ) → (kind ≡ 6 → ⊥) → uses_index kind ≡ false → uses_key kind ≡ false → limit_at inner_limits kind ≡ dot_limit
      → length (dots_from (is_kind kind) l) ≤ dot_limit
  dots-few kind six a b e =
      few-dots 7 12 (is_kind kind) dot_limit (λ m r y t. let h = dots-room 7 12 m r y kind (is-kind kind r t) six a b in
      omega (arith, length-map (those (is_kind kind) m) dot_of)) l z

  keys-few : length (keys_in (is_kind 9) l) ≤ key_limit
  keys-few =
      let h = few 7 12 (is_kind 9) key_limit (λ m r y t. let g = scan_good 7 12 _ y in
      outer-room 7 12 m r g.0 g.1 9 (is-kind 9 r t) (λ e. omega arith) refl refl) l z in
      omega (arith, length-map (those (is_kind 9) l) (λ r. r.key))

  removal : RemovalWithin (removal_in l)
  removal = record {
    valid = removal-as (dots_from (is_kind 8) l) (keys_in (is_kind 9) l) (lawful 8 refl refl refl (λ e. omega arith) (λ e. omega arith)) keys;
    dots = rw (under-as (dots_from (is_kind 8) l) (keys_in (is_kind 9) l)) (dots-few 8 (λ e. omega arith) refl refl refl);
    keys = rw (listed-as (dots_from (is_kind 8) l) (keys_in (is_kind 9) l)) keys-few;
  }

  head-counter : eqb (how_many 10 l) 1 ≡ true → 0 < (record_of 10 l).number
  unfolding record_of
  head-counter u =
      ⊎_elim
      (λ m. absurd (let e = eqb-true (how_many 10 l) 1 u in omega (arith, ap length m.0)))
      (λ m. let k = is-kind 10 (record_of 10 l) m.1 in counter-from-one 7 12 (record_of 10 l) (fine 7 12 l z (record_of 10 l) m.0) k refl
      (λ e. omega (arith, k)) (λ e. omega (arith, k)))
      (last-that 10 l no_record)

  update : eqb (how_many 10 l) 1 ≡ true → UpdateWithin (update_in l)
  update u =
      let e = dots-of (dots_from (is_kind 12) l) refl in
      record {
        valid = record {
          dot = head-counter u;
          laid = ap (λ c. record { clock = clock_of c; value = content_of (record_of 11 l) }) (sym e);
          clock = rw e (lawful 12 refl refl refl (λ e. omega arith) (λ e. omega arith));
        };
        dots = rw e (dots-few 12 (λ e. omega arith) refl refl refl);
      }

  pub related-op : OpWithin (op_in l)
  related-op = record { removal = removal; update = update }

no-op-within : (n : ℕ) → OpWithin (refused_op n).op
no-op-within n = record {
  removal = record {
    valid = removal-as [] [] (record { rising = nil; positive = λ d i. absurd (Memᴰ.not-nil i) }) nil;
    dots = omega arith;
    keys = omega arith;
  };
  update = λ e. apart (sym e);
}

judged-within : (l : List Record) → OpWithin (judged_op l).op
judged-within l =
    decide (eqb (scan_number 7 12 l) 0)
    (λ t. decide (op_related l) (λ r. rw (t, r) (related-op l (eqb-true (scan_number 7 12 l) 0 t))) (λ n. rw (t, n) (no-op-within 3)))
    (λ f. rw f (no-op-within (scan_number 7 12 l)))

pub op-within : (s : List ℕ) → OpWithin (read_op s).op
unfolding read_op
op-within s =
    decide (ltb op_longest (length s)) (λ t. rw t (no-op-within 2))
    (λ f. decide (eqb (length s % 16) 0) (λ t. rw (f, t) (judged-within (records_of s))) (λ n. rw (f, n) (no-op-within 1)))
