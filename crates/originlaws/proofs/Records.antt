-- A record by itself and in its order, as it was judged before and as it is: the same, where a value's field is zero.
use mathlib.Core.Path.{◌≡◌, refl, ap, sym, ◌∙◌, fun_ext}
use mathlib.Core.Bool.{Bool, true, false, ◌&&◌, ◌||◌}
use mathlib.Core.List.{List}
use Prim.Native.Nat.{ℕ}
use native.Mathlib.Omega.{arith}
use lib.Dec.{T, eqb, ltb, leb}
use lib.ListN.{get_or-eq_default}
use borrow.Author.Tests.{eqb-true, ltb-true, ltb-false, le-ltb}
use Rattle.records.specs.declared.Record.{Record}
use Rattle.records.specs.Kinds.{masks, mask_of, fields_ok, record_ok, actor_of, before}
use Rattle.records.proofs.Rule.{is_value}
use Rattle.records.proofs.Table.{at}
use Rattle.scan.specs.Each.{every}
use Rattle.scan.specs.Formed.{follows}
use Rattle.scan.proofs.Eachs.{both_left, both_right, both, decide}
use Rattle.originlaws.specs.Before.{old_masks, old_mask, old_ok, old_before, old_follows}

-- a value's record has zero in the field of the actor
abbrev pub Unnamed : Record → Type 0
Unnamed r = is_value r.kind ≡ true → r.actor ≡ 0

-- the masks of all other kinds are what they were
same_row : ℕ → ℕ → Bool
same_row k m = is_value k || eqb (old_mask k) m

row_is : (v b : Bool) → T (v || b) → v ≡ false → b ≡ true
row_is true b t f = absurd (Rattle.listlaws.proofs.Orders.apart f)
row_is false true t f = refl
row_is false false t f = absurd t

pub mask-same : (k : ℕ) → is_value k ≡ false → old_mask k ≡ mask_of k
unfolding same_row
mask-same k f =
    decide (ltb k 13)
    (λ t. eqb-true (old_mask k) (mask_of k) (row_is (is_value k) (eqb (old_mask k) (mask_of k)) (at same_row masks tt k (ltb-true k 13 t)) f))
    (λ n. let h = ltb-false k 13 n in get_or-eq_default old_masks 0 h ∙ sym (get_or-eq_default masks 0 h))

module _ (low high : ℕ) (r : Record) where
  -- a record that was good is good, and its value names nobody
  pub still-ok : old_ok low high r ≡ true → record_ok low high r ≡ true
  unfolding old_ok record_ok
  still-ok h =
      let a = both_left (leb low r.kind) _ h in
      let b = both_right (leb low r.kind) _ h in
      let c = both_left (leb r.kind high) _ b in
      let f = both_left (fields_ok (old_mask r.kind) r) _ (both_right (leb r.kind high) _ b) in
      decide (eqb r.kind 3)
      (λ t. let k = eqb-true r.kind 3 t in both (leb low r.kind) _ a (both (leb r.kind high) _ c (rw k refl)))
      (λ n. decide (eqb r.kind 11)
      (λ t. let k = eqb-true r.kind 11 t in
      let g = rw k at f in
      let i = both_left (eqb r.index 0) _ g in
      let y = both_left (eqb r.key 0) _ (both_right (eqb r.actor 0) _ (both_right (eqb r.index 0) _ g)) in
      both (leb low r.kind) _ a (both (leb r.kind high) _ c (rw (k, i, y) refl)))
      (λ m. rw (mask-same r.kind (rw (n, m) refl)) at h))

  pub was-unnamed : old_ok low high r ≡ true → Unnamed r
  unfolding old_ok
  was-unnamed h v =
      let f = both_left (fields_ok (old_mask r.kind) r) _ (both_right (leb r.kind high) _ (both_right (leb low r.kind) _ h)) in
      decide (eqb r.kind 3)
      (λ t. let g = rw (eqb-true r.kind 3 t) at f in eqb-true r.actor 0 (both_left (eqb r.actor 0) _ g))
      (λ n. decide (eqb r.kind 11)
      (λ t. let g = rw (eqb-true r.kind 11 t) at f in eqb-true r.actor 0 (both_left (eqb r.actor 0) _ (both_right (eqb r.index 0) _ g)))
      (λ m. absurd (Rattle.listlaws.proofs.Orders.apart (sym (rw (n, m) at v)))))

-- the order skips a field that is zero
pub by-actor : (r : Record) → Unnamed r → r.actor ≡ actor_of r
by-actor r z = decide (is_value r.kind) (λ t. rw t (z t)) (λ f. rw f refl)

last-same : (s r : Record) → s.kind ≡ r.kind → Unnamed r → ltb s.actor r.actor ≡ ltb (actor_of s) (actor_of r)
last-same s r k z =
    decide (is_value r.kind)
    (λ t. le-ltb s.actor r.actor (let e = z t in omega arith) ∙ sym (rw (ap is_value k ∙ t, t) refl))
    (λ f. rw (ap is_value k ∙ f, f) refl)

order_same : (s r : Record) → Unnamed r → old_before s r ≡ before s r
unfolding old_before before
order_same s r z =
    decide (eqb s.kind r.kind)
    (λ t. ap (λ b. ltb s.kind r.kind || (eqb s.kind r.kind
    && (ltb s.key r.key || (eqb s.key r.key && (ltb s.index r.index || (eqb s.index r.index && b))))))
    (last-same s r (eqb-true s.kind r.kind t) z))
    (λ f. rw f refl)

-- so it follows those before it as it did
module _ (low high : ℕ) (seen : List Record) (r : Record) where
  pub orders-same : Unnamed r → every (λ s. old_before s r) seen ≡ every (λ s. before s r) seen
  orders-same z = ap (λ f. every f seen) (fun_ext (λ s. order_same s r z))

  pub still-follows : old_follows low high seen r ≡ true → follows low high seen r ≡ true
  still-follows h =
      let a = both_left (old_ok low high r) _ h in
      both (record_ok low high r) _ (still-ok low high r a) (sym (orders-same (was-unnamed low high r a)) ∙ both_right (old_ok low high r) _ h)
