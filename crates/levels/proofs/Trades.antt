-- Removals united into those that wait trade places, as any elements do that are woven into a list with those level to them united.
use mathlib.Core.Path.{◌≡◌, refl, ap, ap₂, sym, ◌∙◌}
use mathlib.Core.Bool.{Bool, true, false, cond}
use mathlib.Core.Logic.{⊎_elim}
use mathlib.Core.List.Memᴰ
use mathlib.Core.List.{List, [], ◌∷◌, map, map-id}
use Prim.Native.Nat.{ℕ}
use Rattle.listlaws.specs.Order.{◌∈◌, Ascending, by, Strict}
use Rattle.listlaws.specs.Weave.{weave}
use Rattle.listlaws.proofs.Orders.{by-strict, same-members}
use Rattle.listlaws.proofs.Levels.{Level, Steady, before-then, then-before, before-before}
use Rattle.listlaws.proofs.Uniting.{united, united-nil, united-next}
use Rattle.clock.specs.Dots.{clock_of}
use Rattle.removals.specs.declared.Removal.{Removal}
use Rattle.removals.specs.Model.{keys_as, under_of, listed_in}
use Rattle.removals.specs.Waits.{removal_before, union_keys, unite, unite_all, unite_into}
use Rattle.removals.specs.Valid.{ValidRemoval}
use Rattle.removals.proofs.ClockOrder.{removal-strict, removal-steady, removal-level}
use Rattle.removals.proofs.Uniting.{keeps, unite-keys}
use Rattle.removals.proofs.Unions.{union-ascends, union-means, union_left, union_right}

module _ {A : Type 0} (before : A → A → Bool) (both : A → A → A) (strict : Strict before) (steady : Steady before)
    (keep-both : (x y : A) → Level before x y → Level before x (both x y)) where
  -- one element woven in behind another
  united-prior : (y z : A) → before y z ≡ true → (l : List A) → united before both (united before both l (z ∷ [])) (y ∷ [])
      ≡ united before both l (y ∷ z ∷ [])
  unfolding weave
  united-prior y z t [] = rw (strict y z t, t)
  united-prior y z t (x ∷ l) = go (before x z) (before z x) refl refl (united-prior y z t l)
    where
      first : (b c : Bool) → before x z ≡ true → before x y ≡ b → before y x ≡ c → united before both (united before both l (z ∷ [])) (y ∷ [])
          ≡ united before both l (y ∷ z ∷ [])
          → cond b (x ∷ united before both (united before both l (z ∷ [])) (y ∷ []))
          (cond c (y ∷ x ∷ map (λ u. u) (united before both l (z ∷ []))) (both x y ∷ united before both (united before both l (z ∷ [])) []))
          ≡ cond b (x ∷ united before both l (y ∷ z ∷ []))
          (cond c (y ∷ united before both (x ∷ l) (z ∷ [])) (both x y ∷ united before both l (z ∷ [])))
      first true c e p q h = ap (λ s. x ∷ s) h
      first false true e p q h = rw e (ap (λ s. y ∷ x ∷ s) (map-id (united before both l (z ∷ []))))
      first false false e p q h = ap (λ s. both x y ∷ s) (united-nil before both (united before both l (z ∷ [])))

      go : (b c : Bool) → before x z ≡ b → before z x ≡ c → united before both (united before both l (z ∷ [])) (y ∷ [])
          ≡ united before both l (y ∷ z ∷ [])
          → united before both (cond b (x ∷ united before both l (z ∷ [])) (cond c (z ∷ x ∷ map (λ u. u) l) (both x z ∷ united before both l [])))
          (y ∷ []) ≡ united before both (x ∷ l) (y ∷ z ∷ [])
      go true c e f h = first (before x y) (before y x) e refl refl h
      go false true e f h =
          let u = before-before strict steady t f in
          rw (strict y z t, t, strict y x u, u, e, f) (ap (λ s. y ∷ z ∷ x ∷ s) (map-id (map (λ v. v) l)))
      go false false e f h =
          let u = before-then strict steady t e in
          let v = before-then strict steady u (keep-both x z (e, f)).1 in
          rw (strict y (both x z) v, v, strict y x u, u, e, f) (ap (λ s. y ∷ both x z ∷ s) (map-id (united before both l [])))

  -- one element woven in level with another
  pub united-level : (y z : A) → Level before y z → (l : List A) → ((x : A) → x ∈ l → Level before x y → both (both x y) z ≡ both x (both y z))
      → united before both (united before both l (y ∷ [])) (z ∷ []) ≡ united before both l (both y z ∷ [])
  unfolding weave
  united-level y z e [] f = rw (e.0, e.1)
  united-level y z e (x ∷ l) f = go (before x y) (before y x) refl refl (united-level y z e l (λ u i. f u (Memᴰ.tail i)))
    where
      k : Level before y (both y z)
      k = keep-both y z e

      go : (b c : Bool) → before x y ≡ b → before y x ≡ c → united before both (united before both l (y ∷ [])) (z ∷ [])
          ≡ united before both l (both y z ∷ [])
          → united before both (cond b (x ∷ united before both l (y ∷ [])) (cond c (y ∷ x ∷ map (λ u. u) l) (both x y ∷ united before both l [])))
          (z ∷ []) ≡ united before both (x ∷ l) (both y z ∷ [])
      go true c t u h = rw (before-then strict steady t e.1, before-then strict steady t k.1) (ap (λ s. x ∷ s) h)
      go false true t u h =
          let v = then-before strict steady k.0 u in
          rw (e.0, e.1, strict (both y z) x v, v) (ap (λ s. both y z ∷ x ∷ s) (map-id (map (λ w. w) l)))
      go false false t u h =
          let q = keep-both x y (t, u) in
          rw (
            steady (both x y) y z (steady (both x y) x y q.1 t) e.0,
            steady z y (both x y) e.1 (steady y x (both x y) u q.0),
            steady x y (both y z) t k.0,
            steady (both y z) y x k.1 u,
          )
          (ap₂ (λ w s. w ∷ s) (f x (Memᴰ.head refl) (t, u)) (united-nil before both (united before both l [])))

  -- two elements woven in trade places
  pub united-trade : (y z : A) (l : List A) → ((x : A) → x ∈ l → Level before x y → Level before y z → both (both x y) z ≡ both x (both y z))
      → ((x : A) → x ∈ l → Level before x z → Level before z y → both (both x z) y ≡ both x (both z y)) → (Level before y z → both y z ≡ both z y)
      → united before both (united before both l (y ∷ [])) (z ∷ []) ≡ united before both (united before both l (z ∷ [])) (y ∷ [])
  united-trade y z l f g h = go (before y z) (before z y) refl refl
    where
      one : (y z : A) → before y z ≡ true → (x : A) → x ∈ (z ∷ []) → before y x ≡ true
      one y z t x i = rw (Memᴰ.eq_of_singleton i) t

      go : (b c : Bool) → before y z ≡ b → before z y ≡ c → united before both (united before both l (y ∷ [])) (z ∷ [])
          ≡ united before both (united before both l (z ∷ [])) (y ∷ [])
      go true c t u = united-next before both strict steady keep-both y l (z ∷ []) (one y z t) ∙ sym (united-prior y z t l)
      go false true t u = united-prior z y u l ∙ sym (united-next before both strict steady keep-both z l (y ∷ []) (one z y u))
      go false false t u =
          united-level y z (t, u) l (λ x i e. f x i e (t, u)) ∙ ap (λ w. united before both l (w ∷ [])) (h (t, u))
          ∙ sym (united-level z y (u, t) l (λ x i e. g x i e (u, t)))

-- unions of keys
module _ {k h : List ℕ} (a : Ascending (by (λ x. x)) k) (b : Ascending (by (λ x. x)) h) where
  pub union_comm : union_keys k h ≡ union_keys h k
  union_comm =
      same-members (by-strict (λ x. x)) _ _ (union-ascends a b) (union-ascends b a)
      (λ n i. ⊎_elim (λ j. union_right b a j) (λ j. union_left b a j) (union-means a b n i))
      (λ n i. ⊎_elim (λ j. union_right a b j) (λ j. union_left a b j) (union-means b a n i))

  pub union_assoc : {g : List ℕ} → Ascending (by (λ x. x)) g → union_keys (union_keys k h) g ≡ union_keys k (union_keys h g)
  union_assoc {g} c =
      same-members (by-strict (λ x. x)) _ _ (union-ascends (union-ascends a b) c) (union-ascends a (union-ascends b c))
      (λ n i.
      ⊎_elim
      (λ j. ⊎_elim (λ q. union_left a (union-ascends b c) q) (λ q. union_right a (union-ascends b c) (union_left b c q)) (union-means a b n j))
      (λ j. union_right a (union-ascends b c) (union_right b c j))
      (union-means (union-ascends a b) c n i))
      (λ n i.
      ⊎_elim
      (λ j. union_left (union-ascends a b) c (union_left a b j))
      (λ j. ⊎_elim (λ q. union_left (union-ascends a b) c (union_right a b q)) (λ q. union_right (union-ascends a b) c q) (union-means b c n j))
      (union-means a (union-ascends b c) n i))

module _ {x y : Removal} (h : ValidRemoval x) (k : ValidRemoval y) where
  pub unite-comm : under_of x ≡ under_of y → unite x y ≡ unite y x
  unite-comm e =
      let c : x.clock ≡ y.clock = ap (λ r. r.clock) h.laid ∙ ap clock_of e ∙ sym (ap (λ r. r.clock) k.laid) in
      λ i. record { clock = c i; keys = keys_as (union_comm h.keys k.keys i) }

  pub unite-assoc : {z : Removal} → ValidRemoval z → unite (unite x y) z ≡ unite x (unite y z)
  unite-assoc {z} q =
      let e = ap (λ s. union_keys s (listed_in z)) (unite-keys x y) ∙ union_assoc h.keys k.keys q.keys
      ∙ ap (union_keys (listed_in x)) (sym (unite-keys y z)) in
      λ i. record { clock = x.clock; keys = keys_as (e i) }

-- two removals are united into those that wait in either order
pub unite-trade : {y z : Removal} (l : List Removal) → ((x : Removal) → x ∈ l → ValidRemoval x) → ValidRemoval y → ValidRemoval z
    → unite_into (unite_into l y) z ≡ unite_into (unite_into l z) y
unfolding unite_all
unite-trade {y} {z} l f h k =
    united-trade removal_before unite removal-strict removal-steady keeps y z l
    (λ x i e q. unite-assoc (f x i) h k) (λ x i e q. unite-assoc (f x i) k h) (λ e. unite-comm h k (removal-level y z e))
