-- Removals united one after the other into those that wait: what is so of one of them is so of one that went in, and the other way round.
use mathlib.Core.Path.{◌≡◌, refl, sym, ◌∙◌}
use mathlib.Core.Logic.{◌⊎◌, inl, inr, ⊎_elim}
use mathlib.Core.List.Memᴰ
use mathlib.Core.List.{List, [], ◌∷◌}
use Prim.Native.Nat.{ℕ}
use Rattle.listlaws.specs.Fold.{fold}
use Rattle.listlaws.specs.Order.{◌∈◌}
use Rattle.listlaws.proofs.Levels.{level-same}
use Rattle.listlaws.proofs.Sides.{one-ascends}
use Rattle.clock.specs.declared.Dot.{Dot}
use Rattle.removals.specs.declared.Removal.{Removal}
use Rattle.removals.specs.Model.{under_of}
use Rattle.removals.specs.Waits.{unite, unite_into}
use Rattle.removals.specs.Valid.{ValidRemoval, ValidWaiting}
use Rattle.removals.proofs.ClockOrder.{level-removal}
use Rattle.removals.proofs.Uniting.{unite-each, unite-left, unite-right, unite-keys}
use Rattle.removals.proofs.Unions.{union-means, union_left, union_right}
use Rattle.removals.proofs.WaitingValid.{valid-unite-into, Ready}
use Rattle.maplaws.specs.Among.{OneOf, UnderClock, Lists, Exactly}

-- what two removals under one clock share with their union
pub record Shared (Such : Removal → Type 0) : Type 0 where
  pub split : (x y : Removal) → ValidRemoval x → ValidRemoval y → under_of x ≡ under_of y → Such (unite x y) → Such x ⊎ Such y
  pub left : (x y : Removal) → ValidRemoval x → ValidRemoval y → under_of x ≡ under_of y → Such x → Such (unite x y)
  pub right : (x y : Removal) → ValidRemoval x → ValidRemoval y → under_of x ≡ under_of y → Such y → Such (unite x y)

module _ {Such : Removal → Type 0} (s : Shared Such) where
  module _ {l : List Removal} {r : Removal} (h : ValidWaiting l) (k : ValidRemoval r) where
    into-means : OneOf (unite_into l r) Such → OneOf l Such ⊎ Such r
    into-means q =
        unite-each h.rising (one-ascends r) (λ z. Such z → OneOf l Such ⊎ Such r)
        (λ x i p. inl (x, i, p))
        (λ y j p. let same : y ≡ r = Memᴰ.eq_of_singleton j in inr (rw same at p))
        (λ x y i j e p. let same : y ≡ r = Memᴰ.eq_of_singleton j in
        ⊎_elim (λ t. inl (x, i, t)) (λ t. inr (rw same at t)) (s.split x y (h.each x i) (rw same k) e p))
        q.0 q.1 q.2

    into-old : OneOf l Such → OneOf (unite_into l r) Such
    into-old q =
        ⊎_elim (λ i. (q.0, i, q.2))
        (λ t. let same : t.0 ≡ r = Memᴰ.eq_of_singleton t.1 in
        (unite q.0 t.0, t.3, s.left q.0 t.0 (h.each q.0 q.1) (rw same k) t.2 q.2))
        (unite-left h.rising (one-ascends r) q.1)

    into_new : Such r → OneOf (unite_into l r) Such
    into_new p =
        ⊎_elim (λ i. (r, i, p)) (λ t. (unite t.0 r, t.3, s.right t.0 r (h.each t.0 t.1) k t.2 p))
        (unite-right h.rising (one-ascends r) (Memᴰ.head refl))

  all-means : (ws : List Removal) {l : List Removal} → ValidWaiting l → Ready ws → OneOf (fold unite_into l ws) Such → OneOf l Such ⊎ OneOf ws Such
  unfolding fold
  all-means [] h g q = inl q
  all-means (w ∷ ws) h g q =
      let k = g w (Memᴰ.head refl) in
      ⊎_elim (λ p. ⊎_elim (λ t. inl t) (λ t. inr (w, Memᴰ.head refl, t)) (into-means h k.0 p)) (λ p. inr (p.0, Memᴰ.tail p.1, p.2))
      (all-means ws (valid-unite-into h k.0 k.1) (λ v i. g v (Memᴰ.tail i)) q)

  all_old : (ws : List Removal) {l : List Removal} → ValidWaiting l → Ready ws → OneOf l Such → OneOf (fold unite_into l ws) Such
  unfolding fold
  all_old [] h g q = q
  all_old (w ∷ ws) h g q =
      let k = g w (Memᴰ.head refl) in
      all_old ws (valid-unite-into h k.0 k.1) (λ v i. g v (Memᴰ.tail i)) (into-old h k.0 q)

  all_new : (ws : List Removal) {l : List Removal} → ValidWaiting l → Ready ws → (w : Removal) → w ∈ ws → Such w → OneOf (fold unite_into l ws) Such
  unfolding fold
  all_new [] h g w i p = absurd (Memᴰ.not-nil i)
  all_new (v ∷ ws) h g w i p =
      let k = g v (Memᴰ.head refl) in
      ⊎_elim
      (λ (e : w ≡ v). all_old ws (valid-unite-into h k.0 k.1) (λ u j. g u (Memᴰ.tail j)) (into_new h k.0 (rw e at p)))
      (λ j. all_new ws (valid-unite-into h k.0 k.1) (λ u q. g u (Memᴰ.tail q)) w j p)
      (Memᴰ.cases_cons i)

  -- of those that waited before, or of those that joined them
  pub united-exactly : (ws : List Removal) {l : List Removal} → ValidWaiting l → Ready ws
      → Exactly (OneOf (fold unite_into l ws) Such) (OneOf l Such ⊎ OneOf ws Such)
  united-exactly ws h g = (all-means ws h g, λ q. ⊎_elim (λ t. all_old ws h g t) (λ t. all_new ws h g t.0 t.1 t.2) q)

-- the clock
pub shared-clock : (c : List Dot) → Shared (UnderClock c)
shared-clock c = record { split = λ x y h k e q. inl q; left = λ x y h k e q. q; right = λ x y h k e q. e ∙ q }

-- the clock and a key
pub shared-key : (c : List Dot) (k : ℕ) → Shared (Lists c k)
shared-key c k = record {
  split = λ x y h q e p. ⊎_elim (λ i. inl (p.0, i)) (λ i. inr (sym e ∙ p.0, i)) (union-means h.keys q.keys k (rw (unite-keys x y) at p.1));
  left = λ x y h q e p. (p.0, rw (unite-keys x y) (union_left h.keys q.keys p.1));
  right = λ x y h q e p. (e ∙ p.0, rw (unite-keys x y) (union_right h.keys q.keys p.1));
}

-- those that wait stand under different clocks
pub one-clock : {l : List Removal} → ValidWaiting l → {r s : Removal} → r ∈ l → s ∈ l → under_of r ≡ under_of s → r ≡ s
one-clock h {r} {s} i j e = level-same h.rising i j (level-removal r s e)
