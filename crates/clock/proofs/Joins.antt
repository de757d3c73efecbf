-- Joining clocks, and adding a dot: the result is a clock, with the larger counter of each actor.
use mathlib.Core.Path.{◌≡◌, refl, ap, sym, ◌∙◌}
use mathlib.Core.Bool.{Bool, true, false, cond, ◌&&◌}
use mathlib.Core.Logic.{◌⊎◌, inl, inr}
use mathlib.Core.List.Memᴰ
use mathlib.Core.List.{List, [], ◌∷◌}
use Prim.Native.Nat.{ℕ, ◌<◌, max}
use native.Mathlib.Omega.{arith}
use borrow.Author.Tests.{ltb-true, ltb-false, lt-ltb, le-ltb, eqb-true}
use lib.Dec.{ltb, eqb}
use Rattle.listlaws.specs.Order.{◌∈◌, nil, next, by}
use Rattle.listlaws.proofs.Orders.{by-strict}
use Rattle.listlaws.proofs.Those.{those-same, those-those}
use Rattle.listlaws.proofs.Ranks.{by-steady, by_level, level_by}
use Rattle.listlaws.proofs.Woven.{weave-ascends, weave-every, weave-has-first, weave-has-second, weave-has-both}
use Rattle.clock.specs.declared.Dot.{Dot}
use Rattle.clock.specs.Dots.{counter_in, beyond, cut_dots, larger_dot, join_dots, add_dot}
use Rattle.clock.specs.Lawful.{Lawful}
use Rattle.clock.proofs.Counters.{dot_in, counter-member, counter-cases, counter-absent, counter-nil, counter-one, same-clock}

pub lawful-nil : Lawful []
lawful-nil = record { rising = nil; positive = λ d i. absurd (Memᴰ.not-nil i) }

pub lawful-one : (d : Dot) → 0 < d.counter → Lawful (d ∷ [])
lawful-one d h = record {
  rising = next (λ y i. absurd (Memᴰ.not-nil i)) nil;
  positive = λ y i. rw (Memᴰ.eq_of_singleton i) h;
}

-- the larger of two dots: its actor, and its counter
larger-actor : (x y : Dot) → x.actor ≡ y.actor → x.actor ≡ (larger_dot x y).actor
larger-actor x y e = go (ltb x.counter y.counter)
  where
    go : (b : Bool) → x.actor ≡ (cond b y x).actor
    go true = e
    go false = refl

larger-counter : (x y : Dot) → (larger_dot x y).counter ≡ max x.counter y.counter
larger-counter x y = go (ltb x.counter y.counter) refl
  where
    go : (b : Bool) → ltb x.counter y.counter ≡ b → (cond b y x).counter ≡ max x.counter y.counter
    go true t = omega (arith, ltb-true x.counter y.counter t)
    go false t = omega (arith, ltb-false x.counter y.counter t)

-- below the larger is below both
ltb-max : (m n k : ℕ) → ltb m k && ltb n k ≡ ltb (max m n) k
ltb-max m n k = go (ltb m k) (ltb n k) refl refl
  where
    go : (b c : Bool) → ltb m k ≡ b → ltb n k ≡ c → b && c ≡ ltb (max m n) k
    go true true t u = sym (lt-ltb (max m n) k (omega (arith, ltb-true m k t, ltb-true n k u)))
    go true false t u = sym (le-ltb (max m n) k (omega (arith, ltb-false n k u)))
    go false c t u = sym (le-ltb (max m n) k (omega (arith, ltb-false m k t)))

-- whose dot it is
abbrev whose : Dot → ℕ
whose d = d.actor

module _ {a b : List Dot} (h : Lawful a) (k : Lawful b) where
  -- what holds of the dots of both clocks, and of the larger of two of one actor, holds of the joined clock's
  pub join-every : (P : Dot → Type 0) → ((x : Dot) → x ∈ a → P x) → ((y : Dot) → y ∈ b → P y)
      → ((x y : Dot) → x ∈ a → y ∈ b → x.actor ≡ y.actor → P (larger_dot x y)) → (z : Dot) → z ∈ join_dots a b → P z
  unfolding join_dots
  join-every P f g e =
      weave-every (by whose) (λ d. d) (λ d. d) larger_dot (by-strict whose) (by-steady whose) P h.rising k.rising
      (λ x i s. f x i) (λ y i s. g y i) (λ x y i j s. e x y i j (by_level whose x y s))

  pub lawful-join : Lawful (join_dots a b)
  unfolding join_dots
  lawful-join = record {
    rising =
        weave-ascends (by whose) (λ d. d) (λ d. d) larger_dot (by-strict whose) (by-steady whose)
        (λ d. level_by whose d d refl) (λ d. level_by whose d d refl) (λ x y e. level_by whose x (larger_dot x y)
        (larger-actor x y (by_level whose x y e)))
        h.rising k.rising;
    positive = join-every (λ d. 0 < d.counter) h.positive k.positive (λ x y i j e. omega (arith, larger-counter x y, h.positive x i));
  }

  -- the joined clock has the larger counter
  pub counter-join : (x : ℕ) → counter_in (join_dots a b) x ≡ max (counter_in a x) (counter_in b x)
  unfolding join_dots
  counter-join x = go (counter-cases a x) (counter-cases b x)
    where
      go : (dot_in a x ∈ a) ⊎ ((d : Dot) → d ∈ a → d.actor ≡ x → ⊥) → (dot_in b x ∈ b) ⊎ ((d : Dot) → d ∈ b → d.actor ≡ x → ⊥)
          → counter_in (join_dots a b) x ≡ max (counter_in a x) (counter_in b x)
      go (inl i) (inl j) =
          let p = dot_in a x in
          let q = dot_in b x in
          let r = weave-has-both (by whose) (λ d. d) (λ d. d) larger_dot (by-strict whose) (by-steady whose) h.rising k.rising i j
          (level_by whose p q refl) in
          ap (counter_in (join_dots a b)) (larger-actor p q refl) ∙ counter-member lawful-join r ∙ larger-counter p q
      go (inl i) (inr g) =
          let r = weave-has-first (by whose) (λ d. d) (λ d. d) larger_dot i (λ y j e. g y j (sym (by_level whose (dot_in a x) y e))) in
          omega (arith, counter-absent b x g, counter-member lawful-join r)
      go (inr f) (inl j) =
          let r = weave-has-second (by whose) (λ d. d) (λ d. d) larger_dot j (λ y i e. f y i (by_level whose y (dot_in b x) e)) in
          omega (arith, counter-absent a x f, counter-member lawful-join r)
      go (inr f) (inr g) =
          let r = join-every (λ d. d.actor ≡ x → ⊥) f g (λ p q i j e u. f p i (larger-actor p q e ∙ u)) in
          omega (arith, counter-absent a x f, counter-absent b x g, counter-absent (join_dots a b) x r)

  -- a cut by two clocks is a cut by both joined
  pub cut-cut : (x : List Dot) → cut_dots b (cut_dots a x) ≡ cut_dots (join_dots a b) x
  unfolding cut_dots
  cut-cut x = those-those (beyond b) (beyond a) x ∙ those-same _ _ x (λ d i. rw (counter-join d.actor)
      (ltb-max (counter_in a d.actor) (counter_in b d.actor) d.counter))

pub join-again : {a : List Dot} → Lawful a → join_dots a a ≡ a
join-again h = same-clock (lawful-join h h) h (λ x. omega (arith, counter-join h h x))

-- what adding a dot joins is a clock
pub lawful-beyond : (l : List Dot) (d : Dot) → Lawful (cond (beyond l d) (d ∷ []) [])
lawful-beyond l d = go (beyond l d) refl
  where
    go : (b : Bool) → beyond l d ≡ b → Lawful (cond b (d ∷ []) [])
    go true t = lawful-one d (omega (arith, ltb-true (counter_in l d.actor) d.counter t))
    go false t = lawful-nil

pub lawful-add : {l : List Dot} → Lawful l → (d : Dot) → Lawful (add_dot l d)
unfolding add_dot
lawful-add {l} h d = lawful-join h (lawful-beyond l d)

pub counter-add : {l : List Dot} → Lawful l → (d : Dot) (x : ℕ) → counter_in (add_dot l d) x ≡ cond (eqb d.actor x)
    (max (counter_in l x) d.counter) (counter_in l x)
unfolding add_dot
counter-add {l} h d x = counter-join h (lawful-beyond l d) x ∙ go (beyond l d) (eqb d.actor x) refl refl
  where
    go : (b c : Bool) → beyond l d ≡ b → eqb d.actor x ≡ c → max (counter_in l x) (counter_in (cond b (d ∷ []) []) x) ≡ cond c
        (max (counter_in l x) d.counter) (counter_in l x)
    go true true t u = ap (max (counter_in l x)) (rw u at (counter-one d x))
    go true false t u = omega (arith, rw u at (counter-one d x))
    go false true t u =
        omega (arith, counter-nil x, ltb-false (counter_in l d.actor) d.counter t, ap (counter_in l) (eqb-true d.actor x u))
    go false false t u = omega (arith, counter-nil x)

-- an end theorem, which nothing here uses: adding a dot is joining its clock
pub add-join : {l : List Dot} → Lawful l → (d : Dot) → 0 < d.counter → add_dot l d ≡ join_dots l (d ∷ [])
add-join {l} h d p = same-clock (lawful-add h d) (lawful-join h (lawful-one d p))
    (λ x. counter-add h d x ∙ go x (eqb d.actor x) refl ∙ sym (counter-join h (lawful-one d p) x))
  where
    go : (x : ℕ) (c : Bool) → eqb d.actor x ≡ c → cond c (max (counter_in l x) d.counter) (counter_in l x) ≡ max (counter_in l x)
        (counter_in (d ∷ []) x)
    go x true t = ap (max (counter_in l x)) (sym (rw t at (counter-one d x)))
    go x false t = omega (arith, rw t at (counter-one d x))
