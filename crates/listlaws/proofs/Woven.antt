-- Laws of weaving over an order: what stands in a weave, and that it ascends.
use mathlib.Core.Path.{◌≡◌, refl, ap₂, sym, ◌∙◌}
use mathlib.Core.Bool.{Bool, true, false, cond}
use mathlib.Core.Logic.{◌⊎◌, inl, inr, ⊎_elim}
use mathlib.Core.List.Memᴰ
use mathlib.Core.List.{List, [], ◌∷◌, map}
use Rattle.listlaws.specs.Order.{◌∈◌, Ascending, next, Strict}
use Rattle.listlaws.specs.Weave.{against, weave}
use Rattle.listlaws.proofs.Orders.{apart, head-before, tail-ascends}
use Rattle.listlaws.proofs.Levels.{Level, Steady, before-then, then-before, before-all, map-ascends}

module _ {A B : Type 0} (before : A → A → Bool) (first second : A → B) (both : A → A → B) where
  -- w is what weaving makes of l and m, step by step
  pub data Woven : List A → List A → List B → Type 0 where
    rest-second : (m : List A) → Woven [] m (map second m)
    rest-first : (l : List A) → Woven l [] (map first l)
    step-first : {x y : A} {l m : List A} {w : List B} → before x y ≡ true → Woven l (y ∷ m) w → Woven (x ∷ l) (y ∷ m) (first x ∷ w)
    step-second : {x y : A} {l m : List A} {w : List B} → before x y ≡ false → before y x ≡ true → Woven (x ∷ l) m w
        → Woven (x ∷ l) (y ∷ m) (second y ∷ w)
    step_both : {x y : A} {l m : List A} {w : List B} → Level before x y → Woven l m w → Woven (x ∷ l) (y ∷ m) (both x y ∷ w)

  woven-against : (x : A) (l : List A) → ((m : List A) → Woven l m (weave before first second both l m)) → (m : List A)
      → Woven (x ∷ l) m (against before first second both x l (weave before first second both l) m)
  woven-against x l f [] = rest-first (x ∷ l)
  woven-against x l f (y ∷ m) = go (before x y) (before y x) refl refl (f (y ∷ m)) (woven-against x l f m) (f m)
    where
      go : (b c : Bool) {s t u : List B} → before x y ≡ b → before y x ≡ c → Woven l (y ∷ m) s → Woven (x ∷ l) m t → Woven l m u
          → Woven (x ∷ l) (y ∷ m) (cond b (first x ∷ s) (cond c (second y ∷ t) (both x y ∷ u)))
      go true c e f p q r = step-first e p
      go false true e f p q r = step-second e f q
      go false false e f p q r = step_both (e, f) r

  pub woven : (l m : List A) → Woven l m (weave before first second both l m)
  unfolding weave
  woven [] m = rest-second m
  woven (x ∷ l) m = woven-against x l (woven l) m

  -- what the first list has alone stands in the weave
  first-in : {l m : List A} {w : List B} → Woven l m w → {z : A} → z ∈ l → ((y : A) → y ∈ m → Level before z y → ⊥) → first z ∈ w
  first-in (rest-second m) i alone = absurd (Memᴰ.not-nil i)
  first-in (rest-first l) i alone = Memᴰ.map first i
  first-in (step-first {x = x} t v) {z} i alone =
      ⊎_elim (λ (e : z ≡ x). rw e (Memᴰ.head refl)) (λ j. Memᴰ.tail (first-in v j alone)) (Memᴰ.cases_cons i)
  first-in (step-second s t v) i alone = Memᴰ.tail (first-in v i (λ y j. alone y (Memᴰ.tail j)))
  first-in (step_both {x = x} {y = y} e v) {z} i alone =
      ⊎_elim
      (λ (q : z ≡ x). absurd (alone y (Memᴰ.head refl) (rw q e)))
      (λ j. Memᴰ.tail (first-in v j (λ u k. alone u (Memᴰ.tail k)))) (Memᴰ.cases_cons i)

  -- what the second list has alone
  second-in : {l m : List A} {w : List B} → Woven l m w → {z : A} → z ∈ m → ((x : A) → x ∈ l → Level before x z → ⊥) → second z ∈ w
  second-in (rest-second m) i alone = Memᴰ.map second i
  second-in (rest-first l) i alone = absurd (Memᴰ.not-nil i)
  second-in (step-first s v) i alone = Memᴰ.tail (second-in v i (λ x j. alone x (Memᴰ.tail j)))
  second-in (step-second {y = y} s t v) {z} i alone =
      ⊎_elim (λ (e : z ≡ y). rw e (Memᴰ.head refl)) (λ j. Memᴰ.tail (second-in v j alone)) (Memᴰ.cases_cons i)
  second-in (step_both {x = x} {y = y} e v) {z} i alone =
      ⊎_elim
      (λ (q : z ≡ y). absurd (alone x (Memᴰ.head refl) (rw q e)))
      (λ j. Memᴰ.tail (second-in v j (λ u k. alone u (Memᴰ.tail k)))) (Memᴰ.cases_cons i)

  module _ (strict : Strict before) (steady : Steady before) where
    -- two that stand level
    both-in : {l m : List A} {w : List B} → Woven l m w → Ascending before l → Ascending before m → {p q : A} → p ∈ l → q ∈ m → Level before p q
        → both p q ∈ w
    both-in (rest-second m) a b i j e = absurd (Memᴰ.not-nil i)
    both-in (rest-first l) a b i j e = absurd (Memᴰ.not-nil j)
    both-in (step-first {x = x} t v) a b {p} {q} i j e =
        ⊎_elim
        (λ (u : p ≡ x). apart (sym (before-all strict steady t b q j) ∙ rw u at e.0))
        (λ k. Memᴰ.tail (both-in v (tail-ascends a) b k j e)) (Memᴰ.cases_cons i)
    both-in (step-second {y = y} s t v) a b {p} {q} i j e =
        ⊎_elim
        (λ (u : q ≡ y). apart (sym (before-all strict steady t a p i) ∙ rw u at e.1))
        (λ k. Memᴰ.tail (both-in v a (tail-ascends b) i k e)) (Memᴰ.cases_cons j)
    both-in (step_both {x = x} {y = y} {l = l} {m = m} {w = w} f v) a b {p} {q} i j e = go (Memᴰ.cases_cons i) (Memᴰ.cases_cons j)
        (λ k k'. both-in v (tail-ascends a) (tail-ascends b) k k' e)
      where
        go : (p ≡ x) ⊎ (p ∈ l) → (q ≡ y) ⊎ (q ∈ m) → (p ∈ l → q ∈ m → both p q ∈ w) → both p q ∈ (both x y ∷ w)
        go (inl u) (inl u') h = Memᴰ.head (ap₂ both u u')
        go (inl u) (inr k) h = apart (sym (then-before strict steady f.1 (head-before b q k)) ∙ rw u at e.0)
        go (inr k) (inl u) h = apart (sym (then-before strict steady f.0 (head-before a p k)) ∙ rw u at e.1)
        go (inr k) (inr k') h = Memᴰ.tail (h k k')

    -- one more with which nothing is level
    more : (Q : A → Type 0) {x : A} {l : List A} → (Q x → ⊥) → ((y : A) → y ∈ l → Q y → ⊥) → (y : A) → y ∈ (x ∷ l) → Q y → ⊥
    more Q {x} n f y i q = ⊎_elim (λ (e : y ≡ x). n (rw e at q)) (λ j. f y j q) (Memᴰ.cases_cons i)

    every : (P : B → Type 0) {l m : List A} {w : List B} → Woven l m w → Ascending before l → Ascending before m
        → ((x : A) → x ∈ l → ((y : A) → y ∈ m → Level before x y → ⊥) → P (first x))
        → ((y : A) → y ∈ m → ((x : A) → x ∈ l → Level before x y → ⊥) → P (second y))
        → ((x y : A) → x ∈ l → y ∈ m → Level before x y → P (both x y))
        → (z : B) → z ∈ w → P z
    every P (rest-second m) a b f g h z i =
        let r = Memᴰ.of_map second m i in rw (← r.2) (g r.0 r.1 (λ x j. absurd (Memᴰ.not-nil j)))
    every P (rest-first l) a b f g h z i =
        let r = Memᴰ.of_map first l i in rw (← r.2) (f r.0 r.1 (λ y j. absurd (Memᴰ.not-nil j)))
    every P (step-first {x = x} t v) a b f g h z i =
        ⊎_elim
        (λ (e : z ≡ first x). rw e (f x (Memᴰ.head refl) (λ q j k. apart (sym (before-all strict steady t b q j) ∙ k.0))))
        (λ j. every P v (tail-ascends a) b (λ p k. f p (Memᴰ.tail k))
        (λ q k alone. g q k (more (λ u. Level before u q) (λ n. apart (sym (before-all strict steady t b q k) ∙ n.0)) alone))
        (λ p q k. h p q (Memᴰ.tail k)) z j)
        (Memᴰ.cases_cons i)
    every P (step-second {y = y} s t v) a b f g h z i =
        ⊎_elim
        (λ (e : z ≡ second y). rw e (g y (Memᴰ.head refl) (λ p j k. apart (sym (before-all strict steady t a p j) ∙ k.1))))
        (λ j. every P v a (tail-ascends b)
        (λ p k alone. f p k (more (λ u. Level before p u) (λ n. apart (sym (before-all strict steady t a p k) ∙ n.1)) alone))
        (λ q k. g q (Memᴰ.tail k)) (λ p q k k'. h p q k (Memᴰ.tail k')) z j)
        (Memᴰ.cases_cons i)
    every P (step_both {x = x} {y = y} e v) a b f g h z i =
        ⊎_elim
        (λ (q : z ≡ both x y). rw q (h x y (Memᴰ.head refl) (Memᴰ.head refl) e))
        (λ j. every P v (tail-ascends a) (tail-ascends b)
        (λ p k alone. f p (Memᴰ.tail k) (more (λ u. Level before p u)
        (λ n. apart (sym (then-before strict steady e.0 (head-before a p k)) ∙ n.1)) alone))
        (λ q k alone. g q (Memᴰ.tail k) (more (λ u. Level before u q)
        (λ n. apart (sym (then-before strict steady e.1 (head-before b q k)) ∙ n.0)) alone))
        (λ p q k k'. h p q (Memᴰ.tail k) (Memᴰ.tail k')) z j)
        (Memᴰ.cases_cons i)

  pub weave-has-first : {l m : List A} {x : A} → x ∈ l → ((y : A) → y ∈ m → Level before x y → ⊥) → first x ∈ weave before first second both l m
  weave-has-first {l} {m} i alone = first-in (woven l m) i alone

  pub weave-has-second : {l m : List A} {y : A} → y ∈ m → ((x : A) → x ∈ l → Level before x y → ⊥) → second y ∈ weave before first second both l m
  weave-has-second {l} {m} i alone = second-in (woven l m) i alone

  pub weave-has-both : Strict before → Steady before → {l m : List A} → Ascending before l → Ascending before m → {x y : A} → x ∈ l → y ∈ m
      → Level before x y → both x y ∈ weave before first second both l m
  weave-has-both strict steady {l} {m} a b i j e = both-in strict steady (woven l m) a b i j e

  -- what holds of each that stands alone, and of two that stand level, holds of all
  pub weave-every : Strict before → Steady before → (P : B → Type 0) {l m : List A} → Ascending before l → Ascending before m
      → ((x : A) → x ∈ l → ((y : A) → y ∈ m → Level before x y → ⊥) → P (first x))
      → ((y : A) → y ∈ m → ((x : A) → x ∈ l → Level before x y → ⊥) → P (second y))
      → ((x y : A) → x ∈ l → y ∈ m → Level before x y → P (both x y))
      → (z : B) → z ∈ weave before first second both l m → P z
  weave-every strict steady P {l} {m} a b = every strict steady P (woven l m) a b

module _ {A : Type 0} (before : A → A → Bool) (first second : A → A) (both : A → A → A) (strict : Strict before) (steady : Steady before) where
  -- where each element keeps its place
  module _ (keep-first : (x : A) → Level before x (first x)) (keep-second : (x : A) → Level before x (second x)) (keep-both : (x y : A)
      → Level before x y → Level before x (both x y)) where
    -- what is level with one before all of both lists is before all of the weave
    ahead : {n u : A} → Level before n u → {l m : List A} {w : List A} → Woven before first second both l m w → Ascending before l
        → Ascending before m
        → ((x : A) → x ∈ l → before n x ≡ true) → ((y : A) → y ∈ m → before n y ≡ true) → (z : A) → z ∈ w → before u z ≡ true
    ahead {n} {u} e v a b f g =
        every before first second both strict steady (λ z. before u z ≡ true) v a b (λ x i s. place (f x i) (keep-first x))
        (λ y i s. place (g y i) (keep-second y))
        (λ x y i j s. place (f x i) (keep-both x y s))
      where
        place : {x z : A} → before n x ≡ true → Level before x z → before u z ≡ true
        place t k = then-before strict steady e.0 (before-then strict steady t k.1)

    ascends : {l m : List A} {w : List A} → Woven before first second both l m w → Ascending before l → Ascending before m → Ascending before w
    ascends (rest-second m) a b = map-ascends strict steady second keep-second b
    ascends (rest-first l) a b = map-ascends strict steady first keep-first a
    ascends (step-first {x = x} t v) a b =
        next (ahead (keep-first x) v (tail-ascends a) b (head-before a) (before-all strict steady t b)) (ascends v (tail-ascends a) b)
    ascends (step-second {y = y} s t v) a b =
        next (ahead (keep-second y) v a (tail-ascends b) (before-all strict steady t a) (head-before b)) (ascends v a (tail-ascends b))
    ascends (step_both {x = x} {y = y} e v) a b =
        next
        (ahead (keep-both x y e) v (tail-ascends a) (tail-ascends b) (head-before a) (λ q i. then-before strict steady e.1 (head-before b q i)))
        (ascends v (tail-ascends a) (tail-ascends b))

    pub weave-ascends : {l m : List A} → Ascending before l → Ascending before m → Ascending before (weave before first second both l m)
    weave-ascends {l} {m} a b = ascends (woven before first second both l m) a b
