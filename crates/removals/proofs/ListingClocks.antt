-- The clocks of the removals that list a key, joined: the largest counters, also of united removals.
use mathlib.Core.Path.{◌≡◌, refl, ◌∙◌}
use mathlib.Core.Bool.{Bool, true, false}
use mathlib.Core.Logic.{⊎_elim, ◌⊎◌, inl, inr}
use mathlib.Core.List.Memᴰ
use mathlib.Core.List.{List, [], ◌++◌, ◌∷◌}
use Prim.Native.Nat.{ℕ, ◌≤◌}
use native.Mathlib.Omega.{arith}
use borrow.Author.Tests.{ltb-true, ltb-false}
use lib.Dec.{ltb}
use Rattle.listlaws.specs.Sift.{those, sift}
use Rattle.listlaws.specs.Fold.{fold}
use Rattle.listlaws.specs.Order.{◌∈◌}
use Rattle.listlaws.proofs.Those.{those-means, those-holds}
use Rattle.clock.specs.declared.Dot.{Dot}
use Rattle.clock.specs.Dots.{join_dots, counter_in}
use Rattle.clock.specs.Lawful.{Lawful}
use Rattle.clock.proofs.Counters.{counter-nil, same-clock}
use Rattle.clock.proofs.Joins.{lawful-nil, lawful-join, counter-join}
use Rattle.removals.specs.declared.Removal.{Removal}
use Rattle.removals.specs.Model.{under_of, listed_in}
use Rattle.removals.specs.Waits.{listed, unite, unite_all}
use Rattle.removals.specs.Valid.{ValidWaiting, ValidRemoval}
use Rattle.removals.proofs.Unions.{listed-means, listed-holds, union-means, union_left, union_right}
use Rattle.removals.proofs.Uniting.{unite-keys, unite-each, unite-left, unite-right}
use Rattle.removals.proofs.WaitingValid.{unite-valid}

-- the clocks of those that list a key, joined
unfoldable pub sup_of : List Removal → ℕ → List Dot
sup_of ws k = fold (λ c w. join_dots c (under_of w)) [] (those (λ w. listed (listed_in w) k) ws)

-- removals under clocks
abbrev pub Clocked : List Removal → Type 0
Clocked ws = (w : Removal) → w ∈ ws → Lawful (under_of w)

pub clocked-valid : {ws : List Removal} → ValidWaiting ws → Clocked ws
clocked-valid h w i = (h.each w i).clock

pub clocked-append : {ws vs : List Removal} → Clocked ws → Clocked vs → Clocked (ws ++ vs)
clocked-append {ws} f g w i = ⊎_elim (λ j. f w j) (λ j. g w j) (Memᴰ.append_cases ws i)

pub clocked-those : (p : Removal → Bool) {ws : List Removal} → Clocked ws → Clocked (those p ws)
clocked-those p {ws} f w i = f w (those-means p ws i).0

-- clocks joined to another
abbrev over : List Dot → List Removal → List Dot
over c ws = fold (λ d w. join_dots d (under_of w)) c ws

pub tail-clocked : {w : Removal} {ws : List Removal} → Clocked (w ∷ ws) → Clocked ws
tail-clocked f v i = f v (Memᴰ.tail i)

lawful-over : {c : List Dot} (ws : List Removal) → Lawful c → Clocked ws → Lawful (over c ws)
unfolding fold
lawful-over [] h f = h
lawful-over {c = c} (w ∷ ws) h f = lawful-over {c = join_dots c (under_of w)} ws (lawful-join h (f w (Memᴰ.head refl))) (tail-clocked f)

over-least : {c : List Dot} (ws : List Removal) → Lawful c → Clocked ws → (a n : ℕ) → counter_in c a ≤ n
    → ((w : Removal) → w ∈ ws → counter_in (under_of w) a ≤ n) → counter_in (over c ws) a ≤ n
unfolding fold
over-least [] h f a n p q = p
over-least {c = c} (w ∷ ws) h f a n p q =
    let k = f w (Memᴰ.head refl) in
    over-least {c = join_dots c (under_of w)} ws (lawful-join h k) (tail-clocked f) a n (omega (arith, counter-join h k a, q w (Memᴰ.head refl)))
    (λ v i. q v (Memᴰ.tail i))

over-start : {c : List Dot} (ws : List Removal) → Lawful c → Clocked ws → (a : ℕ) → counter_in c a ≤ counter_in (over c ws) a
unfolding fold
over-start [] h f a = omega arith
over-start {c = c} (w ∷ ws) h f a =
    let k = f w (Memᴰ.head refl) in
    omega (arith, counter-join h k a, over-start {c = join_dots c (under_of w)} ws (lawful-join h k) (tail-clocked f) a)

over-each : {c : List Dot} (ws : List Removal) → Lawful c → Clocked ws → (a : ℕ) (w : Removal) → w ∈ ws
    → counter_in (under_of w) a ≤ counter_in (over c ws) a
unfolding fold
over-each [] h f a w i = absurd (Memᴰ.not-nil i)
over-each {c} (v ∷ ws) h f a w i =
    let k = f v (Memᴰ.head refl) in
    ⊎_elim
    (λ (e : w ≡ v). rw e (omega (arith, counter-join h k a, over-start ws (lawful-join h k) (tail-clocked f) a)))
    (λ j. over-each {c = join_dots c (under_of v)} ws (lawful-join h k) (tail-clocked f) a w j)
    (Memᴰ.cases_cons i)

-- the counter of one of them, or of the clock that they are joined to
over-reached : {c : List Dot} (ws : List Removal) → Lawful c → Clocked ws → (a : ℕ)
    → (counter_in (over c ws) a ≡ counter_in c a) ⊎ ((w : Removal) × (w ∈ ws) × (counter_in (over c ws) a ≡ counter_in (under_of w) a))
unfolding fold
over-reached [] h f a = inl refl
over-reached {c} (w ∷ ws) h f a = go (over-reached {c = join_dots c (under_of w)} ws (lawful-join h k) (tail-clocked f) a)
    (ltb (counter_in c a) (counter_in (under_of w) a)) refl
  where
    k : Lawful (under_of w)
    k = f w (Memᴰ.head refl)

    j : List Dot
    j = join_dots c (under_of w)

    end : ℕ
    end = counter_in (over (join_dots c (under_of w)) ws) a

    go : (end ≡ counter_in j a) ⊎ ((v : Removal) × (v ∈ ws) × (end ≡ counter_in (under_of v) a)) → (b : Bool)
        → ltb (counter_in c a) (counter_in (under_of w) a) ≡ b
        → (end ≡ counter_in c a) ⊎ ((v : Removal) × (v ∈ (w ∷ ws)) × (end ≡ counter_in (under_of v) a))
    go (inl e) true t = inr (w, Memᴰ.head refl, omega (arith, e, counter-join h k a, ltb-true (counter_in c a) (counter_in (under_of w) a) t))
    go (inl e) false t = inl (omega (arith, e, counter-join h k a, ltb-false (counter_in c a) (counter_in (under_of w) a) t))
    go (inr r) b t = inr (r.0, Memᴰ.tail r.1, r.2)

module _ {ws : List Removal} (f : Clocked ws) (k : ℕ) where
  among : Clocked (those (λ w. listed (listed_in w) k) ws)
  among w i = f w (those-means (λ v. listed (listed_in v) k) ws i).0

  pub lawful-sup : Lawful (sup_of ws k)
  unfolding sup_of
  lawful-sup = lawful-over (those (λ w. listed (listed_in w) k) ws) lawful-nil among

  -- at least the counter of each that lists the key
  pub sup-above : (a : ℕ) (w : Removal) → w ∈ ws → listed (listed_in w) k ≡ true → counter_in (under_of w) a ≤ counter_in (sup_of ws k) a
  unfolding sup_of
  sup-above a w i t =
      over-each (those (λ v. listed (listed_in v) k) ws) lawful-nil among a w (those-holds (λ v. listed (listed_in v) k) i t)

  -- and the least such
  pub sup_least : (a n : ℕ) → ((w : Removal) → w ∈ ws → listed (listed_in w) k ≡ true → counter_in (under_of w) a ≤ n)
      → counter_in (sup_of ws k) a ≤ n
  unfolding sup_of
  sup_least a n g =
      over-least (those (λ v. listed (listed_in v) k) ws) lawful-nil among a n (omega (arith, counter-nil a))
      (λ w i. let r = those-means (λ v. listed (listed_in v) k) ws i in g w r.0 r.1)

  -- the counter of one that lists the key, or 0
  pub sup-reached : (a : ℕ)
      → (counter_in (sup_of ws k) a ≡ 0) ⊎ ((w : Removal) × (w ∈ ws) × (listed (listed_in w) k ≡ true)
      × (counter_in (sup_of ws k) a ≡ counter_in (under_of w) a))
  unfolding sup_of
  sup-reached a =
      ⊎_elim (λ e. inl (e ∙ counter-nil a))
      (λ r. let q = those-means (λ v. listed (listed_in v) k) ws r.1 in inr (r.0, q.0, q.1, r.2))
      (over-reached (those (λ v. listed (listed_in v) k) ws) lawful-nil among a)

pub sup-listed : {w : Removal} {ws : List Removal} → Clocked (w ∷ ws) → (k : ℕ) → listed (listed_in w) k ≡ true
    → sup_of (w ∷ ws) k ≡ join_dots (under_of w) (sup_of ws k)
sup-listed {w} {ws} f k t =
    let h = f w (Memᴰ.head refl) in
    let s = lawful-sup (tail-clocked f) k in
    same-clock (lawful-sup f k) (lawful-join h s) (λ a. omega (
      arith,
      counter-join h s a,
      sup-above f k a w (Memᴰ.head refl) t,
      sup_least (tail-clocked f) k a (counter_in (sup_of (w ∷ ws) k) a) (λ v i u. sup-above f k a v (Memᴰ.tail i) u),
      sup_least f k a (counter_in (join_dots (under_of w) (sup_of ws k)) a) (λ v i u.
          ⊎_elim (λ (e : v ≡ w). rw e (omega (arith, counter-join h s a)))
          (λ j. omega (arith, counter-join h s a, sup-above (tail-clocked f) k a v j u)) (Memᴰ.cases_cons i)),
    ))

pub sup-other : (w : Removal) (ws : List Removal) (k : ℕ) → listed (listed_in w) k ≡ false → sup_of (w ∷ ws) k ≡ sup_of ws k
unfolding sup_of sift
sup-other w ws k t = rw t

-- each clock that lists the key stands below the other run's
abbrev pub Bounded : List Removal → List Removal → ℕ → Type 0
Bounded ws vs k = (a : ℕ) (w : Removal) → w ∈ ws → listed (listed_in w) k ≡ true → counter_in (under_of w) a ≤ counter_in (sup_of vs k) a

-- what two united removals list
module _ {x y : Removal} (h : ValidRemoval x) (q : ValidRemoval y) (k : ℕ) where
  unite-lists : listed (listed_in (unite x y)) k ≡ true → (listed (listed_in x) k ≡ true) ⊎ (listed (listed_in y) k ≡ true)
  unite-lists t =
      ⊎_elim (λ i. inl (listed-holds i)) (λ i. inr (listed-holds i))
      (union-means h.keys q.keys k (rw (unite-keys x y) at (listed-means (listed_in (unite x y)) k t)))

  lists-left : listed (listed_in x) k ≡ true → listed (listed_in (unite x y)) k ≡ true
  lists-left t = rw (unite-keys x y) (listed-holds (union_left h.keys q.keys (listed-means (listed_in x) k t)))

  lists-right : listed (listed_in y) k ≡ true → listed (listed_in (unite x y)) k ≡ true
  lists-right t = rw (unite-keys x y) (listed-holds (union_right h.keys q.keys (listed-means (listed_in y) k t)))

module _ {l m : List Removal} (h : ValidWaiting l) (q : ValidWaiting m) (k : ℕ) where
  united : Clocked (unite_all l m)
  united = clocked-valid (unite-valid h q)

  either : Clocked (l ++ m)
  either = clocked-append (clocked-valid h) (clocked-valid q)

  pub unite-below : Bounded (unite_all l m) (l ++ m) k
  unite-below a =
      unite-each h.rising q.rising (λ w. listed (listed_in w) k ≡ true → counter_in (under_of w) a ≤ counter_in (sup_of (l ++ m) k) a) left right
      (λ x y i j e t. ⊎_elim (λ u. left x i u) (λ u. rw e (right y j u)) (unite-lists (h.each x i) (q.each y j) k t))
    where
      left : (x : Removal) → x ∈ l → listed (listed_in x) k ≡ true → counter_in (under_of x) a ≤ counter_in (sup_of (l ++ m) k) a
      left x i t = sup-above either k a x (Memᴰ.append_left m i) t

      right : (y : Removal) → y ∈ m → listed (listed_in y) k ≡ true → counter_in (under_of y) a ≤ counter_in (sup_of (l ++ m) k) a
      right y i t = sup-above either k a y (Memᴰ.append_right l i) t

  pub unite-above : Bounded (l ++ m) (unite_all l m) k
  unite-above a w i t = ⊎_elim left right (Memᴰ.append_cases l i)
    where
      left : w ∈ l → counter_in (under_of w) a ≤ counter_in (sup_of (unite_all l m) k) a
      left j =
          ⊎_elim (λ s. sup-above united k a w s t)
          (λ r. sup-above united k a (unite w r.0) r.3 (lists-left (h.each w j) (q.each r.0 r.1) k t))
          (unite-left h.rising q.rising j)

      right : w ∈ m → counter_in (under_of w) a ≤ counter_in (sup_of (unite_all l m) k) a
      right j =
          ⊎_elim (λ s. sup-above united k a w s t)
          (λ r. rw (← r.2) (sup-above united k a (unite r.0 w) r.3 (lists-right (h.each r.0 r.1) (q.each w j) k t)))
          (unite-right h.rising q.rising j)
