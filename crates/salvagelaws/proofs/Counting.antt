-- Laws of how many pass a test: where one test passes whatever another does, and one element more.
use mathlib.Core.Path.{◌≡◌, refl, sym, ◌∙◌}
use mathlib.Core.Bool.{Bool, true, false, cond}
use mathlib.Core.Logic.{⊎_elim}
use mathlib.Core.List.Memᴰ
use mathlib.Core.List.{List, [], ◌∷◌, ◌++◌, map}
use Prim.Native.Nat.{ℕ, zero, suc, ◌+◌, ◌≤◌, ◌<◌}
use native.Mathlib.Omega.{arith}
use lib.ListN.{length, get_or}
use Rattle.listlaws.specs.Order.{◌∈◌, Ascending, nil, next, Strict}
use Rattle.listlaws.specs.Sift.{sift, those}
use Rattle.listlaws.proofs.Orders.{apart, head-before, tail-ascends}
use Rattle.listlaws.proofs.Levels.{Steady}
use Rattle.scan.proofs.Eachs.{decide}
use Rattle.salvagelaws.proofs.Sorts.{Leads}

module _ {A : Type 0} where
  length-one : (b : Bool) (x : A) (l : List A) → length (cond b (x ∷ l) l) ≡ cond b (suc (length l)) (length l)
  length-one true x l = refl
  length-one false x l = refl

  module _ (p q : A → Bool) where
    pub count_most : (l : List A) → ((x : A) → x ∈ l → p x ≡ true → q x ≡ true) → length (those p l) ≤ length (those q l)
    unfolding sift
    count_most [] h = omega arith
    count_most (x ∷ l) h =
        let rest = count_most l (λ y i. h y (Memᴰ.tail i)) in
        decide (p x)
        (λ t. rw (t, h x (Memᴰ.head refl) t) (omega arith))
        (λ f. rw f (decide (q x) (λ u. rw u (omega arith)) (λ u. rw u rest)))

    -- one passes the one and not the other
    pub count_less : (l : List A) → ((x : A) → x ∈ l → p x ≡ true → q x ≡ true) → {z : A} → z ∈ l → p z ≡ false → q z ≡ true
        → length (those p l) < length (those q l)
    unfolding sift
    count_less [] h i f t = absurd (Memᴰ.not-nil i)
    count_less (x ∷ l) h {z} i f t =
        let most = count_most l (λ y j. h y (Memᴰ.tail j)) in
        ⊎_elim
        (λ (e : z ≡ x). rw (rw e at f, rw e at t) (omega arith))
        (λ j. let less = count_less l (λ y k. h y (Memᴰ.tail k)) j f t in
        decide (p x)
        (λ u. rw (u, h x (Memᴰ.head refl) u) (omega arith))
        (λ u. rw u (decide (q x) (λ v. rw v (omega arith)) (λ v. rw v less))))
        (Memᴰ.cases_cons i)

  -- no more pass than there are
  pub count-all : (p : A → Bool) (l : List A) → length (those p l) ≤ length l
  unfolding sift
  count-all p [] = omega arith
  count-all p (x ∷ l) = let rest = count-all p l in decide (p x) (λ t. rw t (omega arith)) (λ f. rw f (omega arith))

  -- and fewer, where one does not
  pub count-few : (p : A → Bool) (l : List A) {z : A} → z ∈ l → p z ≡ false → length (those p l) < length l
  unfolding sift
  count-few p [] i f = absurd (Memᴰ.not-nil i)
  count-few p (x ∷ l) {z} i f =
      let most = count-all p l in
      ⊎_elim
      (λ (e : z ≡ x). rw (rw e at f) (omega arith))
      (λ j. let less = count-few p l j f in decide (p x) (λ t. rw t (omega arith)) (λ u. rw u (omega arith)))
      (Memᴰ.cases_cons i)

  pub count-append : (p : A → Bool) (l m : List A) → length (those p (l ++ m)) ≡ length (those p l) + length (those p m)
  unfolding sift
  count-append p [] m = omega arith
  count-append p (x ∷ l) m = let rest = count-append p l m in decide (p x) (λ t. rw t (omega arith)) (λ f. rw f rest)

  pub get_in : (l : List A) (n : ℕ) (d : A) → n < length l → get_or l n d ∈ l
  get_in [] n d h = absurd (omega arith)
  get_in (x ∷ l) zero d h = Memᴰ.head refl
  get_in (x ∷ l) (suc n) d h = Memᴰ.tail (get_in l n d (omega arith))

  -- a strict order in which those that stand level are alike leads on
  pub leads-on : (first : A → A → Bool) → Strict first → Steady first → Leads first
  leads-on first strict steady x y z t u =
      decide (first x z) (λ v. v) (λ f. apart (sym t ∙ steady x z y f (strict y z u)))

-- elements of an ascending list, changed: what holds of any two of them
pub pairs-ascend : {A B : Type 0} (first : A → A → Bool) (then : B → B → Bool) (f : A → B) (l : List A) → Ascending first l
    → ((x y : A) → x ∈ l → y ∈ l → first x y ≡ true → then (f x) (f y) ≡ true) → Ascending then (map f l)
pairs-ascend first then f [] a h = nil
pairs-ascend first then f (x ∷ l) a h =
    next {x = f x}
    (λ z i. let (y, j, e) = Memᴰ.of_map f l i in rw (← e) (h x y (Memᴰ.head refl) (Memᴰ.tail j) (head-before a y j)))
    (pairs-ascend first then f l (tail-ascends a) (λ u v i j. h u v (Memᴰ.tail i) (Memᴰ.tail j)))
