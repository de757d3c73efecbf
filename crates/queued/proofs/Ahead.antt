-- Numbers in order, from a bound on: the first of them, and bounds between which there is none.
use mathlib.Core.Path.{◌≡◌, refl, ap, sym, ◌∙◌}
use mathlib.Core.List.Memᴰ
use mathlib.Core.List.{List, [], ◌∷◌}
use mathlib.Core.Logic.{⊎_elim}
use Prim.Native.Nat.{ℕ, ◌+◌, ◌≤◌, ◌<◌}
use native.Mathlib.Omega.{arith}
use lib.Dec.{leb}
use lib.ListN.{get_or, drop}
use borrow.Author.Tests.{ltb-true, leb-true, leb-false, le-leb, lt-leb}
use Rattle.listlaws.specs.Order.{◌∈◌, Ascending, by}
use Rattle.listlaws.specs.Sift.{sift, those}
use Rattle.listlaws.proofs.Orders.{tail-ascends, head-before}
use Rattle.listlaws.proofs.Those.{those-same, those-holds}
use Rattle.scan.proofs.Eachs.{decide}

-- x is the first number from `low` on, and `rest` are those behind it
pub record First (low : ℕ) (l : List ℕ) (x : ℕ) (rest : List ℕ) : Type 0 where
  pub stands : x ∈ l
  pub above : low ≤ x
  pub behind : rest ≡ those (leb (x + 1)) l
  pub least : (y : ℕ) → y ∈ l → low ≤ y → x ≤ y

pub first_of : (low : ℕ) (l : List ℕ) {x : ℕ} {rest : List ℕ} → Ascending (by (λ n. n)) l → x ∷ rest ≡ those (leb low) l → First low l x rest
unfolding sift
first_of low [] {x} {rest} a e = absurd (Memᴰ.not-nil (rw e at (Memᴰ.head {x = x} {xs = rest} refl)))
first_of low (z ∷ l) {x} {rest} a e =
    decide (leb low z)
    (λ t. let q = rw t at e in
    let same : x ≡ z = ap (λ k. get_or k 0 0) q in
    let low-is = leb-true low z t in
    let after : rest ≡ those (leb (x + 1)) l = ap (drop 1) q ∙ those-same (leb low) (leb (x + 1)) l
    (λ y i. let k = ltb-true z y (head-before a y i) in le-leb low y (omega arith) ∙ sym (le-leb (x + 1) y (omega arith))) in
    record {
      stands = Memᴰ.head same;
      above = omega arith;
      behind = rw (lt-leb (x + 1) z (omega arith)) after;
      least = λ y i h. ⊎_elim (λ (w : y ≡ z). omega arith) (λ j. let k = ltb-true z y (head-before a y j) in omega arith) (Memᴰ.cases_cons i);
    })
    (λ f. let f' = leb-false low z f in
    let r = first_of low l (tail-ascends a) (rw f at e) in
    let k = r.above in
    record {
      stands = Memᴰ.tail r.stands;
      above = r.above;
      behind = rw (lt-leb (x + 1) z (omega arith)) r.behind;
      least = λ y i h. ⊎_elim (λ (w : y ≡ z). absurd (omega arith)) (λ j. r.least y j h) (Memᴰ.cases_cons i);
    })

-- none is left
pub none_from : (low : ℕ) (l : List ℕ) → [] ≡ those (leb low) l → (y : ℕ) → y ∈ l → low ≤ y → ⊥
none_from low l e y i h = Memᴰ.not-nil (rw (← e) at (those-holds (leb low) i (le-leb low y h)))

-- none stands between two bounds
pub none_between : (low high : ℕ) (l : List ℕ) → low ≤ high → ((y : ℕ) → y ∈ l → low ≤ y → y < high → ⊥) → those (leb low) l ≡ those (leb high) l
none_between low high l h f =
    those-same (leb low) (leb high) l
    (λ y i. decide (leb high y) (λ t. rw t (le-leb low y (let k = leb-true high y t in omega arith)))
    (λ n. let k = leb-false high y n in decide (leb low y) (λ t. absurd (f y i (leb-true low y t) k)) (λ m. rw (n, m))))
