-- Records in ascending order stand kind by kind.
use mathlib.Core.Path.{◌≡◌, refl, ap, sym, ◌∙◌}
use mathlib.Core.List.{List, [], ◌∷◌, ◌++◌}
use Prim.Native.Nat.{ℕ, ◌+◌, ◌<◌}
use native.Mathlib.Omega.{arith}
use lib.Dec.{eqb, leb}
use borrow.Author.Tests.{ne_eqb, eqb-true, eqb-false, le-leb, lt-leb, leb-true, leb-false}
use Rattle.listlaws.specs.Order.{◌∈◌, Ascending}
use Rattle.listlaws.specs.Sift.{sift, those}
use Rattle.listlaws.proofs.Orders.{head-before, tail-ascends}
use Rattle.listlaws.proofs.Those.{those-same, those-none}
use Rattle.records.specs.declared.Record.{Record}
use Rattle.records.specs.Kinds.{before}
use Rattle.scan.proofs.Eachs.{decide}
use Rattle.scan.proofs.Befores.{before-fields}

-- of kind k, and from kind k on
abbrev pub of_kind : ℕ → List Record → List Record
of_kind k l = those (λ x. eqb x.kind k) l

abbrev pub from : ℕ → List Record → List Record
from k l = those (λ x. leb k x.kind) l

none_of : (k : ℕ) (l : List Record) → ((x : Record) → x ∈ l → k < x.kind) → of_kind k l ≡ []
none_of k l h = those-none (λ x. eqb x.kind k) l (λ x i. let b = h x i in ne_eqb x.kind k (λ e. omega arith))

pub split : (k : ℕ) (l : List Record) → Ascending before l → from k l ≡ of_kind k l ++ from (k + 1) l
unfolding sift
split k [] a = refl
split k (x ∷ l) a =
    decide (leb k x.kind)
    (λ t. let h = leb-true k x.kind t in
    decide (eqb x.kind k)
    (λ b. let e = eqb-true x.kind k b in rw (t, b, lt-leb (k + 1) x.kind (omega arith)) (ap (λ m. x ∷ m) (split k l (tail-ascends a))))
    (λ b. let n = eqb-false x.kind k b in
    let above : k < x.kind = omega arith in
    rw (t, b, le-leb (k + 1) x.kind (omega arith), none_of k l (later above))
    (ap (λ m. x ∷ m) (those-same (λ y. leb k y.kind) (λ y. leb (k + 1) y.kind) l (λ y i. let c = later above y i in
    le-leb k y.kind (omega arith) ∙ sym (le-leb (k + 1) y.kind (omega arith)))))))
    (λ f. let h = leb-false k x.kind f in rw (f, ne_eqb x.kind k (λ e. omega arith), lt-leb (k + 1) x.kind (omega arith))
    (split k l (tail-ascends a)))
  where
    later : k < x.kind → (y : Record) → y ∈ l → k < y.kind
    later h y i = let b = before-fields (head-before a y i) in omega (arith, b.kind)
