-- Removals in order with one more at a place, those from there on moved up.
use mathlib.Core.Path.{◌≡◌, refl, sym, ◌∙◌, subst}
use mathlib.Core.List.{List, [], ◌∷◌, ◌++◌}
use Prim.Native.Nat.{ℕ, zero, suc, ◌+◌, ◌-◌, ◌≤◌, ◌<◌}
use native.Mathlib.Omega.{arith}
use borrow.Author.Tests.{ltb-true, ltb-false, eqb-true, eqb-false}
use lib.Dec.{ltb, eqb}
use lib.ListN.{length, take, drop, get_or, set, length-set}
use lib.Seq.{get_or-set_same, get_or-set_other}
use Rattle.scan.proofs.Eachs.{decide}
use Rattle.clock.specs.declared.Dot.{Dot}
use Rattle.limits.specs.Limits.{waiting_limit}
use Rattle.planned.specs.declared.Held.{Held}
use Rattle.planned.specs.declared.Ordered.{Ordered}
use Rattle.planned.specs.Planned.{no_held}
use Rattle.planned.specs.Left.{Left, Lined}
use Rattle.planned.proofs.Seats.{length-between}

-- a list with one more between two parts, place by place
module _ {A : Type 0} (c z : A) where
  at-below : (l : List A) (k j : ℕ) → j < k → k ≤ length l → get_or (take k l ++ (c ∷ drop k l)) j z ≡ get_or l j z
  at-below l zero j h g = absurd (omega arith)
  at-below [] (suc k) j h g = absurd (omega arith)
  at-below (x ∷ l) (suc k) zero h g = refl
  at-below (x ∷ l) (suc k) (suc j) h g = at-below l k j (omega arith) (omega arith)

  at_here : (l : List A) (k : ℕ) → k ≤ length l → get_or (take k l ++ (c ∷ drop k l)) k z ≡ c
  at_here l zero g = refl
  at_here [] (suc k) g = absurd (omega arith)
  at_here (x ∷ l) (suc k) g = at_here l k (omega arith)

  at_above : (l : List A) (k j : ℕ) → k ≤ j → k ≤ length l → get_or (take k l ++ (c ∷ drop k l)) (suc j) z ≡ get_or l j z
  at_above l zero j h g = refl
  at_above [] (suc k) j h g = absurd (omega arith)
  at_above (x ∷ l) (suc k) zero h g = absurd (omega arith)
  at_above (x ∷ l) (suc k) (suc j) h g = at_above l k j (omega arith) (omega arith)

-- those up to place i have moved up, from place k on
pub record Moved (k : ℕ) (items : List Held) (x : Held) (i : ℕ) (out : List Held) : Type 0 where
  pub long : length out ≡ waiting_limit
  pub below : (j : ℕ) → j < k → get_or out j no_held ≡ get_or items j no_held
  pub here : get_or out k no_held ≡ x
  pub above : (j : ℕ) → k ≤ j → j < i → get_or out (j + 1) no_held ≡ get_or items j no_held

pub moved-start : (k : ℕ) (items : List Held) (x : Held) → length items ≡ waiting_limit → k < waiting_limit
    → Moved k items (get_or (set items k x) k no_held) k (set items k x)
moved-start k items x n h = record {
  long = length-set items k x ∙ n;
  below = λ j g. get_or-set_other items k j x no_held (λ e. omega arith);
  here = refl;
  above = λ j g q. absurd (omega arith);
}

pub moved_on : {k : ℕ} {items : List Held} {x : Held} {i : ℕ} {out : List Held} → Moved k items x i out → k ≤ i → i + 1 < waiting_limit
    → Moved k items x (i + 1) (set out (i + 1) (get_or items i no_held))
moved_on {k} {items} {x} {i} {out} m h g = record {
  long = length-set out (i + 1) (get_or items i no_held) ∙ m.long;
  below = λ j q. get_or-set_other out (i + 1) j (get_or items i no_held) no_held (λ e. omega arith) ∙ m.below j q;
  here = get_or-set_other out (i + 1) k (get_or items i no_held) no_held (λ e. omega arith) ∙ m.here;
  above = λ j q r. decide (eqb j i)
      (λ t. let e = eqb-true j i t in rw e (get_or-set_same out (i + 1) (get_or items i no_held) no_held (omega (arith, m.long))))
      (λ t. let e = eqb-false j i t in get_or-set_other out (i + 1) (j + 1) (get_or items i no_held) no_held (λ o. e (omega arith))
      ∙ m.above j q (omega (arith, e)));
}

pub moved-end : {s : List ℕ} {all : Ordered} {l : List (List Dot)} {x y : Held} {d : List Dot} {k n i : ℕ} {out : List Held} → Lined s all l
    → Left s x d → k ≤ length l → length l < waiting_limit
    → n ≡ length l → length l ≤ i → y ≡ x → Moved k all.items y i out → Lined s (record { items = out; len = n + 1 }) (take k l ++ (d ∷ drop k l))
moved-end {s} {all} {l} {x} {y} {d} {k} {n} {i} {out} p q h few e g same m = record {
  count = omega (arith, length-between l d k);
  few = omega (arith, length-between l d k);
  each = each;
}
  where
    each : (j : ℕ) → j < length (take k l ++ (d ∷ drop k l)) → Left s (get_or out j no_held) (get_or (take k l ++ (d ∷ drop k l)) j [])
    each j r =
        decide (ltb j k)
        (λ t. let b = ltb-true j k t in rw (m.below j b, at-below d [] l k j b h) (p.each j (omega arith)))
        (λ t. let b = ltb-false j k t in
        decide (eqb j k)
        (λ u. let o = eqb-true j k u in rw (o, m.here ∙ same, at_here d [] l k h) q)
        (λ f. let o = eqb-false j k f in
        let v : j ≡ suc (j - 1) = omega (arith, o) in
        let u : suc (j - 1) ≡ j - 1 + 1 = omega arith in
        let z : k ≤ j - 1 = omega (arith, o) in
        let inside : j - 1 < length l = omega (arith, o, length-between l d k) in
        subst (λ a. Left s (get_or out a no_held) (get_or (take k l ++ (d ∷ drop k l)) a [])) (sym v)
        (rw (at_above d [] l k (j - 1) z h) (rw (u, m.above (j - 1) z (omega arith)) (p.each (j - 1) inside)))))
