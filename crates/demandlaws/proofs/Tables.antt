-- What a table decides, part by part, and exactly when each of its numbers comes.
use mathlib.Core.Path.{◌≡◌, refl, ap, sym, ◌∙◌}
use mathlib.Core.Bool.{true, false, not, cond}
use mathlib.Core.Logic.{◌⊎◌, inl, inr, ⊎_elim}
use mathlib.Core.List.Memᴰ
use mathlib.Core.List.{List, [], ◌∷◌, ◌++◌, map}
use Prim.Native.Nat.{ℕ}
use native.Mathlib.Omega.{arith}
use lib.Dec.{eqb}
use borrow.Author.Tests.{eqb-true, eqb-false, eq-eqb, not-true}
use Rattle.listlaws.specs.First.{first_in}
use Rattle.listlaws.specs.Order.{◌∈◌}
use Rattle.listlaws.proofs.Orders.{apart}
use Rattle.scan.specs.Each.{every}
use Rattle.scan.proofs.Eachs.{decide, both_left, both_right}
use Rattle.demandlaws.specs.Rows.{Row, decided, none_holds, has_not, numbers_of, ByTable}

-- a row that is not of this number
differs : (n : ℕ) (r : Row) (l : List Row) → has_not n (r ∷ l) ≡ true → eqb r.number n ≡ false
unfolding every
differs n r l h = not-true (eqb r.number n) (both_left (not (eqb r.number n)) (has_not n l) h)

others : (n : ℕ) (r : Row) (l : List Row) → has_not n (r ∷ l) ≡ true → has_not n l ≡ true
unfolding every
others n r l h = both_right (not (eqb r.number n)) (has_not n l) h

-- one part of a table after the other
decided-parts : (l m : List Row) → has_not 0 l ≡ true → cond (eqb (decided l) 0) (decided m) (decided l) ≡ decided (l ++ m)
unfolding decided
decided-parts [] m h = refl
decided-parts (r ∷ l) m h = decide r.holds (λ t. rw (t, differs 0 r l h)) (λ f. rw f (decided-parts l m (others 0 r l h)))

pub part : (l m : List Row) (x : ℕ) → has_not 0 l ≡ true → (decided l ≡ 0 → x ≡ decided m)
    → cond (eqb (decided l) 0) x (decided l) ≡ decided (l ++ m)
part l m x h e =
    decide (eqb (decided l) 0) (λ t. rw t (e (eqb-true (decided l) 0 t) ∙ (rw t at (decided-parts l m h))))
    (λ f. rw f (rw f at (decided-parts l m h)))

pub decided-not : (n : ℕ) (l : List Row) → has_not n l ≡ true → eqb n 0 ≡ false → decided l ≡ n → ⊥
unfolding decided
decided-not n [] h z e = eqb-false n 0 z (sym e)
decided-not n (r ∷ l) h z e =
    decide r.holds (λ t. eqb-false r.number n (differs n r l h) (rw t at e)) (λ f. decided-not n l (others n r l h) z (rw f at e))

decided-at : (before : List Row) (r : Row) (after : List Row) → none_holds before ≡ true → r.holds ≡ true
    → decided (before ++ (r ∷ after)) ≡ r.number
unfolding decided first_in
decided-at [] r after h t = rw t
decided-at (b ∷ l) r after h t = decide b.holds (λ u. apart (sym (rw u at h))) (λ f. rw f (decided-at l r after (rw f at h) t))

decided-only : (before : List Row) (r : Row) (after : List Row) → has_not r.number before ≡ true → has_not r.number after ≡ true
    → eqb r.number 0 ≡ false → decided (before ++ (r ∷ after)) ≡ r.number → (none_holds before ≡ true) × (r.holds ≡ true)
unfolding decided first_in
decided-only [] r after h k z e = decide r.holds (λ t. (refl, t)) (λ f. absurd (decided-not r.number after k z (rw f at e)))
decided-only (b ∷ l) r after h k z e =
    decide b.holds (λ t. absurd (eqb-false b.number r.number (differs r.number b l h) (rw t at e)))
    (λ f. rw f (decided-only l r after (others r.number b l h) k z (rw f at e)))

decided-among : (l : List Row) → decided l ∈ numbers_of l
unfolding decided
decided-among [] = Memᴰ.head refl
decided-among (r ∷ l) =
    decide r.holds (λ t. rw t (Memᴰ.tail (Memᴰ.head refl)))
    (λ f. rw f (wider (decided-among l)))
  where
    wider : {n : ℕ} → n ∈ numbers_of l → n ∈ numbers_of (r ∷ l)
    wider i =
        ⊎_elim (λ e. Memᴰ.head e) (λ j. Memᴰ.tail (Memᴰ.tail j)) (mathlib.Core.List.Memᴰ.cases_cons i)

pub by-table : (rows : List Row) {n : ℕ} → n ≡ decided rows → ByTable rows n
by-table rows {n} e = record {
  first = e;
  among = rw e (decided-among rows);
  exactly = λ before r after s h k z. (
    (λ p. decided-only before r after h k z (ap decided (sym s) ∙ (sym e ∙ p))),
    (λ p. e ∙ (ap decided s ∙ decided-at before r after p.0 p.1)),
  );
}
