-- What is within limits is within larger ones.
use mathlib.Core.Path.{◌≡◌, refl}
use mathlib.Core.Bool.{Bool, true}
use mathlib.Core.List.{List, [], ◌∷◌, ◌++◌}
use Prim.Native.Nat.{ℕ, zero, suc, ◌≤◌}
use native.Mathlib.Omega.{arith}
use lib.Dec.{leb}
use borrow.Author.Tests.{leb-true, le-leb}
use Rattle.records.specs.declared.Record.{Record}
use Rattle.scan.specs.Each.{each_after}
use Rattle.scan.specs.Limits.{outer, middle, inner, Limits, outer_by, middle_by, inner_limits, limit_at, same_kind, same_outer, same_middle, tally}
use Rattle.scan.specs.Limits.{room_by}
use Rattle.scan.specs.Limits.{within_by}
use Rattle.scan.proofs.Eachs.{both, both_left, both_right}
use Rattle.mapimage.specs.MapImage.{longest_by}
use Rattle.limitlaws.specs.Widening.{Below}

-- tables of which the one's rows are not above the other's: the same rows from here on, a row that is raised, a row that is kept
data Rows : List ℕ → List ℕ → Type 0 where
  same : {a : List ℕ} → Rows a a
  raised : {x y : ℕ} {a b : List ℕ} → x ≤ y → Rows a b → Rows (x ∷ a) (y ∷ b)
  kept : {x : ℕ} {a b : List ℕ} → Rows a b → Rows (x ∷ a) (x ∷ b)

row_below : {a b : List ℕ} → Rows a b → (k : ℕ) → limit_at a k ≤ limit_at b k
row_below same k = omega arith
row_below (raised h r) zero = h
row_below (raised h r) (suc k) = row_below r k
row_below (kept r) zero = omega arith
row_below (kept r) (suc k) = row_below r k

at_most : (n a b : ℕ) → a ≤ b → leb n a ≡ true → leb n b ≡ true
at_most n a b h e = le-leb n b (omega (arith, leb-true n a e))

-- what passes one test of each element passes a weaker one
each-weaker : {A : Type 0} (p q : List A → A → Bool) → ((seen : List A) (x : A) → p seen x ≡ true → q seen x ≡ true) → (seen l : List A)
    → each_after p seen l ≡ true → each_after q seen l ≡ true
unfolding each_after
each-weaker p q f seen [] e = refl
each-weaker p q f seen (x ∷ l) e = both (q seen x) _ (f seen x (both_left (p seen x) _ e))
    (each-weaker p q f (seen ++ (x ∷ [])) l (both_right (p seen x) _ e))

module _ (t u : Limits) (b : Below t u) where
  outer_rows : Rows (outer_by t) (outer_by u)
  outer_rows = kept (kept (raised b.entries (raised b.entries (raised b.entries (kept (raised b.waiting same))))))

  middle-rows : Rows (middle_by t) (middle_by u)
  middle-rows = kept (kept (kept (kept (kept (raised b.waiting same)))))

  room-grows : (seen : List Record) (r : Record) → room_by t seen r ≡ true → room_by u seen r ≡ true
  room-grows seen r e =
      let here = seen ++ (r ∷ []) in
      let o = tally (same_kind r) outer here in
      let m = tally (same_outer r) middle here in
      let i = tally (same_middle r) inner here in
      let first = leb o (limit_at (outer_by t) r.kind) in
      let second = leb m (limit_at (middle_by t) r.kind) in
      let third = leb i (limit_at inner_limits r.kind) in
      both (leb o (limit_at (outer_by u) r.kind)) _ (at_most o _ _ (row_below outer_rows r.kind) (both_left first _ e))
      (both (leb m (limit_at (middle_by u) r.kind)) third (at_most m _ _ (row_below middle-rows r.kind)
      (both_left second third (both_right first _ e)))
      (both_right second third (both_right first _ e)))

  pub within-grows : (l : List Record) → within_by t l ≡ true → within_by u l ≡ true
  within-grows l e = each-weaker (room_by t) (room_by u) room-grows [] l e

  pub longest-grows : longest_by t ≤ longest_by u
  longest-grows = omega (arith, b.entries, b.waiting)
