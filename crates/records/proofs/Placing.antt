-- Bytes put in place, one behind the other (`placed_on`); the length stays (`length-placed`).
use mathlib.Core.Path.{◌≡◌, sym, ◌∙◌}
use mathlib.Core.List.{List, [], ◌∷◌, ◌++◌, append_assoc}
use Prim.Native.Nat.{ℕ, ◌+◌, ◌≤◌}
use native.Mathlib.Nat.{add_assoc}
use native.Mathlib.Numerals.{add-one}
use native.Mathlib.Omega.{arith}
use lib.ListN.{length, take, drop, set, length-append, length-drop}
use lib.Seq.{set_split, take_at, drop_at, drop-drop, length-take-le}
use Rattle.records.specs.Bytes.{placed}

pub length-placed : (at : ℕ) (b s : List ℕ) → at + length b ≤ length s → length (placed at b s) ≡ length s
unfolding placed
length-placed at b s h = simp (length-append, length-drop) (omega (arith, length-take-le at s (omega arith)))

-- nothing put in place
pub placed-none : (at : ℕ) (s : List ℕ) → at ≤ length s → placed at [] s ≡ s
unfolding placed
placed-none at s h = rw (native.Mathlib.Nat.add-zero at) (lib.ListN.take-append-drop at s)

-- a store
pub placed_one : (at x : ℕ) (s : List ℕ) → at + 1 ≤ length s → set s at x ≡ placed at (x ∷ []) s
unfolding placed
placed_one at x s h = rw (add-one at) (set_split s at x (omega arith))

-- bytes put in place behind others
pub placed-more : (at : ℕ) (a b s : List ℕ) → at + length a + length b ≤ length s
    → placed (at + length a) b (placed at a s) ≡ placed at (a ++ b) s
unfolding placed
placed-more at a b s h =
    let p = take at s ++ a in
    let q = drop (at + length a) s in
    let two : take at s ++ (a ++ q) ≡ p ++ q = sym (append_assoc (take at s) a q) in
    let long : length p ≡ at + length a = simp length-append (omega (arith, length-take-le at s (omega arith))) in
    rw (
      two,
      take_at p q (at + length a) long,
      ← drop-drop (length b) (at + length a) (p ++ q),
      drop_at p q (at + length a) long,
      length-append a b,
      ← add_assoc at (length a) (length b),
    )
    (rw (drop-drop (length b) (at + length a) s) (simp append_assoc))

-- bytes put in place by two steps, whatever the second place is called
pub placed_on : (at next : ℕ) (a b s : List ℕ) {t u : List ℕ} → t ≡ placed at a s → u ≡ placed next b t → next ≡ at + length a
    → at + length a + length b ≤ length s → u ≡ placed at (a ++ b) s
placed_on at next a b s e f n h = f ∙ rw (e, n) (placed-more at a b s h)

-- what is put in place from the start on
pub placed_first : (b s : List ℕ) → placed 0 b s ≡ b ++ drop (length b) s
unfolding placed
placed_first b s = rw (native.Mathlib.Nat.zero-add (length b))
