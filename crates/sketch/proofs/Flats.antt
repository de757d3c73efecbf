-- A clock whose counters and actors stand apart: dots side by side, one by one.
use mathlib.Core.Path.{◌≡◌, refl, ap, sym, ◌∙◌}
use mathlib.Core.List.{List, [], ◌∷◌, ◌++◌}
use Prim.Native.Nat.{ℕ, zero, suc, ◌+◌, ◌≤◌, ◌<◌}
use native.Mathlib.Omega.{arith}
use lib.ListN.{length, take, set, get_or}
use lib.Seq.{take-suc, take_all}
use Rattle.clock.specs.declared.Dot.{Dot}
use Rattle.clock.specs.Dots.{no_dot}
use Rattle.sketch.specs.Drawn.{beside}
use Rattle.sketch.proofs.Adding.{used-more}

abbrev pub dot : ℕ → ℕ → Dot
dot a n = record { actor = a; counter = n }

pub length-beside : (l m : List ℕ) → length l ≡ length m → length (beside l m) ≡ length l
unfolding beside
length-beside [] m e = refl
length-beside (a ∷ l) [] e = absurd (omega (arith, e))
length-beside (a ∷ l) (n ∷ m) e = ap suc (length-beside l m (omega (arith, e)))

beside-set : (l m : List ℕ) (i a n : ℕ) → beside (set l i a) (set m i n) ≡ set (beside l m) i (dot a n)
unfolding beside
beside-set [] m i a n = refl
beside-set (b ∷ l) [] zero a n = refl
beside-set (b ∷ l) [] (suc i) a n = refl
beside-set (b ∷ l) (k ∷ m) zero a n = refl
beside-set (b ∷ l) (k ∷ m) (suc i) a n = ap (λ r. dot b k ∷ r) (beside-set l m i a n)

beside_at : (l m : List ℕ) (i : ℕ) → length l ≡ length m → i < length l → get_or (beside l m) i no_dot ≡ dot (get_or l i 0) (get_or m i 0)
unfolding beside
beside_at [] m i e h = absurd (omega (arith, h))
beside_at (b ∷ l) [] i e h = absurd (omega (arith, e))
beside_at (b ∷ l) (k ∷ m) zero e h = refl
beside_at (b ∷ l) (k ∷ m) (suc i) e h = beside_at l m i (omega (arith, e)) (omega (arith, h))

-- a list that is taken up to a place, and one element more
pub taken_more : {A : Type 0} (l m : List A) (i : ℕ) (z a : A) → take i l ≡ take i m → a ≡ get_or m i z → i < length l → i < length m
    → take (i + 1) (set l i a) ≡ take (i + 1) m
taken_more l m i z a e f h k =
    let n : i + 1 ≡ suc i = omega arith in
    used-more i l a h ∙ (λ j. e j ++ (f j ∷ [])) ∙ sym (rw n (take-suc m i z k))

-- all is taken
pub taken-all : {A : Type 0} (l m : List A) (i : ℕ) → take i l ≡ take i m → length l ≤ i → length m ≤ i → l ≡ m
taken-all l m i e h k = sym (take_all i l h) ∙ e ∙ take_all i m k

-- one dot more is set apart
pub apart_more : (l m : List ℕ) (c : List Dot) (i : ℕ) (d : Dot) → length l ≡ length m → take i (beside l m) ≡ take i c → d ≡ get_or c i no_dot
    → i < length l → i < length c → take (i + 1) (beside (set l i d.actor) (set m i d.counter)) ≡ take (i + 1) c
apart_more l m c i d s e f h k =
    ap (take (i + 1)) (beside-set l m i d.actor d.counter)
    ∙ taken_more (beside l m) c i no_dot d e f (omega (arith, h, length-beside l m s)) k

-- one dot more is put together
pub beside-more : (l m : List ℕ) (c : List Dot) (i : ℕ) → length l ≡ length m → take i c ≡ take i (beside l m) → i < length c → i < length l
    → take (i + 1) (set c i (dot (get_or l i 0) (get_or m i 0))) ≡ take (i + 1) (beside l m)
beside-more l m c i s e h k =
    taken_more c (beside l m) i no_dot _ e (sym (beside_at l m i s k)) h (omega (arith, k, length-beside l m s))
