-- The records of bytes that are joined, and of a part of some bytes.
use mathlib.Core.Path.{◌≡◌, refl, ap, ap₂, sym, ◌∙◌}
use mathlib.Core.List.{List, ◌∷◌, ◌++◌}
use Prim.Native.Nat.{ℕ, zero, suc, ◌+◌, ◌*◌, ◌/◌, ◌^◌, ◌≤◌}
use native.Mathlib.Omega.{arith}
use lib.ListN.{length, take, drop, length-drop, get_or-append, take-append-drop}
use lib.Seq.{get_or-append-add, length-take-le}
use Rattle.records.specs.Bytes.{num_at}
use Rattle.records.specs.Records.{record_from, records_from, records_of}

double : (k : ℕ) → 2 ^ suc k ≡ 2 ^ k + 2 ^ k
double k = omega arith

-- a number that stands in the first bytes, and one that stands in the others
num-first : (k at : ℕ) (s t : List ℕ) → at + 2 ^ k ≤ length s → num_at k at (s ++ t) ≡ num_at k at s
num-first zero at s t h = get_or-append s t 0 at (omega arith)
num-first (suc k) at s t h =
    let d = double k in
    rw (num-first k at s t (omega arith), num-first k (at + 2 ^ k) s t (omega arith)) refl

num-second : (k at : ℕ) (s t : List ℕ) → num_at k (length s + at) (s ++ t) ≡ num_at k at t
num-second zero at s t = get_or-append-add s t at 0
num-second (suc k) at s t =
    let e : length s + at + 2 ^ k ≡ length s + (at + 2 ^ k) = omega arith in
    rw (num-second k at s t, e, num-second k (at + 2 ^ k) s t) refl

record-first : (at : ℕ) (s t : List ℕ) → at + 16 ≤ length s → record_from (s ++ t) at ≡ record_from s at
unfolding record_from
record-first at s t h =
    rw (
      num-first 0 at s t (omega arith),
      num-first 0 (at + 1) s t (omega arith),
      num-first 1 (at + 2) s t (omega arith),
      num-first 2 (at + 4) s t (omega arith),
      num-first 3 (at + 8) s t (omega arith),
    ) refl

record-second : (at : ℕ) (s t : List ℕ) → record_from (s ++ t) (length s + at) ≡ record_from t at
unfolding record_from
record-second at s t =
    let a : length s + at + 1 ≡ length s + (at + 1) = omega arith in
    let b : length s + at + 2 ≡ length s + (at + 2) = omega arith in
    let c : length s + at + 4 ≡ length s + (at + 4) = omega arith in
    let d : length s + at + 8 ≡ length s + (at + 8) = omega arith in
    rw (num-second 0 at s t, a, b, c, d, num-second 0 (at + 1) s t, num-second 1 (at + 2) s t, num-second 2 (at + 4) s t, num-second 3 (at + 8) s t)
    refl

records-first : (n at : ℕ) (s t : List ℕ) → at + n * 16 ≤ length s → records_from (s ++ t) at n ≡ records_from s at n
unfolding records_from
records-first zero at s t h = refl
records-first (suc n) at s t h = ap₂ (λ r l. r ∷ l) (record-first at s t (omega arith)) (records-first n (at + 16) s t (omega arith))

records-second : (n at : ℕ) (s t : List ℕ) → records_from (s ++ t) (length s + at) n ≡ records_from t at n
unfolding records_from
records-second zero at s t = refl
records-second (suc n) at s t =
    let e : length s + at + 16 ≡ length s + (at + 16) = omega arith in
    ap₂ (λ r l. r ∷ l) (record-second at s t) (ap (λ a. records_from (s ++ t) a n) e ∙ records-second n (at + 16) s t)

pub records-split : (n m at : ℕ) (s : List ℕ) → records_from s at (n + m) ≡ records_from s at n ++ records_from s (at + n * 16) m
unfolding records_from
records-split zero m at s = let a : zero + m ≡ m = omega arith in let b : at + zero * 16 ≡ at = omega arith in rw (a, b) refl
records-split (suc n) m at s =
    let a : suc n + m ≡ suc (n + m) = omega arith in
    let b : at + suc n * 16 ≡ at + 16 + n * 16 = omega arith in
    rw (a, b) (ap (λ l. record_from s at ∷ l) (records-split n m (at + 16) s))

pub length-records : (s : List ℕ) (at n : ℕ) → length (records_from s at n) ≡ n
unfolding records_from
length-records s at zero = refl
length-records s at (suc n) = ap suc (length-records s (at + 16) n)

-- the records of a part are those that stand there in the whole
pub records-slice : (s : List ℕ) (at k n : ℕ) → k ≡ n * 16 → at + k ≤ length s → records_of (take k (drop at s)) ≡ records_from s at n
records-slice s at k n e h =
    let p = take at s in
    let t = take k (drop at s) in
    let q = drop k (drop at s) in
    let room : k ≤ length (drop at s) = rw (length-drop at s) (omega arith) in
    let long : length t ≡ k = length-take-le k (drop at s) room in
    let z : length t / 16 ≡ n = omega arith in
    let a : length p + 0 ≡ at = omega (arith, length-take-le at s (omega arith)) in
    let whole : p ++ (t ++ q) ≡ s = ap (λ x. p ++ x) (take-append-drop k (drop at s)) ∙ take-append-drop at s in
    ap (records_from t 0) z ∙ sym (records-first n 0 t q (omega arith)) ∙ sym (records-second n 0 p (t ++ q))
    ∙ ap₂ (λ x y. records_from x y n) whole a
