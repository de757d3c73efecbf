-- The laws of a number in 2 ^ k bytes, once over k: written and read, read and written; and that these are bytes.
use mathlib.Core.Path.{◌≡◌, refl, ap, ◌∙◌}
use mathlib.Core.List.{List, [], ◌∷◌, ◌++◌, append_assoc}
use Prim.Native.Nat.{ℕ, zero, suc, ◌+◌, ◌*◌, ◌/◌, ◌%◌, ◌^◌, ◌≤◌, ◌<◌}
use native.Mathlib.Nat.{mod-lt, mod-add-div, div-lt_iff_lt-mul, one-le-pow}
use native.Mathlib.Omega.{arith}
use lib.Pow.{pow-add}
use lib.Arith.{digits_lt, digits_div, digits_mod}
use lib.ListN.{length, take, drop, length-append}
use lib.Seq.{get_or_at, drop-cons, take-add, drop-drop}
use Rattle.records.specs.Bytes.{num_at, num_bytes, Bytes}

-- what stands above 2 ^ k bytes counts so often
abbrev base : ℕ → ℕ
base k = 256 ^ (2 ^ k)

double : (k : ℕ) → 2 ^ suc k ≡ 2 ^ k + 2 ^ k
double k = omega arith

base-suc : (k : ℕ) → base (suc k) ≡ base k * base k
base-suc k = rw (double k) (pow-add 256 (2 ^ k) (2 ^ k))

base-pos : (k : ℕ) → 0 < base k
base-pos k = one-le-pow (2 ^ k) 256 (omega arith)

pub length-num : (k x : ℕ) → length (num_bytes k x) ≡ 2 ^ k
length-num zero x = refl
length-num (suc k) x = simp length-append (omega (arith, length-num k (x % base k), length-num k (x / base k)))

-- a number is read from where its bytes stand
pub num-bytes : (k x at : ℕ) (s p q : List ℕ) → s ≡ p ++ (num_bytes k x ++ q) → length p ≡ at → x < 256 ^ (2 ^ k) → num_at k at s ≡ x
num-bytes zero x at s p q e n h = rw e (get_or_at p x q 0 at n)
num-bytes (suc k) x at s p q e n h =
    let lo = x % base k in
    let hi = x / base k in
    let low : num_at k at s ≡ lo =
    num-bytes k lo at s p (num_bytes k hi ++ q) (e ∙ simp append_assoc) n (mod-lt x (base-pos k)) in
    let high : num_at k (at + 2 ^ k) s ≡ hi =
    num-bytes k hi (at + 2 ^ k) s (p ++ num_bytes k lo) q (e ∙ simp append_assoc)
    (simp length-append (omega (arith, length-num k lo))) ((div-lt_iff_lt-mul (base-pos k)).1 (rw (base-suc k) at h)) in
    cc (low, high, mod-add-div x (base k))

-- bytes make a number that fits
pub num-lt : (k at : ℕ) (s : List ℕ) → Bytes s → num_at k at s < 256 ^ (2 ^ k)
num-lt zero at s h = h at
num-lt (suc k) at s h =
    rw (base-suc k) (omega (arith, digits_lt (num-lt k (at + 2 ^ k) s h) (num-lt k at s h)))

-- the bytes of a number that was read are those that were read
pub bytes-num : (k at : ℕ) (s : List ℕ) → Bytes s → at + 2 ^ k ≤ length s → num_bytes k (num_at k at s) ≡ take (2 ^ k) (drop at s)
bytes-num zero at s b h = rw (drop-cons s at 0 (omega arith))
bytes-num (suc k) at s b h =
    let lo = num_at k at s in
    let hi = num_at k (at + 2 ^ k) s in
    let e : lo + base k * hi ≡ hi * base k + lo = omega arith in
    let d : (lo + base k * hi) / base k ≡ hi = rw e (digits_div hi (num-lt k at s b)) in
    let m : (lo + base k * hi) % base k ≡ lo = rw e (digits_mod hi (num-lt k at s b)) in
    rw (d, m, double k, take-add (2 ^ k) (2 ^ k) (drop at s), drop-drop (2 ^ k) at s, bytes-num k at s b (omega arith))
    (ap (λ t. take (2 ^ k) (drop at s) ++ t) (bytes-num k (at + 2 ^ k) s b (omega arith)))

-- lists of bytes
pub none-bytes : Bytes []
none-bytes zero = omega arith
none-bytes (suc i) = omega arith

more_bytes : (x : ℕ) (s : List ℕ) → x < 256 → Bytes s → Bytes (x ∷ s)
more_bytes x s h b zero = h
more_bytes x s h b (suc i) = b i

pub both_bytes : (s t : List ℕ) → Bytes s → Bytes t → Bytes (s ++ t)
both_bytes [] t b c = c
both_bytes (x ∷ s) t b c = more_bytes x (s ++ t) (b 0) (both_bytes s t (λ i. b (suc i)) c)

-- a number that fits is written in bytes
pub num-are-bytes : (k x : ℕ) → x < 256 ^ (2 ^ k) → Bytes (num_bytes k x)
num-are-bytes zero x h = more_bytes x [] h none-bytes
num-are-bytes (suc k) x h =
    both_bytes (num_bytes k (x % base k)) (num_bytes k (x / base k)) (num-are-bytes k (x % base k) (mod-lt x (base-pos k)))
    (num-are-bytes k (x / base k) ((div-lt_iff_lt-mul (base-pos k)).1 (rw (base-suc k) at h)))
