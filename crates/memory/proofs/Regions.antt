-- Parts of a memory: where two agree, and what is touched by a number put in place.
use mathlib.Core.Path.{◌≡◌, refl, ap, ap₂, sym, ◌∙◌}
use mathlib.Core.Logic.{◌⊎◌, inl, inr, ⊎_elim}
use mathlib.Core.List.{List, [], ◌∷◌, ◌++◌, append_assoc}
use Prim.Native.Nat.{ℕ, zero, suc, ◌+◌, ◌*◌, ◌-◌, ◌/◌, ◌%◌, ◌^◌, ◌≤◌, ◌<◌}
use native.Mathlib.Nat.{mod-lt, div-lt_iff_lt-mul, one-le-pow}
use native.Mathlib.Omega.{arith}
use lib.Dec.{ltb}
use lib.Pow.{pow-add}
use lib.ListN.{length, take, drop, get_or, length-append, get_or-append}
use lib.Seq.{get_or-append-add, get_or-take, get_or-drop, length-take-le}
use borrow.Author.Tests.{ltb-true, ltb-false}
use Rattle.scan.proofs.Eachs.{decide}
use Rattle.records.specs.declared.Record.{Record}
use Rattle.records.specs.Bytes.{num_at, num_bytes, placed, Bytes}
use Rattle.records.specs.Records.{record_from, record_bytes}
use Rattle.records.proofs.Numbers.{length-num, num-bytes}
use Rattle.records.proofs.Placing.{length-placed}
use Rattle.records.proofs.RoundTrips.{Fitting}
use Rattle.memory.specs.Putting.{put}

double : (k : ℕ) → 2 ^ suc k ≡ 2 ^ k + 2 ^ k
double k = omega arith

-- a number and a record depend on their bytes alone
pub num-like : (k p q : ℕ) (v w : List ℕ) → ((i : ℕ) → i < 2 ^ k → get_or v (p + i) 0 ≡ get_or w (q + i) 0) → num_at k p v ≡ num_at k q w
num-like zero p q v w h =
    let a : p + 0 ≡ p = omega arith in
    let b : q + 0 ≡ q = omega arith in
    rw (a, b) at (h 0 (omega arith))
num-like (suc k) p q v w h =
    let d = double k in
    ap₂ (λ x y. x + 256 ^ (2 ^ k) * y)
    (num-like k p q v w (λ i l. h i (omega arith)))
    (num-like k (p + 2 ^ k) (q + 2 ^ k) v w (λ i l.
    let a : p + 2 ^ k + i ≡ p + (2 ^ k + i) = omega arith in
    let b : q + 2 ^ k + i ≡ q + (2 ^ k + i) = omega arith in
    rw (a, b) (h (2 ^ k + i) (omega arith))))

-- the same of the bytes from `a` on, n of them
pub record Same (a n : ℕ) (v w : List ℕ) : Type 0 where
  pub at : (i : ℕ) → a ≤ i → i < a + n → get_or v i 0 ≡ get_or w i 0

pub same-part : {a n : ℕ} {v w : List ℕ} (b m : ℕ) → Same a n v w → a ≤ b → b + m ≤ a + n → Same b m v w
same-part b m s h k = record { at = λ i x y. s.at i (omega arith) (omega arith) }

pub same_then : {a n : ℕ} {u v w : List ℕ} → Same a n u v → Same a n v w → Same a n u w
same_then s t = record { at = λ i x y. s.at i x y ∙ t.at i x y }

pub same-num : (k p : ℕ) {a n : ℕ} {v w : List ℕ} → Same a n v w → a ≤ p → p + 2 ^ k ≤ a + n → num_at k p v ≡ num_at k p w
same-num k p {v = v} {w = w} s h l = num-like k p p v w (λ i x. s.at (p + i) (omega arith) (omega arith))

pub same-record : (p : ℕ) {a n : ℕ} {v w : List ℕ} → Same a n v w → a ≤ p → p + 16 ≤ a + n → record_from v p ≡ record_from w p
unfolding record_from
same-record p s h l =
    rw (
      same-num 0 p s (omega arith) (omega arith),
      same-num 0 (p + 1) s (omega arith) (omega arith),
      same-num 1 (p + 2) s (omega arith) (omega arith),
      same-num 2 (p + 4) s (omega arith) (omega arith),
      same-num 3 (p + 8) s (omega arith) (omega arith),
    )

-- v is w but for the n bytes from `a` on
pub record Touched (a n : ℕ) (w v : List ℕ) : Type 0 where
  pub long : length v ≡ length w
  pub bytes : Bytes w → Bytes v
  pub else : (i : ℕ) → (i < a) ⊎ (a + n ≤ i) → get_or v i 0 ≡ get_or w i 0

pub touched_none : (a n : ℕ) (w : List ℕ) → Touched a n w w
touched_none a n w = record { long = refl; bytes = λ b. b; else = λ i o. refl }

pub touched-then : {a n : ℕ} {w v u : List ℕ} → Touched a n w v → Touched a n v u → Touched a n w u
touched-then s t = record { long = t.long ∙ s.long; bytes = λ b. t.bytes (s.bytes b); else = λ i o. t.else i o ∙ s.else i o }

pub touched-wide : {a n : ℕ} {w v : List ℕ} (b m : ℕ) → Touched a n w v → b ≤ a → a + n ≤ b + m → Touched b m w v
touched-wide {a} {n} b m s h k = record {
  long = s.long;
  bytes = s.bytes;
  else = λ i o. s.else i (⊎_elim (λ (x : i < b). inl (omega arith)) (λ (x : b + m ≤ i). inr (omega arith)) o);
}

pub below-touched : {a n : ℕ} {w v : List ℕ} (b m : ℕ) → Touched a n w v → b + m ≤ a → Same b m v w
below-touched b m t h = record { at = λ i x y. t.else i (inl (omega arith)) }

pub above-touched : {a n : ℕ} {w v : List ℕ} (b m : ℕ) → Touched a n w v → a + n ≤ b → Same b m v w
above-touched b m t h = record { at = λ i x y. t.else i (inr (omega arith)) }

-- bytes put in place
module _ (a : ℕ) (b w : List ℕ) (room : a + length b ≤ length w) where
  front : length (take a w) ≡ a
  front = length-take-le a w (omega arith)

  placed-before : (i : ℕ) → i < a → get_or (placed a b w) i 0 ≡ get_or w i 0
  unfolding placed
  placed-before i h = get_or-append (take a w) (b ++ drop (a + length b) w) 0 i (omega (arith, front)) ∙ get_or-take a w i 0 h

  placed-behind : (i : ℕ) → a + length b ≤ i → get_or (placed a b w) i 0 ≡ get_or w i 0
  unfolding placed
  placed-behind i h =
      let e : i ≡ length (take a w ++ b) + (i - (a + length b)) = omega (arith, length-append (take a w) b, front) in
      let back : a + length b + (i - (a + length b)) ≡ i = omega arith in
      ap₂ (λ l k. get_or l k 0) (sym (append_assoc (take a w) b (drop (a + length b) w))) e
      ∙ get_or-append-add (take a w ++ b) (drop (a + length b) w) (i - (a + length b)) 0
      ∙ get_or-drop (a + length b) w (i - (a + length b)) 0 ∙ ap (λ k. get_or w k 0) back

  pub placed-within : (i : ℕ) → i < length b → get_or (placed a b w) (a + i) 0 ≡ get_or b i 0
  unfolding placed
  placed-within i h =
      ap (λ k. get_or (take a w ++ (b ++ drop (a + length b) w)) (k + i) 0) (sym front)
      ∙ get_or-append-add (take a w) (b ++ drop (a + length b) w) i 0 ∙ get_or-append b (drop (a + length b) w) 0 i h

  where-is : (i : ℕ) → (i < a) ⊎ ((a + length b ≤ i) ⊎ ((k : ℕ) × (k < length b) × (i ≡ a + k)))
  where-is i =
      decide (ltb i a) (λ x. inl (ltb-true i a x))
      (λ x. let low = ltb-false i a x in
      decide (ltb i (a + length b)) (λ y. let high = ltb-true i (a + length b) y in inr (inr (i - a, omega arith, omega arith)))
      (λ y. inr (inl (ltb-false i (a + length b) y))))

  pub touched-placed : Bytes b → Touched a (length b) w (placed a b w)
  touched-placed small = record {
    long = length-placed a b w room;
    bytes = λ bs i. ⊎_elim (λ x. rw (placed-before i x) (bs i))
        (λ o. ⊎_elim (λ x. rw (placed-behind i x) (bs i)) (λ k. rw (k.2, placed-within k.0 k.1) (small k.0)) o) (where-is i);
    else = λ i o. ⊎_elim (λ x. placed-before i x) (λ x. placed-behind i x) o;
  }

-- the bytes of a number that fits
pub bytes-append : (a b : List ℕ) → Bytes a → Bytes b → Bytes (a ++ b)
bytes-append [] b x y i = y i
bytes-append (n ∷ a) b x y zero = x 0
bytes-append (n ∷ a) b x y (suc i) = bytes-append a b (λ j. x (suc j)) y i

num-small : (k x : ℕ) → x < 256 ^ (2 ^ k) → Bytes (num_bytes k x)
num-small zero x h zero = h
num-small zero x h (suc i) = omega arith
num-small (suc k) x h i =
    let pos : 0 < 256 ^ (2 ^ k) = one-le-pow (2 ^ k) 256 (omega arith) in
    let square : 256 ^ (2 ^ suc k) ≡ 256 ^ (2 ^ k) * 256 ^ (2 ^ k) = rw (double k) (pow-add 256 (2 ^ k) (2 ^ k)) in
    bytes-append (num_bytes k (x % 256 ^ (2 ^ k))) (num_bytes k (x / 256 ^ (2 ^ k)))
    (num-small k (x % 256 ^ (2 ^ k)) (mod-lt x pos))
    (num-small k (x / 256 ^ (2 ^ k)) ((div-lt_iff_lt-mul pos).1 (rw square at h))) i

-- a number put in place
module _ (k p x : ℕ) (w : List ℕ) (fits : x < 256 ^ (2 ^ k)) (room : p + 2 ^ k ≤ length w) where
  pub touched-put : Touched p (2 ^ k) w (put k p x w)
  touched-put = rw (length-num k x) at (touched-placed p (num_bytes k x) w (let n = length-num k x in omega arith) (num-small k x fits))

  pub put-read : num_at k p (put k p x w) ≡ x
  unfolding placed
  put-read = num-bytes k x p (put k p x w) (take p w) (drop (p + length (num_bytes k x)) w) refl (length-take-le p w (omega arith)) fits

-- a record put in place
pub touched-record : (p : ℕ) (r : Record) (w : List ℕ) → Fitting r → p + 16 ≤ length w → Touched p 16 w (placed p (record_bytes r) w)
touched-record p r w f room =
    let i = num_bytes 0 r.index in
    let a = num_bytes 1 r.actor in
    let y = num_bytes 2 r.key in
    let m = num_bytes 3 r.number in
    touched-placed p (record_bytes r) w room
    (bytes-append (num_bytes 0 r.kind) (i ++ (a ++ (y ++ m))) (num-small 0 r.kind f.kind)
    (bytes-append i (a ++ (y ++ m)) (num-small 0 r.index f.index)
    (bytes-append a (y ++ m) (num-small 1 r.actor f.actor) (bytes-append y m (num-small 2 r.key f.key)
    (num-small 3 r.number f.number)))))
