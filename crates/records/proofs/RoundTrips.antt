-- Records written and read again, and bytes read and written again; what is written is bytes.
use mathlib.Core.Path.{◌≡◌, refl, sym, ap, ap₂, ◌∙◌}
use mathlib.Core.List.Memᴰ
use mathlib.Core.List.{List, [], ◌∷◌, ◌++◌, append_assoc, append-nil}
use mathlib.Core.Logic.{⊎_elim}
use Prim.Native.Nat.{ℕ, zero, suc, ◌+◌, ◌*◌, ◌/◌, ◌%◌, ◌^◌, ◌≤◌, ◌<◌}
use native.Mathlib.Omega.{arith}
use lib.ListN.{length, take, drop, length-append}
use lib.Seq.{take-add, drop-drop, take-length}
use Rattle.listlaws.specs.Order.{◌∈◌}
use Rattle.records.specs.Bytes.{num_bytes, Bytes}
use Rattle.records.specs.Records.{record_from, records_from, records_of, record_bytes, bytes_of}
use Rattle.records.specs.declared.Record.{Record}
use Rattle.records.proofs.Numbers.{num-bytes, bytes-num, num-lt, none-bytes, both_bytes, num-are-bytes}

-- each field fits its type
pub record Fitting (r : Record) : Type 0 where
  pub kind : r.kind < 2 ^ 8
  pub index : r.index < 2 ^ 8
  pub actor : r.actor < 2 ^ 16
  pub key : r.key < 2 ^ 32
  pub number : r.number < 2 ^ 64

-- two records are equal by their fields
pub by-fields : {q r : Record} → q.kind ≡ r.kind → q.index ≡ r.index → q.actor ≡ r.actor → q.key ≡ r.key → q.number ≡ r.number → q ≡ r
by-fields {q} {r} a b c d e = λ i. record { kind = a i; index = b i; actor = c i; key = d i; number = e i }

-- a record is read from where its bytes stand
pub read-record : (r : Record) (at : ℕ) (s p q : List ℕ) → s ≡ p ++ (record_bytes r ++ q) → length p ≡ at → Fitting r → record_from s at ≡ r
unfolding record_from
read-record r at s p q e n f =
    let k = num_bytes 0 r.kind in
    let i = num_bytes 0 r.index in
    let a = num_bytes 1 r.actor in
    let y = num_bytes 2 r.key in
    let m = num_bytes 3 r.number in
    by-fields
    (num-bytes 0 r.kind at s p (i ++ (a ++ (y ++ (m ++ q)))) (e ∙ simp append_assoc) n f.kind)
    (num-bytes 0 r.index (at + 1) s (p ++ k) (a ++ (y ++ (m ++ q))) (e ∙ simp append_assoc) (simp length-append (omega arith)) f.index)
    (num-bytes 1 r.actor (at + 2) s (p ++ (k ++ i)) (y ++ (m ++ q)) (e ∙ simp append_assoc) (simp length-append (omega arith)) f.actor)
    (num-bytes 2 r.key (at + 4) s (p ++ (k ++ (i ++ a))) (m ++ q) (e ∙ simp append_assoc) (simp length-append (omega arith)) f.key)
    (num-bytes 3 r.number (at + 8) s (p ++ (k ++ (i ++ (a ++ y)))) q (e ∙ simp append_assoc) (simp length-append (omega arith)) f.number)

-- what is read fits
pub read_fits : (s : List ℕ) (at : ℕ) → Bytes s → Fitting (record_from s at)
unfolding record_from
read_fits s at b = record {
  kind = num-lt 0 at s b;
  index = num-lt 0 (at + 1) s b;
  actor = num-lt 1 (at + 2) s b;
  key = num-lt 2 (at + 4) s b;
  number = num-lt 3 (at + 8) s b;
}

-- the bytes of a record that was read are those that were read
bytes-record : (s : List ℕ) (at : ℕ) → Bytes s → at + 16 ≤ length s → record_bytes (record_from s at) ≡ take 16 (drop at s)
unfolding record_from
bytes-record s at b h =
    ap₂ ◌++◌ (bytes-num 0 at s b (omega arith))
    (ap₂ ◌++◌ (bytes-num 0 (at + 1) s b (omega arith))
    (ap₂ ◌++◌ (bytes-num 1 (at + 2) s b (omega arith))
    (ap₂ ◌++◌ (bytes-num 2 (at + 4) s b (omega arith)) (bytes-num 3 (at + 8) s b (omega arith))
    ∙ joins 4 8 (at + 4) (at + 8) (omega arith))
    ∙ joins 2 12 (at + 2) (at + 4) (omega arith))
    ∙ joins 1 14 (at + 1) (at + 2) (omega arith))
    ∙ joins 1 15 at (at + 1) (omega arith)
  where
    joins : (n m a z : ℕ) → a + n ≡ z → take n (drop a s) ++ take m (drop z s) ≡ take (n + m) (drop a s)
    joins n m a z e = sym (take-add n m (drop a s) ∙ rw (drop-drop n a s, e))

pub length-bytes : (l : List Record) → length (bytes_of l) ≡ length l * 16
unfolding bytes_of
length-bytes [] = refl
length-bytes (r ∷ l) = length-append (record_bytes r) (bytes_of l) ∙ omega (arith, length-bytes l)

pub bytes-append : (l m : List Record) → bytes_of (l ++ m) ≡ bytes_of l ++ bytes_of m
unfolding bytes_of
bytes-append [] m = refl
bytes-append (r ∷ l) m = ap (λ t. record_bytes r ++ t) (bytes-append l m) ∙ sym (append_assoc (record_bytes r) (bytes_of l) (bytes_of m))

-- records are read from where their bytes stand
read-from : (l : List Record) (at : ℕ) (s p q : List ℕ) → s ≡ p ++ (bytes_of l ++ q) → length p ≡ at → ((r : Record) → r ∈ l → Fitting r)
    → records_from s at (length l) ≡ l
unfolding records_from bytes_of
read-from [] at s p q e n f = refl
read-from (r ∷ l) at s p q e n f =
    ap₂ ◌∷◌
    (read-record r at s p (bytes_of l ++ q) (e ∙ simp append_assoc) n (f r (Memᴰ.head refl)))
    (read-from l (at + 16) s (p ++ record_bytes r) q (e ∙ simp append_assoc) (simp length-append (omega arith)) (λ x i. f x (Memᴰ.tail i)))

-- what was written reads as it was
pub read-written : (l : List Record) → ((r : Record) → r ∈ l → Fitting r) → records_of (bytes_of l) ≡ l
read-written l f =
    let n : length (bytes_of l) / 16 ≡ length l = omega (arith, length-bytes l) in
    rw n (read-from l 0 (bytes_of l) [] [] (sym (append-nil (bytes_of l))) refl f)

-- the bytes of what was read are those that were read
pub write-from : (s : List ℕ) (n at : ℕ) → Bytes s → at + n * 16 ≤ length s → bytes_of (records_from s at n) ≡ take (n * 16) (drop at s)
unfolding records_from bytes_of
write-from s zero at b h = refl
write-from s (suc n) at b h =
    let e : suc n * 16 ≡ 16 + n * 16 = omega arith in
    rw (e, take-add 16 (n * 16) (drop at s), drop-drop 16 at s)
    (ap₂ ◌++◌ (bytes-record s at b (omega arith)) (write-from s n (at + 16) b (omega arith)))

-- what was read writes as it was
pub written_read : (s : List ℕ) → Bytes s → length s % 16 ≡ 0 → bytes_of (records_of s) ≡ s
written_read s b h =
    let n : length s / 16 * 16 ≡ length s = omega arith in
    write-from s (length s / 16) 0 b (omega arith) ∙ rw n (take-length s)

-- every record that is read fits
pub read-all-fit : (s : List ℕ) → Bytes s → (n at : ℕ) (r : Record) → r ∈ records_from s at n → Fitting r
unfolding records_from
read-all-fit s b zero at r i = absurd (Memᴰ.not-nil i)
read-all-fit s b (suc n) at r i =
    ⊎_elim (λ (e : r ≡ record_from s at). rw e (read_fits s at b)) (λ j. read-all-fit s b n (at + 16) r j) (Memᴰ.cases_cons i)

-- records whose fields fit are written in bytes
record-are-bytes : {r : Record} → Fitting r → Bytes (record_bytes r)
record-are-bytes {r} f =
    let n = num_bytes 3 r.number in
    let y = num_bytes 2 r.key ++ n in
    let a = num_bytes 1 r.actor ++ y in
    let i = num_bytes 0 r.index ++ a in
    both_bytes (num_bytes 0 r.kind) i (num-are-bytes 0 r.kind f.kind)
    (both_bytes (num_bytes 0 r.index) a (num-are-bytes 0 r.index f.index)
    (both_bytes (num_bytes 1 r.actor) y (num-are-bytes 1 r.actor f.actor)
    (both_bytes (num_bytes 2 r.key) n (num-are-bytes 2 r.key f.key) (num-are-bytes 3 r.number f.number))))

pub written-bytes : (l : List Record) → ((r : Record) → r ∈ l → Fitting r) → Bytes (bytes_of l)
unfolding bytes_of
written-bytes [] f = none-bytes
written-bytes (r ∷ l) f = both_bytes (record_bytes r) (bytes_of l) (record-are-bytes (f r (Memᴰ.head refl)))
    (written-bytes l (λ x i. f x (Memᴰ.tail i)))
