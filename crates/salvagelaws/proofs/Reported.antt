-- The report: ascending, exact and whole, empty exactly where no step is told; and its bytes read back.
use mathlib.Core.Path.{◌≡◌, refl, ap, ap₂, sym, ◌∙◌}
use mathlib.Core.Logic.{⊎_elim}
use mathlib.Core.List.Memᴰ
use mathlib.Core.List.{List, [], ◌∷◌, ◌++◌, append_assoc}
use Prim.Native.Nat.{ℕ, zero, suc, ◌+◌, ◌*◌, ◌^◌, ◌≤◌, ◌<◌}
use native.Mathlib.Omega.{arith}
use lib.Dec.{eqb}
use lib.ListN.{length, get_or, length-append}
use borrow.Author.Tests.{eqb-true, eqb-false, eq-eqb, ne_eqb, lt-ltb}
use Rattle.listlaws.specs.Order.{◌∈◌, Ascending, nil, next, by}
use Rattle.records.specs.Bytes.{num_at, num_bytes}
use Rattle.records.proofs.Numbers.{length-num, num-bytes}
use Rattle.scan.proofs.Eachs.{decide}
use Rattle.salvagerules.specs.Report.{Told, told_from, told_bytes}
use Rattle.salvagelaws.specs.Accounts.{told_at, told_in}

-- where a place stands among those from p on
pub told-means : (p : ℕ) (l : List ℕ) (t : Told) → t ∈ told_from p l
    → (i : ℕ) × (i < length l) × (t.place ≡ p + i) × (t.step ≡ get_or l i 0) × (t.step ≡ 0 → ⊥)
unfolding told_from
told-means p [] t i = absurd (Memᴰ.not-nil i)
told-means p (n ∷ l) t i =
    decide (eqb n 0)
    (λ e. let (j, b, at, s, d) = told-means (p + 1) l t (rw e at i) in (suc j, omega arith, omega arith, s, d))
    (λ f. ⊎_elim
    (λ (q : t ≡ record { place = p; step = n }). (
      0,
      omega arith,
      ap (λ (a : Told). a.place) q ∙ plus p,
      ap (λ (a : Told). a.step) q,
      λ z. eqb-false n 0 f (sym (ap (λ (a : Told). a.step) q) ∙ z),
    ))
    (λ m. let (j, b, at, s, d) = told-means (p + 1) l t m in (suc j, omega arith, omega arith, s, d))
    (Memᴰ.cases_cons (rw f at i)))
  where
    plus : (q : ℕ) → q ≡ q + 0
    plus q = omega arith

pub told-holds : (p : ℕ) (l : List ℕ) (i : ℕ) → i < length l → (get_or l i 0 ≡ 0 → ⊥) → record { place = p + i; step = get_or l i 0 } ∈ told_from p l
unfolding told_from
told-holds p [] i b n = absurd (omega arith)
told-holds p (x ∷ l) zero b n =
    rw (ne_eqb x 0 n) (Memᴰ.head (ap (λ a. record { place = a; step = x }) (plus p)))
  where
    plus : (q : ℕ) → q + 0 ≡ q
    plus q = omega arith
told-holds p (x ∷ l) (suc i) b n =
    let rest = told-holds (p + 1) l i (omega arith) n in
    let here : record { place = p + suc i; step = get_or l i 0 } ∈ told_from (p + 1) l = rw (plus p i) rest in
    decide (eqb x 0) (λ e. rw e here) (λ f. rw f (Memᴰ.tail here))
  where
    plus : (q j : ℕ) → q + suc j ≡ q + 1 + j
    plus q j = omega arith

pub told-ascends : (p : ℕ) (l : List ℕ) → Ascending (by (λ t. t.place)) (told_from p l)
unfolding told_from
told-ascends p [] = nil
told-ascends p (n ∷ l) =
    let rest = told-ascends (p + 1) l in
    decide (eqb n 0) (λ e. rw e rest)
    (λ f. rw f (next {x = record { place = p; step = n }}
    (λ t i. let (j, b, at, s, d) = told-means (p + 1) l t i in lt-ltb p t.place (omega arith)) rest))

-- empty exactly where every step is 0
pub told_none : (p : ℕ) (l : List ℕ) → ((n : ℕ) → n ∈ l → n ≡ 0) → told_from p l ≡ []
unfolding told_from
told_none p [] h = refl
told_none p (n ∷ l) h = rw (eq-eqb n 0 (h n (Memᴰ.head refl))) (told_none (p + 1) l (λ m i. h m (Memᴰ.tail i)))

pub none_told : (p : ℕ) (l : List ℕ) → told_from p l ≡ [] → (n : ℕ) → n ∈ l → n ≡ 0
unfolding told_from
none_told p [] e n i = absurd (Memᴰ.not-nil i)
none_told p (m ∷ l) e n i =
    decide (eqb m 0)
    (λ t. let z = eqb-true m 0 t in
    ⊎_elim (λ (q : n ≡ m). q ∙ z) (λ j. none_told (p + 1) l (rw t at e) n j) (Memᴰ.cases_cons i))
    (λ f. absurd (let q = ap length (rw f at e) in omega arith))

-- five bytes each
pub length-told : (l : List Told) → length (told_bytes l) ≡ length l * 5
unfolding told_bytes
length-told [] = refl
length-told (t ∷ l) =
    let a = length-append (num_bytes 2 t.place ++ num_bytes 0 t.step) (told_bytes l) in
    let b = length-append (num_bytes 2 t.place) (num_bytes 0 t.step) in
    let c = length-num 2 t.place in
    let d = length-num 0 t.step in
    let e = length-told l in
    omega arith

pub bytes-none : (l : List Told) → told_bytes l ≡ [] → l ≡ []
bytes-none [] e = refl
bytes-none (t ∷ l) e = absurd (let a = length-told (t ∷ l) in let b = ap length e in omega arith)

-- no more are told than there are
pub told-few : (p : ℕ) (l : List ℕ) → length (told_from p l) ≤ length l
unfolding told_from
told-few p [] = omega arith
told-few p (n ∷ l) = let b = told-few (p + 1) l in decide (eqb n 0) (λ t. rw t (omega arith)) (λ f. rw f (omega arith))

-- what the bytes say
pub record ToldFits (t : Told) : Type 0 where
  pub place : t.place < 2 ^ 32
  pub step : t.step < 2 ^ 8

told-read : (pre : List ℕ) (l : List Told) → ((t : Told) → t ∈ l → ToldFits t) → (s : List ℕ) (at : ℕ) → s ≡ pre ++ told_bytes l → length pre ≡ at
    → told_in s at (length l) ≡ l
unfolding told_bytes told_in
told-read pre [] f s at e n = refl
told-read pre (t ∷ l) f s at e n =
    let p = num_bytes 2 t.place in
    let q = num_bytes 0 t.step in
    let fit = f t (Memᴰ.head refl) in
    let one : num_at 2 at s ≡ t.place = num-bytes 2 t.place at s pre (q ++ told_bytes l) (e ∙ ap (λ m. pre ++ m) (append_assoc p q (told_bytes l))) n
    fit.place in
    let long : length (pre ++ p) ≡ at + 4 = (let a = length-append pre p in let b = length-num 2 t.place in omega arith) in
    let two : num_at 0 (at + 4) s ≡ t.step = num-bytes 0 t.step (at + 4) s (pre ++ p) (told_bytes l)
    (e ∙ ap (λ m. pre ++ m) (append_assoc p q (told_bytes l)) ∙ sym (append_assoc pre p (q ++ told_bytes l))) long fit.step in
    let further : length (pre ++ (p ++ q)) ≡ at + 5 = (let a = length-append pre (p ++ q) in let b = length-append p q in
    let c = length-num 2 t.place in let d = length-num 0 t.step in omega arith) in
    let rest = told-read (pre ++ (p ++ q)) l (λ u i. f u (Memᴰ.tail i)) s (at + 5) (e ∙ sym (append_assoc pre (p ++ q) (told_bytes l))) further in
    let head : told_at s at ≡ t = λ i. record { place = one i; step = two i } in
    ap₂ ◌∷◌ head rest

pub told_back : (l : List Told) → ((t : Told) → t ∈ l → ToldFits t) → told_in (told_bytes l) 0 (length l) ≡ l
told_back l f = told-read [] l f (told_bytes l) 0 refl refl
