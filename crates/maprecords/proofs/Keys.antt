-- Keys that stand once each, and what is made of each: one of them changed, or one more.
use mathlib.Core.Path.{◌≡◌, refl, ap, sym, ◌∙◌}
use mathlib.Core.Bool.{Bool, true, false, cond}
use mathlib.Core.Logic.{◌⊎◌, ⊎_elim}
use mathlib.Core.List.{List, [], ◌∷◌, ◌++◌, map}
use Prim.Native.Nat.{ℕ, zero, suc, ◌+◌, ◌<◌}
use native.Mathlib.Omega.{arith}
use native.Mathlib.Nat.{not-suc-le-zero, le_of_suc-le-suc, eq-or-lt_of_le}
use lib.Dec.{eqb}
use lib.ListN.{length, get_or, set, length-set, length-map, length-append, get_or-map, get_or-append}
use lib.Seq.{ext_get_or, get_or-set_same, get_or-set_other, get_or_at}
use borrow.Author.Tests.{eq-eqb, eqb-true, eqb-false}
use Rattle.listlaws.specs.First.{first_in, some}
use Rattle.listlaws.specs.Fold.{fold}
use Rattle.listlaws.proofs.Orders.{apart}
use Rattle.scan.proofs.Eachs.{decide}
use Rattle.maprecords.specs.Reading.{add_new, places_from, numbers_below}

-- what each step keeps, a fold keeps
pub fold-keeps : {A S : Type 0} (P : S → Type 0) (step : S → A → S) (s : S) (l : List A) → P s → ((t : S) (x : A) → P t → P (step t x))
    → P (fold step s l)
unfolding fold
fold-keeps P step s [] p h = p
fold-keeps P step s (x ∷ l) p h = fold-keeps P step (step s x) l (h s x p) h

pub some_at : {A : Type 0} (test : A → Bool) (l : List A) (i : ℕ) (d : A) → i < length l → test (get_or l i d) ≡ true → some test l ≡ true
unfolding first_in
some_at test [] i d h t = absurd (not-suc-le-zero h)
some_at test (x ∷ l) zero d h t = rw t
some_at test (x ∷ l) (suc i) d h t = rw (some_at test l i d (le_of_suc-le-suc h) t) (go (test x))
  where
    go : (b : Bool) → cond b true true ≡ true
    go true = refl
    go false = refl

-- no number stands at two places
pub record Unique (ks : List ℕ) : Type 0 where
  pub same : (i j : ℕ) → i < length ks → j < length ks → get_or ks i 0 ≡ get_or ks j 0 → i ≡ j

unique-snoc : (ks : List ℕ) (k : ℕ) → Unique ks → some (λ x. eqb x k) ks ≡ false → Unique (ks ++ (k ∷ []))
unique-snoc ks k u n = record { same = λ i j hi hj e. go i j (where-is i hi) (where-is j hj) e }
  where
    where-is : (i : ℕ) → i < length (ks ++ (k ∷ [])) → (i ≡ length ks) ⊎ (i < length ks)
    where-is i h = eq-or-lt_of_le (let l = length-append ks (k ∷ []) in omega arith)

    old : (i : ℕ) → i < length ks → get_or (ks ++ (k ∷ [])) i 0 ≡ get_or ks i 0
    old i h = get_or-append ks (k ∷ []) 0 i h

    new : (i : ℕ) → i ≡ length ks → get_or (ks ++ (k ∷ [])) i 0 ≡ k
    new i e = get_or_at ks k [] 0 i (sym e)

    differs : {B : Type 0} (i : ℕ) → i < length ks → get_or ks i 0 ≡ k → B
    differs i h e = apart (sym (some_at (λ x. eqb x k) ks i 0 h (eq-eqb (get_or ks i 0) k e)) ∙ n)

    go : (i j : ℕ) → (i ≡ length ks) ⊎ (i < length ks) → (j ≡ length ks) ⊎ (j < length ks) → get_or (ks ++ (k ∷ [])) i 0 ≡ get_or (ks ++ (k ∷ [])) j 0
        → i ≡ j
    go i j a b e =
        ⊎_elim
        (λ (p : i ≡ length ks). ⊎_elim (λ (q : j ≡ length ks). p ∙ sym q) (λ q. differs j q (sym (old j q) ∙ sym e ∙ new i p)) b)
        (λ p. ⊎_elim (λ (q : j ≡ length ks). differs i p (sym (old i p) ∙ e ∙ new j q)) (λ q. u.same i j p q (sym (old i p) ∙ e ∙ old j q)) b)
        a

pub unique-add : (ks : List ℕ) (k : ℕ) → Unique ks → Unique (add_new ks k)
unique-add ks k u = decide (some (λ x. eqb x k) ks) (λ t. rw t u) (λ f. rw f (unique-snoc ks k u f))

pub unique-none : Unique []
unique-none = record { same = λ i j h k e. absurd (not-suc-le-zero h) }

-- a default is of no account within the list
same-default : {A : Type 0} (l : List A) (j : ℕ) (a b : A) → j < length l → get_or l j a ≡ get_or l j b
same-default [] j a b h = absurd (not-suc-le-zero h)
same-default (x ∷ l) zero a b h = refl
same-default (x ∷ l) (suc j) a b h = same-default l j a b (le_of_suc-le-suc h)

pub get-map : {B : Type 0} (f : ℕ → B) (ks : List ℕ) (i : ℕ) (d : B) → i < length ks → get_or (map f ks) i d ≡ f (get_or ks i 0)
get-map f ks i d h = same-default (map f ks) i d (f 0) (rw (length-map ks f) h) ∙ get_or-map f ks i 0

-- one of them changed
pub map-changed : {B : Type 0} (d : B) (f g : ℕ → B) (ks : List ℕ) (j : ℕ) → Unique ks → j < length ks
    → ((k : ℕ) → (k ≡ get_or ks j 0 → ⊥) → g k ≡ f k)
    → map g ks ≡ set (map f ks) j (g (get_or ks j 0))
map-changed d f g ks j u h same =
    ext_get_or d (map g ks) (set (map f ks) j (g (get_or ks j 0)))
    (length-map ks g ∙ sym (length-set (map f ks) j (g (get_or ks j 0)) ∙ length-map ks f))
    (λ i l. each i (rw (length-map ks g) at l))
  where
    each : (i : ℕ) → i < length ks → get_or (map g ks) i d ≡ get_or (set (map f ks) j (g (get_or ks j 0))) i d
    each i l =
        decide (eqb i j)
        (λ t. let e = eqb-true i j t in
        get-map g ks i d l ∙ ap (λ k. g (get_or ks k 0)) e ∙ sym (ap (λ k. get_or (set (map f ks) j (g (get_or ks j 0))) k d) e
        ∙ get_or-set_same (map f ks) j (g (get_or ks j 0)) d (rw (length-map ks f) h)))
        (λ n. let e = eqb-false i j n in
        get-map g ks i d l ∙ same (get_or ks i 0) (λ q. e (u.same i j l h q))
        ∙ sym (get_or-set_other (map f ks) j i (g (get_or ks j 0)) d e ∙ get-map f ks i d l))

pub map_same : {B : Type 0} (f g : ℕ → B) (ks : List ℕ) → ((k : ℕ) → g k ≡ f k) → map g ks ≡ map f ks
map_same f g [] h = refl
map_same f g (k ∷ ks) h = rw (h k, map_same f g ks h)

-- what each place gives
pub length-places : {A B : Type 0} (f : ℕ → A → B) (i : ℕ) (l : List A) → length (places_from f i l) ≡ length l
unfolding places_from
length-places f i [] = refl
length-places f i (x ∷ l) = ap suc (length-places f (i + 1) l)

pub places-snoc : {A B : Type 0} (f : ℕ → A → B) (i : ℕ) (l : List A) (x : A)
    → places_from f i (l ++ (x ∷ [])) ≡ places_from f i l ++ (f (i + length l) x ∷ [])
unfolding places_from
places-snoc f i [] x = let e : i + 0 ≡ i = omega arith in rw e
places-snoc f i (y ∷ l) x = let e : i + 1 + length l ≡ i + suc (length l) = omega arith in rw (places-snoc f (i + 1) l x, e)

pub get-places : {A B : Type 0} (f : ℕ → A → B) (i : ℕ) (l : List A) (j : ℕ) (a : A) (d : B) → j < length l
    → get_or (places_from f i l) j d ≡ f (i + j) (get_or l j a)
unfolding places_from
get-places f i [] j a d h = absurd (not-suc-le-zero h)
get-places f i (x ∷ l) zero a d h = let e : i + 0 ≡ i = omega arith in rw e
get-places f i (x ∷ l) (suc j) a d h = get-places f (i + 1) l j a d (le_of_suc-le-suc h)
    ∙ (let e : i + 1 + j ≡ i + suc j = omega arith in ap (λ k. f k (get_or l j a)) e)

-- 0, 1, .. n - 1
pub length-below : (n : ℕ) → length (numbers_below n) ≡ n
unfolding numbers_below
length-below zero = refl
length-below (suc n) = length-append (numbers_below n) (n ∷ []) ∙ (let e = length-below n in omega arith)

pub get-below : (n i : ℕ) → i < n → get_or (numbers_below n) i 0 ≡ i
unfolding numbers_below
get-below zero i h = absurd (not-suc-le-zero h)
get-below (suc n) i h =
    ⊎_elim
    (λ (e : i ≡ n). get_or_at (numbers_below n) n [] 0 i (length-below n ∙ sym e) ∙ sym e)
    (λ (l : i < n). get_or-append (numbers_below n) (n ∷ []) 0 i (let k = length-below n in omega arith) ∙ get-below n i l)
    (eq-or-lt_of_le (le_of_suc-le-suc h))

pub unique-below : (n : ℕ) → Unique (numbers_below n)
unique-below n = record {
  same = λ i j hi hj e. let k = length-below n in let a = get-below n i (omega arith) in
      let b = get-below n j (omega arith) in omega arith;
}
