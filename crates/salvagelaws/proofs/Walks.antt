-- Laws of taking records in order, each tested given those that stay before it: which stay, and that each of these passed.
use mathlib.Core.Path.{◌≡◌, refl, ap, sym, ◌∙◌}
use mathlib.Core.Bool.{Bool, true, false, cond}
use mathlib.Core.Logic.{⊎_elim}
use mathlib.Core.List.Memᴰ
use mathlib.Core.List.{List, [], ◌∷◌, ◌++◌, append_assoc, append-nil}
use Prim.Native.Nat.{ℕ}
use Rattle.listlaws.specs.Order.{◌∈◌, Ascending, nil, next, Strict}
use Rattle.listlaws.specs.Sift.{sift}
use Rattle.listlaws.proofs.Orders.{apart, head-before, tail-ascends, never-itself}
use Rattle.records.specs.declared.Record.{Record}
use Rattle.scan.specs.Each.{each_after, each}
use Rattle.scan.proofs.Eachs.{decide, both, both_left, both_right}
use Rattle.salvagerules.specs.Fates.{Fate, staying, taken_after}

-- a member and what stands on either side
pub record Parted {A : Type 0} (l : List A) (x : A) : Type 0 where
  pub left : List A
  pub right : List A
  pub parts : l ≡ left ++ (x ∷ right)

pub parted : {A : Type 0} (l : List A) {x : A} → x ∈ l → Parted l x
parted [] i = absurd (Memᴰ.not-nil i)
parted (y ∷ l) {x} i =
    ⊎_elim
    (λ (e : x ≡ y). record { left = []; right = l; parts = ap (λ z. z ∷ l) (sym e) })
    (λ j. let p = parted l j in record { left = y ∷ p.left; right = p.right; parts = ap (λ m. y ∷ m) p.parts })
    (Memᴰ.cases_cons i)

module _ {A : Type 0} {first : A → A → Bool} where
  ascends-left : (l m : List A) → Ascending first (l ++ m) → (x y : A) → x ∈ l → y ∈ m → first x y ≡ true
  ascends-left [] m a x y i j = absurd (Memᴰ.not-nil i)
  ascends-left (z ∷ l) m a x y i j =
      ⊎_elim (λ (e : x ≡ z). rw e (head-before a y (Memᴰ.append_right l j))) (λ k. ascends-left l m (tail-ascends a) x y k j) (Memᴰ.cases_cons i)

  ascends-right : (l m : List A) → Ascending first (l ++ m) → Ascending first m
  ascends-right [] m a = a
  ascends-right (z ∷ l) m a = ascends-right l m (tail-ascends a)

  module _ {l : List A} {x : A} (a : Ascending first l) (p : Parted l x) where
    whole : Ascending first (p.left ++ (x ∷ p.right))
    whole = rw (← p.parts) a

    -- those on the left of a member of an ascending list stand before it
    pub left-before : (s : A) → s ∈ p.left → first s x ≡ true
    left-before s i = ascends-left p.left (x ∷ p.right) whole s x i (Memᴰ.head refl)

    -- and those that stand before it stand on its left
    pub before-left : Strict first → (s : A) → s ∈ l → first s x ≡ true → s ∈ p.left
    before-left strict s i t =
        ⊎_elim (λ j. j)
        (λ j. ⊎_elim (λ (e : s ≡ x). never-itself strict x (rw e at t))
        (λ k. apart (sym (head-before (ascends-right p.left (x ∷ p.right) whole) s k) ∙ strict s x t))
        (Memᴰ.cases_cons j))
        (Memᴰ.append_cases p.left (rw p.parts at i))

pub middle-in : {A : Type 0} {l : List A} {x : A} (p : Parted l x) → x ∈ l
middle-in p = rw p.parts (Memᴰ.append_right p.left (Memᴰ.head refl))

pub left_in : {A : Type 0} {l : List A} {x : A} (p : Parted l x) (s : A) → s ∈ p.left → s ∈ l
left_in {x = x} p s i = rw p.parts (Memᴰ.append_left (x ∷ p.right) i)

module _ {A : Type 0} (test : List A → A → Bool) where
  -- each passes, where each passes given those on its left
  each-of-after : (seen l : List A) → ((x : A) (p : Parted l x) → test (seen ++ p.left) x ≡ true) → each_after test seen l ≡ true
  unfolding each_after
  each-of-after seen [] h = refl
  each-of-after seen (x ∷ l) h =
      both (test seen x) _ (rw (append-nil seen) at (h x (record { left = []; right = l; parts = refl })))
      (each-of-after (seen ++ (x ∷ [])) l
      (λ y p. rw (append_assoc seen (x ∷ []) p.left)
      (h y (record { left = x ∷ p.left; right = p.right; parts = ap (λ m. x ∷ m) p.parts }))))

  pub each_of : (l : List A) → ((x : A) (p : Parted l x) → test p.left x ≡ true) → each test l ≡ true
  each_of l h = each-of-after [] l h

  each-at-after : (seen l : List A) → each_after test seen l ≡ true → {x : A} → x ∈ l → (p : Parted l x) × (test (seen ++ p.left) x ≡ true)
  unfolding each_after
  each-at-after seen [] e i = absurd (Memᴰ.not-nil i)
  each-at-after seen (y ∷ l) e {x} i =
      ⊎_elim
      (λ (q : x ≡ y). (
        record { left = []; right = l; parts = ap (λ z. z ∷ l) (sym q) },
        rw (append-nil seen, q) (both_left (test seen y) _ e),
      ))
      (λ j. let (p, t) = each-at-after (seen ++ (y ∷ [])) l (both_right (test seen y) _ e) j in (
        record { left = y ∷ p.left; right = p.right; parts = ap (λ m. y ∷ m) p.parts },
        rw (append_assoc seen (y ∷ []) p.left) at t,
      ))
      (Memᴰ.cases_cons i)

  pub each_at : (l : List A) → each test l ≡ true → {x : A} → x ∈ l → (p : Parted l x) × (test p.left x ≡ true)
  each_at l e i = each-at-after [] l e i

  -- those that stay
  unfoldable pub kept_after : List A → List A → List A
  kept_after seen [] = []
  kept_after seen (x ∷ l) = cond (test seen x) (x ∷ kept_after (seen ++ (x ∷ [])) l) (kept_after seen l)

  abbrev pub kept : List A → List A
  kept l = kept_after [] l

  pub kept-means : (seen l : List A) {z : A} → z ∈ kept_after seen l → z ∈ l
  unfolding kept_after
  kept-means seen [] i = i
  kept-means seen (x ∷ l) {z} i =
      decide (test seen x)
      (λ t. ⊎_elim (λ (e : z ≡ x). Memᴰ.head e) (λ j. Memᴰ.tail (kept-means (seen ++ (x ∷ [])) l j)) (Memᴰ.cases_cons (rw t at i)))
      (λ f. Memᴰ.tail (kept-means seen l (rw f at i)))

  kept-each-after : (seen l : List A) → each_after test seen (kept_after seen l) ≡ true
  unfolding kept_after each_after
  kept-each-after seen [] = refl
  kept-each-after seen (x ∷ l) =
      decide (test seen x) (λ t. rw (t, t) (kept-each-after (seen ++ (x ∷ [])) l)) (λ f. rw f (kept-each-after seen l))

  -- each of them passed, given those of them before it
  pub kept-each : (l : List A) → each test (kept l) ≡ true
  kept-each l = kept-each-after [] l

  pub kept-ascends : {first : A → A → Bool} (seen l : List A) → Ascending first l → Ascending first (kept_after seen l)
  unfolding kept_after
  kept-ascends seen [] a = nil
  kept-ascends seen (x ∷ l) a =
      decide (test seen x)
      (λ t. rw t (next (λ y i. head-before a y (kept-means (seen ++ (x ∷ [])) l i)) (kept-ascends (seen ++ (x ∷ [])) l (tail-ascends a))))
      (λ f. rw f (kept-ascends seen l (tail-ascends a)))

  -- where each passes, all stay
  kept-all-after : (seen l : List A) → each_after test seen l ≡ true → kept_after seen l ≡ l
  unfolding kept_after each_after
  kept-all-after seen [] e = refl
  kept-all-after seen (x ∷ l) e =
      rw (both_left (test seen x) _ e) (ap (λ m. x ∷ m) (kept-all-after (seen ++ (x ∷ [])) l (both_right (test seen x) _ e)))

  pub kept-all : (l : List A) → each test l ≡ true → kept l ≡ l
  kept-all l e = kept-all-after [] l e

  kept_append : (seen l m : List A) → kept_after seen (l ++ m) ≡ kept_after seen l ++ kept_after (seen ++ kept_after seen l) m
  unfolding kept_after
  kept_append seen [] m = rw (append-nil seen)
  kept_append seen (x ∷ l) m =
      decide (test seen x)
      (λ t. rw t (ap (λ n. x ∷ n) (kept_append (seen ++ (x ∷ [])) l m ∙ ap (λ s. kept_after (seen ++ (x ∷ [])) l ++ kept_after s m)
      (append_assoc seen (x ∷ []) (kept_after (seen ++ (x ∷ [])) l)))))
      (λ f. rw f (kept_append seen l m))

  -- an element is tested given those that stay on its left: where it passes, it stays
  module _ {l : List A} {x : A} (p : Parted l x) where
    abbrev pub left_kept : List A
    left_kept = kept_after [] p.left

    parts-kept : kept l ≡ left_kept ++ kept_after left_kept (x ∷ p.right)
    parts-kept = ap kept p.parts ∙ kept_append [] p.left (x ∷ p.right)

    pub left-kept : {s : A} → s ∈ left_kept → s ∈ kept l
    left-kept i = rw parts-kept (Memᴰ.append_left (kept_after left_kept (x ∷ p.right)) i)

    here : test left_kept x ≡ true → x ∈ kept_after left_kept (x ∷ p.right)
    unfolding kept_after
    here u = rw u (Memᴰ.head refl)

    pub passed-stays : test left_kept x ≡ true → x ∈ kept l
    passed-stays t = rw parts-kept (Memᴰ.append_right left_kept (here t))

    -- one that stays and stands before it is among those
    pub kept-left : {first : A → A → Bool} → Strict first → Ascending first l → {s : A} → s ∈ kept l → first s x ≡ true → s ∈ left_kept
    kept-left {first} strict a {s} i t =
        ⊎_elim (λ j. j) (λ j. behind (kept-means left_kept (x ∷ p.right) j)) (Memᴰ.append_cases left_kept (rw parts-kept at i))
      where
        behind : s ∈ (x ∷ p.right) → s ∈ left_kept
        behind j =
            ⊎_elim (λ (e : s ≡ x). never-itself strict x (rw e at t))
            (λ k. apart (sym (head-before (ascends-right p.left (x ∷ p.right) (whole a p)) s k) ∙ strict s x t))
            (Memᴰ.cases_cons j)

-- of a walk over fates, the records that stay are those kept
pub staying-taken : (n : ℕ) (test : List Record → Record → Bool) (seen : List Record) (l : List Fate)
    → staying (taken_after n test seen l) ≡ kept_after test seen (staying l)
unfolding taken_after kept_after sift
staying-taken n test seen [] = refl
staying-taken n test seen (f ∷ l) =
    decide f.stays
    (λ s. decide (test seen f.item)
    (λ t. rw (s, t) (ap (λ m. f.item ∷ m) (staying-taken n test (seen ++ (f.item ∷ [])) l)))
    (λ t. rw (s, t) (ap (λ m. staying (taken_after n test m l)) (append-nil seen) ∙ staying-taken n test seen l)))
    (λ s. rw s (ap (λ m. staying (taken_after n test m l)) (append-nil seen) ∙ staying-taken n test seen l))

-- where each that stays passes, nothing changes
pub taken-all : (n : ℕ) (test : List Record → Record → Bool) (seen : List Record) (l : List Fate) → each_after test seen (staying l) ≡ true
    → taken_after n test seen l ≡ l
unfolding taken_after each_after sift
taken-all n test seen [] e = refl
taken-all n test seen (f ∷ l) e =
    decide f.stays
    (λ s. let h = rw s at e in
    rw (s, both_left (test seen f.item) _ h)
    (ap (λ m. record { item = f.item; stays = true; step = f.step } ∷ m)
    (taken-all n test (seen ++ (f.item ∷ [])) l (both_right (test seen f.item) _ h))))
    (λ s. rw s
    (ap (λ m. record { item = f.item; stays = false; step = f.step } ∷ m)
    (ap (λ m. taken_after n test m l) (append-nil seen) ∙ taken-all n test seen l (rw s at e))))
