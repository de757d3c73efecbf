-- Removals united one after the other: their clocks in order, and whose keys each has.
use mathlib.Core.Path.{◌≡◌, refl, ap, sym, ◌∙◌}
use mathlib.Core.Bool.{Bool, true, false, cond}
use mathlib.Core.List.Memᴰ
use mathlib.Core.List.{List, [], ◌∷◌, map, map-id}
use mathlib.Core.Logic.{◌⊎◌, inl, inr, ⊎_elim}
use Prim.Native.Nat.{ℕ}
use Rattle.listlaws.specs.Fold.{fold}
use Rattle.listlaws.specs.Order.{◌∈◌, nil, next}
use Rattle.listlaws.specs.Sift.{sift, those}
use Rattle.listlaws.specs.Weave.{weave}
use Rattle.listlaws.proofs.Orders.{apart}
use Rattle.scan.proofs.Eachs.{decide}
use Rattle.clock.specs.declared.Dot.{Dot}
use Rattle.clock.specs.Dots.{is_empty}
use Rattle.removals.specs.declared.Removal.{Removal}
use Rattle.removals.specs.Model.{under_of, listed_in}
use Rattle.removals.specs.Valid.{ValidRemoval, ValidWaiting}
use Rattle.removals.specs.Waits.{removal_before, unite, unite_all, unite_into, remains}
use Rattle.removals.proofs.Uniting.{unite-nil, unite-each, unite-left, unite-right, unite-keys}
use Rattle.removals.proofs.WaitingValid.{unite-valid}
use Rattle.removals.proofs.Unions.{union-means, union_left, union_right}
use Rattle.queued.specs.Planned.{SoundRemovals}
use Rattle.planned.specs.Seats.{insert_clock, gather_all}

-- the clocks of removals with one more
pub clocks-into : (l : List Removal) (x : Removal) → map under_of (unite_into l x) ≡ insert_clock (map under_of l) (under_of x)
unfolding unite_all weave insert_clock
clocks-into [] x = refl
clocks-into (y ∷ l) x = go (removal_before y x) (removal_before x y) (clocks-into l x)
  where
    go : (a b : Bool) → map under_of (unite_into l x) ≡ insert_clock (map under_of l) (under_of x)
        → map under_of (cond a (y ∷ unite_into l x) (cond b (x ∷ (y ∷ map (λ w. w) l)) (unite y x ∷ unite_all l []))) ≡ cond a
        (under_of y ∷ insert_clock (map under_of l) (under_of x)) (cond b (under_of x ∷ (under_of y ∷ map under_of l)) (under_of y ∷ map under_of l))
    go true b e = ap (λ m. under_of y ∷ m) e
    go false true e = ap (λ m. under_of x ∷ (under_of y ∷ map under_of m)) (map-id l)
    go false false e = ap (λ m. under_of y ∷ map under_of m) (unite-nil l)

-- a removal that remains, or not
step : (P : List Removal → Type 0) (l : List Removal) (r : Removal) (w : List Removal)
    → (is_empty (under_of r) ≡ true → P (fold unite_into l (those remains w)))
    → (is_empty (under_of r) ≡ false → P (fold unite_into (unite_into l r) (those remains w))) → P (fold unite_into l (those remains (r ∷ w)))
unfolding fold sift
step P l r w a b = decide (is_empty (under_of r)) (λ t. rw t (a t)) (λ f. rw f (b f))

module _ (l m : List (List Dot)) (c : List Dot) where
  pub gather-skip : is_empty c ≡ true → gather_all l (c ∷ m) ≡ gather_all l m
  unfolding gather_all fold
  gather-skip t = rw t

  pub gather-more : is_empty c ≡ false → gather_all l (c ∷ m) ≡ gather_all (insert_clock l c) m
  unfolding gather_all fold
  gather-more t = rw t

pub clocks-gathered : (l w : List Removal) → map under_of (fold unite_into l (those remains w)) ≡ gather_all (map under_of l) (map under_of w)
unfolding gather_all fold sift
clocks-gathered l [] = refl
clocks-gathered l (r ∷ w) =
    step (λ m. map under_of m ≡ gather_all (map under_of l) (map under_of (r ∷ w))) l r w
    (λ t. clocks-gathered l w ∙ sym (gather-skip (map under_of l) (map under_of w) (under_of r) t))
    (λ f. clocks-gathered (unite_into l r) w ∙ ap (λ m. gather_all m (map under_of w)) (clocks-into l r)
    ∙ sym (gather-more (map under_of l) (map under_of w) (under_of r) f))

-- a removal under a clock lists a key
pub record Has (l : List Removal) (c : List Dot) (key : ℕ) : Type 0 where
  pub removal : Removal
  pub stands : removal ∈ l
  pub under : under_of removal ≡ c
  pub lists : key ∈ listed_in removal

one-valid : (x : Removal) → ValidRemoval x → is_empty (under_of x) ≡ false → ValidWaiting (x ∷ [])
one-valid x v f = record {
  rising = next (λ y i. absurd (Memᴰ.not-nil i)) nil;
  each = λ r i. rw (Memᴰ.eq_of_singleton i) v;
  some = λ r i. rw (Memᴰ.eq_of_singleton i) f;
}

module _ {l : List Removal} {x : Removal} (v : ValidWaiting l) (h : ValidRemoval x) (f : is_empty (under_of x) ≡ false) where
  into-valid : ValidWaiting (unite_into l x)
  into-valid = unite-valid v (one-valid x h f)

  -- what one had it still has
  into-keeps : {c : List Dot} {key : ℕ} → Has l c key → Has (unite_into l x) c key
  into-keeps k =
      let r = k.removal in
      ⊎_elim (λ i. record { removal = r; stands = i; under = k.under; lists = k.lists })
      (λ s. let y = s.0 in record {
        removal = unite r y;
        stands = s.3;
        under = k.under;
        lists = rw (unite-keys r y) (union_left (v.each r k.stands).keys (rw (Memᴰ.eq_of_singleton s.1) h.keys) k.lists);
      })
      (unite-left v.rising (one-valid x h f).rising k.stands)

  -- and what the one more has
  into-adds : {key : ℕ} → key ∈ listed_in x → Has (unite_into l x) (under_of x) key
  into-adds {key} k =
      ⊎_elim (λ i. record { removal = x; stands = i; under = refl; lists = k })
      (λ s. let y = s.0 in record {
        removal = unite y x;
        stands = s.3;
        under = s.2;
        lists = rw (unite-keys y x) (union_right (v.each y s.1).keys h.keys k);
      })
      (unite-right v.rising (one-valid x h f).rising (Memᴰ.head refl))

  -- and nothing else
  into-only : {c : List Dot} {key : ℕ} → Has (unite_into l x) c key → Has l c key ⊎ ((under_of x ≡ c) × (key ∈ listed_in x))
  into-only {c} {key} k =
      unite-each v.rising (one-valid x h f).rising (λ z. under_of z ≡ c → key ∈ listed_in z → Has l c key ⊎ ((under_of x ≡ c) × (key ∈ listed_in x)))
      (λ y i e m. inl (record { removal = y; stands = i; under = e; lists = m }))
      (λ y i e m. let q = Memᴰ.eq_of_singleton i in inr (ap under_of (sym q) ∙ e, rw q at m))
      (λ y z i j e p m. let q = Memᴰ.eq_of_singleton j in
      ⊎_elim (λ n. inl (record { removal = y; stands = i; under = p; lists = n })) (λ n. inr (ap under_of (sym q) ∙ sym e ∙ p, rw q at n))
      (union-means (v.each y i).keys (rw q h.keys) key (rw (unite-keys y z) at m)))
      k.removal k.stands k.under k.lists

-- all that remain of a list, one after the other
pub all_valid : {l : List Removal} (w : List Removal) → ValidWaiting l → SoundRemovals w → ValidWaiting (fold unite_into l (those remains w))
unfolding fold sift
all_valid [] v s = v
all_valid {l} (r ∷ w) v s =
    step ValidWaiting l r w (λ t. all_valid w v (λ x i. s x (Memᴰ.tail i)))
    (λ f. all_valid {l = unite_into l r} w (into-valid v (s r (Memᴰ.head refl)) f) (λ x i. s x (Memᴰ.tail i)))

pub all-keeps : {l : List Removal} (w : List Removal) → ValidWaiting l → SoundRemovals w → {c : List Dot} {key : ℕ} → Has l c key
    → Has (fold unite_into l (those remains w)) c key
unfolding fold sift
all-keeps [] v s k = k
all-keeps {l} (r ∷ w) v s {c} {key} k =
    step (λ m. Has m c key) l r w (λ t. all-keeps w v (λ x i. s x (Memᴰ.tail i)) k)
    (λ f. let h = s r (Memᴰ.head refl) in all-keeps {l = unite_into l r} w (into-valid v h f) (λ x i. s x (Memᴰ.tail i)) (into-keeps v h f k))

pub all-adds : {l : List Removal} (w : List Removal) → ValidWaiting l → SoundRemovals w → (x : Removal) → x ∈ w → is_empty (under_of x) ≡ false
    → {key : ℕ}
    → key ∈ listed_in x → Has (fold unite_into l (those remains w)) (under_of x) key
all-adds [] v s x i e k = absurd (Memᴰ.not-nil i)
all-adds {l} (r ∷ w) v s x i e {key} k =
    let h = s r (Memᴰ.head refl) in
    let g : SoundRemovals w = λ y j. s y (Memᴰ.tail j) in
    step (λ m. Has m (under_of x) key) l r w
    (λ t. ⊎_elim (λ (q : x ≡ r). absurd (both (is_empty (under_of r)) t (ap (λ y. is_empty (under_of y)) (sym q) ∙ e))) (λ j. all-adds w v g x j e k)
    (Memᴰ.cases_cons i))
    (λ f. ⊎_elim (λ (q : x ≡ r). all-keeps w (into-valid v h f) g (moved q (into-adds v h f (rw q at k))))
    (λ j. all-adds {l = unite_into l r} w (into-valid v h f) g x j e k) (Memᴰ.cases_cons i))
  where
    both : (b : Bool) → b ≡ true → b ≡ false → ⊥
    both b t f = apart (sym t ∙ f)

    moved : x ≡ r → {m : List Removal} → Has m (under_of r) key → Has m (under_of x) key
    moved q a = record { removal = a.removal; stands = a.stands; under = a.under ∙ ap under_of (sym q); lists = a.lists }

-- one of the list
pub record Source (w : List Removal) (c : List Dot) (key : ℕ) : Type 0 where
  pub removal : Removal
  pub stands : removal ∈ w
  pub some : is_empty (under_of removal) ≡ false
  pub under : under_of removal ≡ c
  pub lists : key ∈ listed_in removal

pub all-only : {l : List Removal} (w : List Removal) → ValidWaiting l → SoundRemovals w → {c : List Dot} {key : ℕ}
    → Has (fold unite_into l (those remains w)) c key → Has l c key ⊎ Source w c key
unfolding fold sift
all-only [] v s k = inl k
all-only {l} (r ∷ w) v s {c} {key} k₀ =
    let h = s r (Memᴰ.head refl) in
    let g : SoundRemovals w = λ y j. s y (Memᴰ.tail j) in
    step (λ m. Has m c key → Has l c key ⊎ Source (r ∷ w) c key) l r w
    (λ t k. ⊎_elim (λ a. inl a) (λ b. inr (more b)) (all-only w v g k))
    (λ f k. ⊎_elim (λ a. ⊎_elim (λ b. inl b) (λ b. inr (record { removal = r; stands = Memᴰ.head refl; some = f; under = b.0; lists = b.1 }))
    (into-only v h f a)) (λ b. inr (more b)) (all-only {l = unite_into l r} w (into-valid v h f) g k)) k₀
  where
    more : Source w c key → Source (r ∷ w) c key
    more b = record { removal = b.removal; stands = Memᴰ.tail b.stands; some = b.some; under = b.under; lists = b.lists }
