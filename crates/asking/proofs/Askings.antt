-- Laws of what is asked of a map: the entry of a key, the first dot that is spent twice, and what reading a key keeps.
use mathlib.Core.Path.{◌≡◌, refl, ap, sym, ◌∙◌}
use mathlib.Core.Bool.{Bool, true, false, cond}
use mathlib.Core.List.Memᴰ
use mathlib.Core.List.{List, [], ◌∷◌}
use Prim.Native.Nat.{ℕ, ◌+◌, ◌≤◌, ◌<◌}
use lib.Dec.{eqb}
use lib.ListN.{length, drop, get_or}
use Rattle.listlaws.specs.First.{first_in}
use Rattle.listlaws.specs.Sift.{those}
use Rattle.listlaws.proofs.Orders.{apart}
use Rattle.listlaws.proofs.SliceRests.{drop-step, drop-end}
use Rattle.listlaws.proofs.Those.{those-means}
use Rattle.clock.specs.declared.Dot.{Dot}
use Rattle.entries.specs.declared.Entry.{Entry}
use Rattle.removals.specs.declared.Removal.{Removal}
use Rattle.entries.specs.Model.{dots_in, entry_as, entries_as}
use Rattle.removals.specs.Model.{waiting_as}
use Rattle.entries.specs.Entries.{entry_at}
use Rattle.entries.proofs.Packs.{dots-in, entries-of}
use Rattle.entries.proofs.EntriesValid
use Rattle.removals.proofs.WaitingValid.{valid-none}
use Rattle.map.specs.declared.Map.{Map}
use Rattle.asking.specs.declared.CvRDTValidation.{CvRDTValidation}
use Rattle.asking.specs.declared.CvRDTValidation.TheVariants.{Once, Twice}
use Rattle.map.specs.Model.{seen_by, entries_in, map_as}
use Rattle.map.specs.Valid.{Valid}
use Rattle.map.proofs.Kept.{valid-as}
use Rattle.map.proofs.Preserved.{Each}
use Rattle.asking.specs.Asking.{clock_at, or_else, is_twice, first_spent, read_key}

first-give : {A R : Type 0} (test : A → Bool) (give : A → R) (z : A) (l : List A) → give (first_in test (λ x. x) z l) ≡ first_in test give (give z) l
unfolding first_in
first-give test give z [] = refl
first-give test give z (x ∷ l) = go (test x) (first-give test give z l)
  where
    go : (b : Bool) → give (first_in test (λ y. y) z l) ≡ first_in test give (give z) l
        → give (cond b x (first_in test (λ y. y) z l)) ≡ cond b (give x) (first_in test give (give z) l)
    go true e = refl
    go false e = e

-- the clock of a key's entry
pub clock-at : (m : Map) (k : ℕ) → dots_in (entry_at k (entries_in m)) ≡ clock_at m k
unfolding entry_at clock_at
clock-at m k = first-give (λ e. eqb e.key k) dots_in (entry_as k [] []) (entries_in m)
    ∙ ap (λ z. first_in (λ e. eqb e.key k) dots_in z (entries_in m)) (dots-in k [] [])

pub or-this : (p q : CvRDTValidation) → is_twice p ≡ true → or_else p q ≡ p
or-this Once q t = apart (sym t)
or-this (Twice d k h) q t = refl

pub or-next : (p q : CvRDTValidation) → is_twice p ≡ false → or_else p q ≡ q
or-next Once q t = refl
or-next (Twice d k h) q t = apart t

-- i of the elements are passed, and nothing was spent twice there
pub record Searching {A : Type 0} (f : A → CvRDTValidation) (xs : List A) (i : ℕ) : Type 0 where
  pub left : first_spent f xs ≡ first_spent f (drop i xs)

module _ {A : Type 0} {f : A → CvRDTValidation} {xs : List A} where
  pub searching-start : Searching f xs 0
  searching-start = record { left = refl }

  module _ {i : ℕ} (d : A) (s : Searching f xs i) (h : i < length xs) where
    pub searching-here : {p : CvRDTValidation} → p ≡ f (get_or xs i d) → is_twice p ≡ true → p ≡ first_spent f xs
    unfolding first_spent
    searching-here {p} e t = sym (s.left ∙ rw (drop-step xs i d h, ← e) (or-this p _ t))

    pub searching-on : {p : CvRDTValidation} → p ≡ f (get_or xs i d) → is_twice p ≡ false → Searching f xs (i + 1)
    unfolding first_spent
    searching-on {p} e t = record { left = s.left ∙ rw (drop-step xs i d h, ← e) (or-next p _ t) }

  pub searching-end : {i : ℕ} → Searching f xs i → length xs ≤ i → Once ≡ first_spent f xs
  unfolding first_spent
  searching-end {i} s h = sym (s.left ∙ rw (drop-end xs i h))

-- reading a key keeps what holds of a map
pub valid-read : {m : Map} → Valid m → (k : ℕ) → Valid (read_key m k)
unfolding read_key
valid-read {m} v k =
    let l = those (λ e. eqb e.key k) (entries_in m) in
    let e : read_key m k ≡ map_as (seen_by m) l [] = λ i. record { clock = (v.laid i).clock; entries = entries_as l; waiting = waiting_as [] } in
    rw e (valid-as v.clock (EntriesValid.valid-those v.entries (λ e. eqb e.key k)) valid-none)

pub each_read : {C : List Dot → Type 0} {E : Entry → Type 0} {R : Removal → Type 0} {m : Map} → Each C E R m → (k : ℕ) → Each C E R (read_key m k)
unfolding read_key
each_read {C} {E} {R} {m} s k =
    let p : Entry → Bool = λ e. eqb e.key k in
    record {
      clock = s.clock;
      entries = λ e i. s.entries e (those-means p (entries_in m) (rw (entries-of (those p (entries_in m))) at i)).0;
      waiting = λ r i. absurd (Memᴰ.not-nil i);
    }
