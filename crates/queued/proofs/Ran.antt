-- A run of waiting removals on an entry: its clock and each value's clock cut by those that list its key.
use mathlib.Core.Path.{◌≡◌, refl, ap, ap₂, sym, ◌∙◌}
use mathlib.Core.Bool.{Bool, true, false, not, cond}
use mathlib.Core.List.{List, [], ◌∷◌}
use Prim.Native.Nat.{ℕ}
use borrow.Author.Tests.{not-false}
use Rattle.listlaws.specs.Fold.{fold}
use Rattle.listlaws.specs.Order.{◌∈◌}
use Rattle.listlaws.specs.Sift.{sift}
use Rattle.listlaws.proofs.Those.{those-all}
use Rattle.listlaws.proofs.Twice.{sift-same, sift-sift}
use Rattle.scan.proofs.Eachs.{decide}
use Rattle.clock.specs.declared.Dot.{Dot}
use Rattle.clock.specs.Dots.{dots_of, clock_of, is_empty, cut_dots}
use Rattle.clock.proofs.Packs.{dots-of}
use Rattle.clock.proofs.Empties.{empty-cut}
use Rattle.register.specs.declared.Value.{Value}
use Rattle.register.specs.Values.{alive, cut_value, cut_values}
use Rattle.register.proofs.Kept.{cut-each}
use Rattle.removals.specs.declared.Removal.{Removal}
use Rattle.entries.specs.Model.{entry_as}
use Rattle.removals.specs.Model.{under_of, listed_in}
use Rattle.entries.specs.Entries.{cut_entry, remove_from, run}
use Rattle.removals.specs.Waits.{listed}
use Rattle.entries.specs.Valid.{ValidValue}
use Rattle.entries.proofs.Packs.{dots-in, values-in}
use Rattle.entries.proofs.Cuts.{valid-cut-value}
use Rattle.queued.specs.Queue.{cuts_for}

-- a value under what is left of its clock
abbrev pub cut_for : List Removal → ℕ → Value → Value
cut_for w key v = record { clock = clock_of (cuts_for w key (dots_of v.clock)); value = v.value }

-- the first removal lists the key, or not
module _ (r : Removal) (w : List Removal) (key : ℕ) (x : List Dot) where
  cuts-yes : listed (listed_in r) key ≡ true → cuts_for (r ∷ w) key x ≡ cuts_for w key (cut_dots (under_of r) x)
  unfolding cuts_for fold
  cuts-yes t = rw t

  cuts-no : listed (listed_in r) key ≡ false → cuts_for (r ∷ w) key x ≡ cuts_for w key x
  unfolding cuts_for fold
  cuts-no t = rw t

-- what is empty stays empty
pub empty-cuts : (w : List Removal) (key : ℕ) (x : List Dot) → is_empty x ≡ true → is_empty (cuts_for w key x) ≡ true
unfolding cuts_for fold
empty-cuts [] key x t = t
empty-cuts (r ∷ w) key x t = empty-cuts w key _ (go (listed (listed_in r) key))
  where
    go : (b : Bool) → is_empty (cond b (cut_dots (under_of r) x) x) ≡ true
    go true = empty-cut (under_of r) x t
    go false = t

cut_as : (c : List Dot) (k : ℕ) (d : List Dot) (vs : List Value) → cut_entry c (entry_as k d vs) ≡ entry_as k (cut_dots c d) (cut_values c vs)
unfolding cut_entry
cut_as c k d vs = ap₂ (λ x l. entry_as k (cut_dots c x) (cut_values c l)) (dots-in k d vs) (values-in k d vs)

-- values cut twice
values-twice : (c : List Dot) (w : List Removal) (k : ℕ) (vs : List Value)
    → sift alive (cut_for w k) (cut_values c vs) ≡ sift alive (λ v. cut_for w k (cut_value c v)) vs
unfolding cut_values
values-twice c w k vs = sift-sift alive (cut_value c) (cut_for w k) vs (λ v i t. gone v t)
  where
    gone : (v : Value) → alive (cut_value c v) ≡ false → alive (cut_for w k (cut_value c v)) ≡ false
    gone v t = ap not (ap is_empty (dots-of (cuts_for w k (dots_of (cut_value c v).clock)) refl)
        ∙ empty-cuts w k (dots_of (cut_value c v).clock) (not-false _ t))

module _ (r : Removal) (k : ℕ) (d : List Dot) (vs : List Value) where
  remove-yes : listed (listed_in r) k ≡ true → remove_from r (entry_as k d vs) ≡ entry_as k (cut_dots (under_of r) d) (cut_values (under_of r) vs)
  unfolding remove_from
  remove-yes t = rw t (cut_as (under_of r) k d vs)

  remove-no : listed (listed_in r) k ≡ false → remove_from r (entry_as k d vs) ≡ entry_as k d vs
  unfolding remove_from
  remove-no t = rw t

pub run-listed : (w : List Removal) (k : ℕ) (d : List Dot) (vs : List Value) → ((v : Value) → v ∈ vs → ValidValue v)
    → run w (entry_as k d vs) ≡ entry_as k (cuts_for w k d) (sift alive (cut_for w k) vs)
unfolding fold
run-listed [] k d vs f =
    ap₂ (entry_as k) (nothing d) (sym (sift-same alive (cut_for [] k) (λ v. v) vs
    (λ v i. ap (λ x. record { clock = clock_of x; value = v.value }) (sym (nothing (dots_of v.clock))) ∙ sym (f v i).laid)
    ∙ those-all alive vs (λ v i. ap not (f v i).some)))
  where
    nothing : (x : List Dot) → x ≡ cuts_for [] k x
    nothing x = unfold cuts_for in refl
run-listed (r ∷ w) k d vs f =
    decide (listed (listed_in r) k) (λ t. yes t (run-listed w k (cut_dots (under_of r) d) (cut_values (under_of r) vs)
    (cut-each ValidValue (under_of r) vs (λ v i n. valid-cut-value (under_of r) v (f v i) n)))) (λ t. no t (run-listed w k d vs f))
  where
    dots : (v : Value) → dots_of (cut_value (under_of r) v).clock ≡ cut_dots (under_of r) (dots_of v.clock)
    dots v = dots-of (cut_dots (under_of r) (dots_of v.clock)) refl

    yes : listed (listed_in r) k ≡ true → run w (entry_as k (cut_dots (under_of r) d) (cut_values (under_of r) vs)) ≡ entry_as k
        (cuts_for w k (cut_dots (under_of r) d)) (sift alive (cut_for w k) (cut_values (under_of r) vs))
        → run (r ∷ w) (entry_as k d vs) ≡ entry_as k (cuts_for (r ∷ w) k d) (sift alive (cut_for (r ∷ w) k) vs)
    yes t again =
        ap (run w) (remove-yes r k d vs t) ∙ again
        ∙ ap₂ (entry_as k) (sym (cuts-yes r w k d t))
        (values-twice (under_of r) w k vs
        ∙ sift-same alive _ _ vs (λ v i. ap (λ x. record { clock = clock_of x; value = v.value })
        (ap (cuts_for w k) (dots v) ∙ sym (cuts-yes r w k (dots_of v.clock) t))))

    no : listed (listed_in r) k ≡ false → run w (entry_as k d vs) ≡ entry_as k (cuts_for w k d) (sift alive (cut_for w k) vs)
        → run (r ∷ w) (entry_as k d vs) ≡ entry_as k (cuts_for (r ∷ w) k d) (sift alive (cut_for (r ∷ w) k) vs)
    no t again =
        ap (run w) (remove-no r k d vs t) ∙ again
        ∙ ap₂ (entry_as k) (sym (cuts-no r w k d t))
        (sift-same alive _ _ vs (λ v i. ap (λ x. record { clock = clock_of x; value = v.value }) (sym (cuts-no r w k (dots_of v.clock) t))))
