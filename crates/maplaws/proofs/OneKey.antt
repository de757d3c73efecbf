-- After a removal, a key's entry depends only on that key's old entry, the clock, and whether it was listed.
use mathlib.Core.Path.{◌≡◌, refl, ap, sym, ◌∙◌}
use mathlib.Core.Bool.{Bool, true, false, cond}
use mathlib.Core.List.{List, [], ◌∷◌}
use Prim.Native.Nat.{ℕ}
use borrow.Author.Tests.{eqb-true}
use lib.Dec.{eqb}
use Rattle.listlaws.specs.Sift.{sift, those}
use Rattle.listlaws.proofs.Those.{those-means}
use Rattle.listlaws.proofs.Twice.{sift-same}
use Rattle.removals.specs.declared.Removal.{Removal}
use Rattle.removals.specs.Model.{under_of, listed_in}
use Rattle.entries.specs.Entries.{stays, cut_entry, remove_from, remove_entries}
use Rattle.removals.specs.Waits.{listed}
use Rattle.entries.proofs.Packs.{entries-of}
use Rattle.entries.proofs.Runs.{from_key}
use Rattle.map.specs.declared.Map.{Map}
use Rattle.map.specs.Model.{entries_in}
use Rattle.map.specs.Removing.{remove}
use Rattle.maplaws.specs.OneKey.{entry_of, DependsOnly}

-- a test that a change does not disturb may come before it
pub those-first : {A : Type 0} (p keep : A → Bool) (f : A → A) (l : List A) → ((x : A) → p (f x) ≡ p x)
    → those p (sift keep f l) ≡ sift keep f (those p l)
unfolding sift
those-first p keep f [] g = refl
those-first p keep f (x ∷ l) g = go (keep (f x)) refl (p x) refl (those-first p keep f l g)
  where
    go : (b : Bool) → keep (f x) ≡ b → (c : Bool) → p x ≡ c → those p (sift keep f l) ≡ sift keep f (those p l)
        → those p (cond b (f x ∷ sift keep f l) (sift keep f l)) ≡ sift keep f (cond c (x ∷ those p l) (those p l))
    go true s true t e = rw (g x, t, s) (ap (λ u. f x ∷ u) e)
    go true s false t e = rw (g x, t) e
    go false s true t e = rw s e
    go false s false t e = e

-- what a removal makes of the key's old entry
removed : (m : Map) (r : Removal) (k : ℕ) → entry_of k (remove m r) ≡ sift stays (remove_from r) (entry_of k m)
unfolding remove remove_entries
removed m r k =
    ap (those (λ e. eqb e.key k)) (entries-of (remove_entries r (entries_in m)))
    ∙ those-first (λ e. eqb e.key k) stays (remove_from r) (entries_in m) (λ e. ap (λ h. eqb h k) (from_key r e))

-- by the clock, and whether the key was listed
by_both : (m : Map) (r : Removal) (k : ℕ) → sift stays (remove_from r) (entry_of k m) ≡ sift stays
    (λ e. cond (listed (listed_in r) k) (cut_entry (under_of r) e) e) (entry_of k m)
unfolding remove_from
by_both m r k =
    sift-same stays _ _ (entry_of k m) (λ e i. ap (λ h. cond (listed (listed_in r) h) (cut_entry (under_of r) e) e)
    (eqb-true e.key k (those-means (λ x. eqb x.key k) (entries_in m) i).1))

-- an end theorem: the sentence of 01
pub depends-only : DependsOnly
depends-only m n r s k old clock whether =
    removed m r k ∙ by_both m r k
    ∙ (λ i. sift stays (λ e. cond (whether i) (cut_entry (clock i) e) e) (old i))
    ∙ sym (removed n s k ∙ by_both n s k)
