-- Demand 3 over the level: removals from the top map in any order, what they end in, and an update that trades places with one.
use mathlib.Core.Path.{◌≡◌, refl, ap, ap₂, sym, ◌∙◌}
use mathlib.Core.Bool.{not}
use mathlib.Core.List.Memᴰ
use mathlib.Core.List.{List}
use mathlib.Core.List.{Permᴰ}
use Prim.Native.Nat.{ℕ, suc}
use Rattle.listlaws.specs.Sift.{sift, those}
use Rattle.listlaws.specs.Fold.{fold}
use Rattle.listlaws.specs.Order.{◌∈◌}
use Rattle.listlaws.proofs.Perms.{perm_in}
use Rattle.listlaws.proofs.Those.{those-all}
use Rattle.listlaws.proofs.Twice.{sift-same}
use Rattle.removals.specs.declared.Removal.{Removal}
use Rattle.removals.specs.Waits.{waits, unite_into}
use Rattle.removals.specs.Valid.{ValidRemoval}
use Rattle.removals.proofs.ListingClocks.{sup_of, Clocked}
use Rattle.levels.specs.MapOver.{stays_of, cut_entry_of, remove_of, map_with}
use Rattle.levels.specs.Level.{Val, rules_at}
use Rattle.levels.specs.Good.{GoodAt}
use Rattle.levels.proofs.Cuts.{cut_laws}
use Rattle.levels.proofs.Closed.{runs, removes, removes-run}
use Rattle.levels.proofs.Merges.{run-closed}
use Rattle.levels.proofs.Removes.{removes-trade}
use Rattle.levels.proofs.Applies.{removal-good}

-- steps that trade places end alike in every order of a list
module _ {A S : Type 0} (step : S → A → S) (P : S → Type 0) (Q : A → Type 0) (keep : (s : S) (x : A) → P s → Q x → P (step s x))
    (trade : (s : S) (x y : A) → P s → Q x → Q y → step (step s x) y ≡ step (step s y) x) where
  fold-perm : {l m : List A} → Permᴰ l m → ((x : A) → x ∈ l → Q x) → (s : S) → P s → fold step s l ≡ fold step s m
  unfolding fold
  fold-perm Permᴰ.nil f s h = refl
  fold-perm (Permᴰ.cons {a = a} {b = b} {l₁ = l} {l₂ = m} e d) f s h =
      fold-perm d (λ x i. f x (Memᴰ.tail i)) (step s a) (keep s a h (f a (Memᴰ.head refl))) ∙ ap (λ x. fold step (step s x) m) e
  fold-perm (Permᴰ.swap {a = a} {b = b} {a' = c} {b' = d} {l = l} p q) f s h =
      ap (λ t. fold step t l) (trade s a b h (f a (Memᴰ.head refl)) (f b (Memᴰ.tail (Memᴰ.head refl)))
      ∙ ap₂ (λ x y. step (step s x) y) q p)
  fold-perm (Permᴰ.trans d e) f s h = fold-perm d f s h ∙ fold-perm e (λ x i. f x (perm_in d x i)) s h

-- "all end in the same map"
pub same_end : (n : ℕ) {ws vs : List Removal} → Permᴰ ws vs → ((w : Removal) → w ∈ ws → ValidRemoval w) → (m : Val (suc n)) → GoodAt (suc n) m
    → fold (remove_of (rules_at n)) m ws ≡ fold (remove_of (rules_at n)) m vs
same_end n d f m g =
    fold-perm (remove_of (rules_at n)) (GoodAt (suc n)) ValidRemoval (λ s w p q. removal-good n p q) (λ s v w p q u. removes-trade n p q u) d f m g

-- "each key loses exactly the dots at or below the largest counters among the clocks that list it", and its subtree is cut by these
pub end-closed : (n : ℕ) (ws : List Removal) → Clocked ws → (m : Val (suc n)) → GoodAt (suc n) m
    → fold (remove_of (rules_at n)) m ws ≡ map_with m.seen (sift stays_of (λ e. cut_entry_of (rules_at n) (sup_of ws e.key) e) m.entries)
    (fold unite_into m.waiting (those (waits m.seen) ws))
end-closed n ws f m g =
    removes (rules_at n) ws m.seen m.entries m.waiting
    ∙ ap (λ l. map_with m.seen l (fold unite_into m.waiting (those (waits m.seen) ws)))
    (ap (runs (rules_at n) ws) (sym (those-all stays_of m.entries (λ e i. ap not (g.each e i).some))) ∙ removes-run (rules_at n) ws m.entries
    ∙ sift-same stays_of _ _ m.entries (λ e i. run-closed (cut_laws n) ws f (record { clock = (g.each e i).clock; val = (g.each e i).val })))
