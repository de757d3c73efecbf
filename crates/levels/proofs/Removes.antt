-- Two removals from a map trade places, once over the level: the heart of demand 3 with subtrees in place of values.
use mathlib.Core.Path.{◌≡◌, refl, ap, ap₂, sym, ◌∙◌}
use mathlib.Core.Bool.{Bool, true, false, not, cond}
use mathlib.Core.List.{List}
use Prim.Native.Nat.{ℕ, suc}
use borrow.Author.Tests.{not-false}
use Rattle.listlaws.specs.Sift.{sift}
use Rattle.listlaws.proofs.Twice.{sift-same, sift-sift}
use Rattle.clock.specs.Dots.{is_empty}
use Rattle.clock.proofs.Cuts.{cut-trade}
use Rattle.clock.proofs.Empties.{empty-cut}
use Rattle.removals.specs.declared.Removal.{Removal}
use Rattle.removals.specs.Model.{under_of, listed_in}
use Rattle.removals.specs.Waits.{listed, waits, unite_into}
use Rattle.removals.specs.Valid.{ValidRemoval}
use Rattle.levels.proofs.Trades.{unite-trade}
use Rattle.levels.specs.MapOver.{EntryOf, MapOf, entry_with, stays_of, cut_entry_of, remove_from_of, remove_of}
use Rattle.rules.specs.OneEntry.{Holds}
use Rattle.levels.specs.Level.{Val, rules_at}
use Rattle.levels.specs.Good.{GoodOver, GoodAt}
use Rattle.levels.specs.Laws.{CutLaws}
use Rattle.levels.proofs.Cuts.{cut_laws}

module _ {A O : Type 0} {r : Holds A O} {Good : A → Type 0} (laws : CutLaws r Good) where
  pub from-trade : (v w : Removal) (e : EntryOf A) → Good e.val → remove_from_of r v (remove_from_of r w e)
      ≡ remove_from_of r w (remove_from_of r v e)
  unfolding remove_from_of cut_entry_of
  from-trade v w e g = go (listed (listed_in v) e.key) (listed (listed_in w) e.key) refl refl
    where
      go : (a b : Bool) → listed (listed_in v) e.key ≡ a → listed (listed_in w) e.key ≡ b
          → remove_from_of r v (cond b (cut_entry_of r (under_of w) e) e) ≡ remove_from_of r w (cond a (cut_entry_of r (under_of v) e) e)
      go true true t u = rw (t, u) (ap₂ (entry_with e.key) (cut-trade (under_of v) (under_of w) e.dots) (laws.trade (under_of v) (under_of w) g))
      go true false t u = rw (t, u)
      go false true t u = rw (t, u)
      go false false t u = rw (t, u)

  from-gone : (v : Removal) (e : EntryOf A) → stays_of e ≡ false → stays_of (remove_from_of r v e) ≡ false
  unfolding remove_from_of cut_entry_of
  from-gone v e t = go (listed (listed_in v) e.key)
    where
      go : (b : Bool) → stays_of (cond b (cut_entry_of r (under_of v) e) e) ≡ false
      go true = ap not (empty-cut (under_of v) e.dots (not-false (is_empty e.dots) t))
      go false = t

  removes-twice : (v w : Removal) (l : List (EntryOf A)) → sift stays_of (remove_from_of r v) (sift stays_of (remove_from_of r w) l)
      ≡ sift stays_of (λ e. remove_from_of r v (remove_from_of r w e)) l
  removes-twice v w l = sift-sift stays_of (remove_from_of r w) (remove_from_of r v) l (λ e i t. from-gone v (remove_from_of r w e) t)

  pub remove-trade : {m : MapOf A} → GoodOver Good m → {v w : Removal} → ValidRemoval v → ValidRemoval w → remove_of r (remove_of r m v) w
      ≡ remove_of r (remove_of r m w) v
  unfolding remove_of
  remove-trade {m} g {v} {w} h k =
      let entries =
      removes-twice w v m.entries ∙ sift-same stays_of _ _ m.entries (λ e i. from-trade w v e (g.each e i).val)
      ∙ sym (removes-twice v w m.entries) in
      λ i. record { seen = m.seen; entries = entries i; waiting = held (waits m.seen v) (waits m.seen w) i }
    where
      held : (a b : Bool) → cond b (unite_into (cond a (unite_into m.waiting v) m.waiting) w) (cond a (unite_into m.waiting v) m.waiting)
          ≡ cond a (unite_into (cond b (unite_into m.waiting w) m.waiting) v) (cond b (unite_into m.waiting w) m.waiting)
      held true true = unite-trade m.waiting g.waiting.each h k
      held true false = refl
      held false true = refl
      held false false = refl

-- at every level
pub removes-trade : (n : ℕ) {m : Val (suc n)} → GoodAt (suc n) m → {v w : Removal} → ValidRemoval v → ValidRemoval w
    → remove_of (rules_at n) (remove_of (rules_at n) m v) w ≡ remove_of (rules_at n) (remove_of (rules_at n) m w) v
removes-trade n g h k = remove-trade (cut_laws n) g h k
