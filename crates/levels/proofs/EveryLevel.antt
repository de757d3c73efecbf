-- What holds at every level, gathered: n is the level of the values, so that the map itself stands at n + 1.
use mathlib.Core.Path.{◌≡◌}
use mathlib.Core.Bool.{false}
use mathlib.Core.List.{List, Permᴰ}
use Prim.Native.Nat.{ℕ, suc, ◌<◌}
use Rattle.listlaws.specs.Sift.{sift, those}
use Rattle.listlaws.specs.Fold.{fold}
use Rattle.listlaws.specs.Order.{◌∈◌}
use Rattle.clock.specs.declared.Dot.{Dot}
use Rattle.clock.specs.Dots.{counter_in, covers, join_dots}
use Rattle.removals.specs.declared.Removal.{Removal}
use Rattle.removals.specs.Model.{under_of, listed_in}
use Rattle.removals.specs.Waits.{listed, waits, unite_all, unite_into}
use Rattle.removals.specs.Valid.{ValidRemoval}
use Rattle.removals.proofs.ListingClocks.{sup_of, Clocked}
use Rattle.levels.specs.MapOver.{map_with, stays_of, cut_entry_of, remove_of, update_map_of, merge_of}
use Rattle.levels.specs.Level.{Val, Op, rules_at}
use Rattle.levels.specs.Good.{GoodAt, GoodOpAt}
use Rattle.levels.specs.Laws.{CutLaws, MergeLaws, ApplyLaws}
use Rattle.levels.proofs.Closed.{run}
use Rattle.levels.proofs.Leaves.{woven_of}
use Rattle.levels.proofs.Cuts.{cut_laws}
use Rattle.levels.proofs.Kept.{merge_laws, closed}
use Rattle.levels.proofs.Applies.{apply_laws}
use Rattle.levels.proofs.Removes.{removes-trade}
use Rattle.levels.proofs.Orders.{same_end, end-closed}
use Rattle.levels.proofs.Crossing.{update-trades}
use Rattle.levels.proofs.Uncovered.{merge-uncovered, update-uncovered}

pub record EveryLevel (n : ℕ) : Type 0 where
  -- two cuts trade places, two are one by both clocks joined; cuts, merges and operations keep validity
  pub cuts : CutLaws (rules_at n) (GoodAt n)
  pub merges : MergeLaws (rules_at n) (GoodAt n)
  pub applies : ApplyLaws (rules_at n) (GoodAt n) (GoodOpAt n)
  -- two removals trade places, and a list of them ends in the same map in every order
  pub trade : (m : Val (suc n)) → GoodAt (suc n) m → (v w : Removal) → ValidRemoval v → ValidRemoval w
      → remove_of (rules_at n) (remove_of (rules_at n) m v) w ≡ remove_of (rules_at n) (remove_of (rules_at n) m w) v
  pub any_order : (ws vs : List Removal) → Permᴰ ws vs → ((w : Removal) → w ∈ ws → ValidRemoval w) → (m : Val (suc n)) → GoodAt (suc n) m
      → fold (remove_of (rules_at n)) m ws ≡ fold (remove_of (rules_at n)) m vs
  -- each key loses the dots at or below the largest counters among the clocks that list it, and its subtree is cut by these
  pub end : (ws : List Removal) → Clocked ws → (m : Val (suc n)) → GoodAt (suc n) m
      → fold (remove_of (rules_at n)) m ws ≡ map_with m.seen (sift stays_of (λ e. cut_entry_of (rules_at n) (sup_of ws e.key) e) m.entries)
      (fold unite_into m.waiting (those (waits m.seen) ws))
  -- an update below another key, of any depth, trades places with a removal
  pub crossing : (m : Val (suc n)) → GoodAt (suc n) m → (d : Dot) → 0 < d.counter → (k : ℕ) (o : Op n) → GoodOpAt n o
      → (w : Removal) → ValidRemoval w → listed (listed_in w) k ≡ false
      → remove_of (rules_at n) (update_map_of (rules_at n) m d k o) w ≡ update_map_of (rules_at n) (remove_of (rules_at n) m w) d k o
  -- a merge: both maps' entries, each with their waiting removals and then ours; of what waits the joined clock lets go what it covers
  pub merge : (m k : Val (suc n)) → GoodAt (suc n) m → GoodAt (suc n) k
      → merge_of (rules_at n) m k ≡ map_with (join_dots m.seen k.seen)
      (sift stays_of (λ e. run (rules_at n) m.waiting (run (rules_at n) k.waiting e))
      (woven_of (rules_at n) m.seen k.seen m.entries k.entries))
      (unite_all (those (waits (join_dots m.seen k.seen)) m.waiting) (those (waits (join_dots m.seen k.seen)) k.waiting))
  -- no waiting removal is covered after a merge, or after an update that was not yet seen
  pub merged-uncovered : (m k : Val (suc n)) → GoodAt (suc n) m → GoodAt (suc n) k → (w : Removal)
      → w ∈ (merge_of (rules_at n) m k).waiting → covers (merge_of (rules_at n) m k).seen (under_of w) ≡ false
  pub updated-uncovered : (m : Val (suc n)) → GoodAt (suc n) m → (d : Dot) → 0 < d.counter → (k : ℕ) (o : Op n) → GoodOpAt n o
      → counter_in m.seen d.actor < d.counter → (w : Removal)
      → w ∈ (update_map_of (rules_at n) m d k o).waiting → covers (update_map_of (rules_at n) m d k o).seen (under_of w) ≡ false

-- the end theorem
pub every-level : (n : ℕ) → EveryLevel n
every-level n = record {
  cuts = cut_laws n;
  merges = merge_laws n;
  applies = apply_laws n;
  trade = λ m g v w h k. removes-trade n g h k;
  any_order = λ ws vs p f m g. same_end n p f m g;
  end = end-closed n;
  crossing = λ m g d p k o q w h t. update-trades n g d p k o q h t;
  merge = λ m k g h. closed (cut_laws n) (merge_laws n) g h;
  merged-uncovered = merge-uncovered n;
  updated-uncovered = update-uncovered n;
}
