-- Laws of the dots in all entry clocks: what a removal and a reset leave of them, entry by entry, by the cut's own count.
use mathlib.Core.Path.{◌≡◌, refl, ap, ◌∙◌}
use mathlib.Core.Bool.{true, false, cond}
use mathlib.Core.List.{List, [], ◌∷◌}
use Prim.Native.Nat.{ℕ, ◌+◌, ◌-◌, ◌≤◌}
use native.Mathlib.Omega.{arith}
use borrow.Author.Tests.{eqb-true}
use lib.ListN.{length}
use Rattle.listlaws.specs.Sift.{sift}
use Rattle.listlaws.specs.Order.{◌∈◌}
use Rattle.clock.specs.declared.Dot.{Dot}
use Rattle.clock.specs.Dots.{is_empty, cut_dots, cut_of}
use Rattle.clock.proofs.Packs.{cut-deleted}
use Rattle.entries.specs.declared.Entry.{Entry}
use Rattle.removals.specs.declared.Removal.{Removal}
use Rattle.entries.specs.Model.{dots_in}
use Rattle.removals.specs.Model.{under_of, listed_in}
use Rattle.entries.specs.Entries.{stays, cut_entry, remove_from, remove_entries}
use Rattle.removals.specs.Waits.{listed}
use Rattle.entries.proofs.Packs.{entries-of}
use Rattle.entries.proofs.Cuts.{cut-dots}
use Rattle.map.specs.declared.Map.{Map}
use Rattle.map.specs.declared.Op.{Op}
use Rattle.map.specs.Model.{entries_in}
use Rattle.map.specs.Removing.{remove}
use Rattle.map.specs.Applying.{apply}
use Rattle.map.specs.Resetting.{reset}
use Rattle.scan.proofs.Eachs.{decide}
use Rattle.listlaws.specs.Fold.{total_of}
use Rattle.answers.proofs.Totals.{total-sum, total-same, total-none}
use Rattle.promises.specs.Deleted.{entry_dots, apply_deletes, reset_deletes}

abbrev dots_had : Entry → ℕ
dots_had e = length (dots_in e)

none_left : (e : Entry) → is_empty (dots_in e) ≡ true → dots_had e ≡ 0
unfolding is_empty
none_left e t = eqb-true (dots_had e) 0 t

module _ (change : Entry → Entry) where
  -- an entry that goes has no dots left to count
  total-stays : (l : List Entry) → total_of dots_had (sift stays change l) ≡ total_of (λ e. dots_had (change e)) l
  unfolding sift total_of
  total-stays [] = refl
  total-stays (e ∷ l) =
      let h = total-stays l in
      decide (is_empty (dots_in (change e))) (λ t. rw t (let z = none_left (change e) t in omega arith)) (λ f. rw f (omega arith))

  -- what is left and what is gone of each make up all
  module _ (gone : Entry → ℕ) (each : (e : Entry) → dots_had (change e) + gone e ≡ dots_had e) where
    left-and-gone : (l : List Entry) → total_of dots_had (sift stays change l) + total_of gone l ≡ total_of dots_had l
    left-and-gone l = ap (λ n. n + total_of gone l) (total-stays l) ∙ total-sum (λ e. dots_had (change e)) gone l ∙ total-same
        (λ e. dots_had (change e) + gone e) dots_had each l

-- what a clock's cut deletes from an entry's clock, and what a removal deletes: from those that it lists
abbrev pub cut_away : List Dot → Entry → ℕ
cut_away c e = (cut_of c (dots_in e)).deleted

abbrev pub removed_away : Removal → Entry → ℕ
removed_away r e = cond (listed (listed_in r) e.key) (cut_away (under_of r) e) 0

cut-each : (c : List Dot) (e : Entry) → dots_had (cut_entry c e) + cut_away c e ≡ dots_had e
cut-each c e = ap (λ d. length d + cut_away c e) (cut-dots c e) ∙ cut-deleted c (dots_in e) refl

removed-each : (r : Removal) (e : Entry) → dots_had (remove_from r e) + removed_away r e ≡ dots_had e
unfolding remove_from
removed-each r e = decide (listed (listed_in r) e.key) (λ t. rw t (cut-each (under_of r) e)) (λ f. rw f (omega arith))

-- "the total deleted from entry clocks": the cuts' counts, of each entry, are the dots before, less those after
pub removal-deletes : (m : Map) (r : Removal) → entry_dots (remove m r) + total_of (removed_away r) (entries_in m) ≡ entry_dots m
unfolding entry_dots remove remove_entries
removal-deletes m r =
    ap (λ l. total_of dots_had l + total_of (removed_away r) (entries_in m)) (entries-of (remove_entries r (entries_in m)))
    ∙ left-and-gone (remove_from r) (removed_away r) (removed-each r) (entries_in m)

pub reset-deletes : (m : Map) (c : List Dot) → entry_dots (reset m c) + total_of (cut_away c) (entries_in m) ≡ entry_dots m
unfolding entry_dots reset
reset-deletes m c =
    ap (λ l. total_of dots_had l + total_of (cut_away c) (entries_in m)) (entries-of (sift stays (cut_entry c) (entries_in m)))
    ∙ left-and-gone (cut_entry c) (cut_away c) (cut-each c) (entries_in m)

-- neither leaves more than there were
pub removal-leaves : (m : Map) (r : Removal) → entry_dots (remove m r) ≤ entry_dots m
removal-leaves m r = let e = removal-deletes m r in omega arith

pub reset-leaves : (m : Map) (c : List Dot) → entry_dots (reset m c) ≤ entry_dots m
reset-leaves m c = let e = reset-deletes m c in omega arith

-- an update deletes nothing that is counted
pub update-deletes : (m : Map) (op : Op) → op.up ≡ true → apply_deletes m op ≡ 0
unfolding apply_deletes
update-deletes m op t = rw t refl

-- a removal: what is left and what is counted make up all
module _ (m : Map) (op : Op) (f : op.up ≡ false) where
  removes : apply m op ≡ remove m op.removal
  unfolding apply
  removes = rw f refl

  counted : apply_deletes m op ≡ entry_dots m - entry_dots (apply m op)
  unfolding apply_deletes
  counted = rw f refl

  pub apply-deletes : entry_dots (apply m op) + apply_deletes m op ≡ entry_dots m
  apply-deletes = let e = removal-leaves m op.removal in let q = ap entry_dots removes in omega (arith, counted)

  -- and that is what its cuts delete
  pub apply-cuts : apply_deletes m op ≡ total_of (removed_away op.removal) (entries_in m)
  apply-cuts = let e = removal-deletes m op.removal in let q = ap entry_dots removes in omega (arith, counted)

  -- an end theorem: "a removal that only waits", one that has seen no dot of an entry that it lists
  pub only-waits : ((e : Entry) → e ∈ entries_in m → listed (listed_in op.removal) e.key ≡ true
      → cut_dots (under_of op.removal) (dots_in e) ≡ dots_in e) → apply_deletes m op ≡ 0
  only-waits h = apply-cuts ∙ total-none (removed_away op.removal) (entries_in m) none
    where
      none : (e : Entry) → e ∈ entries_in m → removed_away op.removal e ≡ 0
      none e i = decide (listed (listed_in op.removal) e.key) (λ t. rw t (let n = ap length (h e i t) in omega arith)) (λ q. rw q refl)

pub reset-counts : (m : Map) (c : List Dot) → entry_dots (reset m c) + reset_deletes m c ≡ entry_dots m
unfolding reset_deletes
reset-counts m c = let e = reset-leaves m c in omega arith

-- an end theorem, as `apply-cuts`: what is counted is what the cuts delete
pub reset-cuts : (m : Map) (c : List Dot) → reset_deletes m c ≡ total_of (cut_away c) (entries_in m)
unfolding reset_deletes
reset-cuts m c = let e = reset-deletes m c in omega arith
