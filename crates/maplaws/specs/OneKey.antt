-- 01: "After a removal, a key's entry depends only on that key's old entry, the clock, and whether it was listed."
use Rattle.std.specs.Prelude.{◌≡◌, List, ℕ, eqb}
use Rattle.listlaws.specs.Sift.{those}
use Rattle.entries.specs.declared.Entry.{Entry}
use Rattle.removals.specs.declared.Removal.{Removal}
use Rattle.removals.specs.Model.{under_of, listed_in}
use Rattle.removals.specs.Waits.{listed}
use Rattle.map.specs.declared.Map.{Map}
use Rattle.map.specs.Model.{entries_in}
use Rattle.map.specs.Removing.{remove}

-- a key's entry: one, or none
abbrev pub entry_of : ℕ → Map → List Entry
entry_of k m = those (λ e. eqb e.key k) (entries_in m)

-- two maps and two removals that agree on these three give the key the same entry, or none in both
abbrev pub DependsOnly : Type 0
DependsOnly =
    (m n : Map) (r s : Removal) (k : ℕ) → entry_of k m ≡ entry_of k n → under_of r ≡ under_of s
    → listed (listed_in r) k ≡ listed (listed_in s) k
    → entry_of k (remove m r) ≡ entry_of k (remove n s)
