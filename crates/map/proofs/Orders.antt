-- What a list of removals makes of a map (`removes-closed`): each key loses exactly the dots at or below the largest counters among the
-- clocks that list it.
use mathlib.Core.Path.{◌≡◌, ap, sym, ◌∙◌}
use mathlib.Core.List.{List}
use Rattle.listlaws.specs.Fold.{fold}
use Rattle.listlaws.specs.Sift.{sift, those}
use Rattle.listlaws.proofs.Twice.{sift-same}
use Rattle.removals.specs.declared.Removal.{Removal}
use Rattle.entries.specs.Entries.{stays, cut_entry}
use Rattle.removals.specs.Waits.{waits, unite_into}
use Rattle.entries.proofs.Cuts.{whole-valid}
use Rattle.entries.proofs.Runs.{runs, run-closed, removes-run}
use Rattle.removals.proofs.ListingClocks.{sup_of, Clocked}
use Rattle.map.specs.declared.Map.{Map}
use Rattle.map.specs.Model.{seen_by, entries_in, waiting_in, map_as}
use Rattle.map.specs.Removing.{remove}
use Rattle.map.specs.Valid.{Valid}
use Rattle.map.proofs.Removals.{removes, entries-stay}

-- a run of removals on a valid map
pub removes-valid : {m : Map} → Valid m → (ws : List Removal) → fold remove m ws ≡ map_as (seen_by m) (runs ws (entries_in m))
    (fold unite_into (waiting_in m) (those (waits (seen_by m)) ws))
removes-valid {m} h ws = ap (λ x. fold remove x ws) h.laid ∙ removes ws (seen_by m) (entries_in m) (waiting_in m)

-- "each key loses exactly the dots at or below the largest counters among the clocks that list it"
pub removes-closed : {m : Map} {ws : List Removal} → Valid m → Clocked ws
    → fold remove m ws ≡ map_as (seen_by m) (sift stays (λ e. cut_entry (sup_of ws e.key) e) (entries_in m))
    (fold unite_into (waiting_in m) (those (waits (seen_by m)) ws))
removes-closed {m} {ws} h f =
    removes-valid h ws
    ∙ ap (λ l. map_as (seen_by m) l (fold unite_into (waiting_in m) (those (waits (seen_by m)) ws)))
    (ap (runs ws) (sym (entries-stay h)) ∙ removes-run ws (entries_in m)
    ∙ sift-same stays _ _ (entries_in m) (λ e i. run-closed ws f (whole-valid (h.entries.each e i))))
