-- What a reader of a map's image holds with one record more.
use mathlib.Core.Path.{◌≡◌}
use mathlib.Core.Bool.{Bool, true, not}
use mathlib.Core.List.{List, [], ◌∷◌, ◌++◌}
use Prim.Native.Nat.{ℕ}
use Rattle.entries.specs.declared.Entry.{Entry}
use Rattle.removals.specs.declared.Removal.{Removal}
use Rattle.records.specs.declared.Record.{Record}
use Rattle.scan.specs.declared.Scan.{Scan}
use Rattle.scan.specs.Each.{each}
use Rattle.scan.specs.Scanned.{Scanned, CountedUnder}
use Rattle.maprecords.specs.Reading.{entries_for, waiting_count, waiting_for}
use Rattle.maprecords.specs.Related.{entry_fits, waiting_fits, finds_place}
use Rattle.maprecords.specs.SoFar.{ReaderState, MapParts}

-- the entries with r, or that r does not find what it needs
pub record EntriesNow (l : List Record) (r : Record) (none : Bool) (entries : List Entry) : Type 0 where
  pub lost : none ≡ not (entry_fits (entries_for l) r)
  pub held : entry_fits (entries_for l) r ≡ true → entries ≡ entries_for (l ++ (r ∷ []))

-- and so the waiting removals
pub record WaitingNow (l : List Record) (r : Record) (none : Bool) (waiting : List Removal) : Type 0 where
  pub lost : none ≡ not (waiting_fits (waiting_count l) r)
  pub held : waiting_fits (waiting_count l) r ≡ true → waiting ≡ waiting_for (l ++ (r ∷ []))

-- a reader that holds the map of l, and a scan of l with r in which nothing is wrong
pub record Growable (l : List Record) (s : ReaderState) (scan : Scan) (next : List ℕ) (r : Record) : Type 0 where
  pub scanned : Scanned 1 6 (l ++ (r ∷ [])) scan
  pub under : CountedUnder (l ++ (r ∷ [])) next
  pub good : scan.number ≡ 0
  pub placed : each finds_place l ≡ true
  pub parts : MapParts l s
