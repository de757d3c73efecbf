-- What a reader of a map's image holds after some records.
use Rattle.std.specs.Prelude.{◌≡◌, Bool, true, not, ◌&&◌, List, ℕ}
use Rattle.clock.specs.declared.Dot.{Dot}
use Rattle.entries.specs.declared.Entry.{Entry}
use Rattle.removals.specs.declared.Removal.{Removal}
use Rattle.records.specs.declared.Record.{Record}
use Rattle.records.specs.Kinds.{clock_dot_kind, waiting_key_kind}
use Rattle.scan.specs.declared.Scan.{Scan}
use Rattle.scan.specs.Each.{every, each}
use Rattle.scan.specs.Scanned.{Scanned, CountedUnder}
use Rattle.clockimage.specs.ClockImage.{clock_in}
use Rattle.maprecords.specs.Reading.{entries_for, waiting_for}
use Rattle.maprecords.specs.Related.{finds_place, entry_whole, ascend}

-- what was scanned, how many waiting keys each index has, whether a record did not find what it needs, and the parts of the map
pub record ReaderState : Type 0 where
  pub scan : Scan
  pub under : List ℕ
  pub lost : Bool
  pub clock : List Dot
  pub entries : List Entry
  pub waiting : List Removal

-- the parts of the map that the records stand for
pub record MapParts (l : List Record) (s : ReaderState) : Type 0 where
  pub clock : s.clock ≡ clock_in l
  pub entries : s.entries ≡ entries_for l
  pub waiting : s.waiting ≡ waiting_for l

-- as long as nothing is wrong by itself and each record found what it needs, the parts are those of the map
pub record MapSoFar (l : List Record) (s : ReaderState) : Type 0 where
  pub scanned : Scanned clock_dot_kind waiting_key_kind l s.scan
  pub under : s.scan.number ≡ 0 → CountedUnder l s.under
  pub lost : s.scan.number ≡ 0 → s.lost ≡ not (each finds_place l)
  pub parts : s.scan.number ≡ 0 → each finds_place l ≡ true → MapParts l s

-- whether the records are related, asked of the parts
abbrev pub related_so_far : ReaderState → Bool
related_so_far s = not s.lost && (every (entry_whole s.clock) s.entries && ascend s.waiting)
