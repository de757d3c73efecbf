-- What a removal and a reset cut.
use Rattle.std.specs.Prelude.{Bool, cond, ◌||◌, List, ℕ}
use Rattle.clock.specs.declared.Dot.{Dot}
use Rattle.entries.specs.declared.Entry.{Entry}
use Rattle.removals.specs.Waits.{listed}
use Rattle.entries.specs.Entries.{cut_entry}

-- an entry cut where its key is listed, or all are; a reset cuts all, a removal those that it lists
abbrev pub cut_where : Bool → List ℕ → List Dot → Entry → Entry
cut_where all keys c e = cond (all || listed keys e.key) (cut_entry c e) e
