-- How many dots a call deletes from entry clocks: CR 2, in its words.
use Rattle.std.specs.Prelude.{cond, List, ℕ, ◌-◌, length}
use Rattle.clock.specs.declared.Dot.{Dot}
use Rattle.clock.specs.Dots.{dots_of}
use Rattle.entries.specs.declared.Entry.{Entry}
use Rattle.entries.specs.Model.{dots_in}
use Rattle.map.specs.declared.Map.{Map}
use Rattle.map.specs.declared.Op.{Op}
use Rattle.map.specs.Model.{entries_in}
use Rattle.map.specs.Applying.{apply}
use Rattle.map.specs.Resetting.{reset}
use Rattle.clockimage.specs.ClockImage.{read_clock}
use Rattle.opimage.specs.OpImage.{read_op}
use Rattle.maprecords.specs.Related.{read_map}
use Rattle.listlaws.specs.Fold.{total_of}

-- "the dots in all entry clocks"
abbrev pub dots_among : List Entry → ℕ
dots_among l = total_of (λ e. length (dots_in e)) l

unfoldable pub entry_dots : Map → ℕ
entry_dots m = dots_among (entries_in m)

-- "Zero for an update (also where it sets off a waiting removal)"; of a removal "the dots in all entry clocks before, less those after"
unfoldable pub apply_deletes : Map → Op → ℕ
apply_deletes m op = cond op.up 0 (entry_dots m - entry_dots (apply m op))

-- the same of a reset
unfoldable pub reset_deletes : Map → List Dot → ℕ
reset_deletes m c = entry_dots m - entry_dots (reset m c)

-- of what images hold
abbrev pub apply_deleted : List ℕ → List ℕ → ℕ
apply_deleted map op = apply_deletes (read_map map).map (read_op op).op

abbrev pub reset_deleted : List ℕ → List ℕ → ℕ
reset_deleted map clock = reset_deletes (read_map map).map (dots_of (read_clock clock).clock)
