-- What the code holds of entries on the way: one whose register may be over its limit, what a merge leaves of the next, and those that are finished.
use Rattle.std.specs.Prelude.{◌≡◌, Bool, false, not, ◌&&◌, ◌||◌, cond, List, [], ◌∷◌, ◌≤◌, ltb, length, Option, Some, None}
use Rattle.listlaws.specs.First.{some}
use Rattle.listlaws.specs.Pad.{pad}
use Rattle.clock.specs.declared.Dot.{Dot}
use Rattle.limits.specs.Limits.{dot_limit, value_limit, entry_limit}
use Rattle.clock.specs.Dots.{join_dots}
use Rattle.register.specs.InHand.{wide_values, wide_of, settled}
use Rattle.entries.specs.declared.Entry.{Entry}
use Rattle.entries.specs.declared.WideEntry.{WideEntry}
use Rattle.entries.specs.declared.LaidEntry.{LaidEntry}
use Rattle.entries.specs.declared.MergeStep.{MergeStep}
use Rattle.entries.specs.declared.FinishedEntries.{FinishedEntries}
use Rattle.entries.specs.Model.{dots_in, values_in, no_entry}
use Rattle.entries.specs.Entries.{alone, keep_dots, together}

-- an entry with room for more values
abbrev pub wide_entry : Entry → WideEntry
wide_entry e = record { key = e.key; clock = e.clock; wide = wide_of (values_in e) }

-- laid down again, or that it has too many values
abbrev pub laid_entry : WideEntry → LaidEntry
laid_entry h =
    let s = settled (wide_values h.wide) in
    record { over = s.over; entry = record { key = h.key; clock = h.clock; register = s.register } }

-- the clocks that a merge of two entries makes fit: what it keeps, and both joined
abbrev pub MergeFits : List Dot → List Dot → Entry → Entry → Type 0
MergeFits ours theirs e f = (length (keep_dots ours theirs (dots_in e) (dots_in f)) ≤ dot_limit)
    × (length (join_dots (dots_in e) (dots_in f)) ≤ dot_limit)

-- what a merge leaves of an entry: nothing, or one
abbrev pub survivor_of : List Entry → Option WideEntry
survivor_of [] = None
survivor_of (e ∷ l) = Some (wide_entry e)

-- what is left of the next of a merge, and how many it takes of each side, where a side may have no more
unfoldable pub merge_step : List Dot → List Dot → Bool → Bool → Entry → Entry → MergeStep
merge_step ours theirs a b x y =
    cond (a && (not b || ltb x.key y.key)) (record { survivor = survivor_of (alone theirs x); ours = 1; theirs = 0 })
    (cond (not a || ltb y.key x.key) (record { survivor = survivor_of (alone ours y); ours = 0; theirs = 1 })
    (record { survivor = survivor_of (together ours theirs x y); ours = 1; theirs = 1 }))

-- an entry with too many values
abbrev pub overfull : Entry → Bool
overfull e = ltb value_limit (length (values_in e))

-- finished entries: how many there are, whether one has too many values, and the entries where they are within both limits
pub record Finishes (l : List Entry) (f : FinishedEntries) : Type 0 where
  pub count : f.count ≡ length l
  pub wide : f.wide ≡ some overfull l
  pub items : length l ≤ entry_limit → some overfull l ≡ false → f.items ≡ pad no_entry entry_limit l
