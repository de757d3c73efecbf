-- 01 "Map", what becomes of an entry, and of all entries in the order of their keys: crate rules, with registers held and entries laid into arrays.
use Rattle.std.specs.Prelude.{Bool, ℕ}
use mathlib.Core.List.{List, [], flatten}
use Rattle.listlaws.specs.Sift.{sift}
use Rattle.listlaws.specs.Fold.{fold}
use Rattle.clock.specs.declared.Dot.{Dot}
use Rattle.register.specs.declared.Value.{Value}
use Rattle.register.specs.Values.{put_values, cut_values, merge_values}
use Rattle.removals.specs.declared.Removal.{Removal}
use Rattle.rules.specs.OneEntry.{Holds, Stored, stays_by, cut_entry_by, put_entry_by, entry_at_by, cut_alone_by, merge_both_by}
use Rattle.rules.specs.AllEntries.{remove_from_by, aside_by, put_entries_by, alone_by, together_by, weave_by}
unfoldable pub use Rattle.rules.specs.OneEntry.{keep_dots}
use Rattle.entries.specs.declared.Entry.{Entry}
use Rattle.entries.specs.declared.Update.{Update}
use Rattle.entries.specs.Model.{dots_in, values_in, entry_as}

-- an entry holds a register
abbrev pub registers : Holds (List Value) Value
registers = record { none = []; cut = cut_values; merge = merge_values; apply = put_values }

abbrev pub packed : Stored (List Value) Entry
packed = record { key = λ e. e.key; dots = dots_in; val = values_in; entry = entry_as }

-- one entry
abbrev pub stays : Entry → Bool
stays e = stays_by packed e

unfoldable pub cut_entry : List Dot → Entry → Entry
cut_entry c e = cut_entry_by packed registers c e

unfoldable pub put_entry : Update → Entry → Entry
put_entry u e = put_entry_by packed registers u.dot u.put e

unfoldable pub entry_at : ℕ → List Entry → Entry
entry_at k l = entry_at_by packed registers k l

unfoldable pub cut_alone : List Dot → Entry → Entry
cut_alone other e = cut_alone_by packed registers other e

unfoldable pub merge_both : List Dot → List Dot → Entry → Entry → Entry
merge_both ours theirs e f = merge_both_by packed registers ours theirs e f

-- all entries
unfoldable pub remove_from : Removal → Entry → Entry
remove_from r e = remove_from_by packed cut_entry r e

unfoldable pub remove_entries : Removal → List Entry → List Entry
remove_entries r l = sift stays (remove_from r) l

-- one removal after the other
abbrev pub run : List Removal → Entry → Entry
run l e = fold (λ x r. remove_from r x) e l

abbrev pub aside : Bool → ℕ → Entry → Bool
aside below k e = aside_by packed below k e

unfoldable pub put_entries : Update → List Entry → List Entry
put_entries u l = put_entries_by packed (put_entry u) entry_at u.key l

unfoldable pub alone : List Dot → Entry → List Entry
alone other e = alone_by packed cut_alone other e

unfoldable pub together : List Dot → List Dot → Entry → Entry → List Entry
together ours theirs e f = together_by packed merge_both ours theirs e f

abbrev pub weave_entries : List Dot → List Dot → List Entry → List Entry → List (List Entry)
weave_entries ours theirs l m = weave_by packed alone together ours theirs l m

unfoldable pub merge_entries : List Dot → List Dot → List Entry → List Entry → List Entry
merge_entries ours theirs l m = flatten (weave_entries ours theirs l m)
