-- The next key of a merge: what two images have of it where they lie, and what the merge keeps of its clocks.
use Rattle.std.specs.Prelude.{◌≡◌, List, ◌∷◌, ℕ, ◌+◌, ◌≤◌, ◌<◌, length}
use Rattle.listlaws.specs.Order.{◌∈◌, by}
use Rattle.listlaws.specs.Sift.{sift}
use Rattle.listlaws.specs.Weave.{weave}
use Rattle.clock.specs.declared.Dot.{Dot}
use Rattle.clock.specs.Dots.{clock_of, cut_dots}
use Rattle.clock.specs.Lawful.{Lawful}
use Rattle.register.specs.Values.{cut_values, merge_values}
use Rattle.entries.specs.declared.Entry.{Entry}
use Rattle.entries.specs.Model.{dots_in, values_in, entry_as}
use Rattle.entries.specs.Entries.{stays, run, cut_alone, merge_both, merge_entries}
use Rattle.map.specs.declared.Map.{Map}
use Rattle.map.specs.Model.{seen_by, entries_in, waiting_in}
use Rattle.walks.specs.declared.Layout.{Layout}
use Rattle.entrywalk.specs.declared.Cursor.{Cursor}
use Rattle.entrywalk.specs.Walking.{Ahead, LiesAt, Steps}
use Rattle.merging.specs.declared.Alone.{Alone}
use Rattle.merging.specs.declared.Coming.{Coming}

-- both maps' entries by key, each cut or merged, before any goes
abbrev pub woven : List Dot → List Dot → List Entry → List Entry → List Entry
woven mine yours l m = weave (by (λ e. e.key)) (cut_alone yours) (cut_alone mine) (merge_both mine yours) l m

-- the first of some entries, which the other map does not have
pub record GoesAlone (s : List ℕ) (l : Layout) (x : Cursor) (other : List Dot) (es : List Entry) (r : Alone) : Type 0 where
  pub steps : Steps s l x es r.entry
  pub keep : r.keep ≡ clock_of (cut_dots other (dots_in steps.entry))
  pub gone : r.gone ≡ clock_of (cut_dots (cut_dots other (dots_in steps.entry)) other)

-- what comes next of the entries of two maps, es and fs: an entry of each side, empty where that side has none of the key
pub record MergeComes (s t : List ℕ) (l m : Layout) (mine yours : List Dot) (x y : Cursor) (es fs : List Entry) (r : Coming) : Type 0 where
  pub ours : Entry
  pub theirs : Entry
  pub more : List Entry
  pub others : List Entry
  pub keep : List Dot
  pub gone : List Dot
  pub first : woven mine yours es fs ≡ entry_as r.x.key keep (cut_values gone (merge_values (values_in ours) (values_in theirs))) ∷ woven mine yours
      more others
  pub kept : r.keep ≡ clock_of keep
  pub lost : r.gone ≡ clock_of gone
  pub lawful : Lawful gone
  pub here : LiesAt s ours r.x
  pub there : LiesAt t theirs r.y
  pub level : theirs.key ≡ ours.key
  pub ahead : Ahead s l r.x.next more
  pub beside : Ahead t m r.y.next others
  pub inside : (e : Entry) → e ∈ more → e ∈ es
  pub within : (e : Entry) → e ∈ others → e ∈ fs
  pub above : (e : Entry) → e ∈ more → r.x.key < e.key
  pub over : (e : Entry) → e ∈ others → r.x.key < e.key
  pub least : (low : ℕ) → ((e : Entry) → e ∈ es → low ≤ e.key) → ((e : Entry) → e ∈ fs → low ≤ e.key) → low ≤ r.x.key
  pub onward : x.own ≤ r.x.next.own
  pub outward : y.own ≤ r.y.next.own
  pub some : x.own + y.own < r.x.next.own + r.y.next.own
  pub fewer : length more + length others < length es + length fs

-- the entries of a merge: both maps' entries as one, each with their waiting removals and then ours
abbrev pub merged_entries : Map → Map → List Entry
merged_entries m n = sift stays (λ e. run (waiting_in m) (run (waiting_in n) e)) (merge_entries (seen_by m) (seen_by n) (entries_in m) (entries_in n))
