-- 01 "Map" over values of any kind, on plain lists: crate rules, with nothing packed. And a map as a value again.
use Rattle.std.specs.Prelude.{Bool, ℕ}
use mathlib.Core.List.{List, [], flatten}
use Rattle.listlaws.specs.Sift.{sift}
use Rattle.clock.specs.declared.Dot.{Dot}
use Rattle.removals.specs.declared.Removal.{Removal}
use Rattle.rules.specs.OneEntry.{Holds, Stored, stays_by, cut_entry_by, put_entry_by, entry_at_by, cut_alone_by, merge_both_by}
use Rattle.rules.specs.AllEntries.{remove_from_by, put_entries_by, alone_by, together_by, weave_by}
use Rattle.rules.specs.WholeMap.{StoredMap, remove_by, afresh_by, update_by, merge_by, reset_by}

-- "an entry's value is a register at the lowest level, else another map with its own clock and waiting removals"
pub record EntryOf (A : Type 0) : Type 0 where
  pub key : ℕ
  pub dots : List Dot
  pub val : A

pub record MapOf (A : Type 0) : Type 0 where
  pub seen : List Dot
  pub entries : List (EntryOf A)
  pub waiting : List Removal

-- an operation on a map whose values take operations O: the Rust's `Op`
pub data OpOf (O : Type 0) : Type 0 where
  up : Dot → ℕ → O → OpOf O
  rm : Removal → OpOf O

abbrev pub entry_with : {A : Type 0} → ℕ → List Dot → A → EntryOf A
entry_with k c v = record { key = k; dots = c; val = v }

abbrev pub map_with : {A : Type 0} → List Dot → List (EntryOf A) → List Removal → MapOf A
map_with c l w = record { seen = c; entries = l; waiting = w }

abbrev pub plain : (A : Type 0) → Stored A (EntryOf A)
plain A = record { key = λ e. e.key; dots = λ e. e.dots; val = λ e. e.val; entry = entry_with }

abbrev pub plain_map : (A : Type 0) → StoredMap (EntryOf A) (List Dot) (List (EntryOf A)) (List Removal) (MapOf A)
plain_map A = record {
  clock = λ m. m.seen;
  entries = λ m. m.entries;
  waiting = λ m. m.waiting;
  whole = map_with;
  dots_out = λ c. c;
  dots_in = λ c. c;
  entries_out = λ l. l;
  entries_in = λ l. l;
  waiting_out = λ w. w;
  waiting_in = λ w. w;
}

abbrev pub stays_of : {A : Type 0} → EntryOf A → Bool
stays_of {A} e = stays_by (plain A) e

module _ {A O : Type 0} (r : Holds A O) where
  unfoldable pub cut_entry_of : List Dot → EntryOf A → EntryOf A
  cut_entry_of c e = cut_entry_by (plain A) r c e

  abbrev pub put_entry_of : Dot → O → EntryOf A → EntryOf A
  put_entry_of d o e = put_entry_by (plain A) r d o e

  unfoldable pub entry_at_of : ℕ → List (EntryOf A) → EntryOf A
  entry_at_of k l = entry_at_by (plain A) r k l

  unfoldable pub cut_alone_of : List Dot → EntryOf A → EntryOf A
  cut_alone_of other e = cut_alone_by (plain A) r other e

  unfoldable pub merge_both_of : List Dot → List Dot → EntryOf A → EntryOf A → EntryOf A
  merge_both_of ours theirs e f = merge_both_by (plain A) r ours theirs e f

  unfoldable pub remove_from_of : Removal → EntryOf A → EntryOf A
  remove_from_of w e = remove_from_by (plain A) cut_entry_of w e

  unfoldable pub put_entries_of : Dot → ℕ → O → List (EntryOf A) → List (EntryOf A)
  put_entries_of d k o l = put_entries_by (plain A) (put_entry_of d o) entry_at_of k l

  unfoldable pub alone_of : List Dot → EntryOf A → List (EntryOf A)
  alone_of other e = alone_by (plain A) cut_alone_of other e

  unfoldable pub together_of : List Dot → List Dot → EntryOf A → EntryOf A → List (EntryOf A)
  together_of ours theirs e f = together_by (plain A) merge_both_of ours theirs e f

  unfoldable pub merge_entries_of : List Dot → List Dot → List (EntryOf A) → List (EntryOf A) → List (EntryOf A)
  merge_entries_of ours theirs l m = flatten (weave_by (plain A) alone_of together_of ours theirs l m)

  unfoldable pub remove_of : MapOf A → Removal → MapOf A
  remove_of m w = remove_by (plain_map A) (λ x l. sift stays_of (remove_from_of x) l) m w

  unfoldable pub afresh_of : MapOf A → MapOf A
  afresh_of m = afresh_by (plain_map A) remove_of m

  -- "each map above that put or removal takes the dot", unless it has seen it
  unfoldable pub update_map_of : MapOf A → Dot → ℕ → O → MapOf A
  update_map_of m d k o = update_by (plain_map A) afresh_of (put_entries_of d k o) m d

  abbrev pub apply_of : MapOf A → OpOf O → MapOf A
  apply_of m (up d k o) = update_map_of m d k o
  apply_of m (rm w) = remove_of m w

  unfoldable pub merge_of : MapOf A → MapOf A → MapOf A
  merge_of m n = merge_by (plain_map A) remove_of afresh_of merge_entries_of m n

  unfoldable pub reset_of : List Dot → MapOf A → MapOf A
  reset_of c m = reset_by (plain_map A) (λ by l. sift stays_of (cut_entry_of by) l) m c

  -- "a value that is a map is handled as a map again, one level lower"
  unfoldable pub map_rules : Holds (MapOf A) (OpOf O)
  map_rules = record { none = map_with [] [] []; cut = reset_of; merge = merge_of; apply = apply_of }
