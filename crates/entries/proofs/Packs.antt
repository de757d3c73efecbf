-- Entries as packs of their lists.
use mathlib.Core.Path.{◌≡◌, refl}
use mathlib.Core.List.{[], List, ◌∷◌, ◌++◌}
use Prim.Native.Nat.{ℕ, ◌+◌, ◌<◌}
use lib.ListN.{length, set}
use Rattle.listlaws.proofs.Pads.{take-pad, push-pad, length-snoc}
use Rattle.clock.specs.declared.Dot.{Dot}
use Rattle.clock.specs.Dots.{clock_of}
use Rattle.clock.proofs.Packs.{dots-of}
use Rattle.register.specs.declared.Value.{Value}
use Rattle.register.specs.InHand.{wide_of}
use Rattle.register.proofs.Packs.{values-of}
use Rattle.entries.specs.declared.Entry.{Entry}
use Rattle.entries.specs.declared.Entries.{Entries}
use Rattle.entries.specs.declared.Update.{Update}
use Rattle.limits.specs.Limits.{entry_limit}
use Rattle.entries.specs.Model.{no_entry, dots_in, values_in, entry_as, entries_of, entries_as, LaidDown}
use Rattle.entries.specs.Steps.{wide_entry}
use Rattle.entries.specs.Entries.{put_entry, cut_alone, merge_both}

-- what the logic reads past the end of an array of entries
abbrev pub none_read : Entry
none_read = record { key = 0; clock = record { dots = []; len = 0 }; register = record { values = []; len = 0 } }

pub dots-in : (k : ℕ) (c : List Dot) (l : List Value) → dots_in (entry_as k c l) ≡ c
dots-in k c l = dots-of c refl

pub values-in : (k : ℕ) (c : List Dot) (l : List Value) → values_in (entry_as k c l) ≡ l
values-in k c l = values-of l refl

pub entries-of : (l : List Entry) → entries_of (entries_as l) ≡ l
entries-of l = take-pad no_entry entry_limit l

module _ (k : ℕ) (c : List Dot) (l : List Value) where
  -- an entry with room for more values, by its parts
  pub wide-as : wide_entry (entry_as k c l) ≡ record { key = k; clock = clock_of c; wide = wide_of l }
  wide-as = rw (values-in k c l)

  pub laid_as : LaidDown (entry_as k c l)
  laid_as = rw (dots-in k c l, values-in k c l)

-- one stored behind the last
pub entry-pushed : {e : Entries} (l : List Entry) (x : Entry) → e ≡ entries_as l → length l < entry_limit
    → ◌≡◌ {A = Entries} (record { items = set e.items e.len x; len = e.len + 1 }) (entries_as (l ++ (x ∷ [])))
entry-pushed l x e h = rw (e, push-pad no_entry entry_limit l x h, length-snoc l x)

pub laid-alone : (other : List Dot) (e : Entry) → LaidDown (cut_alone other e)
unfolding cut_alone
laid-alone other e = laid_as _ _ _

pub laid-together : (ours theirs : List Dot) (e f : Entry) → LaidDown (merge_both ours theirs e f)
unfolding merge_both
laid-together ours theirs e f = laid_as _ _ _

pub laid-put : (u : Update) (e : Entry) → LaidDown (put_entry u e)
unfolding put_entry
laid-put u e = laid_as _ _ _
