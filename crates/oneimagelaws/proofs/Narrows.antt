-- Lists of parts that fit their fields make an entry, and a map, that fits them.
use mathlib.Core.List.{List}
use Prim.Native.Nat.{ℕ, ◌<◌, ◌^◌}
use Rattle.listlaws.specs.Order.{◌∈◌}
use Rattle.clock.specs.declared.Dot.{Dot}
use Rattle.register.specs.declared.Value.{Value}
use Rattle.entries.specs.declared.Entry.{Entry}
use Rattle.removals.specs.declared.Removal.{Removal}
use Rattle.entries.specs.Model.{entry_as}
use Rattle.entries.proofs.Packs.{dots-in, values-in, entries-of}
use Rattle.removals.proofs.Packs.{waiting-of}
use Rattle.map.specs.Model.{map_as}
use Rattle.map.proofs.Kept.{seen_of}
use Rattle.oneimagelaws.specs.Narrow.{NarrowDots, NarrowValue, NarrowEntry, NarrowRemoval, Narrow}

pub narrow-as : (k : ℕ) (c : List Dot) (l : List Value) → k < 2 ^ 32 → NarrowDots c → ((v : Value) → v ∈ l → NarrowValue v)
    → NarrowEntry (entry_as k c l)
narrow-as k c l p f g = record { key = p; dots = rw (dots-in k c l) f; values = rw (values-in k c l) g }

pub narrow-map : (c : List Dot) (l : List Entry) (w : List Removal) → NarrowDots c → ((e : Entry) → e ∈ l → NarrowEntry e)
    → ((r : Removal) → r ∈ w → NarrowRemoval r) → Narrow (map_as c l w)
narrow-map c l w f g k = record { clock = rw (seen_of c l w) f; entries = rw (entries-of l) g; waiting = rw (waiting-of w) k }
