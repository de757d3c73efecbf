-- Room for one more entry, and for one more waiting removal, that a loop builds in place.
use mathlib.Core.Path.{◌≡◌, ap, ◌∙◌}
use mathlib.Core.List.{List}
use Prim.Native.Nat.{◌<◌}
use native.Mathlib.Omega.{arith}
use lib.ListN.{length}
use Rattle.listlaws.proofs.Pads.{length-pad}
use Rattle.entries.specs.declared.Entry.{Entry}
use Rattle.entries.specs.declared.Entries.{Entries}
use Rattle.removals.specs.declared.Removal.{Removal}
use Rattle.removals.specs.declared.Waiting.{Waiting}
use Rattle.limits.specs.Limits.{entry_limit, waiting_limit}
use Rattle.entries.specs.Model.{no_entry, entries_as}
use Rattle.removals.specs.Model.{no_removal, waiting_as}

pub entry-room : {e : Entries} (l : List Entry) → e ≡ entries_as l → length l < entry_limit → (e.len < entry_limit) × (length e.items ≡ entry_limit)
entry-room l e h =
    (omega (arith, ap (λ (x : Entries). x.len) e), ap (λ (x : Entries). length x.items) e ∙ length-pad no_entry entry_limit l (omega arith))

pub removal-room : {w : Waiting} (l : List Removal) → w ≡ waiting_as l → length l < waiting_limit → (w.len < waiting_limit)
    × (length w.items ≡ waiting_limit)
removal-room l e h =
    (omega (arith, ap (λ (x : Waiting). x.len) e), ap (λ (x : Waiting). length x.items) e ∙ length-pad no_removal waiting_limit l (omega arith))
