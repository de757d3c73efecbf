-- Sets of keys, removals and those that wait as lists, and the limits on each.
use Rattle.std.specs.Prelude.{List, [], ℕ, length, take}
use Rattle.listlaws.specs.Pad.{pad}
use Rattle.clock.specs.declared.Dot.{Dot}
use Rattle.clock.specs.Dots.{dots_of, clock_of}
use Rattle.removals.specs.declared.Keys.{Keys}
use Rattle.removals.specs.declared.Removal.{Removal}
use Rattle.removals.specs.declared.Waiting.{Waiting}
use Rattle.limits.specs.Limits.{waiting_limit, key_limit}

-- a set of keys, ascending
abbrev pub keys_of : Keys → List ℕ
keys_of k = take k.len k.items

abbrev pub keys_as : List ℕ → Keys
keys_as l = record { items = pad 0 key_limit l; len = length l }

-- a removal of keys under a clock
abbrev pub under_of : Removal → List Dot
under_of r = dots_of r.clock

abbrev pub listed_in : Removal → List ℕ
listed_in r = keys_of r.keys

abbrev pub removal_as : List Dot → List ℕ → Removal
removal_as c k = record { clock = clock_of c; keys = keys_as k }

abbrev pub no_removal : Removal
no_removal = removal_as [] []

abbrev pub waiting_of : Waiting → List Removal
waiting_of w = take w.len w.items

abbrev pub waiting_as : List Removal → Waiting
waiting_as l = record { items = pad no_removal waiting_limit l; len = length l }
