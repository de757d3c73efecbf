-- The clocks of a map and of a removal where they lie, which tell whether the removal waits.
use mathlib.Core.Path.{◌≡◌, refl, ap, sym, ◌∙◌}
use mathlib.Core.List.{List, map}
use Prim.Native.Nat.{ℕ, ◌+◌, ◌*◌, ◌/◌, ◌≤◌}
use native.Mathlib.Omega.{arith}
use lib.ListN.{length}
use Rattle.removals.specs.declared.Removal.{Removal}
use Rattle.removals.specs.Model.{under_of}
use Rattle.map.specs.declared.Map.{Map}
use Rattle.map.specs.Model.{seen_by}
use Rattle.clockimage.specs.Image.{dot_of}
use Rattle.clockimage.proofs.RoundTrip.{dots-back}
use Rattle.runs.specs.Run.{run_dots}
use Rattle.walks.specs.declared.Layout.{Layout}
use Rattle.walks.proofs.Loops.{slice-part, sections-end}
use Rattle.layout.specs.Whole.{Lies}
use Rattle.walks.specs.Walk.{between}
use Rattle.drafting.specs.Drafted.{RemovalLies}
use Rattle.drafting.proofs.Results.{removal-keys, removal-dots}

-- the first records of a map's image are its clock
pub seen-run : {s : List ℕ} {m : Map} {l : Layout} → Lies s m l → run_dots (between s 0 l.second) ≡ seen_by m
seen-run {s} {m} {l} h =
    ap (map dot_of) (slice-part s 0 l.second (omega arith) (sections-end h.places).second ∙ sym h.sections.first)
    ∙ dots-back 1 0 0 (seen_by m)

-- the records behind a removal's head are its own
module _ {s : List ℕ} {n : ℕ} {r : Removal} (h : RemovalLies s n r) where
  pub under-room : (1 + n) * 16 ≤ length s
  under-room = let k = (removal-keys s r n (length s / 16) h.records h.count refl).0 in omega arith

  pub under-run : run_dots (between s 1 (1 + n)) ≡ under_of r
  under-run = ap (map dot_of) (slice-part s 1 (1 + n) (omega arith) under-room) ∙ removal-dots s r n (length s / 16) h.records h.count refl
