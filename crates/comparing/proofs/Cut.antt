-- The dots of a run that is cut out of an image.
use mathlib.Core.Path.{◌≡◌, ap, ◌∙◌}
use mathlib.Core.List.{List, map}
use Prim.Native.Nat.{ℕ, ◌*◌, ◌-◌}
use native.Mathlib.Omega.{arith}
use lib.ListN.{take, drop}
use Rattle.clock.specs.Dots.{dots_of}
use Rattle.register.specs.declared.Value.{Value}
use Rattle.records.proofs.Joined.{records-slice}
use Rattle.clockimage.specs.Image.{dot_of}
use Rattle.runs.specs.Run.{run_dots}
use Rattle.comparing.specs.Registers.{RunOf}

pub run-dots : {s : List ℕ} {from to : ℕ} {v : Value} → RunOf s from to v
    → run_dots (take (to * 16 - from * 16) (drop (from * 16) s)) ≡ dots_of v.clock
run-dots {s} {from} {to} r =
    let h = r.order in
    let k = r.within in
    ap (map dot_of) (records-slice s (from * 16) (to * 16 - from * 16) (to - from) (omega arith) (omega arith)) ∙ r.dots
