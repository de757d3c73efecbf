-- `Sums::with` meets its contract.
use mathlib.Core.Path.{refl}
use native.Mathlib.Omega.{arith}
use Rattle.sketch.proofs.Adding.{summed-one, summed-over}
use Rattle.sketch.proofs.Sums.with.Goals as goal

pub returns-then-n-lt-ENTRIES : goal.returns-then-n-lt-ENTRIES
returns-then-n-lt-ENTRIES c =
    let q = c.count_sources.ensures in
    let p = c.size.ensures in
    (refl, λ s t l key d vs h g. summed-one h g p.0 q.1 p.1 q.0 c.if-n-lt-ENTRIES.true)

pub returns : goal.returns
returns c = (refl, λ s t l key d vs h g. summed-over h g (omega arith))
