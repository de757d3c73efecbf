-- `stop_at` meets its contract: the search behind the first key ends where the next entry begins.
use Rattle.keyed.proofs.Walks.{stops}
use Rattle.keyed.proofs.stop_at.Goals as goal

pub clock_of-clock-requires : goal.clock_of-clock-requires
clock_of-clock-requires c =
    let p = c.requires in
    let f = c.first_from-next.ensures in
    (stops p.0 _ c.read_record-first.ensures _ f.0 f.1.0 f.1.1 p.1.0 p.1.1).0

pub returns : goal.returns
returns c =
    let p = c.requires in
    let f = c.first_from-next.ensures in
    λ l h. (stops p.0 _ c.read_record-first.ensures _ f.0 f.1.0 f.1.1 l h).1 _ c.clock_of-clock.ensures
