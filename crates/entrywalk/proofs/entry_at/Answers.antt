-- `entry_at` meets its contract: each section is walked along to what stands behind the first key.
use Rattle.entrywalk.proofs.Stepping.{stepping}
use Rattle.entrywalk.proofs.entry_at.Goals as goal

pub starts_of-starts-requires : goal.starts_of-starts-requires
starts_of-starts-requires c =
    let p = c.requires in
    let a = c.next_from-dots.ensures in
    let b = c.next_from-values.ensures in
    let d = c.next_from-clocks.ensures in
    let k = (stepping p.0 _ c.read_record-first.ensures _ a.0 a.1.0 a.1.1 _ b.0 b.1.0 b.1.1 _ d.0
    d.1.0 d.1.1 p.1.0 p.1.1).0 in
    (k.0, (d.0, k.1))

pub returns : goal.returns
returns c =
    let p = c.requires in
    let a = c.next_from-dots.ensures in
    let b = c.next_from-values.ensures in
    let d = c.next_from-clocks.ensures in
    λ es h. (stepping p.0 _ c.read_record-first.ensures _ a.0 a.1.0 a.1.1 _ b.0 b.1.0 b.1.1 _
    d.0 d.1.0 d.1.1 es h).1 _ c.starts_of-starts.ensures
