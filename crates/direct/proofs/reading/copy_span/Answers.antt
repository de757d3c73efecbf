-- `copy_span` meets its contract: the bytes of a span are those of its records.
use Prim.Native.Nat.{◌*◌, ◌-◌}
use lib.ListN.{drop, length-take}
use native.Mathlib.Omega.{arith}
use Rattle.walks.proofs.Loops.{length_part}
use Rattle.direct.proofs.Copied.{span-bytes}
use Rattle.direct.proofs.reading.copy_span.Goals as goal

pub copy_run-requires : goal.copy_run-requires
copy_run-requires c =
    let z = c.before.before.before.before.before.before in
    let r = z.args.span in
    let s = z.args.s.now in
    omega (
      arith,
      z.requires.1,
      z.requires.0.order,
      z.requires.0.within,
      length-take (r.to * 16 - r.from * 16) (drop (r.from * 16) s),
      length_part s r.from r.to,
    )

pub returns : goal.returns
returns c =
    let k = c.before.before.before.before.before.before.before.before in
    let z = k.before in
    rw (span-bytes z.args.s.now z.args.span (λ i. (k.shared_slice_known-1.given i).fits) z.requires.0) at
    c.copy_run.ensures
