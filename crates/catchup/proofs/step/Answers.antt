-- `step` meets its contract: what is answered of the operation, and the image copied back.
use mathlib.Core.Path.{ap, sym, ◌∙◌}
use Prim.Native.Nat.{◌-◌}
use native.Mathlib.Omega.{arith}
use lib.ListN.{length-take}
use Rattle.records.specs.Bytes.{placed}
use Rattle.catchup.proofs.Words.{part-first, step_fits, stepped}
use Rattle.catchup.proofs.step.Goals as goal

pub slice_bounds-copy_run-end : goal.slice_bounds-copy_run-end
slice_bounds-copy_run-end c =
    let z = c in
    omega (arith, step_fits _ _ z.requires.1.1 c.apply-w.ensures c.if-w-lt4294967296.true)

pub copy_run-requires : goal.copy_run-requires
copy_run-requires c =
    let z = c in
    let a = c.apply-w in
    let f = step_fits _ _ z.requires.1.1 a.ensures c.if-w-lt4294967296.true in
    omega (arith, f, z.requires.1.0, length-take (a.result - 0) a.new.out)

pub returns-then-w-lt4294967296 : goal.returns-then-w-lt4294967296
returns-then-w-lt4294967296 c =
    let z = c in
    let a = c.apply-w in
    let here = z.args.here.now in
    rw (part-first z.args.len here)
    (stepped _ _ z.requires.1.1 a.ensures here
    (λ l. c.copy_run.ensures.left ∙ ap (λ s. placed 0 s here) (sym (part-first a.result a.new.out))))

pub returns-else-w-lt4294967296 : goal.returns-else-w-lt4294967296
returns-else-w-lt4294967296 c =
    let z = c in
    let a = c.apply-w in
    let here = z.args.here.now in
    rw (part-first z.args.len here)
    (stepped _ _ z.requires.1.1 a.ensures here (λ l. absurd (omega (arith, l, c.if-w-lt4294967296.false))))
