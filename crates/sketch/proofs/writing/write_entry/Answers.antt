-- `write_entry` meets its contract.
use mathlib.Core.Path.{ap, sym, ◌∙◌}
use lib.ListN.{length, length-map}
use native.Mathlib.Omega.{arith}
use Rattle.clock.specs.Dots.{dots_of}
use Rattle.clockimage.specs.Image.{dot_record, dot_records}
use Rattle.sketch.specs.Drawn.{clock_apart}
use Rattle.sketch.proofs.Sources.{entry-dots, entry_more, wrote_as}
use Rattle.sketch.proofs.writing.write_entry.Goals as goal

pub write_dots-requires : goal.write_dots-requires
write_dots-requires c =
    let z = c.before.before.before.before.before.before.before in
    let a = z.args in
    let h = z.requires.1 in
    omega (
      arith,
      ap length (entry-dots a.s.now a.t.now a.e a.kind c.if-kind-eq-ENTRY_DOT.true),
      length-map (dots_of (clock_apart a.e.own)) (dot_record 2 0 a.e.key),
      ap (λ k. length (dots_of k)) c.clock-clock.ensures,
    )

pub returns-then-kind-eq-ENTRY_DOT : goal.returns-then-kind-eq-ENTRY_DOT
returns-then-kind-eq-ENTRY_DOT c =
    let a = c.args in
    wrote_as (entry-dots a.s.now a.t.now a.e a.kind c.if-kind-eq-ENTRY_DOT.true
    ∙ ap (λ k. dot_records 2 0 a.e.key (dots_of k)) (sym c.clock-clock.ensures))
    c.write_dots.ensures

pub write_sources-requires : goal.write_sources-requires
write_sources-requires c =
    let z = c.before.before.before.before.before in
    let a = z.args in
    let h = z.requires.1 in
    (z.requires.0, omega (arith, ap length (entry_more a.s.now a.t.now a.e a.kind c.if-kind-eq-ENTRY_DOT.false)))

pub returns : goal.returns
returns c =
    let a = c.args in
    wrote_as (entry_more a.s.now a.t.now a.e a.kind c.if-kind-eq-ENTRY_DOT.false)
    c.write_sources.ensures
