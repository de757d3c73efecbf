-- `is_united` meets its contract, kind by kind.
use mathlib.Core.Path.{refl, ◌∙◌}
use borrow.Author.Tests.{eq-eqb, ne_eqb}
use native.Mathlib.Omega.{arith}
use Rattle.salvagelaws.proofs.Waiting.{index-all}
use Rattle.salvagelaws.proofs.Limited.{key-known}
use Rattle.mending.specs.Tables.{fourth_of}
use Rattle.mending.proofs.Leading.{leading}
use Rattle.mending.proofs.is_united.Goals as goal

pub is_lead-requires : goal.is_lead-requires
is_lead-requires c = omega (arith, c.struct_known-then-r-eq-WAITING_DOT-1.given, c.requires.3.long)

pub returns-then-r-eq-WAITING_DOT : goal.returns-then-r-eq-WAITING_DOT
returns-then-r-eq-WAITING_DOT c =
    let a = c.args in
    let p = c.requires in
    let k = fourth_of a.marks.now a.image.now in
    rw (eq-eqb _ 5 c.if-r-eq-WAITING_DOT.true)
    (c.is_lead.ensures ∙ leading k p.2.scan a.leads.now p.3 a.r.index (index-all k p.2.scan a.r p.4
    c.if-r-eq-WAITING_DOT.true))

pub has_room-requires : goal.has_room-requires
has_room-requires c =
    let a = c.args in
    let p = c.requires in
    (p.0, p.1, p.2, p.3, key-known (fourth_of a.marks.now a.image.now) p.2 a.r p.4 c.if-r-eq-WAITING_KEY.true)

pub returns-then-r-eq-WAITING_KEY : goal.returns-then-r-eq-WAITING_KEY
returns-then-r-eq-WAITING_KEY c = rw (ne_eqb _ 5 c.if-r-eq-WAITING_DOT.false, eq-eqb _ 6 c.if-r-eq-WAITING_KEY.true) c.has_room.ensures

pub returns : goal.returns
returns c = rw (ne_eqb _ 5 c.if-r-eq-WAITING_DOT.false, ne_eqb _ 6 c.if-r-eq-WAITING_KEY.false) refl
