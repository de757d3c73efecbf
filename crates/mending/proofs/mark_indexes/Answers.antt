-- `mark_indexes` meets its contract: the tables, what goes, and what changes.
use native.Mathlib.Omega.{arith}
use Rattle.records.specs.Records.{records_of}
use Rattle.culling.specs.Marks.{marked_of}
use Rattle.mending.proofs.Fourths.{fourth-is, supplied}
use borrow.Author.Rules.{rules}
use Rattle.mending.proofs.mark_indexes.Goals as goal

pub find_leads-requires : goal.find_leads-requires
find_leads-requires c =
    let a = c.args in
    let p = c.requires in (
      p.0,
      search rules,
      rw (fourth-is (marked_of a.marks.now a.image.now) (records_of a.image.now) p.2.fates) (supplied
          (records_of a.image.now)).scan,
    )

pub find_ranks-requires : goal.find_ranks-requires
find_ranks-requires c =
    let a = c.args in
    let p = c.requires in (
      p.0,
      rw (fourth-is (marked_of a.marks.now a.image.now) (records_of a.image.now) p.2.fates) (supplied (records_of
          a.image.now)).scan,
      c.find_leads.ensures,
      search rules,
    )

pub mark_united-requires : goal.mark_united-requires
mark_united-requires c =
    let a = c.args in
    let p = c.requires in (
      p.0,
      p.2,
      rw (← fourth-is (marked_of a.marks.now a.image.now) (records_of a.image.now) p.2.fates)
          c.find_leads.ensures,
    )

pub mark_changed-requires : goal.mark_changed-requires
mark_changed-requires c =
    let a = c.args in
    let p = c.requires in (
      omega (arith, p.0, c.mark_united.auto.marks),
      p.1,
      c.mark_united.ensures.0,
      c.mark_united.ensures.1,
      rw (← fourth-is (marked_of a.marks.now a.image.now) (records_of a.image.now) p.2.fates)
          c.find_ranks.ensures,
    )
