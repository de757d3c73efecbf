-- `meet` meets its contract: equal dots are all kept, and others are met.
use mathlib.Core.Path.{◌≡◌, ap, ap₂, sym, ◌∙◌}
use Rattle.clock.specs.Dots.{dots_of, clock_of, cut_dots, join_dots}
use Rattle.clock.proofs.Packs.{dots-of}
use Rattle.clock.proofs.Covers.{order-equal}
use Rattle.entries.specs.Model.{dots_in}
use Rattle.entries.specs.Entries.{keep_dots}
use Rattle.entrywalk.proofs.Lying.{own-says}
use Rattle.keeping.proofs.Counters.{keep_same, gone_same}
use Rattle.merging.proofs.stepping.meet.Goals as goal

pub compare_runs-o-requires : goal.compare_runs-o-requires
compare_runs-o-requires c =
    let p = c.requires.0 in
    ((own-says p.2).lawful, (own-says p.3).lawful)

pub returns-in-Equal : goal.returns-in-Equal
returns-in-Equal c = λ x y h k.
    let a = c.args in
    let o = sym c.compare_runs-o.ensures ∙ c.in-Equal.is in
    let same : dots_in x ≡ dots_in y = sym (own-says h).dots ∙ order-equal (own-says h).lawful (own-says k).lawful o ∙ (own-says k).dots in
    let m = dots_of a.mine in
    let n = dots_of a.yours in (
      c.own_clock-c.ensures x h
          ∙ ap clock_of (sym (keep_same m n h.fit.clock) ∙ ap (keep_dots m n (dots_in x)) same),
      c.new-none.ensures ∙ ap clock_of (sym (gone_same m n h.fit.clock)
          ∙ ap (λ d. cut_dots (keep_dots m n (dots_in x) d) (join_dots (dots_in x) d)) same),
    )

pub keeps-requires : goal.keeps-requires
keeps-requires c =
    let p = c.requires in
    let a = dots-of (dots_in p.0.0) (c.own_clock-c.ensures p.0.0 p.0.2) in
    let b = dots-of (dots_in p.0.1) (c.own_clock-d.ensures p.0.1 p.0.3) in
    ((rw a p.0.2.fit.clock, rw b p.0.3.fit.clock), (p.1, rw (a, b) p.0.4))

pub returns : goal.returns
returns c = λ x y h k.
    let v = c.args in
    let a = dots-of (dots_in x) (c.own_clock-c.ensures x h) in
    let b = dots-of (dots_in y) (c.own_clock-d.ensures y k) in
    let r = c.keeps.ensures in (
      r.0 ∙ ap₂ (λ x y. clock_of (keep_dots (dots_of v.mine) (dots_of v.yours) x y)) a b,
      r.1 ∙ ap₂ (λ x y. clock_of (cut_dots (keep_dots (dots_of v.mine) (dots_of v.yours) x y) (join_dots x y))) a b,
    )
