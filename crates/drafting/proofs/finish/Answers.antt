-- `finish` meets its contract: nothing is written before the number is known, then one section behind the other.
use mathlib.Core.Path.{sym, ◌∙◌}
use mathlib.Core.List.{◌++◌, append_assoc}
use native.Mathlib.Omega.{arith}
use Rattle.clock.specs.Dots.{dots_of}
use Rattle.map.specs.Model.{map_as}
use Rattle.map.specs.Judging.{judged}
use Rattle.records.proofs.Writing.{write-room, write-on, write-last, last-room}
use Rattle.clockimage.specs.Image.{dot_records}
use Rattle.answers.proofs.Answers.{refuses}
use Rattle.promises.specs.Calls.{map_answer}
use Rattle.sketch.specs.Drawn.{drawn_all, sections_of}
use Rattle.drafting.proofs.Numbers.{over-limit, short-room}
use Rattle.drafting.proofs.Drafts.{ready, waits-well, counted, start, finished}
use Rattle.drafting.proofs.finish.Goals as goal

pub weigh-waits-requires : goal.weigh-waits-requires
weigh-waits-requires f = let p = f.requires.1.1 in (p.0, p.1.waiting)

pub returns-then-waits-ne0 : goal.returns-then-waits-ne0
returns-then-waits-ne0 f c l w d =
    let x = f.weigh-waits.ensures.0 l w d.entries.sums.count d.entries.sums.wide d.waiting in
    rw f.word.ensures (refuses (map_answer 0 0 (judged (map_as c l w))) _ (sym (over-limit c l w d.dots _ x.0 f.if-waits-ne0.true))
    f.if-waits-ne0.true)

pub overflow_add-records : goal.overflow_add-records
overflow_add-records f = let r = f.requires.1.1.1.entries.sums.room in omega arith

pub overflow_add-records-2 : goal.overflow_add-records-2
overflow_add-records-2 f = let r = f.requires.1.1.1.entries.sums.room in
    omega (arith, f.weigh-waits.ensures.1)

pub overflow_add-records-3 : goal.overflow_add-records-3
overflow_add-records-3 f = let r = f.requires.1.1.1.entries.sums.room in
    omega (arith, f.weigh-waits.ensures.1, f.size.ensures.1)

pub returns-then-out-records : goal.returns-then-out-records
returns-then-out-records f c l w d =
    let q = f.before in
    let a = q.args in
    let x = q.weigh-waits.ensures.0 _ _ d.entries.sums.count d.entries.sums.wide
    d.waiting in
    let z = sym x.0 ∙ q.if-waits-ne0.false in
    let n = counted d z q.size.ensures.0 (x.1 q.if-waits-ne0.false) in
    rw f.word-then-out-records.ensures (refuses (map_answer 0 0 (judged (map_as c l w))) _
    (sym (short-room c l w d.dots a.out.now z (omega (arith, n, q.if-out-records.true)))) (λ e. omega arith))

pub write_sketch-rest-requires : goal.write_sketch-rest-requires
write_sketch-rest-requires f =
    let q = f.before in
    let d = q.requires.1.1.1 in
    let a = q.args in
    let x = q.weigh-waits.ensures.0 _ _ d.entries.sums.count d.entries.sums.wide
    d.waiting in
    let z = sym x.0 ∙ q.if-waits-ne0.false in
    let n = counted d z q.size.ensures.0 (x.1 q.if-waits-ne0.false) in
    let both = dot_records 1 0 0 (dots_of a.clock) ++ sections_of (drawn_all a.s.now a.t.now a.sk) in
    let w1 = start d z a.out.now (omega (arith, n, q.if-out-records.false)) in
    let parts = sym (append_assoc (dot_records 1 0 0 (dots_of a.clock)) (sections_of (drawn_all a.s.now a.t.now a.sk)) _) in
    (ready d z, omega (arith, (write-room _ _ _ both _ w1 parts).0))

pub write_waiting-requires : goal.write_waiting-requires
write_waiting-requires f =
    let q = f.before.before.before.before.before in
    let d = q.requires.1.1.1 in
    let a = q.args in
    let x = q.weigh-waits.ensures.0 _ _ d.entries.sums.count d.entries.sums.wide
    d.waiting in
    let z = sym x.0 ∙ q.if-waits-ne0.false in
    let n = counted d z q.size.ensures.0 (x.1 q.if-waits-ne0.false) in
    let both = dot_records 1 0 0 (dots_of a.clock) ++ sections_of (drawn_all a.s.now a.t.now a.sk) in
    let w1 = start d z a.out.now (omega (arith, n, q.if-out-records.false)) in
    let parts = sym (append_assoc (dot_records 1 0 0 (dots_of a.clock)) (sections_of (drawn_all a.s.now a.t.now a.sk)) _) in
    (_, d.waiting, (waits-well d z, last-room _ _ _ _ (write-on _ _ _ both w1 parts f.write_sketch-rest.ensures)))

pub returns : goal.returns
returns f c l w d =
    let q = f.before.before.before.before.before.before.before.before in
    let a = q.args in
    let x = q.weigh-waits.ensures.0 _ _ d.entries.sums.count d.entries.sums.wide
    d.waiting in
    let z = sym x.0 ∙ q.if-waits-ne0.false in
    let n = counted d z q.size.ensures.0 (x.1 q.if-waits-ne0.false) in
    let both = dot_records 1 0 0 (dots_of a.clock) ++ sections_of (drawn_all a.s.now a.t.now a.sk) in
    let w1 = start d z a.out.now (omega (arith, n, q.if-out-records.false)) in
    let parts = sym (append_assoc (dot_records 1 0 0 (dots_of a.clock)) (sections_of (drawn_all a.s.now a.t.now a.sk)) _) in
    let w2 = write-on _ _ _ both w1 parts f.write_sketch-rest.ensures in
    finished d z a.out.now (omega (arith, n, q.if-out-records.false)) (write-last _ _ _ _ w2
    (f.write_waiting.ensures w d.waiting (waits-well d z) (last-room _ _ _ _ w2)))
