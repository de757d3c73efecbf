-- `meet` meets its contract: what the two clocks have at their places decides.
use mathlib.Core.Path.{sym, ◌∙◌}
use borrow.Author.Tests.{lt-ltb, le-ltb}
use Rattle.clock.specs.Dots.{no_dot, dots_of}
use Rattle.listlaws.proofs.Rests.{drop-step, drop-end}
use Rattle.keeping.specs.Keeping.{meeting}
use native.Mathlib.Omega.{arith}
use Rattle.keeping.proofs.meet.Goals as goal

pub returns-then-d-e : goal.returns-then-d-e
unfolding meeting
returns-then-d-e c =
    let f = c.before in
    let b = f.before.before.before.before.before.before.before in
    let a = b.args in
    c.first_alone.ensures
    ∙ sym (rw (
      drop-step a.x.dots a.x.len a.i no_dot (omega (arith, b.requires)),
      drop-step a.y.dots a.y.len a.j no_dot
          (omega (arith, b.requires)),
      lt-ltb _ _ f.if-d-e.true,
    ))

pub returns-then-e-d : goal.returns-then-e-d
unfolding meeting
returns-then-e-d c =
    let f = c.before in
    let e = f.before.before.before in
    let b = e.before.before.before.before.before.before.before in
    let a = b.args in
    c.second_alone.ensures
    ∙ sym (rw (
      drop-step a.x.dots a.x.len a.i no_dot (omega (arith, b.requires)),
      drop-step a.y.dots a.y.len a.j no_dot
          (omega (arith, b.requires)),
      le-ltb _ _ e.if-d-e.false,
      lt-ltb _ _ f.if-e-d.true,
    ))

pub returns-then-j-m : goal.returns-then-j-m
unfolding meeting
returns-then-j-m c =
    let e = c.before.before.before in
    let b = e.before.before.before.before.before.before.before in
    let a = b.args in
    sym (rw (
      drop-step a.x.dots a.x.len a.i no_dot (omega (arith, b.requires)),
      drop-step a.y.dots a.y.len a.j no_dot
          (omega (arith, b.requires)),
      le-ltb _ _ e.if-d-e.false,
      le-ltb _ _ c.if-e-d.false,
    ))

pub returns-then-i-n : goal.returns-then-i-n
unfolding meeting
returns-then-i-n c =
    let b = c.before.before.before.before in
    let a = b.args in
    c.first_alone-then-i-n.ensures ∙ sym
    (rw (drop-step a.x.dots a.x.len a.i no_dot (omega (arith, b.requires)), drop-end (dots_of a.y) a.j (omega (arith, b.requires))))

pub returns-then-j-m-2 : goal.returns-then-j-m-2
unfolding meeting
returns-then-j-m-2 c =
    let b = c.before.before.before.before in
    let a = b.args in
    c.second_alone-then-j-m-2.ensures ∙ sym
    (rw (drop-end (dots_of a.x) a.i (omega (arith, b.requires)), drop-step a.y.dots a.y.len a.j no_dot (omega (arith, b.requires))))

pub returns : goal.returns
unfolding meeting
returns c =
    let b = c.before.before in
    let a = b.args in
    sym (rw (drop-end (dots_of a.x) a.i (omega (arith, b.requires)), drop-end (dots_of a.y) a.j (omega (arith, b.requires))))

pub first_alone-requires : goal.first_alone-requires
first_alone-requires c = omega arith

pub second_alone-requires : goal.second_alone-requires
second_alone-requires c = omega arith

pub first_alone-requires-then-i-n : goal.first_alone-requires-then-i-n
first_alone-requires-then-i-n c = omega arith

pub second_alone-requires-then-j-m-2 : goal.second_alone-requires-then-j-m-2
second_alone-requires-then-j-m-2 c = omega arith
