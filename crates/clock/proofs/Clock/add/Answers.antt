-- `Clock::add` meets its contract: the dot is joined where it is beyond the clock, and nothing is where it is not.
use mathlib.Core.Path.{ap}
use mathlib.Core.List.{[]}
use borrow.Author.Tests.{lt-ltb, le-ltb}
use Rattle.clock.specs.Dots.{add_dot}
use Rattle.clock.proofs.Packs.{dots-of}
use native.Mathlib.Omega.{arith}
use Rattle.clock.proofs.Clock.add.Goals as goal

pub push-news-requires : goal.push-news-requires
push-news-requires c = omega (arith, ap (λ k. k.len) c.new-none.ensures)

pub returns-then-get-d : goal.returns-then-get-d
unfolding add_dot
returns-then-get-d c =
    let g = c.before.before.before.before in
    let news = c.push-news.ensures [] g.new-none.ensures in
    let t = lt-ltb _ _ (rw g.get.ensures at c.if-get-d.true) in
    rw (c.join.ensures, dots-of _ news, t)

pub returns : goal.returns
unfolding add_dot
returns c =
    let g = c.before.before.before in
    let t = le-ltb _ _ (rw g.get.ensures at c.if-get-d.false) in
    rw (c.join-2.ensures, dots-of _ g.new-none.ensures, t)
