-- `begin` meets its contract.
use mathlib.Core.Path.{refl}
use borrow.Author.Tests.{lt-ltb, le-ltb}
use Rattle.flooring.specs.Floor.{peer_limit}
use Rattle.flooring.specs.Steps.{begun_of}
use Rattle.flooring.proofs.begin.Goals as goal

pub returns-then-count-gt-PEERS : goal.returns-then-count-gt-PEERS
unfolding begun_of
returns-then-count-gt-PEERS c = rw (c.told.ensures, c.new.ensures, lt-ltb peer_limit _ c.if-count-gt-PEERS.true) refl

pub returns : goal.returns
unfolding begun_of
returns c = rw (c.new.ensures, le-ltb peer_limit _ c.if-count-gt-PEERS.false) refl
