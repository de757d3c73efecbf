-- What a walk over the peers has in hand, one peer after the other.
use Rattle.std.specs.Prelude.{true, false, cond, List, [], ℕ, min, ◌*◌, ◌^◌, eqb, ltb, length, take}
use Rattle.listlaws.specs.Sift.{sift}
use Rattle.listlaws.specs.Fold.{fold}
use Rattle.clock.specs.declared.Dot.{Dot}
use Rattle.clock.specs.declared.Clock.{Clock}
use Rattle.clock.specs.Dots.{dots_of, clock_of, counter_in}
use Rattle.advance.specs.Advancing.{lent_number}
use Rattle.flooring.specs.declared.Floored.{Floored}
use Rattle.flooring.specs.Floor.{peer_limit, counted, peers_number}

-- a dot at the smaller of its own counter and a peer's
abbrev pub lower_dot : List Dot → Dot → Dot
lower_dot peer d = record { actor = d.actor; counter = min d.counter (counter_in peer d.actor) }

-- each dot so, zero left out
unfoldable pub lowered_by : List Dot → List Dot → List Dot
lowered_by peer l = sift counted (lower_dot peer) l

-- of so many peers those that are read: none where they are too many
abbrev pub peers_read : ℕ → ℕ
peers_read count = cond (ltb peer_limit count) 0 count

unfoldable pub begun_of : ℕ → Floored
begun_of count = record { word = peers_number count * 2 ^ 32; many = peers_read count; any = false; clock = clock_of [] }

-- what a peer more lowers: the floor of those before it, or itself where it is the first
abbrev pub lowering : Floored → List Dot → List Dot
lowering f peer = cond f.any (dots_of f.clock) peer

abbrev pub taken_of : Floored → Clock → Floored
taken_of f peer = record { word = 0; many = f.many; any = true; clock = clock_of (lowered_by (dots_of peer) (lowering f (dots_of peer))) }

abbrev pub bad_of : Floored → ℕ → Floored
bad_of f number = record { word = number * 2 ^ 32; many = f.many; any = f.any; clock = f.clock }

unfoldable pub next_of : Floored → Clock → Floored
next_of f peer = cond (eqb f.word 0) (cond (eqb (lent_number peer) 0) (taken_of f peer) (bad_of f (lent_number peer))) f

-- after the first i peers
abbrev pub floored_to : List Clock → ℕ → Floored
floored_to peers i = fold next_of (begun_of (length peers)) (take i peers)

-- at the end of the walk
abbrev pub floored_all : List Clock → Floored
floored_all peers = floored_to peers (peers_read (length peers))
