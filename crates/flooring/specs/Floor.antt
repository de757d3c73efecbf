-- CR 14's floor: "given a lent list of up to 64 peers' clocks, for each actor the smallest counter over all peers, with zero left out".
use Rattle.std.specs.Prelude.{Bool, cond, List, [], ◌∷◌, map, ℕ, min, eqb, ltb, length}
use Rattle.listlaws.specs.Sift.{sift}
use Rattle.listlaws.specs.Fold.{fold}
use Rattle.clock.specs.declared.Dot.{Dot}
use Rattle.clock.specs.declared.Clock.{Clock}
use Rattle.clock.specs.Dots.{dots_of, clock_of, counter_in}
use Rattle.answers.specs.Answer.{first_of}
use Rattle.advance.specs.Advancing.{lent_number}

-- "up to 64 peers"
abbrev pub peer_limit : ℕ
peer_limit = 64

-- "for each actor the smallest counter over all peers"
unfoldable pub smallest_at : ℕ → List (List Dot) → ℕ
smallest_at actor [] = 0
smallest_at actor (peer ∷ more) = fold (λ n c. min n (counter_in c actor)) (counter_in peer actor) more

-- the dot of an actor at that counter
abbrev pub floor_dot : List (List Dot) → Dot → Dot
floor_dot peers d = record { actor = d.actor; counter = smallest_at d.actor peers }

-- "with zero left out"
abbrev pub counted : Dot → Bool
counted d = ltb 0 d.counter

-- "the floor"; "an empty list gives the empty clock". An actor that the first peer lacks has 0, so that its actors are all to be asked
unfoldable pub floor_dots : List (List Dot) → List Dot
floor_dots [] = []
floor_dots (peer ∷ more) = sift counted (floor_dot (peer ∷ more)) peer

-- "18 for more than 64 peers"
abbrev pub peers_number : ℕ → ℕ
peers_number count = cond (ltb peer_limit count) 18 0

-- "before the others; then 2 for a clock with more than 8 dots, 1 for one out of order or with a zero counter, the first bad clock deciding
-- and 2 before 1 in it"
unfoldable pub floor_number : List Clock → ℕ
floor_number peers = first_of (peers_number (length peers) ∷ map lent_number peers)

-- what the place that is lent for the floor holds at exit: a refusal stores nothing
unfoldable pub floored_clock : List Clock → Clock → Clock
floored_clock peers entry = cond (eqb (floor_number peers) 0) (clock_of (floor_dots (map dots_of peers))) entry
