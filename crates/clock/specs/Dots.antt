-- Clocks, in the words and order of 01 "Clocks": a clock is a list of dots, of any length; the limit is judged at the end.
use Rattle.std.specs.Prelude.{Bool, true, false, cond, List, [], ◌∷◌, ℕ, ◌-◌, ltb, eqb, length, take}
use Rattle.listlaws.specs.Pad.{pad}
use Rattle.listlaws.specs.Sift.{those}
use Rattle.listlaws.specs.First.{first_in, none}
use Rattle.listlaws.specs.Weave.{weave}
use Rattle.listlaws.specs.Order.{by}
use Rattle.listlaws.specs.Limit.{if_within}
use Rattle.clock.specs.declared.Dot.{Dot}
use Rattle.clock.specs.declared.Clock.{Clock}
use Rattle.clock.specs.declared.Cut.{Cut}
use Rattle.clock.specs.declared.Joined.{Joined}
use Rattle.clock.specs.declared.Order.{Order}
use Rattle.clock.specs.declared.Order.TheVariants.{Equal, Greater, Less, Concurrent}
use Rattle.limits.specs.Limits.{dot_limit}

abbrev pub no_dot : Dot
no_dot = record { actor = 0; counter = 0 }

-- the dots of a clock
abbrev pub dots_of : Clock → List Dot
dots_of c = take c.len c.dots

-- the clock of these dots: the places behind them hold zeros
abbrev pub clock_of : List Dot → Clock
clock_of l = record { dots = pad no_dot dot_limit l; len = length l }

-- the answer of an operation that can grow: the clock, or that it is over the limit
abbrev pub fitted : List Dot → Joined
fitted l = if_within dot_limit (λ d. record { over = false; clock = clock_of d }) (record { over = true; clock = clock_of [] }) l

unfoldable pub is_empty : List Dot → Bool
is_empty l = eqb (length l) 0

-- "A clock gives each actor a counter; an absent actor has 0."
unfoldable pub counter_in : List Dot → ℕ → ℕ
counter_in l a = first_in (λ d. eqb d.actor a) (λ d. d.counter) 0 l

-- a dot whose counter is larger than these dots' counter for its actor
abbrev pub beyond : List Dot → Dot → Bool
beyond l d = ltb (counter_in l d.actor) d.counter

-- "A covers B when every counter of B is at most A's."
unfoldable pub covers : List Dot → List Dot → Bool
covers a b = none (beyond a) b

-- "The comparison has four outcomes: equal, greater, less, concurrent."
abbrev pub outcome : Bool → Bool → Order
outcome true true = Equal
outcome true false = Greater
outcome false true = Less
outcome false false = Concurrent

unfoldable pub order_of : List Dot → List Dot → Order
order_of a b = outcome (covers a b) (covers b a)

-- "Cutting X by C deletes each dot of X whose counter is at most C's, and keeps other dots as they are."
unfoldable pub cut_dots : List Dot → List Dot → List Dot
cut_dots c x = those (beyond c) x

-- "A cut of a clock should return, besides the clock, how many dots it deleted": as many as it has less
abbrev pub cut_of : List Dot → List Dot → Cut
cut_of c x = record { clock = clock_of (cut_dots c x); deleted = length x - length (cut_dots c x) }

-- of two dots of one actor, the one with the larger counter
abbrev pub larger_dot : Dot → Dot → Dot
larger_dot x y = cond (ltb x.counter y.counter) y x

-- "Joining takes the larger counter per actor."
unfoldable pub join_dots : List Dot → List Dot → List Dot
join_dots a b = weave (by (λ d. d.actor)) (λ d. d) (λ d. d) larger_dot a b

-- a dot at the counter that these dots have for its actor
abbrev pub shared : List Dot → Dot → Bool
shared l d = eqb (counter_in l d.actor) d.counter

-- "Common dots are those with equal counters in both."
unfoldable pub common_dots : List Dot → List Dot → List Dot
common_dots a b = those (shared b) a

-- "Adding a dot takes effect only if its counter is larger."
unfoldable pub add_dot : List Dot → Dot → List Dot
add_dot l d = join_dots l (cond (beyond l d) (d ∷ []) [])
