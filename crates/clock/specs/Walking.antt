-- What the walks over two clocks test.
use Rattle.std.specs.Prelude.{Bool, true, false, List, ℕ, ltb, eqb}
use Rattle.clock.specs.declared.Dot.{Dot}
use Rattle.clock.specs.Dots.{counter_in}
use Rattle.listlaws.specs.Rise.{rising, alike}

-- a counter beside one that was seen: the same, or larger
abbrev pub stays_at : Bool → ℕ → ℕ → Bool
stays_at true seen counter = eqb seen counter
stays_at false seen counter = ltb seen counter

-- which dots stay beside these: those that they share, or those beyond them
abbrev pub kept : Bool → List Dot → Dot → Bool
kept same l d = stays_at same (counter_in l d.actor) d.counter

-- whether a list of dots is a clock, as a test
unfoldable pub is_lawful : List Dot → Bool
is_lawful l = rising (λ d. d.actor) (λ d. ltb 0 d.counter) 0 l

-- two clocks with the same actors, strictly ascending: a test
unfoldable pub same_actors : List Dot → List Dot → Bool
same_actors a b = alike (λ d. d.actor) 0 a b
