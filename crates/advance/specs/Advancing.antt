-- 01 "Clocks": the controller's own clock, advanced by one dot.
use Rattle.std.specs.Prelude.{ℕ, ◌+◌, ◌*◌, ◌^◌, Bool, true, false, cond, ◌&&◌, List, [], ◌∷◌, eqb, ltb, leb, length}
use Rattle.std.specs.declared.option.Option.{Option}
use Rattle.std.specs.declared.option.Option.TheVariants.{Some, None}
use Rattle.std.specs.declared.result.Result.{Result}
use Rattle.std.specs.declared.result.Result.TheVariants.{Ok, Err}
use Rattle.clock.specs.declared.Dot.{Dot}
use Rattle.clock.specs.declared.Clock.{Clock}
use Rattle.limits.specs.Limits.{dot_limit}
use Rattle.refusals.specs.declared.Refusal.{Refusal}
use Rattle.refusals.specs.Numbers.{number_for as number_of_refusal}
use Rattle.clock.specs.Dots.{dots_of, clock_of, beyond, add_dot}
use Rattle.answers.specs.Answer.{Answer, number_of, word_of}
use Rattle.advance.specs.declared.Advanced.{Advanced}

-- actors strictly ascending, from `low` on, and no zero counter
unfoldable pub rising_dots : ℕ → List Dot → Bool
rising_dots low [] = true
rising_dots low (d ∷ l) = (leb low d.actor && ltb 0 d.counter) && rising_dots (d.actor + 1) l

-- "a lent clock of more than 8 dots: 2; out of order or with a zero counter: 1"
unfoldable pub lent_number : Clock → ℕ
lent_number c = cond (ltb dot_limit c.len) 2 (cond (rising_dots 0 (dots_of c)) 0 1)

-- "a ninth dot: 4"
abbrev pub grown_number : List Dot → ℕ
grown_number l = cond (ltb dot_limit (length l)) 4 0

module _ (c : Clock) (actor counter : ℕ) where
  abbrev pub dot_given : Dot
  dot_given = record { actor = actor; counter = counter }

  abbrev pub advance_answer : Answer
  advance_answer = record { first = lent_number c; second = 0; own = grown_number (add_dot (dots_of c) dot_given); bytes = [] }

  -- "Adding a dot takes effect only if its counter is larger"
  unfoldable pub takes_effect : Bool
  takes_effect = eqb (number_of advance_answer []) 0 && beyond (dots_of c) dot_given

  -- "clock unchanged in each" refusal
  abbrev pub advanced_clock : Clock
  advanced_clock = cond takes_effect (clock_of (add_dot (dots_of c) dot_given)) c

  abbrev pub advanced_of : Advanced
  advanced_of = record { word = word_of advance_answer []; grew = takes_effect; clock = advanced_clock }

-- the clock with the dot, none where the dot takes no effect, or why it can't be, as what is answered
abbrev pub advanced_in : Clock → Result (Option Clock) Refusal → Advanced
advanced_in c (Ok (Some next)) = record { word = 0; grew = true; clock = next }
advanced_in c (Ok None) = record { word = 0; grew = false; clock = c }
advanced_in c (Err r) = record { word = number_of_refusal r * 2 ^ 32; grew = false; clock = c }
