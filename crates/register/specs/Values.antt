-- Registers, in the words and order of 01 "Register": an ordered list of values, of any length, each under a clock.
use Rattle.std.specs.Prelude.{Bool, true, false, not, cond, List, [], ◌∷◌, ◌++◌, map, length, take}
use Rattle.listlaws.specs.Pad.{pad}
use Rattle.listlaws.specs.Sift.{sift, those}
use Rattle.listlaws.specs.First.{some}
use Rattle.listlaws.specs.Fold.{fold}
use Rattle.clock.specs.declared.Dot.{Dot}
use Rattle.clock.specs.declared.Order.{Order}
use Rattle.clock.specs.declared.Order.TheVariants.{Equal, Greater, Less, Concurrent}
use Rattle.clock.specs.Dots.{dots_of, clock_of, fitted, is_empty, cut_dots, join_dots, order_of}
use Rattle.register.specs.declared.Content.{Content}
use Rattle.register.specs.declared.Value.{Value}
use Rattle.register.specs.declared.Register.{Register}
use Rattle.register.specs.declared.Contents.{Contents}
use Rattle.register.specs.declared.Read.{Read}
use Rattle.limits.specs.Limits.{value_limit}

-- what zeros are: the number 0, and the origin 0 of a value that was set before there were origins
abbrev pub no_content : Content
no_content = record { number = 0; origin = 0 }

abbrev pub no_value : Value
no_value = record { clock = clock_of []; value = no_content }

-- the values of a register, and of one in hand
abbrev pub values_of : Register → List Value
values_of r = take r.len r.values

-- the register of these values: the places behind them hold zeros
abbrev pub register_of : List Value → Register
register_of l = record { values = pad no_value value_limit l; len = length l }

-- values without their clocks, as many as a register has
abbrev pub contents_of : List Content → Contents
contents_of l = record { items = pad no_content value_limit l; len = length l }

-- a clock that is less than another, or, where `equal_too` says so, equal to it
abbrev pub yielding : Bool → Order → Bool
yielding equal_too Less = true
yielding equal_too Equal = equal_too
yielding equal_too Greater = false
yielding equal_too Concurrent = false

unfoldable pub yields : Bool → Value → Value → Bool
yields equal_too v w = yielding equal_too (order_of (dots_of v.clock) (dots_of w.clock))

-- a value whose clock is strictly below, or below or equal to, that of one of these
unfoldable pub outdone : Bool → List Value → Value → Bool
outdone equal_too l v = some (yields equal_too v) l

abbrev pub standing : Bool → List Value → Value → Bool
standing equal_too l v = not (outdone equal_too l v)

-- "values whose clock is equal to or less than the put's go"
unfoldable pub remaining : List Value → Value → List Value
remaining l put = those (standing true (put ∷ [])) l

-- "Put with an empty clock does nothing. Otherwise [these go]; then the new value goes last, unless a remaining clock is greater."
unfoldable pub put_values : List Value → Value → List Value
put_values l put =
    cond (is_empty (dots_of put.clock)) l
    (cond (outdone false (remaining l put) put) (remaining l put) (remaining l put ++ (put ∷ [])))

abbrev pub cut_value : List Dot → Value → Value
cut_value c v = record { clock = clock_of (cut_dots c (dots_of v.clock)); value = v.value }

abbrev pub alive : Value → Bool
alive v = not (is_empty (dots_of v.clock))

-- "Cut: cut each value's clock, drop values left with none, keep order."
unfoldable pub cut_values : List Dot → List Value → List Value
cut_values c l = sift alive (cut_value c) l

-- "Merge: drop ours strictly below any of theirs"
unfoldable pub ours_left : List Value → List Value → List Value
ours_left ours theirs = those (standing false theirs) ours

-- "then append, in their order, those of theirs that are neither strictly below nor equal in clock to one of our remaining"
unfoldable pub merge_values : List Value → List Value → List Value
merge_values ours theirs = ours_left ours theirs ++ those (standing true (ours_left ours theirs)) theirs

-- the clock under which a register is read: those of its values, joined
unfoldable pub clock_over : List Value → List Dot
clock_over l = fold (λ c v. join_dots c (dots_of v.clock)) [] l

-- reading gives that clock, and the values in order
unfoldable pub read_of : List Value → Read
read_of l = record { joined = fitted (clock_over l); contents = contents_of (map (λ v. v.value) l) }
