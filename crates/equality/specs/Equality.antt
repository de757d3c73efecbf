-- 01 "Register", equality, as CR 5 has it: pairs of a value and its clock, counted.
use Rattle.std.specs.Prelude.{Bool, true, false, not, ◌&&◌, List, ℕ, eqb, length}
use Rattle.listlaws.specs.Sift.{those}
use Rattle.listlaws.specs.First.{none}
use Rattle.clock.specs.declared.Order.{Order}
use Rattle.clock.specs.declared.Order.TheVariants.{Equal, Greater, Less, Concurrent}
use Rattle.clock.specs.Dots.{dots_of, order_of}
use Rattle.register.specs.declared.Content.{Content}
use Rattle.register.specs.declared.Value.{Value}

-- the same value with the same origin
abbrev pub same_content : Content → Content → Bool
same_content x y = eqb x.number y.number && eqb x.origin y.origin

-- under the same clock
abbrev pub equal_clock : Order → Bool
equal_clock Equal = true
equal_clock Less = false
equal_clock Greater = false
equal_clock Concurrent = false

unfoldable pub same_pair : Value → Value → Bool
same_pair v w = equal_clock (order_of (dots_of v.clock) (dots_of w.clock)) && same_content v.value w.value

-- how many times a pair occurs
unfoldable pub times_in : List Value → Value → ℕ
times_in l v = length (those (same_pair v) l)

-- every pair that stands here occurs the same number of times in l and in m
unfoldable pub as_often : List Value → List Value → List Value → Bool
as_often l m here = none (λ v. not (eqb (times_in l v) (times_in m v))) here

-- "Equality shall mean that every pair occurs the same number of times in both, order ignored."
unfoldable pub equal_values : List Value → List Value → Bool
equal_values l m = as_often l m l && as_often l m m
