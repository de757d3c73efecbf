-- Clocks in order: where one stands among them, one more, and what becomes of two lists of removals.
use Rattle.std.specs.Prelude.{Bool, not, cond, List, [], ◌∷◌, ℕ, zero, suc}
use Rattle.listlaws.specs.Fold.{fold}
use Rattle.listlaws.specs.Sift.{those}
use Rattle.clock.specs.declared.Dot.{Dot}
use Rattle.clock.specs.Dots.{clock_of, is_empty}
use Rattle.removals.specs.declared.Removal.{Removal}
use Rattle.limits.specs.Limits.{waiting_limit}
use Rattle.removals.specs.Waits.{clock_before, waits, unite_into, remains}

-- how many clocks stand before one, from the first on
unfoldable pub seat_of : List Dot → List (List Dot) → ℕ
seat_of c [] = zero
seat_of c (d ∷ l) = cond (clock_before d c) (suc (seat_of c l)) zero

-- clocks in order with one more, unless it is there
unfoldable pub insert_clock : List (List Dot) → List Dot → List (List Dot)
insert_clock [] c = c ∷ []
insert_clock (d ∷ l) c = cond (clock_before d c) (d ∷ insert_clock l c) (cond (clock_before c d) (c ∷ (d ∷ l)) (d ∷ l))

-- a clock that is not empty
abbrev pub present : List Dot → Bool
present c = not (is_empty c)

-- all of them in order that are not empty, behind those that are there
unfoldable pub gather_all : List (List Dot) → List (List Dot) → List (List Dot)
gather_all l m = fold (λ s c. cond (present c) (insert_clock s c) s) l m

-- where a clock goes among others: nowhere if it is empty
unfoldable pub place_among : List (List Dot) → List Dot → ℕ
place_among l c = cond (is_empty c) waiting_limit (seat_of c l)

-- the removals that remain of two lists, united
abbrev pub united : List Removal → List Removal → List Removal
united w v = fold unite_into (fold unite_into [] (those remains w)) (those remains v)

-- a removal under no clock, where a clock has seen it
abbrev pub emptied_where_seen : List Dot → Removal → Removal
emptied_where_seen seen r = record { clock = cond (waits seen r) r.clock (clock_of []); keys = r.keys }
