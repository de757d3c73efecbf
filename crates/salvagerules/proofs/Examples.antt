-- Small damaged images, computed: each reading of the steps by an input that shows it.
use mathlib.Core.Path.{◌≡◌, refl}
use mathlib.Core.Bool.{true, false, ◌&&◌}
use mathlib.Core.List.{List, [], ◌∷◌, map, ◌++◌}
use Prim.Native.Nat.{ℕ, zero, suc}
use lib.Dec.{eqb, ltb}
use lib.ListN.{length}
use Rattle.listlaws.specs.Sift.{sift}
use Rattle.listlaws.specs.Fold.{fold}
use Rattle.listlaws.specs.First.{first_in}
use Rattle.removals.specs.Waits.{clock_before}
use Rattle.records.specs.declared.Record.{Record}
use Rattle.records.specs.Kinds.{record_ok, before}
use Rattle.records.specs.Records.{record_from, records_from, bytes_of}
use Rattle.scan.specs.Each.{every, each_after, count_after}
use Rattle.scan.specs.Limits.{tally}
use Rattle.salvagerules.specs.Fates.{untouched, gone_by, taken_after}
use Rattle.salvagerules.specs.Needs.{kept_by_four}
use Rattle.salvagerules.specs.Indexes.{waiting_indexes, same_dots, is_lowest, waiting_index}
use Rattle.salvagerules.specs.Steps.{step_two, step_three, step_four, step_five, fates_of, insert_by, in_order_by, salvaged}
use Rattle.salvagerules.specs.Report.{told_from, steps_of, told_of, told_bytes}
use Rattle.salvagerules.specs.Calls.{salvaged_image, salvage_report}

row : ℕ → ℕ → ℕ → ℕ → ℕ → Record
row kind index actor key number = record { kind = kind; index = index; actor = actor; key = key; number = number }

-- the step of each record, and the records that are written
record Done : Type 0 where
  steps : List ℕ
  written : List Record

done : List Record → Done
done l = record { steps = map (λ f. f.step) (fates_of l); written = salvaged l }

-- M of document 01 comes back, and nothing is told
whole : List Record
unfolding row
whole = row 1 0 1 0 1 ∷ row 2 0 1 5 1 ∷ row 3 0 0 5 40 ∷ row 4 0 1 5 1 ∷ []

whole-done : done whole ≡ record { steps = 0 ∷ 0 ∷ 0 ∷ 0 ∷ []; written = whole }
unfolding row whole done sift fold first_in clock_before record_ok before every each_after count_after tally taken_after waiting_indexes same_dots
    is_lowest waiting_index step_two step_three step_four step_five fates_of insert_by in_order_by salvaged
whole-done = refl

-- a kind that a map has not, a record out of order, entry dots outside the map clock, a value of an entry that went, a value with no dot of its
-- own and a dot with no value, a gap in the indexes
worn : List Record
unfolding row
worn =
    row 1 0 1 0 3 ∷ row 9 0 0 0 0 ∷ row 1 0 1 0 2 ∷ row 2 0 1 5 3 ∷ row 2 0 2 5 1 ∷ row 2 0 1 6 4 ∷ row 3 0 7 5 40 ∷ row 3 2 7 5 41 ∷ row 3 0 0 6 9
    ∷ row 4 1 1 5 1 ∷ row 4 2 1 5 1 ∷ row 4 2 9 5 7 ∷ row 4 0 1 6 4 ∷ []

worn-done : done worn ≡ record {
  steps = 0 ∷ 2 ∷ 3 ∷ 0 ∷ 4 ∷ 4 ∷ 4 ∷ 5 ∷ 4 ∷ 4 ∷ 5 ∷ 5 ∷ 4 ∷ [];
  written = row 1 0 1 0 3 ∷ row 2 0 1 5 3 ∷ row 3 0 7 5 41 ∷ row 4 0 1 5 1 ∷ row 4 0 9 5 7 ∷ [];
}
unfolding row worn done sift fold first_in clock_before record_ok before every each_after count_after tally taken_after waiting_indexes same_dots
    is_lowest waiting_index step_two step_three step_four step_five fates_of insert_by in_order_by salvaged
worn-done = refl

-- waiting clocks 3 and 7 are equal, and 5 stands before them: 7's dot goes, its key 10 is listed by 3 already, its key 11 takes the united clock's
-- index; keys whose clock is not there go by 4
waiting : List Record
unfolding row
waiting =
    row 5 3 2 0 5 ∷ row 5 5 1 0 9 ∷ row 5 7 2 0 5 ∷ row 6 3 0 10 0 ∷ row 6 7 0 10 0 ∷
    row 6 5 0 11 0 ∷ row 6 7 0 11 0 ∷ row 6 8 0 11 0 ∷ row 6 1 0 12 0 ∷ []

waiting-done : done waiting ≡ record {
  steps = 5 ∷ 5 ∷ 5 ∷ 5 ∷ 5 ∷ 5 ∷ 5 ∷ 4 ∷ 4 ∷ [];
  written = row 5 0 1 0 9 ∷ row 5 1 2 0 5 ∷ row 6 1 0 10 0 ∷ row 6 0 0 11 0 ∷ row 6 1 0 11 0 ∷ [];
}
unfolding row waiting done sift fold first_in clock_before record_ok before every each_after count_after tally taken_after waiting_indexes same_dots
    is_lowest waiting_index step_two step_three step_four step_five fates_of insert_by in_order_by salvaged
waiting-done = refl

-- M without its map clock's dot: nothing of the entry comes back
clock-lost : done (row 2 0 1 5 1 ∷ row 3 0 0 5 40 ∷ row 4 0 1 5 1 ∷ []) ≡ record { steps = 4 ∷ 4 ∷ 4 ∷ []; written = [] }
unfolding row done sift fold first_in clock_before record_ok before every each_after count_after tally taken_after waiting_indexes same_dots
    is_lowest waiting_index step_two step_three step_four step_five fates_of insert_by in_order_by salvaged
clock-lost = refl

-- of equal waiting clocks the lower index's records stay, here with their own index
equal-clocks : done (row 5 0 2 0 5 ∷ row 5 1 2 0 5 ∷ []) ≡ record { steps = 0 ∷ 5 ∷ []; written = row 5 0 2 0 5 ∷ [] }
unfolding row done sift fold first_in clock_before record_ok before every each_after count_after tally taken_after waiting_indexes same_dots
    is_lowest waiting_index step_two step_three step_four step_five fates_of insert_by in_order_by salvaged
equal-clocks = refl

-- what went counts toward no limit: of three the first fails by its kind, so the second is the first that stays, and the third is one too many
one_of_three : taken_after 4 (λ seen r. eqb r.kind 1 && ltb (length seen) 1) []
    (untouched (row 2 0 1 5 1) ∷ untouched (row 1 0 1 0 1) ∷ untouched (row 1 0 2 0 1) ∷ [])
    ≡ gone_by 4 (untouched (row 2 0 1 5 1)) ∷ untouched (row 1 0 1 0 1) ∷ gone_by 4 (untouched (row 1 0 2 0 1)) ∷ []
unfolding row sift taken_after
one_of_three = refl

-- the fourth value of a key stays, and the fifth goes
values : ℕ → List Record
unfolding row
values zero = row 2 0 1 5 1 ∷ []
values (suc n) = values n ++ (row 3 n 0 5 40 ∷ [])

fourth-stays : kept_by_four (row 4 3 1 5 1 ∷ []) (values 3) (row 3 3 0 5 40) ≡ true
unfolding row values sift first_in count_after tally
fourth-stays = refl

fifth-goes : kept_by_four (row 4 4 1 5 1 ∷ []) (values 4) (row 3 4 0 5 40) ≡ false
unfolding row values sift first_in count_after tally
fifth-goes = refl

-- bytes: a record bad by itself, a good one, and a part of one; the report has places 0 and 2
torn : List ℕ
torn = 1 ∷ 0 ∷ 1 ∷ 0 ∷ 0 ∷ 0 ∷ 0 ∷ 0 ∷ 0 ∷ 0 ∷ 0 ∷ 0 ∷ 0 ∷ 0 ∷ 0 ∷ 0 ∷ 1 ∷ 0 ∷ 1 ∷ 0 ∷ 0 ∷ 0 ∷ 0 ∷ 0 ∷ 9 ∷ 0 ∷ 0 ∷ 0 ∷ 0 ∷ 0 ∷ 0 ∷ 0 ∷ 4 ∷ 4 ∷ []

torn-image : salvaged_image torn ≡ 1 ∷ 0 ∷ 1 ∷ 0 ∷ 0 ∷ 0 ∷ 0 ∷ 0 ∷ 9 ∷ 0 ∷ 0 ∷ 0 ∷ 0 ∷ 0 ∷ 0 ∷ 0 ∷ []
unfolding torn salvaged_image record_from records_from bytes_of sift fold first_in clock_before record_ok before every each_after count_after tally
    taken_after
    waiting_indexes same_dots is_lowest waiting_index step_two step_three step_four step_five fates_of insert_by in_order_by salvaged
torn-image = refl

torn-report : salvage_report torn ≡ 0 ∷ 0 ∷ 0 ∷ 0 ∷ 2 ∷ 2 ∷ 0 ∷ 0 ∷ 0 ∷ 1 ∷ []
unfolding torn salvage_report told_from steps_of told_of told_bytes record_from records_from bytes_of sift fold first_in clock_before record_ok
    before every
    each_after count_after tally taken_after waiting_indexes same_dots is_lowest waiting_index step_two step_three step_four step_five fates_of
torn-report = refl

-- a whole image has an empty report
dot : List ℕ
dot = 1 ∷ 0 ∷ 1 ∷ 0 ∷ 0 ∷ 0 ∷ 0 ∷ 0 ∷ 9 ∷ 0 ∷ 0 ∷ 0 ∷ 0 ∷ 0 ∷ 0 ∷ 0 ∷ []

dot-report : salvage_report dot ≡ []
unfolding dot salvage_report told_from steps_of told_of told_bytes record_from records_from bytes_of sift fold first_in clock_before record_ok before
    every
    each_after count_after tally taken_after waiting_indexes same_dots is_lowest waiting_index step_two step_three step_four step_five fates_of
dot-report = refl
