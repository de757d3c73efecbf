-- The number of each image, of each result and of each making is what its rows decide.
use mathlib.Core.Path.{◌≡◌, refl, ap, sym, ◌∙◌}
use mathlib.Core.Bool.{Bool, true, false, cond}
use mathlib.Core.Logic.{◌⊎◌, inl, inr, ⊎_elim}
use mathlib.Core.List.{List, [], ◌∷◌, ◌++◌}
use Prim.Native.Nat.{ℕ, ◌-◌, ◌%◌, ◌^◌, ◌≤◌}
use native.Mathlib.Omega.{arith}
use lib.Dec.{eqb, ltb, leb}
use lib.ListN.{length}
use borrow.Author.Tests.{ltb-false}
use Rattle.limits.specs.Limits.{dot_limit}
use Rattle.clock.specs.declared.Dot.{Dot}
use Rattle.clock.specs.Dots.{counter_in, add_dot}
use Rattle.register.specs.declared.Content.{Content}
use Rattle.removals.specs.Waits.{reset_waiting}
use Rattle.removals.specs.Counted.{overlong}
use Rattle.removals.proofs.Lengths.{reset-few}
use Rattle.listlaws.specs.First.{some}
use Rattle.map.specs.declared.Map.{Map}
use Rattle.map.specs.Model.{seen_by, waiting_in}
use Rattle.map.specs.Resetting.{reset}
use Rattle.map.specs.Valid.{Within}
use Rattle.map.specs.Judging.{exceeding, over_dots, over_entries, over_values, over_waiting, over_keys, over_number, judged}
use Rattle.map.proofs.Accepts.{fits-means}
use Rattle.map.proofs.Outcomes.{reset-outcome}
use Rattle.map.proofs.Verdicts.{judged-number}
use Rattle.asking.specs.Contexts.{dot_after, add_context}
use Rattle.asking.specs.Asking.{make_update, update_under}
use Rattle.records.specs.declared.Record.{Record}
use Rattle.records.specs.Records.{records_of}
use Rattle.records.specs.Kinds.{clock_dot_kind, waiting_key_kind, removal_kind, put_dot_kind}
use Rattle.scan.specs.Formed.{well_formed}
use Rattle.scan.specs.Limits.{within}
use Rattle.scan.specs.Numbers.{scan_number}
use Rattle.scan.proofs.Eachs.{decide}
use Rattle.clockimage.specs.Image.{image_of}
use Rattle.clockimage.specs.ClockImage.{clock_longest, read_clock}
use Rattle.opimage.specs.OpImage.{ReadOp}
use Rattle.opimage.specs.OpImage.{op_longest, op_related, refused_op, op_in, read_op}
use Rattle.mapimage.specs.MapImage.{map_longest}
use Rattle.maprecords.specs.Related.{ReadMap}
use Rattle.maprecords.specs.Reading.{map_in}
use Rattle.maprecords.specs.Related.{related, refused_map, read_map}
use Rattle.demandlaws.specs.Rows.{Row, row, decided}
use Rattle.demandlaws.specs.Tables.{scan_rows, unrelated, map_rows, op_rows, clock_rows, limit_rows, made_rows}

-- an image of records that are scanned, and then held against each other
module _ {R : Type 0} (longest low high : ℕ) (fits : List Record → Bool) (refused : ℕ → R) (accepted : List Record → R) (number : R → ℕ)
    (told : (n : ℕ) → number (refused n) ≡ n) (passed : (l : List Record) → number (accepted l) ≡ 0) (s : List ℕ) where
  abbrev verdict : List Record → R
  verdict l = cond (eqb (scan_number low high l) 0) (cond (fits l) (accepted l) (refused 3)) (refused (scan_number low high l))

  image-number : number (image_of longest refused verdict s) ≡ decided (scan_rows longest low high s ++ unrelated fits s)
  unfolding decided scan_number
  image-number =
      decide (ltb longest (length s)) (λ a. rw a (told 2))
      (λ a. decide (eqb (length s % 16) 0)
      (λ b. decide (well_formed low high (records_of s))
      (λ c. decide (within (records_of s))
      (λ d. decide (fits (records_of s)) (λ e. rw (a, b, c, d, e) (passed (records_of s))) (λ e. rw (a, b, c, d, e) (told 3)))
      (λ d. rw (a, b, c, d) (told 2)))
      (λ c. rw (a, b, c) (told 1)))
      (λ b. rw (a, b) (told 1)))

pub map-number : (s : List ℕ) → (read_map s).number ≡ decided (map_rows s)
unfolding read_map
map-number s =
    image-number map_longest clock_dot_kind waiting_key_kind related refused_map (λ l. record { number = 0; map = map_in l })
    (λ (r : ReadMap). r.number) (λ n. refl) (λ l. refl) s

pub op-number : (s : List ℕ) → (read_op s).number ≡ decided (op_rows s)
unfolding read_op
op-number s =
    image-number op_longest removal_kind put_dot_kind op_related refused_op (λ l. record { number = 0; op = op_in l })
    (λ (r : ReadOp). r.number) (λ n. refl) (λ l. refl) s

-- a clock's records are held against nothing
pub clock-number : (s : List ℕ) → (read_clock s).number ≡ decided (clock_rows s)
unfolding read_clock decided scan_number
clock-number s =
    decide (ltb clock_longest (length s)) (λ a. rw a)
    (λ a. decide (eqb (length s % 16) 0)
    (λ b. decide (well_formed clock_dot_kind clock_dot_kind (records_of s))
    (λ c. decide (within (records_of s)) (λ d. rw (a, b, c, d)) (λ d. rw (a, b, c, d)))
    (λ c. rw (a, b, c)))
    (λ b. rw (a, b)))

-- an accepted image is no longer than the longest
pub map-long : (s : List ℕ) → (read_map s).number ≡ 0 → length s ≤ map_longest
unfolding read_map
map-long s z = decide (ltb map_longest (length s)) (λ a. absurd (let q = rw a at z in omega arith)) (λ a. ltb-false map_longest (length s) a)

pub op-long : (s : List ℕ) → (read_op s).number ≡ 0 → length s ≤ op_longest
unfolding read_op
op-long s z = decide (ltb op_longest (length s)) (λ a. absurd (let q = rw a at z in omega arith)) (λ a. ltb-false op_longest (length s) a)

-- a finished result, judged
over-rows : (m : Map) → over_number m ≡ decided (limit_rows m)
unfolding over_number decided
over-rows m = refl

pub limit-number : (m : Map) → (judged m).number ≡ decided (limit_rows m)
limit-number m = judged-number m ∙ over-rows m

-- a reset is over the limit on the keys of one, or over none
keys-alone : (m : Map) → (over_number m ≡ 0) ⊎ (over_number m ≡ 8) → over_number m ≡ cond (over_keys m) 8 0
unfolding over_number
keys-alone m h =
    decide (over_dots m) (λ a. ⊎_elim (λ e. absurd (let q = rw a at e in omega arith)) (λ e. absurd (let q = rw a at e in omega arith)) h)
    (λ a. decide (over_entries m)
    (λ b. ⊎_elim (λ e. absurd (let q = rw (a, b) at e in omega arith)) (λ e. absurd (let q = rw (a, b) at e in omega arith)) h)
    (λ b. decide (over_values m)
    (λ c. ⊎_elim (λ e. absurd (let q = rw (a, b, c) at e in omega arith)) (λ e. absurd (let q = rw (a, b, c) at e in omega arith)) h)
    (λ c. decide (over_waiting m)
    (λ d. ⊎_elim (λ e. absurd (let q = rw (a, b, c, d) at e in omega arith)) (λ e. absurd (let q = rw (a, b, c, d) at e in omega arith)) h)
    (λ d. rw (a, b, c, d)))))

pub reset-number : {m : Map} → Within m → (c : List Dot) → (judged (reset m c)).number ≡ decided (row 8 (over_keys (reset m c)) ∷ [])
unfolding decided
reset-number {m} i c = judged-number (reset m c) ∙ keys-alone (reset m c) (eight (some overlong (reset_waiting c (waiting_in m))) refl)
  where
    few : length (reset_waiting c (waiting_in m)) ≤ Rattle.limits.specs.Limits.waiting_limit
    few = omega (arith, reset-few c (waiting_in m), (fits-means m i.limits).number)

    eight : (f : Bool) → some overlong (reset_waiting c (waiting_in m)) ≡ f → (over_number (reset m c) ≡ 0) ⊎ (over_number (reset m c) ≡ 8)
    eight true t = inr (sym (judged-number (reset m c)) ∙ ap (λ j. j.number) (reset-outcome i c few true t))
    eight false t = inl (sym (judged-number (reset m c)) ∙ ap (λ j. j.number) (reset-outcome i c few false t))

-- making an update
pub made-number : (m : Map) (actor key : ℕ) (value : Content) → (make_update m actor key value).number ≡ decided (made_rows (seen_by m) actor)
unfolding make_update update_under add_context decided
made-number m actor key value =
    decide (leb (2 ^ 64 - 1) (counter_in (seen_by m) actor)) (λ a. rw a)
    (λ a. decide (exceeding dot_limit (add_dot (seen_by m) (dot_after (seen_by m) actor))) (λ b. rw (a, b)) (λ b. rw (a, b)))
