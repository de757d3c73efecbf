-- What becomes of each record, by its mark after all steps.
use Rattle.std.specs.Prelude.{◌≡◌, true, cond, List, map, ℕ, ◌-◌, ◌/◌, ◌<◌, ltb, length, get_or}
use Rattle.records.specs.declared.Record.{Record}
use Rattle.salvagerules.specs.Fates.{Fate, staying, taken}
use Rattle.salvagerules.specs.Indexes.{with_index, kept_by_five}
use Rattle.culling.specs.Marks.{MarkedRecord, marked_of, plain_fate, after_four}

-- from 8 on: it stays, with another index
abbrev pub fate_of : MarkedRecord → Fate
fate_of z = cond (ltb z.mark 8) (plain_fate z) (record { item = with_index (z.mark - 8) z.item; stays = true; step = 5 })

-- what goes at step 5 has gone
abbrev pub united_fates : List Record → List Fate
united_fates l = taken 5 (kept_by_five (staying (after_four l))) (after_four l)

-- the marks say so, and each new index is a byte
pub record Tells (marks s : List ℕ) (l : List Fate) : Type 0 where
  pub fates : map fate_of (marked_of marks s) ≡ l
  pub small : (i : ℕ) → i < length s / 16 → get_or marks i 0 < 264
