-- How the writers go through the marks: the records that stay, the least one above the last written, and the steps that are told.
use Rattle.std.specs.Prelude.{cond, ◌&&◌, List, [], ◌∷◌, map, ℕ, zero, suc, ◌-◌, ltb}
use Rattle.listlaws.specs.Fold.{fold}
use Rattle.listlaws.specs.Sift.{those}
use Rattle.records.specs.declared.Record.{Record}
use Rattle.records.specs.Kinds.{before}
use Rattle.salvagerules.specs.Indexes.{with_index}
use Rattle.culling.specs.Marks.{MarkedRecord, is_left_at}
use Rattle.mending.specs.Fated.{fate_of}

-- a record with the index that its mark gives it
abbrev pub renewed_of : MarkedRecord → Record
renewed_of z = cond (ltb z.mark 8) z.item (with_index (z.mark - 8) z.item)

-- those that stay, as they will be written
abbrev pub kept_of : List MarkedRecord → List Record
kept_of l = map renewed_of (those (is_left_at 8) l)

-- above every record
abbrev pub top_record : Record
top_record = record { kind = 255; index = 0; actor = 0; key = 0; number = 0 }

abbrev pub lesser_of : Record → Record → Record → Record
lesser_of last best r = cond (before last r && before r best) r best

-- the least record above the last
abbrev pub least_above : Record → List Record → Record
least_above last l = fold (lesser_of last) top_record l

-- n records, each the least above the one before it
unfoldable pub select_from : ℕ → Record → List Record → List Record
select_from zero last l = []
select_from (suc n) last l = least_above last l ∷ select_from n (least_above last l) l

-- the steps that marks tell
abbrev pub steps_in : List MarkedRecord → List ℕ
steps_in l = map (λ z. (fate_of z).step) l
