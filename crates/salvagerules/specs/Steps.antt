-- The steps of salvage, one after the other, and the records that are written.
use Rattle.std.specs.Prelude.{Bool, true, not, cond, ◌&&◌, List, [], ◌∷◌, map, eqb}
use Rattle.listlaws.specs.Fold.{fold}
use Rattle.records.specs.declared.Record.{Record}
use Rattle.records.specs.Kinds.{clock_dot_kind, waiting_key_kind, record_ok, before}
use Rattle.scan.specs.Each.{every}
use Rattle.salvagerules.specs.Fates.{Fate, untouched, staying, taken}
use Rattle.salvagerules.specs.Needs.{kept_by_four}
use Rattle.salvagerules.specs.Indexes.{new_index, with_index, kept_by_five}

-- "2: records bad by themselves go."
unfoldable pub step_two : List Fate → List Fate
step_two l = taken 2 (λ seen r. record_ok clock_dot_kind waiting_key_kind r) l

-- "3: records not above the last one kept go.": those kept ascend, so what is above the last is above all
unfoldable pub step_three : List Fate → List Fate
step_three l = taken 3 (λ seen r. every (λ s. before s r) seen) l

-- "4: taken in order, a record stays only if what it needs stays and its limit isn't yet full"
unfoldable pub step_four : List Fate → List Fate
step_four l = taken 4 (kept_by_four (staying l)) l

-- "index gaps are closed": "changed" is another index in that very record
abbrev pub renumbered : List Record → Fate → Fate
renumbered k f =
    cond (f.stays && not (eqb (new_index k f.item) f.item.index))
    (record { item = with_index (new_index k f.item) f.item; stays = true; step = 5 }) f

-- "5: index gaps are closed, equal waiting clocks united (records of the lower index stay), the 16 lowest keys of each kept"
unfoldable pub step_five : List Fate → List Fate
step_five l = map (renumbered (staying l)) (taken 5 (kept_by_five (staying l)) l)

-- what becomes of each record
unfoldable pub fates_of : List Record → List Fate
fates_of l = step_five (step_four (step_three (step_two (map untouched l))))

-- "and all put in order"
unfoldable pub insert_by : {A : Type 0} → (A → A → Bool) → A → List A → List A
insert_by first x [] = x ∷ []
insert_by first x (y ∷ l) = cond (first x y) (x ∷ (y ∷ l)) (y ∷ insert_by first x l)

unfoldable pub in_order_by : {A : Type 0} → (A → A → Bool) → List A → List A
in_order_by first l = fold (λ s x. insert_by first x s) [] l

-- the records that are written
unfoldable pub salvaged : List Record → List Record
salvaged l = in_order_by before (staying (fates_of l))
