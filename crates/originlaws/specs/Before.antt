-- What a reader made of an image before values had origins: the table of kinds and the order of 01 as they stood then, by the field of the
-- actor itself.
use Rattle.std.specs.Prelude.{ℕ, Bool, cond, ◌&&◌, ◌||◌, List, [], ◌∷◌, ◌++◌, eqb, ltb, leb, get_or}
use Rattle.records.specs.declared.Record.{Record}
use Rattle.records.specs.Kinds.{fields_ok, counter_ok, clock_dot_kind, waiting_key_kind, removal_kind, put_dot_kind}
use Rattle.scan.specs.Each.{every, each}
use Rattle.scan.specs.Limits.{Limits, today, outer, middle, same_kind, same_outer, same_middle, tally, within_limits_by}
use Rattle.clockimage.specs.Image.{image_of}
use Rattle.opimage.specs.OpImage.{ReadOp}
use Rattle.opimage.specs.OpImage.{op_longest, op_related, op_in, refused_op}
use Rattle.mapimage.specs.MapImage.{map_longest}
use Rattle.maprecords.specs.Related.{ReadMap}
use Rattle.maprecords.specs.Reading.{map_in}
use Rattle.maprecords.specs.Related.{related, refused_map}

-- kinds 3 and 11 had bits 13 and 8: no actor
abbrev pub old_masks : List ℕ
old_masks = 0 ∷ 10 ∷ 14 ∷ 13 ∷ 15 ∷ 11 ∷ 5 ∷ 0 ∷ 10 ∷ 4 ∷ 14 ∷ 8 ∷ 10 ∷ []

abbrev pub old_mask : ℕ → ℕ
old_mask kind = get_or old_masks kind 0

unfoldable pub old_ok : ℕ → ℕ → Record → Bool
old_ok low high r =
    leb low r.kind && (leb r.kind high && (fields_ok (old_mask r.kind) r && counter_ok (old_mask r.kind) r))

-- "Records ascend strictly by (kind, key, index, actor)", with nothing skipped
unfoldable pub old_before : Record → Record → Bool
old_before a b =
    ltb a.kind b.kind || (eqb a.kind b.kind
    && (ltb a.key b.key || (eqb a.key b.key
    && (ltb a.index b.index || (eqb a.index b.index && ltb a.actor b.actor)))))

abbrev pub old_follows : ℕ → ℕ → List Record → Record → Bool
old_follows low high seen r = old_ok low high r && every (λ s. old_before s r) seen

abbrev pub old_formed : ℕ → ℕ → List Record → Bool
old_formed low high l = each (old_follows low high) l

-- the limits, of a sled of some size, counted every record's actor
abbrev pub old_room : Limits → List Record → Record → Bool
old_room t seen r =
    within_limits_by t r.kind (tally (same_kind r) outer (seen ++ (r ∷ [])))
    (tally (same_outer r) middle (seen ++ (r ∷ []))) (tally (same_middle r) (λ x. x.actor) (seen ++ (r ∷ [])))

abbrev pub old_within : Limits → List Record → Bool
old_within t l = each (old_room t) l

-- 1, 2, 3, or what the records stand for
abbrev pub old_judged : {R : Type 0} → Limits → ℕ → ℕ → (ℕ → R) → (List Record → Bool) → (List Record → R) → List Record → R
old_judged t low high refused fit meant l =
    cond (old_formed low high l) (cond (old_within t l) (cond (fit l) (meant l) (refused 3)) (refused 2)) (refused 1)

unfoldable pub old_map : List ℕ → ReadMap
old_map s =
    image_of map_longest refused_map
    (old_judged today clock_dot_kind waiting_key_kind refused_map related (λ l. record { number = 0; map = map_in l })) s

unfoldable pub old_op : List ℕ → ReadOp
old_op s = image_of op_longest refused_op (old_judged today removal_kind put_dot_kind refused_op op_related
    (λ l. record { number = 0; op = op_in l })) s
