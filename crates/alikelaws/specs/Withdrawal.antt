-- T1, T1b and the corollary, of calls as a program makes them.
use Rattle.std.specs.Prelude.{◌≡◌, List, [], ◌∷◌, ℕ, ◌*◌, ◌^◌}
use Rattle.listlaws.specs.Order.{◌∈◌}
use Rattle.register.specs.declared.Value.{Value}
use Rattle.entries.specs.declared.Entry.{Entry}
use Rattle.entries.specs.declared.Update.{Update}
use Rattle.entries.specs.Model.{values_in}
use Rattle.map.specs.declared.Map.{Map}
use Rattle.map.specs.declared.Op.{Op}
use Rattle.map.specs.Model.{entries_in}
use Rattle.maprecords.specs.Related.{read_map}
use Rattle.readiness.specs.Ready.{put_of}
use Rattle.promises.specs.Ready.{ReadyPromise}
use Rattle.anyorderlaws.specs.Calls.{Called, MapImage, OpImages, RemovalImage, removal_of}
use Rattle.alikelaws.specs.Among.{UpdateIn}
use Rattle.alikelaws.specs.Source.{Source, ComesFrom, Withdrawn}
use Rattle.alikelaws.specs.Runs.{ops_of, OwnDots}

-- castribba_ready, asked on some accepted map, did not answer 19 for this operation
pub record NotForeign (o : List ℕ) : Type 0 where
  pub map : List ℕ
  pub image : MapImage map
  pub told : ℕ
  pub asked : ReadyPromise map o told
  pub other : told ≡ 19 * 2 ^ 32 → ⊥

pub record StaysAway (s : List ℕ) (ops : List (List ℕ)) : Type 0 where
  -- T1: "let the removal (C, K) be in the run. Then every value under a key of K in the last map has a source whose put clock C does not cover: an
  -- update of the run with its key, value and origin (or one of the first map's values)."
  pub in-any-order : {last o : List ℕ} → Called s ops last → o ∈ ops → RemovalImage o
      → Withdrawn (read_map s).map (ops_of ops) (removal_of o) (read_map last).map
  -- T1b: "If a removal is applied to any map whose values have sources as above, nothing within C is left under K." So too after anything else that
  -- led to the image s: the run may be empty, and the values of s are then the sources.
  pub applied-again : {last after o : List ℕ} → Called s ops last → RemovalImage o → Called last (o ∷ []) after
      → Withdrawn (read_map s).map (ops_of ops) (removal_of o) (read_map after).map

-- a value that comes from none of the updates that a drive had been fed
abbrev pub NeverFed : List (List ℕ) → Map → List Op → ℕ → Value → Type 0
NeverFed seen first ops k v = ComesFrom (λ x p. Source first ops k x p × ((u : Update) → UpdateIn (ops_of seen) u → put_of u ≡ p → ⊥)) v

-- of a drive that was fed these, and the removal of a key that it made: in no run with that removal, from any image and in any order, is there
-- under that key what the drive had been fed
pub record StandsNowhere (seen : List (List ℕ)) (key : ℕ) (removal : List ℕ) : Type 0 where
  pub nowhere : {s last : List ℕ} {ops : List (List ℕ)} → MapImage s → OpImages ops → OwnDots (ops_of ops) → removal ∈ ops → Called s ops last
      → (e : Entry) → e ∈ entries_in (read_map last).map → e.key ≡ key → (v : Value) → v ∈ values_in e
      → NeverFed seen (read_map s).map (ops_of ops) e.key v
