-- T2b: operations that were made by castribba_update or castribba_rm_read_ctx on a map that a run by the guard ended in.
use Rattle.std.specs.Prelude.{◌≡◌, List, [], ◌∷◌, ℕ}
use Rattle.listlaws.specs.Order.{◌∈◌}
use Rattle.register.specs.declared.Content.{Content}
use Rattle.entries.specs.declared.Update.{Update}
use Rattle.map.specs.declared.Op.{Op}
use Rattle.map.specs.Model.{seen_by, no_map}
use Rattle.asking.specs.Asking.{make_update, removal_op}
use Rattle.alikelaws.specs.Among.{UpdateIn}
use Rattle.alikelaws.specs.OnMaps.{applied, Guarded}

-- a run by the guard of operations that were made before
pub record Stage (h ops : List Op) : Type 0 where
  pub among : (o : Op) → o ∈ ops → o ∈ h
  pub guarded : Guarded no_map ops

-- the operations made so far, the newest first
pub data MadeOps : List Op → Type 0 where
  nothing : MadeOps []
  -- "(an actor's updates on a map that has all its earlier ones)"
  updated : {h ops : List Op} {o : Op} (actor key : ℕ) (x : Content) → MadeOps h → Stage h ops
      → ((u : Update) → UpdateIn h u → u.dot.actor ≡ actor → UpdateIn ops u)
      → make_update (applied no_map ops) actor key x ≡ record { number = 0; op = o } → MadeOps (o ∷ h)
  removed : {h ops : List Op} {o : Op} (key : ℕ) → MadeOps h → Stage h ops → removal_op (seen_by (applied no_map ops)) key ≡ o → MadeOps (o ∷ h)
