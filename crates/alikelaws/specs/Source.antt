-- Where a value comes from: "each value has a source, an update of its key with that value and origin, and its clock lies within the source's put
-- clock (or within its clock in the first map)".
use Rattle.std.specs.Prelude.{◌≡◌, true, false, List, ℕ}
use Rattle.listlaws.specs.Order.{◌∈◌}
use Rattle.clock.specs.declared.Dot.{Dot}
use Rattle.clock.specs.Dots.{dots_of, covers}
use Rattle.register.specs.declared.Content.{Content}
use Rattle.register.specs.declared.Value.{Value}
use Rattle.entries.specs.declared.Entry.{Entry}
use Rattle.entries.specs.declared.Update.{Update}
use Rattle.removals.specs.declared.Removal.{Removal}
use Rattle.entries.specs.Model.{values_in}
use Rattle.removals.specs.Model.{under_of, listed_in}
use Rattle.removals.specs.Waits.{listed}
use Rattle.map.specs.declared.Map.{Map}
use Rattle.map.specs.declared.Op.{Op}
use Rattle.map.specs.Model.{entries_in}
use Rattle.alikelaws.specs.Among.{UpdateIn}
use Rattle.readiness.specs.Ready.{put_of}

-- of a key, a value with its origin, and a clock: an update put that, or it stood in the first map
pub data Source (first : Map) (ops : List Op) (k : ℕ) (x : Content) (p : List Dot) : Type 0 where
  put : (u : Update) → UpdateIn ops u → u.key ≡ k → u.put.value ≡ x → put_of u ≡ p → Source first ops k x p
  stood : (e : Entry) (v : Value) → e ∈ entries_in first → e.key ≡ k → v ∈ values_in e → v.value ≡ x → dots_of v.clock ≡ p
      → Source first ops k x p

-- a value with a source such as S says, whose clock it lies within
pub record ComesFrom (S : Content → List Dot → Type 0) (v : Value) : Type 0 where
  pub under : List Dot
  pub source : S v.value under
  pub within : covers under (dots_of v.clock) ≡ true

-- every value of a map is such as Q says of its key and itself
abbrev pub EveryValue : (ℕ → Value → Type 0) → Map → Type 0
EveryValue Q m = (e : Entry) → e ∈ entries_in m → (v : Value) → v ∈ values_in e → Q e.key v

-- a source that a clock does not cover
abbrev pub Escapes : List Dot → (Content → List Dot → Type 0) → Content → List Dot → Type 0
Escapes c S x p = S x p × (covers c p ≡ false)

-- "every value under a key of K in the last map has a source whose put clock C does not cover"
abbrev pub Withdrawn : Map → List Op → Removal → Map → Type 0
Withdrawn first ops r m = EveryValue (λ k v. listed (listed_in r) k ≡ true → ComesFrom (Escapes (under_of r) (Source first ops k)) v) m
