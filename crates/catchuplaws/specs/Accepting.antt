-- CR 12's sentences on the lists that castribba_catch_up accepts, over runs of castribba_apply.
use Rattle.std.specs.Prelude.{◌≡◌, ℕ, ◌+◌, ◌≤◌, length}
use mathlib.Core.List.{List, [], ◌++◌, flatten, Permᴰ}
use Rattle.map.specs.Valid.{Valid}
use Rattle.records.specs.Bytes.{Bytes}
use Rattle.maprecords.specs.Related.{read_map}
use Rattle.maplaws.specs.Among.{Exactly}
use Rattle.promises.specs.CatchUp.{operation_limit, operations_of}
use Rattle.promises.specs.Promises.{CatchUpPromise}
use Rattle.anyorderlaws.specs.Calls.{AllDone, end, MapImage, RemovalImages}

-- the call accepts: it answers 0
abbrev pub Accepts : List ℕ → List ℕ → List ℕ → Type 0
Accepts map other list = CatchUpPromise map other list 0

-- both maps are accepted, there are up to 32 operations, "applying them in order is never refused and ends in their map's image"
pub record BringsTo (map other list : List ℕ) : Type 0 where
  pub ours : (read_map map).number ≡ 0
  pub theirs : (read_map other).number ≡ 0
  pub few : length (operations_of list) ≤ operation_limit
  pub done : AllDone map (operations_of list)
  pub ends : end map (operations_of list) ≡ other

pub record CatchesUp : Type 0 where
  -- "it accepts exactly when" that is so
  pub exactly : (map other list : List ℕ) → Exactly (Accepts map other list) (BringsTo map other list)
  -- "An empty list is accepted exactly for equal images."
  pub empty : (map other : List ℕ) → (read_map map).number ≡ 0 → (read_map other).number ≡ 0 → Exactly (Accepts map other []) (map ≡ other)
  -- an accepted list ends in a valid map that reads as theirs
  pub valid : (map other list : List ℕ) → Accepts map other list → Valid (read_map (end map (operations_of list))).map
  pub reads : (map other list : List ℕ) → Accepts map other list → read_map (end map (operations_of list)) ≡ read_map other
  -- the cut loses nothing
  pub joined : (list : List ℕ) → flatten (operations_of list) ≡ list
  -- two lists that are accepted one after the other are accepted as one, up to 32
  pub composed : (map between other l m : List ℕ) → Bytes l → Bytes m → Accepts map between l → Accepts between other m
      → length (operations_of l) + length (operations_of m) ≤ operation_limit → Accepts map other (l ++ m)
  -- removals alone: "if one order is accepted throughout, every order is"
  pub any_order : (map other list : List ℕ) {others : List (List ℕ)} → MapImage map → RemovalImages (operations_of list)
      → Permᴰ (operations_of list) others → Accepts map other list → Accepts map other (flatten others)
