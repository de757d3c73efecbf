-- Sets of keys and waiting removals as packs of their lists.
use mathlib.Core.Path.{◌≡◌, ap, ◌∙◌}
use mathlib.Core.List.{[], List, ◌∷◌, ◌++◌}
use Prim.Native.Nat.{ℕ, ◌+◌, ◌<◌}
use lib.ListN.{length, set}
use Rattle.listlaws.proofs.Pads.{take-pad, push-pad, length-snoc}
use Rattle.removals.specs.declared.Removal.{Removal}
use Rattle.removals.specs.declared.Keys.{Keys}
use Rattle.removals.specs.declared.Waiting.{Waiting}
use Rattle.limits.specs.Limits.{waiting_limit, key_limit}
use Rattle.removals.specs.Model.{no_removal, keys_of, keys_as, waiting_of, waiting_as}

-- what the logic reads past the end of an array of removals
abbrev pub no_removal_read : Removal
no_removal_read = record { clock = record { dots = []; len = 0 }; keys = record { items = []; len = 0 } }

pub keys-of : (l : List ℕ) → keys_of (keys_as l) ≡ l
keys-of l = take-pad 0 key_limit l

pub waiting-of : (l : List Removal) → waiting_of (waiting_as l) ≡ l
waiting-of l = take-pad no_removal waiting_limit l

-- the keys, and the removals, of what was laid down from a list
pub keys_from : {k : Keys} (l : List ℕ) → k ≡ keys_as l → keys_of k ≡ l
keys_from l e = ap keys_of e ∙ keys-of l

pub waiting-from : {w : Waiting} (l : List Removal) → w ≡ waiting_as l → waiting_of w ≡ l
waiting-from l e = ap waiting_of e ∙ waiting-of l

-- one stored behind the last
pub key_pushed : {k : Keys} (l : List ℕ) (x : ℕ) → k ≡ keys_as l → length l < key_limit
    → ◌≡◌ {A = Keys} (record { items = set k.items k.len x; len = k.len + 1 }) (keys_as (l ++ (x ∷ [])))
key_pushed l x e h = rw (e, push-pad 0 key_limit l x h, length-snoc l x)

pub removal-pushed : {w : Waiting} (l : List Removal) (x : Removal) → w ≡ waiting_as l → length l < waiting_limit
    → ◌≡◌ {A = Waiting} (record { items = set w.items w.len x; len = w.len + 1 }) (waiting_as (l ++ (x ∷ [])))
removal-pushed l x e h = rw (e, push-pad no_removal waiting_limit l x h, length-snoc l x)
