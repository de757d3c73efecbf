-- T2 of calls as a program makes them, castribba_ready asked before each.
use Rattle.std.specs.Prelude.{◌≡◌, ◌⊎◌, List, [], ◌∷◌, ℕ, ◌*◌, ◌^◌, ◌<◌, length, take}
use Rattle.mapimage.specs.MapImage.{map_longest}
use Rattle.maprecords.specs.Related.{read_map}
use Rattle.promises.specs.Promises.{ApplyPromise, LenPromise, LenCountPromise}
use Rattle.promises.specs.Ready.{ReadyPromise}
use Rattle.alikelaws.specs.Settings.{SameSettings}
use Rattle.loader.specs.Calls.{BayPromise, BaysPromise}

-- words of castribba_ready that let an operation through: 0, it is next, or 20, it was seen
abbrev pub LetsThrough : ℕ → Type 0
LetsThrough word = (word ≡ 0) ⊎ (word ≡ 20 * 2 ^ 32)

-- calls of castribba_apply, each with an output of the longest size and answered 0, the output the next one's map: as `Called` of anyorderlaws,
-- and "each update `next` or `seen` by the guard before its call" (of a removal the guard always says 0)
pub data Fed : List ℕ → List (List ℕ) → List ℕ → Type 0 where
  stop : {s : List ℕ} → Fed s [] s
  call : {s o entry exit last : List ℕ} {told word : ℕ} {ops : List (List ℕ)} → ReadyPromise s o told → LetsThrough told
      → ApplyPromise s o entry exit word → length entry ≡ map_longest → word < 2 ^ 32 → Fed (take word exit) ops last → Fed s (o ∷ ops) last

-- "the last maps have the same settings, and `castribba_len` and `castribba_bays` answer the same bytes"
pub record Agree (one other : List ℕ) : Type 0 where
  pub settings : SameSettings (read_map one).map (read_map other).map
  pub len : (r s : ℕ) → LenPromise one r → LenPromise other s → r ≡ s
  pub len-count : (r s : ℕ) → LenCountPromise one r → LenCountPromise other s → r ≡ s
  pub bay : (n : ℕ) (entry d e : List ℕ) (r s : ℕ) → BayPromise one n entry d r → BayPromise other n entry e s → (r ≡ s) × (d ≡ e)
  pub bays : (entry d e : List ℕ) (r s : ℕ) → BaysPromise one entry d r → BaysPromise other entry e s → (r ≡ s) × (d ≡ e)
