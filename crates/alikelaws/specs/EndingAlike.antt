-- When a withdrawn value stays away, and when drives end alike: the theorems over the calls, in the words of their users.
use Rattle.std.specs.Prelude.{List, [], ℕ, ◌^◌, ◌<◌, take}
use Rattle.listlaws.specs.Order.{◌∈◌}
use Rattle.maprecords.specs.Related.{read_map}
use Rattle.promises.specs.Promises.{RmReadCtxPromise}
use Rattle.maplaws.specs.Among.{Exactly}
use Rattle.anyorderlaws.specs.Calls.{MapImage, OpImages}
use Rattle.alikelaws.specs.Among.{UpdateIn, RemovalIn}
use Rattle.alikelaws.specs.Honest.{Honest}
use Rattle.alikelaws.specs.Runs.{ops_of, OwnDots}
use Rattle.alikelaws.specs.Withdrawal.{NotForeign, StaysAway, StandsNowhere}
use Rattle.alikelaws.specs.Picture.{Pictures}
use Rattle.alikelaws.specs.Agreement.{Fed, Agree}
use Rattle.alikelaws.specs.MadeCalls.{Drive, MadeCalls}

-- "all operations in H"
abbrev pub AllIn : List (List ℕ) → List (List ℕ) → Type 0
AllIn h ops = (o : List ℕ) → o ∈ ops → o ∈ h

-- "the runs have the same operations": in any order, each as often as one likes
abbrev pub SameOps : List (List ℕ) → List (List ℕ) → Type 0
SameOps ops others = (o : List ℕ) → Exactly (o ∈ ops) (o ∈ others)

pub record EndingAlike : Type 0 where
  -- T1 and T1b: "Let every update of a run of accepted applies, from any accepted image, have a put clock that names its own dot."
  pub stays-away : {s : List ℕ} {ops : List (List ℕ)} → MapImage s → OpImages ops → OwnDots (ops_of ops) → StaysAway s ops
  -- a program need not believe that premise: it asks castribba_ready, of any map
  pub own-asked : {ops : List (List ℕ)} → OpImages ops → ((o : List ℕ) → o ∈ ops → NotForeign o) → OwnDots (ops_of ops)
  -- the corollary: "what stood under k where `castribba_rm_read_ctx` was called, on a map fed by the guard, .. stands in no map of a run with that
  -- removal"
  pub stands-nowhere : {h : List (List ℕ)} → MadeCalls h → {map : List ℕ} (d : Drive h map) {entry exit : List ℕ} {word key : ℕ} → key < 2 ^ 32
      → RmReadCtxPromise map key entry exit word → word < 2 ^ 32 → StandsNowhere d.ops key (take word exit)
  -- section 4, "What every map is": a function of the operations that a drive has applied
  pub pictured : {h ops : List (List ℕ)} {last : List ℕ} → OpImages h → Honest (ops_of h) → AllIn h ops → Fed [] ops last
      → Pictures (UpdateIn (ops_of ops)) (RemovalIn (ops_of ops)) (read_map last).map
  -- T2: "Let H be honest, and two runs of accepted applies from the empty map, all operations in H, each update `next` or `seen` by the guard before
  -- its call. If the runs have the same operations, the last maps have the same settings, and `castribba_len` and `castribba_bays` answer the same
  -- bytes." Not the same images.
  pub converge : {h ops others : List (List ℕ)} {one other : List ℕ} → OpImages h → Honest (ops_of h) → AllIn h ops → SameOps ops others
      → Fed [] ops one → Fed [] others other → Agree one other
  -- T2b: "If every operation was made by `castribba_update` or `castribba_rm_read_ctx` on a map that such a run ended in (an actor's updates on a
  -- map that has all its earlier ones), H is honest."
  pub made-honest : {h : List (List ℕ)} → MadeCalls h → OpImages h × Honest (ops_of h)
  -- both together: nothing is left that a program must believe
  pub made-converge : {h ops others : List (List ℕ)} {one other : List ℕ} → MadeCalls h → AllIn h ops → SameOps ops others
      → Fed [] ops one → Fed [] others other → Agree one other
