-- Any two results that meet the contract of a public call are identical: one law, at every call.
use mathlib.Core.Path.{◌≡◌}
use mathlib.Core.List.{List}
use Prim.Native.Nat.{ℕ}
use Rattle.clock.specs.declared.Clock.{Clock}
use Rattle.answers.proofs.Answers.{same, same_answer, same_count, Written}
use Rattle.delivery.proofs.Whole.{SameEnd, same_end}
use Rattle.promises.specs.Promises.{ApplyPromise, MergePromise, ResetRemovePromise, UpdatePromise, RmGetPromise, RmReadCtxPromise, GetPromise}
use Rattle.promises.specs.Promises.{LenPromise, LenCountPromise, ValidateOpPromise, ValidateOpStartPromise, ValidateOpEndPromise}
use Rattle.promises.specs.Promises.{ValidateMergePromise, ValidateMergeActorPromise, ValidateMergeCounterPromise, ValidateMergeOurKeyPromise}
use Rattle.promises.specs.Promises.{ValidateMergeTheirKeyPromise, ApplyDeletedPromise, ResetRemoveDeletedPromise, ClockAdvancePromise}
use Rattle.promises.specs.Promises.{CatchUpPromise, CatchUpPlacePromise, DifferencesPromise, FloorPromise}
use Rattle.promises.specs.Promises.{PiecesBeginPromise, PiecesTakePromise, PiecesEndPromise}
use Rattle.promises.specs.Ready.{ReadyPromise, ReadyActorPromise, ReadyCounterPromise}

-- a call with a number alone, and one that leaves something lent beside its number
abbrev Numbered : (ℕ → Type 0) → Type 0
Numbered Promise = (r s : ℕ) → Promise r → Promise s → r ≡ s

abbrev Lent : {A : Type 0} → (A → ℕ → Type 0) → Type 0
Lent {A} Promise = (x y : A) (r s : ℕ) → Promise x r → Promise y s → (r ≡ s) × (x ≡ y)

pub record Determined : Type 0 where
  pub apply : (map op : List ℕ) → Written (ApplyPromise map op)
  pub merge : (map other : List ℕ) → Written (MergePromise map other)
  pub reset-remove : (map clock : List ℕ) → Written (ResetRemovePromise map clock)
  pub update : (map : List ℕ) (actor key value origin : ℕ) → Written (UpdatePromise map actor key value origin)
  pub rm-get : (map : List ℕ) (key : ℕ) → Written (RmGetPromise map key)
  pub rm-read-ctx : (map : List ℕ) (key : ℕ) → Written (RmReadCtxPromise map key)
  pub get : (map : List ℕ) (key : ℕ) → Written (GetPromise map key)
  pub len : (map : List ℕ) → Numbered (LenPromise map)
  pub len-count : (map : List ℕ) → Numbered (LenCountPromise map)
  pub validate-op : (map op : List ℕ) → Numbered (ValidateOpPromise map op)
  pub validate-op-start : (map op : List ℕ) → Numbered (ValidateOpStartPromise map op)
  pub validate-op-end : (map op : List ℕ) → Numbered (ValidateOpEndPromise map op)
  pub ready : (map op : List ℕ) → Numbered (ReadyPromise map op)
  pub ready-actor : (map op : List ℕ) → Numbered (ReadyActorPromise map op)
  pub ready-counter : (map op : List ℕ) → Numbered (ReadyCounterPromise map op)
  pub validate-merge : (map other : List ℕ) → Numbered (ValidateMergePromise map other)
  pub validate-merge-actor : (map other : List ℕ) → Numbered (ValidateMergeActorPromise map other)
  pub validate-merge-counter : (map other : List ℕ) → Numbered (ValidateMergeCounterPromise map other)
  pub validate-merge-our-key : (map other : List ℕ) → Numbered (ValidateMergeOurKeyPromise map other)
  pub validate-merge-their-key : (map other : List ℕ) → Numbered (ValidateMergeTheirKeyPromise map other)
  pub apply-deleted : (map op : List ℕ) (room : ℕ) → Numbered (ApplyDeletedPromise map op room)
  pub reset-remove-deleted : (map clock : List ℕ) (room : ℕ) → Numbered (ResetRemoveDeletedPromise map clock room)
  pub catch-up : (map other list : List ℕ) → Numbered (CatchUpPromise map other list)
  pub catch-up-place : (map other list : List ℕ) → Numbered (CatchUpPlacePromise map other list)
  pub clock-advance : (clock : Clock) (actor counter : ℕ) → Lent (ClockAdvancePromise clock actor counter)
  pub pieces-begin : (reader : List ℕ) → Lent (PiecesBeginPromise reader)
  pub pieces-take : (reader piece : List ℕ) → Lent (PiecesTakePromise reader piece)
  pub pieces_end : (reader out v w d e : List ℕ) (r s : ℕ) → PiecesEndPromise reader out v d r → PiecesEndPromise reader out w e s
      → SameEnd v w d e r s
  pub differences : (map other : List ℕ) → Written (DifferencesPromise map other)
  pub floor : (peers : List Clock) (entry : Clock) → Lent (FloorPromise peers entry)

-- the end theorem of every call
pub determined : Determined
determined = record {
  apply = λ map op out d e r s p q. same_answer p q;
  merge = λ map other out d e r s p q. same_answer p q;
  reset-remove = λ map clock out d e r s p q. same_answer p q;
  update = λ map actor key value origin out d e r s p q. same_answer p q;
  rm-get = λ map key out d e r s p q. same_answer p q;
  rm-read-ctx = λ map key out d e r s p q. same_answer p q;
  get = λ map key out d e r s p q. same_answer p q;
  len = λ map r s p q. same p q;
  len-count = λ map r s p q. same p q;
  validate-op = λ map op r s p q. same p q;
  validate-op-start = λ map op r s p q. same p q;
  validate-op-end = λ map op r s p q. same p q;
  ready = λ map op r s p q. same p q;
  ready-actor = λ map op r s p q. same p q;
  ready-counter = λ map op r s p q. same p q;
  validate-merge = λ map other r s p q. same p q;
  validate-merge-actor = λ map other r s p q. same p q;
  validate-merge-counter = λ map other r s p q. same p q;
  validate-merge-our-key = λ map other r s p q. same p q;
  validate-merge-their-key = λ map other r s p q. same p q;
  apply-deleted = λ map op room r s p q. same_count p q;
  reset-remove-deleted = λ map clock room r s p q. same_count p q;
  catch-up = λ map other list r s p q. same p q;
  catch-up-place = λ map other list r s p q. same p q;
  clock-advance = λ clock actor counter x y r s p q. (same p.0 q.0, same p.1 q.1);
  pieces-begin = λ reader x y r s p q. (same p.0 q.0, same p.1 q.1);
  pieces-take = λ reader piece x y r s p q. (same p.0 q.0, same p.1 q.1);
  pieces_end = λ reader out v w d e r s p q. same_end p q;
  differences = λ map other out d e r s p q. same_answer p q;
  floor = λ peers entry x y r s p q. (same p.0 q.0, same p.1 q.1);
}
