-- What an update and the waiting removals that list a key leave of its entry.
use mathlib.Core.Path.{◌≡◌, refl, ap, ap₂, sym, ◌∙◌}
use mathlib.Core.Bool.{Bool, true, false}
use mathlib.Core.List.{List, [], ◌∷◌, ◌++◌}
use Prim.Native.Nat.{ℕ, zero, suc, ◌≤◌}
use native.Mathlib.Omega.{arith}
use lib.ListN.{length, replicate, get_or}
use Rattle.listlaws.specs.First.{first_in}
use Rattle.listlaws.specs.Fold.{fold}
use Rattle.listlaws.specs.Order.{◌∈◌}
use Rattle.listlaws.specs.Sift.{sift, those}
use Rattle.listlaws.proofs.Sifts.{sift-append}
use Rattle.clock.specs.declared.Dot.{Dot}
use Rattle.limits.specs.Limits.{dot_limit, waiting_limit}
use Rattle.clock.specs.Dots.{dots_of, is_empty, cut_dots, add_dot}
use Rattle.clock.proofs.Cuts.{cut-none}
use Rattle.clock.proofs.Joins.{lawful-nil, lawful-add}
use Rattle.clock.proofs.Within.{covered-length, covers-nil, covers-adds}
use Rattle.register.specs.declared.Value.{Value}
use Rattle.register.specs.Values.{alive, outdone, remaining, put_values}
use Rattle.register.proofs.Kept.{put-each}
use Rattle.entries.specs.declared.Entry.{Entry}
use Rattle.removals.specs.declared.Removal.{Removal}
use Rattle.entries.specs.declared.Update.{Update}
use Rattle.entries.specs.Model.{dots_in, values_in, entry_as}
use Rattle.removals.specs.Waits.{listed}
use Rattle.entries.specs.Entries.{run, put_entry}
use Rattle.entries.specs.Valid.{ValidValue, ValidEntry}
use Rattle.entries.proofs.Cuts.{cut-none-values}
use Rattle.entries.proofs.ClocksFit.{added-length}
use Rattle.entries.proofs.Packs.{dots-in}
use Rattle.map.specs.Valid.{UpdateWithin}
use Rattle.clock.specs.Lawful.{Lawful}
use Rattle.queued.specs.Queue.{cuts_for, lists, Marked}
use Rattle.entrywalk.specs.Walking.{Fit}
use Rattle.leaving.specs.Left.{value_left}
use Rattle.leaving.proofs.Fates.{fated}
use Rattle.updating.specs.Updated.{entry_to, dots_to, values_to}

-- of no removals none lists a key
pub none-marked : (key : ℕ) → Marked [] key (replicate waiting_limit false)
unfolding listed first_in
none-marked key = record { each = λ j h. go waiting_limit j }
  where
    go : (n j : ℕ) → get_or (replicate n false) j false ≡ lists [] j key
    go zero j = refl
    go (suc n) zero = refl
    go (suc n) (suc j) = go n j

-- no removals and no clock cut nothing
pub left-none : (key : ℕ) {x : List Dot} → Lawful x → cuts_for [] key (cut_dots [] x) ≡ x
unfolding cuts_for fold
left-none key h = cut-none h

-- what the removals leave of an entry
pub run-left : (w : List Removal) (key : ℕ) (d : List Dot) (vs : List Value) → ((v : Value) → v ∈ vs → ValidValue v)
    → run w (entry_as key d vs) ≡ entry_as key (cuts_for w key d) (sift alive (value_left w [] key []) vs)
unfolding fold cuts_for
run-left w key d vs f = ap (λ l. run w (entry_as key d l)) (sym (cut-none-values vs f)) ∙ fated w [] key [] d vs f
    ∙ ap (λ x. entry_as key (cuts_for w key x) (sift alive (value_left w [] key []) vs)) nothing
  where
    nothing : cuts_for [] key d ≡ d
    nothing = refl

module _ (u : Update) {e : Entry} (h : Fit e) where
  -- an entry with the put or without, by its dots and its values
  pub entry-to : (put : Bool) → entry_to u put e ≡ entry_as e.key (dots_to u put e) (values_to u put e)
  unfolding put_entry
  entry-to true = refl
  entry-to false = h.laid

  pub valid_to : UpdateWithin u → (put : Bool) (v : Value) → v ∈ values_to u put e → ValidValue v
  valid_to i true = put-each ValidValue (values_in e) u.put h.valid
      (λ some. record { laid = i.valid.laid; clock = i.valid.clock; some = some })
  valid_to i false = h.valid

-- the put on a list of values
module _ (l : List Value) (put : Value) where
  pub put-nothing : is_empty (dots_of put.clock) ≡ true → put_values l put ≡ l
  unfolding put_values
  put-nothing t = rw t

  pub put-yields : is_empty (dots_of put.clock) ≡ false → outdone false (remaining l put) put ≡ true → put_values l put ≡ remaining l put
  unfolding put_values
  put-yields t y = rw (t, y)

  pub put-stands : is_empty (dots_of put.clock) ≡ false → outdone false (remaining l put) put ≡ false
      → put_values l put ≡ remaining l put ++ (put ∷ [])
  unfolding put_values
  put-stands t y = rw (t, y)

  pub put-behind : (change : Value → Value) {m : List Value} {v : Value} → is_empty (dots_of put.clock) ≡ false
      → outdone false (remaining l put) put ≡ false → m ≡ remaining l put → v ≡ change put
      → sift alive change m ++ those alive (v ∷ []) ≡ sift alive change (put_values l put)
  unfolding sift
  put-behind change t y p q =
      ap₂ (λ k x. sift alive change k ++ those alive (x ∷ [])) p q
      ∙ ap (λ k. sift alive change (remaining l put) ++ k) one
      ∙ sym (sift-append alive change (remaining l put) (put ∷ []))
      ∙ ap (sift alive change) (sym (put-stands t y))
    where
      one : those alive (change put ∷ []) ≡ sift alive change (put ∷ [])
      one = refl

-- an entry's clock takes the dot without breaking the limit that the map's clock keeps
module _ (u : Update) {seen : List Dot} (c : Lawful seen) (few : length (add_dot seen u.dot) ≤ dot_limit) where
  pub fits-old : {e : Entry} → ValidEntry seen e → (put : Bool) → length (dots_in e) ≤ dot_limit → length (dots_to u put e) ≤ dot_limit
  fits-old v true n = omega (arith, added-length c v u.dot)
  fits-old v false n = n

  pub fits-new : (key : ℕ) (put : Bool) → length (dots_to u put (entry_as key [] [])) ≤ dot_limit
  fits-new key true = rw (dots-in key [] [])
      (omega (arith, covered-length (lawful-add lawful-nil u.dot) (lawful-add c u.dot) (covers-adds c lawful-nil (covers-nil seen) u.dot)))
  fits-new key false = omega arith
