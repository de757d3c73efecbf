-- Two lists of waiting removals as one: one removal more, within the limits and over them.
use mathlib.Core.Path.{◌≡◌, ap, ◌∙◌}
use mathlib.Core.Bool.{Bool, true, false, not, ◌&&◌, ◌||◌}
use mathlib.Core.List.{List, [], ◌∷◌, ◌++◌}
use Prim.Native.Nat.{◌+◌, ◌≤◌}
use native.Mathlib.Omega.{arith}
use borrow.Author.Tests.{le-leb}
use lib.Dec.{ltb}
use lib.ListN.{length}
use Rattle.listlaws.specs.First.{some}
use Rattle.listlaws.proofs.Pads.{length-snoc}
use Rattle.listlaws.proofs.Tally.{some-snoc, both-pass, tally-step}
use Rattle.clock.specs.declared.Clock.{Clock}
use Rattle.removals.specs.declared.Removal.{Removal}
use Rattle.removals.specs.declared.JoinedWaiting.{JoinedWaiting}
use Rattle.removals.specs.declared.Keys.{Keys}
use Rattle.removals.specs.declared.Waiting.{Waiting}
use Rattle.limits.specs.Limits.{waiting_limit}
use Rattle.removals.specs.Model.{waiting_as}
use Rattle.removals.specs.Counted.{overlong, joined_as}

module _ {g : JoinedWaiting} {over : Bool} (l : List Removal) (r : Removal) (q : g ≡ joined_as l) (p : over ≡ overlong r) where
  flags : (b : Bool) → (ltb g.count waiting_limit && not (g.long || over)) ≡ b
      → (ltb (length l) waiting_limit && not (some overlong l || overlong r)) ≡ b
  unfolding joined_as
  flags b t = rw (q, p) at t

  counted : (o : Waiting)
      → ◌≡◌ {A = JoinedWaiting} (record { count = g.count + 1; long = g.long || over; waiting = o })
      (record { count = length l + 1; long = some overlong l || overlong r; waiting = o })
  unfolding joined_as
  counted o = rw (q, p)

  pub joined-one : {c : Clock} {k : Keys} {o : Waiting} → c ≡ r.clock → k ≡ r.keys
      → (ltb g.count waiting_limit && not (g.long || over)) ≡ true
      → ((m : List Removal) → g.waiting ≡ waiting_as m → o ≡ waiting_as (m ++ (record { clock = c; keys = k } ∷ [])))
      → record { count = g.count + 1; long = g.long || over; waiting = o } ≡ joined_as (l ++ (r ∷ []))
  unfolding joined_as
  joined-one {c} {k} {o} same keys t f =
      let v = flags true t in
      let b = both-pass {n = length l} {k = waiting_limit} (some overlong l) (overlong r) v in
      let item : ◌≡◌ {A = Removal} (record { clock = c; keys = k }) r = λ i. record { clock = same i; keys = keys i } in
      let store : g.waiting ≡ waiting_as l = ap (λ k. k.waiting) q ∙ rw (le-leb (length l) waiting_limit (omega (arith, b.0)), b.1) in
      let stored : o ≡ waiting_as (l ++ (r ∷ [])) = f l store ∙ ap (λ x. waiting_as (l ++ (x ∷ []))) item in
      counted o ∙ ap (λ x. record { count = length l + 1; long = some overlong l || overlong r; waiting = x }) stored
      ∙ rw (tally-step waiting_limit overlong l r, some-snoc overlong l r, length-snoc l r, v)

  pub joined-none : {o : Waiting} → (ltb g.count waiting_limit && not (g.long || over)) ≡ false → o ≡ waiting_as []
      → record { count = g.count + 1; long = g.long || over; waiting = o } ≡ joined_as (l ++ (r ∷ []))
  unfolding joined_as
  joined-none {o} t e =
      counted o ∙ ap (λ x. record { count = length l + 1; long = some overlong l || overlong r; waiting = x }) e
      ∙ rw (tally-step waiting_limit overlong l r, some-snoc overlong l r, length-snoc l r, flags false t)

-- what is counted of united removals, and that they are stored where they fit
pub joined-count : {g : JoinedWaiting} (l : List Removal) → g ≡ joined_as l → g.count ≡ length l
unfolding joined_as
joined-count l e = ap (λ g. g.count) e

pub joined-long : {g : JoinedWaiting} (l : List Removal) → g ≡ joined_as l → g.long ≡ some overlong l
unfolding joined_as
joined-long l e = ap (λ g. g.long) e

pub joined-open : {g : JoinedWaiting} (l : List Removal) → g ≡ joined_as l → length l ≤ waiting_limit → some overlong l ≡ false
    → g.waiting ≡ waiting_as l
unfolding joined_as
joined-open l e h t = ap (λ g. g.waiting) e ∙ rw (le-leb (length l) waiting_limit h, t)
