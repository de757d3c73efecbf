-- The ways out of the calls: an image is refused, a map or an operation is answered, or dots are counted.
use mathlib.Core.Path.{◌≡◌, refl, ◌∙◌}
use mathlib.Core.List.{List}
use Prim.Native.Nat.{ℕ, ◌*◌, ◌^◌, ◌≤◌, ◌<◌}
use native.Mathlib.Omega.{arith}
use borrow.Author.Tests.{ne_eqb}
use lib.Dec.{eqb}
use lib.ListN.{length}
use Rattle.map.specs.Judging.{Judged}
use Rattle.asking.specs.declared.Made.{Made}
use Rattle.opimage.specs.OpImage.{op_image}
use Rattle.mapimage.specs.MapImage.{map_image}
use Rattle.scan.proofs.Eachs.{decide}
use Rattle.answers.specs.Answer.{Answer, first_of, number_of, Answered, Counted}
use Rattle.answers.proofs.Answers.{number-first, number-second, number-own, number_short, number-done, refuses, passes}
use Rattle.promises.specs.Calls.{map_answer, op_answer}

-- an image is refused
module _ (a : Answer) (o : List ℕ) {n w : ℕ} where
  pub first_out : n ≡ a.first → (n ≡ 0 → ⊥) → w ≡ n * 2 ^ 32 → Answered a o o w
  first_out e h q = rw q (refuses a o (number-first a o e h) h)

  pub second-out : a.first ≡ 0 → n ≡ a.second → (n ≡ 0 → ⊥) → w ≡ n * 2 ^ 32 → Answered a o o w
  second-out p e h q = rw q (refuses a o (number-second a o p e h) h)

  -- both images pass, and the call's own work is refused
  pub own-out : a.first ≡ 0 → a.second ≡ 0 → n ≡ a.own → (n ≡ 0 → ⊥) → w ≡ n * 2 ^ 32 → Answered a o o w
  own-out p q e h z = rw z (refuses a o (number-own a o p q e h) h)

-- both images pass, and a map or an operation is answered
pub map-out : (first second : ℕ) {j k : Judged} {o d : List ℕ} {r : ℕ} → first ≡ 0 → second ≡ 0 → j ≡ k
    → Answered (record { first = 0; second = 0; own = j.number; bytes = map_image j.map }) o d r → Answered (map_answer first second k) o d r
map-out first second {j} {k} p q e w = rw (← e) (passes (map_answer first second j) p q w)

pub op-out : (first : ℕ) {j k : Made} {o d : List ℕ} {r : ℕ} → first ≡ 0 → j ≡ k
    → Answered (record { first = 0; second = 0; own = j.number; bytes = op_image j.op }) o d r → Answered (op_answer first k) o d r
op-out first {j} {k} p e w = rw (← e) (passes (op_answer first j) p refl w)

-- a call that counts: an image is refused, or there is nothing to count
module _ {a : Answer} {room n k : ℕ} where
  pub first-uncounted : k ≡ a.first → (k ≡ 0 → ⊥) → Counted a room n 0
  first-uncounted e h = record { counts = λ out l. rw (number-first a out e h, ne_eqb k 0 h) refl }

  pub second-uncounted : a.first ≡ 0 → k ≡ a.second → (k ≡ 0 → ⊥) → Counted a room n 0
  second-uncounted p e h = record { counts = λ out l. rw (number-second a out p e h, ne_eqb k 0 h) refl }

pub nothing-counted : {a : Answer} {room n : ℕ} → n ≡ 0 → Counted a room n 0
nothing-counted {a} z = record { counts = λ out l. rw z (decide (eqb (number_of a out) 0) (λ t. rw t refl) (λ f. rw f refl)) }

-- both images pass, and a map's dots are counted
pub map-counted : (first second : ℕ) {j k : Judged} {room n r : ℕ} → first ≡ 0 → second ≡ 0 → j ≡ k
    → Counted (map_answer 0 0 j) room n r → Counted (map_answer first second k) room n r
unfolding number_of first_of
map-counted first second p q e c = record { counts = λ out l. rw (p, q, ← e) (c.counts out l) }

-- of the call's own work: it is refused, its answer has no room, or it is counted
module _ {a : Answer} {room n : ℕ} (p : a.first ≡ 0) (q : a.second ≡ 0) where
  pub own-uncounted : {k : ℕ} → k ≡ a.own → (k ≡ 0 → ⊥) → Counted a room n 0
  own-uncounted {k} e h = record { counts = λ out l. rw (number-own a out p q e h, ne_eqb k 0 h) refl }

  pub short-uncounted : a.own ≡ 0 → room < length a.bytes → Counted a room n 0
  short-uncounted s t = record { counts = λ out l. rw (number_short a out p q s (omega (arith, l, t))) refl }

  pub own-counted : {r : ℕ} → a.own ≡ 0 → length a.bytes ≤ room → r ≡ n → Counted a room n r
  own-counted s t e = record { counts = λ out l. e ∙ rw (number-done a out p q s (omega (arith, l, t))) refl }
