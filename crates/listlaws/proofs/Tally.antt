-- A tally: how many elements there are, and whether one of them is bad, with one element more.
use mathlib.Core.Path.{◌≡◌, refl, sym}
use mathlib.Core.Bool.{Bool, true, false, not, ◌&&◌, ◌||◌, cond}
use mathlib.Core.List.{List, [], ◌∷◌, ◌++◌}
use Prim.Native.Nat.{ℕ, ◌<◌}
use native.Mathlib.Numerals.{add-one}
use borrow.Author.Tests.{ltb-true}
use lib.Dec.{ltb, leb}
use lib.ListN.{length}
use Rattle.listlaws.specs.First.{first_in, some}
use Rattle.listlaws.proofs.Orders.{apart}
use Rattle.listlaws.proofs.Pads.{length-snoc}

pub some-snoc : {A : Type 0} (p : A → Bool) (l : List A) (x : A) → some p (l ++ (x ∷ [])) ≡ (some p l || p x)
unfolding first_in
some-snoc p [] x = go (p x)
  where
    go : (b : Bool) → cond b true false ≡ b
    go true = refl
    go false = refl
some-snoc p (y ∷ l) x = go (p y) (some-snoc p l x)
  where
    go : (b : Bool) {s : Bool} → s ≡ (some p l || p x) → cond b true s ≡ (cond b true (some p l) || p x)
    go true e = refl
    go false e = e

-- what two tests that both pass say
pub both-pass : {n k : ℕ} (b c : Bool) → (ltb n k && not (b || c)) ≡ true → (n < k) × (b ≡ false) × (c ≡ false)
both-pass {n} {k} b c t = go (ltb n k) b c refl t
  where
    go : (a b c : Bool) → ltb n k ≡ a → (a && not (b || c)) ≡ true → (n < k) × (b ≡ false) × (c ≡ false)
    go true true c e t = apart (sym t)
    go true false true e t = apart (sym t)
    go true false false e t = (ltb-true n k e, refl, refl)
    go false b c e t = apart (sym t)

-- within the limit and none bad, with one more
pub tally-step : {A : Type 0} (limit : ℕ) (bad : A → Bool) (l : List A) (x : A)
    → (leb (length (l ++ (x ∷ []))) limit && not (some bad (l ++ (x ∷ [])))) ≡ (ltb (length l) limit && not (some bad l || bad x))
tally-step limit bad l x = rw (some-snoc bad l x, length-snoc l x, add-one (length l))
