-- The clock without dots: there is one (`empty-means`), and a cut leaves it so (`empty-cut`).
use mathlib.Core.Path.{◌≡◌, refl}
use mathlib.Core.Bool.{true, false}
use mathlib.Core.List.{List, [], ◌∷◌}
use Prim.Native.Nat.{ℕ, ◌<◌}
use native.Mathlib.Omega.{arith}
use borrow.Author.Tests.{eqb-true, ne_eqb}
use lib.ListN.{length}
use Rattle.listlaws.specs.Sift.{sift}
use Rattle.clock.specs.declared.Dot.{Dot}
use Rattle.clock.specs.Dots.{is_empty, counter_in, cut_dots}
use Rattle.clock.proofs.Counters.{counter-nil}

pub empty-means : (l : List Dot) → is_empty l ≡ true → l ≡ []
unfolding is_empty
empty-means [] t = refl
empty-means (x ∷ l) t = absurd (omega (arith, eqb-true (length (x ∷ l)) 0 t))

-- what is empty stays empty under a cut
pub empty-cut : (c l : List Dot) → is_empty l ≡ true → is_empty (cut_dots c l) ≡ true
unfolding cut_dots sift is_empty
empty-cut c l t = rw (empty-means l t) refl

-- a clock with a counter is not empty
pub counter-some : (l : List Dot) (a : ℕ) → 0 < counter_in l a → is_empty l ≡ false
unfolding is_empty
counter-some [] a h = absurd (omega (arith, counter-nil a))
counter-some (x ∷ l) a h = ne_eqb (length (x ∷ l)) 0 (λ e. omega arith)
