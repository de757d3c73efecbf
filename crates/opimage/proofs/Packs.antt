-- Counts that stop at two, of each kind of record: enough to tell whether an operation's records are related (`related-counts`).
use mathlib.Core.Path.{◌≡◌, sym, ◌∙◌}
use mathlib.Core.Bool.{◌||◌}
use mathlib.Core.List.{List, []}
use Prim.Native.Nat.{ℕ, ◌<◌, min}
use native.Mathlib.Omega.{arith}
use lib.Dec.{eqb}
use lib.ListN.{get_or, replicate, get_or-replicate}
use borrow.Author.Tests.{eq-eqb, ne_eqb, eqb-true, eqb-false}
use Rattle.listlaws.specs.Sift.{sift}
use Rattle.records.specs.declared.Record.{Record}
use Rattle.scan.proofs.Eachs.{decide}
use Rattle.opimage.specs.OpImage.{how_many, removes, updates, op_related}

pub no-counts : (k : ℕ) → k < 13 → get_or (replicate 13 0) k 0 ≡ min 2 (how_many k [])
unfolding sift
no-counts k h = get_or-replicate 13 k 0 0 h

-- a count that stops at 2 is told apart from none and from one as the count itself
told : (n m k : ℕ) → n ≡ min 2 m → k < 2 → eqb n k ≡ eqb m k
told n m k e h =
    decide (eqb m k)
    (λ t. let q = eqb-true m k t in eq-eqb n k (omega arith) ∙ sym t)
    (λ f. let q = eqb-false m k f in ne_eqb n k (λ z. q (omega arith)) ∙ sym f)

module _ (counts : List ℕ) (l : List Record) (c : (k : ℕ) → k < 13 → get_or counts k 0 ≡ min 2 (how_many k l)) where
  is : (k j : ℕ) → k < 13 → j < 2 → eqb (get_or counts k 0) j ≡ eqb (how_many k l) j
  is k j h i = told (get_or counts k 0) (how_many k l) j (c k h) i

  pub related-counts : (removes (λ k. get_or counts k 0) || updates (λ k. get_or counts k 0)) ≡ op_related l
  unfolding op_related
  related-counts =
      cc (
        is 7 1 (omega arith) (omega arith),
        is 7 0 (omega arith) (omega arith),
        is 8 0 (omega arith) (omega arith),
        is 9 0 (omega arith) (omega arith),
        is 10 0 (omega arith) (omega arith),
        is 10 1 (omega arith) (omega arith),
        is 11 0 (omega arith) (omega arith),
        is 11 1 (omega arith) (omega arith),
        is 12 0 (omega arith) (omega arith),
      )

  pub one_of : eqb (get_or counts 10 0) 1 ≡ eqb (how_many 10 l) 1
  one_of = is 10 1 (omega arith) (omega arith)
