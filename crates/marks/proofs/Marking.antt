-- A loop that clears, place by place, the marks of those elements that fail a test.
use mathlib.Core.Path.{◌≡◌, refl, ap, sym, ◌∙◌}
use mathlib.Core.Bool.{Bool, true, false, ◌&&◌, and-false, and-true}
use mathlib.Core.List.{List}
use Prim.Native.Nat.{ℕ, ◌+◌, ◌≤◌, ◌<◌}
use native.Mathlib.Omega.{arith}
use borrow.Author.Tests.{eqb-true, eqb-false}
use lib.Dec.{eqb}
use lib.ListN.{length, get_or, set, length-set}
use lib.Seq.{get_or-set_same, get_or-set_other}
use Rattle.listlaws.specs.Sift.{those}
use Rattle.marks.specs.Marks.{picked}
use Rattle.marks.proofs.Picks.{picked-those}

-- of the marks bs, i are passed, and cs is what became of them all
pub record Marking {A : Type 0} (test : A → Bool) (d : A) (l : List A) (bs : List Bool) (i : ℕ) (cs : List Bool) : Type 0 where
  pub long : length cs ≡ length bs
  pub passed : (k : ℕ) → k < i → get_or cs k false ≡ (get_or bs k false && test (get_or l k d))
  pub ahead : (k : ℕ) → i ≤ k → get_or cs k false ≡ get_or bs k false

module _ {A : Type 0} {test : A → Bool} {d : A} {l : List A} {bs : List Bool} where
  pub marking-start : Marking test d l bs 0 bs
  marking-start = record { long = refl; passed = λ k h. absurd (omega arith); ahead = λ k h. refl }

  module _ {i : ℕ} {cs : List Bool} (g : Marking test d l bs i cs) where
    -- a mark is stored
    pub marking-on : i < length bs → (b : Bool) → b ≡ (get_or cs i false && test (get_or l i d)) → Marking test d l bs (i + 1) (set cs i b)
    marking-on h b e = record {
      long = length-set cs i b ∙ g.long;
      passed = λ k q. here k q (eqb k i) refl;
      ahead = λ k q. get_or-set_other cs i k b false (λ z. omega arith) ∙ g.ahead k (omega arith);
    }
      where
        here : (k : ℕ) → k < i + 1 → (t : Bool) → eqb k i ≡ t → get_or (set cs i b) k false ≡ (get_or bs k false && test (get_or l k d))
        here k q true t =
            rw (eqb-true k i t) (get_or-set_same cs i b false (omega (arith, g.long)) ∙ e ∙ ap (λ c. c && test (get_or l i d))
            (g.ahead i (omega arith)))
        here k q false t = let z = eqb-false k i t in get_or-set_other cs i k b false z ∙ g.passed k (omega (arith, z))

    -- the element fails: its mark is cleared
    pub marking-off : i < length bs → test (get_or l i d) ≡ false → Marking test d l bs (i + 1) (set cs i false)
    marking-off h e = marking-on h false (rw e (sym (and-false (get_or cs i false))))

    -- the element passes: its mark stays as it is
    pub marking-skip : test (get_or l i d) ≡ true → Marking test d l bs (i + 1) cs
    marking-skip e = record {
      long = g.long;
      passed = λ k q. here k q (eqb k i) refl;
      ahead = λ k q. g.ahead k (omega arith);
    }
      where
        here : (k : ℕ) → k < i + 1 → (t : Bool) → eqb k i ≡ t → get_or cs k false ≡ (get_or bs k false && test (get_or l k d))
        here k q true t = rw (eqb-true k i t, e, and-true (get_or bs i false)) (g.ahead i (omega arith))
        here k q false t = g.passed k (omega (arith, eqb-false k i t))

    pub marking-end : length l ≤ i → length l ≤ length bs → picked cs l ≡ those test (picked bs l)
    marking-end h k = picked-those test d cs bs l (omega (arith, g.long)) k (λ j q. g.passed j (omega arith))
