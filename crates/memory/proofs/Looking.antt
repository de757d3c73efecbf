-- A loop that looks for the entry of a key.
use mathlib.Core.Path.{◌≡◌, ap, sym, ◌∙◌}
use mathlib.Core.Bool.{Bool, true, false}
use mathlib.Core.List.{List}
use Prim.Native.Nat.{ℕ, ◌+◌, ◌≤◌, ◌<◌}
use native.Mathlib.Omega.{arith}
use lib.Dec.{eqb}
use lib.ListN.{length, take}
use lib.Seq.{take_all}
use Rattle.listlaws.specs.First.{first_in}
use Rattle.listlaws.proofs.Passing.{Passing, passing-here, passing-on, passing-end}
use Rattle.maprecords.specs.Reading.{numbers_below}
use Rattle.maprecords.proofs.Keys.{length-below, get-below}
use Rattle.memory.specs.Memory.{key_at, entry_count}
use Rattle.memory.specs.Putting.{entry_place_of}

-- j of the n entries are passed, and none of them has the key
abbrev pub Looking : List ℕ → ℕ → ℕ → ℕ → Type 0
Looking w n key j = Passing (λ k. eqb (key_at w k) key) (λ k. k) n (numbers_below n) n j

module _ (w : List ℕ) (n key : ℕ) where
  abbrev hit : ℕ → Bool
  hit k = eqb (key_at w k) key

  used : take n (numbers_below n) ≡ numbers_below n
  used = take_all n (numbers_below n) (omega (arith, length-below n))

  whole : n ≡ entry_count w → first_in hit (λ k. k) n (take n (numbers_below n)) ≡ entry_place_of w key
  unfolding entry_place_of
  whole e = ap (first_in hit (λ k. k) n) used ∙ ap (λ m. first_in hit (λ k. k) m (numbers_below m)) e

  module _ (j : ℕ) (p : Passing hit (λ k. k) n (numbers_below n) n j) where
    module _ (h : j < n) where
      in_use : j < length (take n (numbers_below n))
      in_use = omega (arith, ap length used, length-below n)

      pub look-here : n ≡ entry_count w → hit j ≡ true → j ≡ entry_place_of w key
      look-here e t = sym (get-below n j h) ∙ passing-here 0 p in_use (ap hit (get-below n j h) ∙ t) ∙ whole e

      pub look-on : hit j ≡ false → Passing hit (λ k. k) n (numbers_below n) n (j + 1)
      look-on f = passing-on 0 p in_use (ap hit (get-below n j h) ∙ f)

    pub look-end : n ≡ entry_count w → n ≤ j → n ≡ entry_place_of w key
    look-end e h = passing-end p (omega (arith, ap length used, length-below n)) ∙ whole e
