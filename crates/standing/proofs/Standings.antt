-- Which values stand, told by one comparison of each pair, and one value after the other.
use mathlib.Core.Path.{◌≡◌, refl, ap, sym, ◌∙◌}
use mathlib.Core.Bool.{Bool, true, false, not, cond, ◌&&◌, ◌||◌}
use mathlib.Core.List.{List, [], ◌∷◌, ◌++◌}
use Prim.Native.Nat.{ℕ, ◌+◌, ◌≤◌, ◌<◌}
use lib.ListN.{length, take, get_or, set}
use lib.Seq.{take-length}
use Rattle.listlaws.specs.First.{first_in, some}
use Rattle.listlaws.specs.Sift.{those}
use Rattle.listlaws.proofs.Tally.{some-snoc}
use Rattle.listlaws.proofs.Passing.{Passing, passing-start, passing-here, passing-on, passing-end}
use Rattle.listlaws.proofs.Those.{those-same, those-those, those-all}
use Rattle.clock.specs.declared.Order.{Order}
use Rattle.clock.specs.declared.Order.TheVariants.{Equal, Greater, Less, Concurrent}
use Rattle.clock.specs.Dots.{dots_of, covers, outcome, order_of}
use Rattle.register.specs.declared.Value.{Value}
use Rattle.register.specs.Values.{no_value, yielding, yields, outdone, standing}
use Rattle.marks.specs.Marks.{picked}
use Rattle.marks.proofs.Marking.{Marking, marking-start, marking-off, marking-skip, marking-end}

-- what an order says of the second beside the first
abbrev pub back : Bool → Order → Bool
back equal_too Less = false
back equal_too Equal = equal_too
back equal_too Greater = true
back equal_too Concurrent = false

module _ (equal_too : Bool) (v w : Value) {o : Order} (e : order_of (dots_of v.clock) (dots_of w.clock) ≡ o) where
  pub yields-on : yields equal_too v w ≡ yielding equal_too o
  unfolding yields
  yields-on = rw e

  pub yields-back : yields equal_too w v ≡ back equal_too o
  unfolding yields order_of
  yields-back = go (covers (dots_of w.clock) (dots_of v.clock)) (covers (dots_of v.clock) (dots_of w.clock)) ∙ ap (back equal_too) e
    where
      go : (p q : Bool) → yielding equal_too (outcome p q) ≡ back equal_too (outcome q p)
      go true true = refl
      go true false = refl
      go false true = refl
      go false false = refl

-- one value alone
pub outdone-one : (equal_too : Bool) (w v : Value) → outdone equal_too (w ∷ []) v ≡ yields equal_too v w
unfolding outdone first_in
outdone-one equal_too w v = go (yields equal_too v w)
  where
    go : (b : Bool) → cond b true false ≡ b
    go true = refl
    go false = refl

-- none stands against
pub standing-none : (equal_too : Bool) (l : List Value) → those (standing equal_too []) l ≡ l
unfolding outdone first_in
standing-none equal_too l = those-all (standing equal_too []) l (λ v i. refl)

-- one value more stands against
pub standing-more : (equal_too : Bool) (l : List Value) (v : Value) (m : List Value)
    → those (standing equal_too (l ++ (v ∷ []))) m ≡ those (standing equal_too (v ∷ [])) (those (standing equal_too l) m)
unfolding outdone
standing-more equal_too l v m = those-same _ _ m (λ w i. more w) ∙ sym (those-those (standing equal_too (v ∷ [])) (standing equal_too l) m)
  where
    both : (b c : Bool) → not (b || c) ≡ (not b && not c)
    both true c = refl
    both false c = refl

    more : (w : Value) → standing equal_too (l ++ (v ∷ [])) w ≡ (standing equal_too l w && standing equal_too (v ∷ []) w)
    more w =
        ap not (some-snoc (yields equal_too w) l v) ∙ both (some (yields equal_too w) l) (yields equal_too w v)
        ∙ ap (λ b. standing equal_too l w && not b) (sym (outdone-one equal_too v w))

-- j of the values are passed: a value yields to none of these, and those of them that yield to it lost their marks
pub record Passed (v : Value) (l : List Value) (before : List Bool) (j : ℕ) (left : List Bool) : Type 0 where
  pub passing : Passing (yields false v) (λ w. true) false l (length l) j
  pub marking : Marking (standing true (v ∷ [])) no_value l before j left

module _ {v : Value} {l : List Value} {before : List Bool} where
  pub passed_start : Passed v l before 0 before
  passed_start = record { passing = passing-start; marking = marking-start }

  module _ {j : ℕ} {left : List Bool} (g : Passed v l before j left) where
    module _ (h : j < length l) {o : Order} (e : order_of (dots_of v.clock) (dots_of (get_or l j no_value).clock) ≡ o) where
      used : j < length (take (length l) l)
      used = rw (take-length l) h

      stays : {b : Bool} → back true o ≡ b → standing true (v ∷ []) (get_or l j no_value) ≡ not b
      stays t = ap not (outdone-one true v (get_or l j no_value) ∙ yields-back true v (get_or l j no_value) e ∙ t)

      pub passed_on : yielding false o ≡ false → back true o ≡ false → Passed v l before (j + 1) left
      passed_on t u = record {
        passing = passing-on no_value g.passing used (yields-on false v (get_or l j no_value) e ∙ t);
        marking = marking-skip g.marking (stays u);
      }

      pub passed-off : yielding false o ≡ false → back true o ≡ true → j < length before → Passed v l before (j + 1) (set left j false)
      passed-off t u k = record {
        passing = passing-on no_value g.passing used (yields-on false v (get_or l j no_value) e ∙ t);
        marking = marking-off g.marking k (stays u);
      }

      -- the value yields to this one
      pub passed-stops : yielding false o ≡ true → true ≡ outdone false l v
      unfolding outdone
      passed-stops t = rw (take-length l) at (passing-here no_value g.passing used (yields-on false v (get_or l j no_value) e ∙ t))

    pub passed-end : length l ≤ j → length l ≤ length before
        → (false ≡ outdone false l v) × (picked left l ≡ those (standing true (v ∷ [])) (picked before l))
    unfolding outdone
    passed-end h k = (rw (take-length l) at (passing-end g.passing (rw (take-length l) h)), marking-end g.marking h k)
