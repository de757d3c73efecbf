-- The values of a register taken one after the other: which stand in a merge, and which remain beside a put.
use mathlib.Core.Path.{◌≡◌, refl, ap, ap₂, sym, ◌∙◌}
use mathlib.Core.Bool.{Bool, true, false, not, ◌||◌}
use mathlib.Core.List.{List, [], ◌∷◌, ◌++◌}
use Prim.Native.Nat.{ℕ, ◌+◌, ◌≤◌, ◌<◌}
use native.Mathlib.Numerals.{add-one}
use lib.ListN.{length, take, get_or, set, replicate, length-replicate}
use lib.Seq.{take-suc, take_all}
use Rattle.listlaws.specs.First.{first_in}
use Rattle.listlaws.specs.Sift.{sift, those}
use Rattle.listlaws.proofs.Tally.{some-snoc}
use Rattle.scan.proofs.Rooms.{those-yes, those-no}
use Rattle.clock.specs.declared.Order.{Order}
use Rattle.clock.specs.Dots.{dots_of, order_of}
use Rattle.register.specs.declared.Value.{Value}
use Rattle.limits.specs.Limits.{value_limit}
use Rattle.register.specs.Values.{no_value, yielding, yields, outdone, standing, remaining, ours_left, merge_values}
use Rattle.marks.specs.Marks.{picked}
use Rattle.marks.proofs.Picks.{picked_all}
use Rattle.marks.proofs.Marking.{Marking, marking-start, marking-off, marking-skip, marking-end}
use Rattle.standing.proofs.Standings.{back, yields-on, yields-back, outdone-one, standing-none, standing-more}

-- marks of all values
abbrev pub all_set : List Bool
all_set = replicate value_limit true

-- one more of those that pass
module _ (test : Value → Bool) (l : List Value) (i : ℕ) (h : i < length l) where
  taken : take (i + 1) l ≡ take i l ++ (get_or l i no_value ∷ [])
  taken = rw (add-one i) (take-suc l i no_value h)

  pub one_passes : test (get_or l i no_value) ≡ true → those test (take (i + 1) l) ≡ those test (take i l) ++ (get_or l i no_value ∷ [])
  one_passes t = ap (those test) taken ∙ those-yes test (take i l) (get_or l i no_value) t

  pub one-fails : test (get_or l i no_value) ≡ false → those test (take (i + 1) l) ≡ those test (take i l)
  one-fails t = ap (those test) taken ∙ those-no test (take i l) (get_or l i no_value) t

-- i of our values are passed: the marks of ours, and those of theirs that stand against these
pub record Merging (ours theirs : List Value) (i : ℕ) (a b : List Bool) : Type 0 where
  pub marking : Marking (standing false theirs) no_value ours all_set i a
  pub left : picked b theirs ≡ those (standing true (those (standing false theirs) (take i ours))) theirs

module _ {ours theirs : List Value} where
  pub merging_start : length theirs ≤ value_limit → Merging ours theirs 0 all_set all_set
  unfolding sift
  merging_start h = record { marking = marking-start; left = picked_all theirs value_limit h ∙ sym (standing-none true theirs) }

  module _ {i : ℕ} {a b : List Bool} (g : Merging ours theirs i a b) (h : i < length ours) where
    abbrev our_value : Value
    our_value = get_or ours i no_value

    -- ours yields to one of theirs
    pub merging-off : outdone false theirs our_value ≡ true → i < value_limit → Merging ours theirs (i + 1) (set a i false) b
    merging-off t k =
        let n = ap not t in
        record {
          marking = marking-off g.marking (rw (length-replicate value_limit true) k) n;
          left = rw (one-fails (standing false theirs) ours i h n) g.left;
        }

    -- ours stands, and those of theirs that yield to it go
    pub merging-on : outdone false theirs our_value ≡ false → {c : List Bool}
        → picked c theirs ≡ those (standing true (our_value ∷ [])) (picked b theirs) → Merging ours theirs (i + 1) a c
    merging-on t f =
        let n = ap not t in
        record {
          marking = marking-skip g.marking n;
          left = f ∙ rw (one_passes (standing false theirs) ours i h n, g.left) (sym (standing-more true _ our_value theirs));
        }

  pub merging-end : {i : ℕ} {a b : List Bool} → Merging ours theirs i a b → length ours ≤ i → length ours ≤ value_limit
      → picked a ours ++ picked b theirs ≡ merge_values ours theirs
  unfolding merge_values ours_left
  merging-end {i} g h k =
      ap₂ (λ x y. x ++ y)
      (marking-end g.marking h (rw (length-replicate value_limit true) k) ∙ ap (those (standing false theirs)) (picked_all ours value_limit k))
      (g.left ∙ ap (λ l. those (standing true (those (standing false theirs) l)) theirs) (take_all i ours h))

-- i of the values are passed: the marks of those that remain beside the put, and whether it yields to one of these
pub record Putting (l : List Value) (put : Value) (i : ℕ) (a : List Bool) (y : Bool) : Type 0 where
  pub marking : Marking (standing true (put ∷ [])) no_value l all_set i a
  pub told : y ≡ outdone false (those (standing true (put ∷ [])) (take i l)) put

module _ {l : List Value} {put : Value} where
  pub putting-start : Putting l put 0 all_set false
  unfolding sift outdone first_in
  putting-start = record { marking = marking-start; told = refl }

  module _ {i : ℕ} {a : List Bool} {y : Bool} (g : Putting l put i a y) (h : i < length l) {o : Order}
      (e : order_of (dots_of (get_or l i no_value).clock) (dots_of put.clock) ≡ o) where
    stays : {b : Bool} → yielding true o ≡ b → standing true (put ∷ []) (get_or l i no_value) ≡ not b
    stays t = ap not (outdone-one true put (get_or l i no_value) ∙ yields-on true (get_or l i no_value) put e ∙ t)

    -- the value yields to the put
    pub putting-off : yielding true o ≡ true → i < value_limit → Putting l put (i + 1) (set a i false) y
    putting-off t k = record {
      marking = marking-off g.marking (rw (length-replicate value_limit true) k) (stays t);
      told = rw (one-fails (standing true (put ∷ [])) l i h (stays t)) g.told;
    }

    -- it remains, and the put may yield to it
    pub putting-on : yielding true o ≡ false → {z : Bool} → z ≡ (y || back false o) → Putting l put (i + 1) a z
    unfolding outdone
    putting-on t q = record {
      marking = marking-skip g.marking (stays t);
      told =
          q ∙ ap₂ (λ x w. x || w) g.told (sym (yields-back false (get_or l i no_value) put e))
          ∙ sym (ap (λ m. outdone false m put) (one_passes (standing true (put ∷ [])) l i h (stays t)) ∙ some-snoc (yields false put) _
          (get_or l i no_value));
    }

  pub putting-end : {i : ℕ} {a : List Bool} {y : Bool} → Putting l put i a y → length l ≤ i → length l ≤ value_limit
      → (picked a l ≡ remaining l put) × (y ≡ outdone false (remaining l put) put)
  unfolding remaining
  putting-end {i} g h k = (
    marking-end g.marking h (rw (length-replicate value_limit true) k) ∙ ap (those (standing true (put ∷ []))) (picked_all l value_limit k),
    g.told ∙ ap (λ m. outdone false (those (standing true (put ∷ [])) m) put) (take_all i l h),
  )
