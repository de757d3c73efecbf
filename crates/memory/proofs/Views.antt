-- What a memory holds depends on the bytes where it stands; lists by their places.
use mathlib.Core.Path.{◌≡◌, refl, ap, ap₂, sym, ◌∙◌}
use mathlib.Core.List.{List, [], ◌∷◌, ◌++◌, map}
use Prim.Native.Nat.{ℕ, zero, suc, ◌+◌, ◌*◌, ◌≤◌, ◌<◌, min}
use native.Mathlib.Numerals.{add-one}
use native.Mathlib.Omega.{arith}
use lib.Dec.{eqb}
use lib.ListN.{length, get_or, set, length-map, length-set}
use lib.Seq.{ext_get_or, get_or-set_same, get_or-set_other}
use borrow.Author.Tests.{eqb-true, eqb-false}
use Rattle.limits.specs.Limits.{dot_limit, value_limit, entry_limit, waiting_limit, key_limit}
use Rattle.clock.specs.Dots.{clock_of}
use Rattle.records.specs.Bytes.{num_at}
use Rattle.scan.proofs.Eachs.{decide}
use Rattle.clockimage.proofs.Dots.{map_snoc}
use Rattle.maprecords.specs.Reading.{numbers_below}
use Rattle.maprecords.proofs.Keys.{get-map, length-below, get-below}
use Rattle.memory.specs.Memory.{clock_room, dot_room, value_room, entry_room, removal_room, entries_place, waits_place, entry_place, own_place}
use Rattle.memory.specs.Memory.{values_place, value_place, removal_place, keys_place, key_place, count_at, dot_at, dots_at, value_at, values_at}
use Rattle.memory.specs.Memory.{key_at}
use Rattle.memory.specs.Memory.{entry_held_at, entry_count, entries_at, listed_at, removal_at, waiting_count_at, waiting_at}
use Rattle.memory.proofs.Regions.{Same, same-num}

-- what each of the first n numbers gives: one more, one changed
module _ {B : Type 0} where
  pub below-same : (f g : ℕ → B) (n : ℕ) → ((i : ℕ) → i < n → f i ≡ g i) → map f (numbers_below n) ≡ map g (numbers_below n)
  unfolding numbers_below
  below-same f g zero h = refl
  below-same f g (suc n) h =
      map_snoc f (numbers_below n) n ∙ ap₂ (λ l x. l ++ (x ∷ [])) (below-same f g n (λ i k. h i (omega arith))) (h n (omega arith))
      ∙ sym (map_snoc g (numbers_below n) n)

  pub below_more : (f : ℕ → B) (n : ℕ) → map f (numbers_below (n + 1)) ≡ map f (numbers_below n) ++ (f n ∷ [])
  unfolding numbers_below
  below_more f n = rw (add-one n) (map_snoc f (numbers_below n) n)

  pub length-of : (f : ℕ → B) (n : ℕ) → length (map f (numbers_below n)) ≡ n
  length-of f n = length-map (numbers_below n) f ∙ length-below n

  pub below_at : (f : ℕ → B) (n j : ℕ) (d : B) → j < n → get_or (map f (numbers_below n)) j d ≡ f j
  below_at f n j d h = get-map f (numbers_below n) j d (omega (arith, length-below n)) ∙ ap f (get-below n j h)

  pub below_set : (d : B) (f g : ℕ → B) (n j : ℕ) → j < n → ((i : ℕ) → i < n → (i ≡ j → ⊥) → g i ≡ f i)
      → map g (numbers_below n) ≡ set (map f (numbers_below n)) j (g j)
  below_set d f g n j h same =
      ext_get_or d (map g (numbers_below n)) (set (map f (numbers_below n)) j (g j))
      (length-of g n ∙ sym (length-set (map f (numbers_below n)) j (g j) ∙ length-of f n))
      (λ i k. each i (omega (arith, length-of g n)))
    where
      each : (i : ℕ) → i < n → get_or (map g (numbers_below n)) i d ≡ get_or (set (map f (numbers_below n)) j (g j)) i d
      each i k =
          decide (eqb i j)
          (λ t. let e = eqb-true i j t in
          below_at g n i d k ∙ ap g e ∙ sym (ap (λ m. get_or (set (map f (numbers_below n)) j (g j)) m d) e
          ∙ get_or-set_same (map f (numbers_below n)) j (g j) d (omega (arith, length-of f n))))
          (λ t. let e = eqb-false i j t in
          below_at g n i d k ∙ same i k e ∙ sym (get_or-set_other (map f (numbers_below n)) j i (g j) d e ∙ below_at f n i d k))

-- what agrees where it stands is the same
module _ {a n : ℕ} {v w : List ℕ} (s : Same a n v w) where
  pub same_count : (limit p : ℕ) → a ≤ p → p + 1 ≤ a + n → count_at limit p v ≡ count_at limit p w
  same_count limit p h k = ap (λ x. min x limit) (same-num 0 p s h k)

  pub same-dot : (p : ℕ) → a ≤ p → p + dot_room ≤ a + n → dot_at v p ≡ dot_at w p
  same-dot p h k =
      let x = same-num 1 p s h (omega arith) in
      let y = same-num 3 (p + 2) s (omega arith) (omega arith) in
      λ i. record { actor = x i; counter = y i }

  pub same-dots : (p : ℕ) → a ≤ p → p + clock_room ≤ a + n → dots_at v p ≡ dots_at w p
  unfolding dots_at
  same-dots p h k =
      ap (λ c. map (λ i. dot_at v (p + 1 + i * dot_room)) (numbers_below c)) (same_count dot_limit p h (omega arith))
      ∙ below-same (λ i. dot_at v (p + 1 + i * dot_room)) (λ i. dot_at w (p + 1 + i * dot_room)) (count_at dot_limit p w)
      (λ i l. same-dot (p + 1 + i * dot_room) (omega arith) (omega arith))

  pub same-value : (p : ℕ) → a ≤ p → p + value_room ≤ a + n → value_at v p ≡ value_at w p
  same-value p h k =
      let x = same-num 3 p s h (omega arith) in
      let c = same-dots (p + 8) (omega arith) (omega arith) in
      let o = same-num 1 (p + 8 + clock_room) s (omega arith) (omega arith) in
      λ i. record { clock = clock_of (c i); value = record { number = x i; origin = o i } }

  pub same-values : (j : ℕ) → a ≤ values_place j → values_place j + (1 + value_limit * value_room) ≤ a + n → values_at v j ≡ values_at w j
  unfolding values_at
  same-values j h k =
      ap (λ c. map (λ i. value_at v (value_place j i)) (numbers_below c)) (same_count value_limit (values_place j) h (omega arith))
      ∙ below-same (λ i. value_at v (value_place j i)) (λ i. value_at w (value_place j i)) (count_at value_limit (values_place j) w)
      (λ i l. same-value (value_place j i) (omega arith) (omega arith))

  pub same_key : (j : ℕ) → a ≤ entry_place j → entry_place j + 4 ≤ a + n → key_at v j ≡ key_at w j
  same_key j h k = same-num 2 (entry_place j) s h k

  pub same-entry : (j : ℕ) → a ≤ entry_place j → entry_place j + entry_room ≤ a + n → entry_held_at v j ≡ entry_held_at w j
  same-entry j h k =
      rw (same_key j h (omega arith), same-dots (own_place j) (omega arith) (omega arith), same-values j (omega arith) (omega arith))

  pub same-listed : (m : ℕ) → a ≤ keys_place m → keys_place m + (1 + key_limit * 4) ≤ a + n → listed_at v m ≡ listed_at w m
  unfolding listed_at
  same-listed m h k =
      ap (λ c. map (λ i. num_at 2 (key_place m i) v) (numbers_below c)) (same_count key_limit (keys_place m) h (omega arith))
      ∙ below-same (λ i. num_at 2 (key_place m i) v) (λ i. num_at 2 (key_place m i) w) (count_at key_limit (keys_place m) w)
      (λ i l. same-num 2 (key_place m i) s (omega arith) (omega arith))

  pub same-removal : (m : ℕ) → a ≤ removal_place m → removal_place m + removal_room ≤ a + n → removal_at v m ≡ removal_at w m
  same-removal m h k = rw (same-dots (removal_place m) h (omega arith), same-listed m (omega arith) (omega arith))

pub same_entries : {v w : List ℕ} → Same entries_place 1 v w → Same (entry_place 0) (entry_limit * entry_room) v w → entries_at v ≡ entries_at w
unfolding entries_at
same_entries {v} {w} c s =
    ap (λ m. map (entry_held_at v) (numbers_below m)) (same_count c entry_limit entries_place (omega arith) (omega arith))
    ∙ below-same (entry_held_at v) (entry_held_at w) (entry_count w) (λ j h. same-entry s j (omega arith) (omega arith))

pub same-waiting : {v w : List ℕ} → Same waits_place 1 v w → Same (removal_place 0) (waiting_limit * removal_room) v w → waiting_at v ≡ waiting_at w
unfolding waiting_at
same-waiting {v} {w} c s =
    ap (λ m. map (removal_at v) (numbers_below m)) (same_count c waiting_limit waits_place (omega arith) (omega arith))
    ∙ below-same (removal_at v) (removal_at w) (waiting_count_at w) (λ k h. same-removal s k (omega arith) (omega arith))
