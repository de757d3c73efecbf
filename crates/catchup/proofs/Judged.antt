-- The ways out of both calls: a map is refused, there are too many operations, or they were run.
use mathlib.Core.Path.{◌≡◌, refl, ap, sym, ◌∙◌}
use mathlib.Core.Bool.{Bool, true, false}
use mathlib.Core.List.{List, [], ◌∷◌}
use Prim.Native.Nat.{ℕ, ◌-◌, ◌*◌, ◌^◌, ◌≤◌, ◌<◌}
use native.Mathlib.Omega.{arith}
use borrow.Author.Tests.{eq-eqb, ne_eqb, lt-ltb, le-ltb, eqb-true, eqb-false}
use lib.Dec.{eqb}
use lib.ListN.{length, take}
use Rattle.scan.proofs.Eachs.{decide}
use Rattle.maprecords.specs.Related.{read_map}
use Rattle.answers.specs.Answer.{Answer, first_of, word_of}
use Rattle.answers.proofs.Answers.{number-first, number-second, number-own, number-done, bare}
use Rattle.promises.specs.CatchUp.{operation_limit, operations_of, outcome_of, elsewhere_number, many_number, same_bytes}
use Rattle.promises.specs.CatchUp.{catch_up_answer, catch_up_place}
use Rattle.catchup.specs.declared.Ran.{Ran}
use Rattle.catchup.specs.declared.Verdict.{Verdict}
use Rattle.catchup.specs.Walking.{RanAs, Arrived, Judges}
use Rattle.catchup.proofs.Words.{part-first}

-- the first of several numbers
first-is : (n : ℕ) (l : List ℕ) → (n ≡ 0 → ⊥) → first_of (n ∷ l) ≡ n
unfolding first_of
first-is n l h = rw (ne_eqb n 0 h) refl

first_past : (n : ℕ) (l : List ℕ) → n ≡ 0 → first_of (n ∷ l) ≡ first_of l
unfolding first_of
first_past n l z = rw (eq-eqb n 0 z) refl

first-none : first_of [] ≡ 0
unfolding first_of
first-none = refl

-- the word of an answer with a number of its own, or none
own-word : (a : Answer) (n : ℕ) → a.first ≡ 0 → a.second ≡ 0 → n ≡ a.own → length a.bytes ≡ 0 → n * 2 ^ 32 ≡ word_of a []
own-word a n p q e b = decide (eqb n 0)
    (λ t. let z = eqb-true n 0 t in bare a n (number-done a [] p q (sym e ∙ z) (omega (arith, b)) ∙ sym z) b)
    (λ f. bare a n (number-own a [] p q e (eqb-false n 0 f)) b)

-- a number before the operations' own
early : (map other list : List ℕ) (n : ℕ) → first_of ((read_map map).number ∷ (read_map other).number ∷ many_number list ∷ []) ≡ n → (n ≡ 0 → ⊥)
    → 0 ≡ catch_up_place map other list
unfolding catch_up_place
early map other list n e h = rw (e, ne_eqb n 0 h) refl

module _ (map other list : List ℕ) (v : Verdict) (n : ℕ) (w : v.word ≡ n * 2 ^ 32) (z : v.place ≡ 0) where
  pub first-refused : n ≡ (read_map map).number → (n ≡ 0 → ⊥) → Judges map other list v
  first-refused e h = record {
    word = w ∙ bare (catch_up_answer map other list) n (number-first (catch_up_answer map other list) [] e h) refl;
    place = z ∙ early map other list n (first-is (read_map map).number _ (λ q. h (e ∙ q)) ∙ sym e) h;
  }

  pub second-refused : (read_map map).number ≡ 0 → n ≡ (read_map other).number → (n ≡ 0 → ⊥) → Judges map other list v
  second-refused p e h = record {
    word = w ∙ bare (catch_up_answer map other list) n (number-second (catch_up_answer map other list) [] p e h) refl;
    place = z ∙ early map other list n (first_past (read_map map).number _ p ∙ first-is (read_map other).number _ (λ q. h (e ∙ q)) ∙ sym e) h;
  }

  pub many-refused : (read_map map).number ≡ 0 → (read_map other).number ≡ 0 → n ≡ 17 → operation_limit < length (operations_of list)
      → Judges map other list v
  many-refused p q e l =
      let m : many_number list ≡ 17 = rw (lt-ltb operation_limit (length (operations_of list)) l) refl in
      let h : n ≡ 0 → ⊥ = λ y. omega (arith, y, e) in
      let g : many_number list ≡ 0 → ⊥ = λ y. omega (arith, y, m) in
      record {
        word = w ∙ own-word (catch_up_answer map other list) n p q (e ∙ sym m ∙ sym (first-is (many_number list) _ g)) refl;
        place = z ∙ early map other list n (first_past (read_map map).number _ p ∙ first_past (read_map other).number _ q
            ∙ first-is (many_number list) [] g ∙ m ∙ sym e) h;
      }

-- the operations were run
pub were-run : (map other list : List ℕ) {v : Verdict} → (read_map map).number ≡ 0 → (read_map other).number ≡ 0
    → length (operations_of list) ≤ operation_limit → Arrived map other list v → Judges map other list v
unfolding catch_up_place
were-run map other list p q l r =
    let m : many_number list ≡ 0 = rw (le-ltb operation_limit (length (operations_of list)) l) refl in
    let e : first_of ((read_map map).number ∷ (read_map other).number ∷ many_number list ∷ []) ≡ 0
    = first_past (read_map map).number _ p ∙ first_past (read_map other).number _ q ∙ first_past (many_number list) [] m ∙ first-none in
    record {
      word = r.word ∙ own-word (catch_up_answer map other list) _ p q (sym (first_past (many_number list) _ m)) refl;
      place = r.place ∙ rw e refl;
    }

-- one number alone
last-is : (k : ℕ) → first_of (k ∷ []) ≡ k
last-is k = decide (eqb k 0) (λ t. let y = eqb-true k 0 t in first_past k [] y ∙ first-none ∙ sym y) (λ f. first-is k [] (eqb-false k 0 f))

-- what they came to
module _ (map other list : List ℕ) {exit : List ℕ} {r : Ran} (ran : RanAs (outcome_of map list) exit r) where
  pub run-refused : (r.word ≡ 0 → ⊥) → Arrived map other list (record { word = r.word; place = r.place })
  run-refused h = record {
    word = ran.word ∙ ap (λ k. k * 2 ^ 32) (sym (first-is (outcome_of map list).number _ (λ z. h (let w = ran.word in omega (arith, w, z)))));
    place = ran.place;
  }

  module _ (z : r.word ≡ 0) {b : Bool} (e : b ≡ same_bytes (take (r.len - 0) exit) other) where
    none-refused : (outcome_of map list).number ≡ 0
    none-refused = let w = ran.word in omega (arith, w, z)

    held : b ≡ same_bytes (outcome_of map list).image other
    held = e ∙ ap (λ s. same_bytes s other) (sym (part-first r.len exit) ∙ ran.image z)

    ended : {n w : ℕ} → w ≡ n * 2 ^ 32 → n ≡ elsewhere_number (outcome_of map list).image other
        → Arrived map other list (record { word = w; place = r.place })
    ended q f = record {
      word = q ∙ ap (λ k. k * 2 ^ 32) (f ∙ sym (last-is (elsewhere_number (outcome_of map list).image other))
          ∙ sym (first_past (outcome_of map list).number _ none-refused));
      place = ran.place;
    }

    pub run-there : b ≡ true → Arrived map other list (record { word = 0; place = r.place })
    run-there t = ended {n = 0} refl (rw (sym held ∙ t) refl)

    pub run-elsewhere : b ≡ false → {w : ℕ} → w ≡ 16 * 2 ^ 32 → Arrived map other list (record { word = w; place = r.place })
    run-elsewhere t q = ended {n = 16} q (rw (sym held ∙ t) refl)
