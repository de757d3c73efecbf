-- How each way out of `advance` answers.
use mathlib.Core.Path.{◌≡◌, refl, ap, sym, ◌∙◌}
use mathlib.Core.Bool.{true, false}
use mathlib.Core.List.{List, []}
use Prim.Native.Nat.{ℕ, ◌*◌, ◌^◌, ◌≤◌, ◌<◌}
use native.Mathlib.Omega.{arith}
use lib.Dec.{leb, ltb}
use lib.ListN.{length, length-take}
use borrow.Author.Tests.{ne_eqb, lt-ltb, le-ltb, leb-true, leb-false, ltb-false}
use Rattle.listlaws.proofs.Orders.{apart}
use Rattle.listlaws.proofs.Limits.{within-fits, within-exceeds}
use Rattle.scan.proofs.Eachs.{decide}
use Rattle.clock.specs.declared.Dot.{Dot}
use Rattle.clock.specs.declared.Clock.{Clock}
use Rattle.clock.specs.declared.Joined.{Joined}
use Rattle.limits.specs.Limits.{dot_limit}
use Rattle.clock.specs.Dots.{dots_of, clock_of, fitted, counter_in, add_dot}
use Rattle.answers.specs.Answer.{number_of, word_of}
use Rattle.answers.proofs.Answers.{number-first, number-own, number-done, bare}
use Rattle.advance.specs.declared.Advanced.{Advanced}
use Rattle.advance.specs.Advancing.{lent_number, dot_given, advance_answer, takes_effect, advanced_clock, advanced_of}
use Rattle.advance.proofs.Risings.{none-added}

over-long : (l : List Dot) → (fitted l).over ≡ true → dot_limit < length l
over-long l h = decide (leb (length l) dot_limit)
    (λ t. apart (sym h ∙ ap (λ (j : Joined). j.over) (within-fits dot_limit _ _ l (leb-true (length l) dot_limit t))))
    (λ f. omega (arith, leb-false (length l) dot_limit f))

within-long : (l : List Dot) → (fitted l).over ≡ false → length l ≤ dot_limit
within-long l h = decide (leb (length l) dot_limit) (λ t. leb-true (length l) dot_limit t)
    (λ f. apart (sym (ap (λ (j : Joined). j.over) (within-exceeds dot_limit _ _ l (omega (arith, leb-false (length l) dot_limit f)))) ∙ h))

module _ (c : Clock) (actor counter : ℕ) where
  -- where the dot takes no effect the clock is the one given
  effect : {n : ℕ} → n ≡ word_of (advance_answer c actor counter) [] → false ≡ takes_effect c actor counter
      → record { word = n; grew = false; clock = c } ≡ advanced_of c actor counter
  effect w g =
      let k : c ≡ advanced_clock c actor counter = rw (← g) in
      λ i. record { word = w i; grew = g i; clock = k i }

  stays : {n : ℕ} → number_of (advance_answer c actor counter) [] ≡ n → (n ≡ 0 → ⊥)
      → record { word = n * 2 ^ 32; grew = false; clock = c } ≡ advanced_of c actor counter
  unfolding takes_effect
  stays {n} e h =
      let w = bare (advance_answer c actor counter) n e refl in
      effect w (rw (e, ne_eqb n 0 h))

  pub refused-stays : {n : ℕ} → n ≡ lent_number c → (n ≡ 0 → ⊥) → record { word = n * 2 ^ 32; grew = false; clock = c } ≡ advanced_of c actor counter
  refused-stays e h = stays (number-first (advance_answer c actor counter) [] e h) h

  lent-few : lent_number c ≡ 0 → length (dots_of c) ≤ dot_limit
  unfolding lent_number
  lent-few e =
      decide (ltb dot_limit c.len)
      (λ t. let z : ◌≡◌ {A = ℕ} 2 0 = rw t at e in omega arith)
      (λ f. let h = ltb-false dot_limit c.len f in omega (arith, length-take c.len c.dots))

  module _ (good : lent_number c ≡ 0) where
    pub full-stays : (fitted (add_dot (dots_of c) (dot_given c actor counter))).over ≡ true
        → record { word = 4 * 2 ^ 32; grew = false; clock = c } ≡ advanced_of c actor counter
    full-stays o =
        let l = over-long (add_dot (dots_of c) (dot_given c actor counter)) o in
        stays {n = 4} (number-own (advance_answer c actor counter) [] good refl (rw (lt-ltb _ _ l)) (omega arith)) (omega arith)

    done : length (add_dot (dots_of c) (dot_given c actor counter)) ≤ dot_limit → number_of (advance_answer c actor counter) [] ≡ 0
    done l = number-done (advance_answer c actor counter) [] good refl (rw (le-ltb _ _ l)) (omega arith)

    pub grows : counter_in (dots_of c) actor < counter → {j : Joined} → j ≡ fitted (add_dot (dots_of c) (dot_given c actor counter)) → j.over ≡ false
        → record { word = 0; grew = true; clock = j.clock } ≡ advanced_of c actor counter
    unfolding takes_effect
    grows b {j} e o =
        let l = within-long (add_dot (dots_of c) (dot_given c actor counter)) (sym (ap (λ (x : Joined). x.over) e) ∙ o) in
        let w = bare (advance_answer c actor counter) 0 (done l) refl in
        let f : j.clock ≡ clock_of (add_dot (dots_of c) (dot_given c actor counter)) = ap (λ (x : Joined). x.clock)
        (e ∙ within-fits dot_limit _ _ _ l) in
        let g : true ≡ takes_effect c actor counter = rw (done l, lt-ltb _ _ b) in
        let k : j.clock ≡ advanced_clock c actor counter = rw (← g) f in
        λ i. record { word = w i; grew = g i; clock = k i }

    pub seen-stays : counter ≤ counter_in (dots_of c) actor → record { word = 0; grew = false; clock = c } ≡ advanced_of c actor counter
    unfolding takes_effect
    seen-stays b =
        let few = lent-few good in
        let l = none-added (dots_of c) (dot_given c actor counter) b in
        let w = bare (advance_answer c actor counter) 0 (done (omega arith)) refl in
        effect w (rw (done (omega arith), le-ltb _ _ b))

  -- a dot that took no effect left the clock as it is
  pub as-given : {r : Advanced} → r ≡ advanced_of c actor counter → r.grew ≡ false → c ≡ (advanced_of c actor counter).clock
  as-given e h = rw (sym (ap (λ (a : Advanced). a.grew) e) ∙ h)
