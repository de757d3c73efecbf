-- What a merge keeps, actor by actor; and a clock told by its counters at the actors of another.
use mathlib.Core.Path.{◌≡◌, refl, ap, ap₂, sym, ◌∙◌}
use mathlib.Core.Bool.{Bool, true, false, cond}
use mathlib.Core.List.Memᴰ
use mathlib.Core.List.{List, []}
use Prim.Native.Nat.{ℕ, ◌<◌, max}
use native.Mathlib.Omega.{arith}
use borrow.Author.Tests.{ltb-true, lt-ltb, eq-eqb, eqb-true, eqb-false}
use lib.Dec.{eqb, ltb}
use Rattle.listlaws.specs.Sift.{sift}
use Rattle.listlaws.proofs.Orders.{by-strict, same-members}
use Rattle.listlaws.proofs.Ranks.{by-steady, level_by}
use Rattle.listlaws.proofs.Sides.{sift-ascends}
use Rattle.listlaws.proofs.Those.{sift-means, sift-holds}
use Rattle.clock.specs.declared.Dot.{Dot}
use Rattle.clock.specs.Dots.{counter_in, cut_dots, join_dots}
use Rattle.clock.specs.Lawful.{Lawful}
use Rattle.clock.proofs.Counters.{dot_in, counter-member, counter_holds, same-clock}
use Rattle.clock.proofs.Cuts.{lawful-cut, lawful-common, counter-cut, counter-common}
use Rattle.clock.proofs.Joins.{lawful-join, counter-join, join-again}
use Rattle.clock.proofs.Covers.{covers-means, covers-refl, empty-covered}
use Rattle.clock.proofs.Empties.{empty-means}
use Rattle.entries.specs.Entries.{keep_dots}
use Rattle.entries.proofs.ClocksFit.{lawful-keep, covers-keep}
use Rattle.keeping.specs.Keeping.{kept_counter}

abbrev some : Dot → Bool
some d = ltb 0 d.counter

-- a clock is its counters at the actors of one that has them all
pub by-counters : {k l : List Dot} → Lawful k → Lawful l → ((a : ℕ) → counter_in l a ≡ 0 → counter_in k a ≡ 0)
    → sift (λ d. ltb 0 d.counter) (λ d. dot_in k d.actor) l ≡ k
by-counters {k} {l} h q f =
    let at : Dot → Dot = λ d. dot_in k d.actor in
    same-members (by-strict (λ d. d.actor)) _ k
    (sift-ascends (by-strict (λ d. d.actor)) (by-steady (λ d. d.actor)) some at (λ d. level_by (λ e. e.actor) d (at d) refl) q.rising)
    h.rising
    (λ z i. let r = sift-means some at l i in
    Memᴰ.cast r.changed (counter_holds k r.source.actor (ltb-true 0 _ (ap some (sym r.changed) ∙ r.passes))))
    (λ z i. let p = h.positive z i in let e = counter-member h i in
    Memᴰ.cast (λ j. record { actor = z.actor; counter = sym e j })
    (sift-holds some at (counter_holds l z.actor (counted z (omega arith) (eqb (counter_in l z.actor) 0) refl))
    (lt-ltb 0 (counter_in k z.actor) (omega arith))))
  where
    counted : (z : Dot) → 0 < counter_in k z.actor → (b : Bool) → eqb (counter_in l z.actor) 0 ≡ b → 0 < counter_in l z.actor
    counted z p true t = absurd (omega (arith, f z.actor (eqb-true (counter_in l z.actor) 0 t)))
    counted z p false t = omega (arith, eqb-false (counter_in l z.actor) 0 t)

module _ (mine yours : List Dot) {x y : List Dot} (h : Lawful x) (k : Lawful y) where
  pub kept-counter : (a : ℕ) → counter_in (keep_dots mine yours x y) a
      ≡ kept_counter (counter_in x a) (counter_in y a) (counter_in mine a) (counter_in yours a)
  unfolding keep_dots
  kept-counter a =
      let common = lawful-common y h in
      let own = lawful-cut yours h in
      counter-join (lawful-join common own) (lawful-cut mine k) a
      ∙ rw (counter-join common own a, counter-common y h a, counter-cut yours h a, counter-cut mine k a)

  -- what is kept is told by its counters at the actors of both
  pub keep-by-counters : sift (λ d. ltb 0 d.counter) (λ d. dot_in (keep_dots mine yours x y) d.actor) (join_dots x y) ≡ keep_dots mine yours x y
  keep-by-counters =
      by-counters (lawful-keep mine yours h k) (lawful-join h k)
      (λ a e. omega (arith, covers-means (join_dots x y) (keep_dots mine yours x y) (covers-keep mine yours h k) a))

-- what two clocks share is kept where they are the same
kept_same : (x m y : ℕ) → kept_counter x x m y ≡ x
kept_same x m y = rw (eq-eqb x x refl) (go (ltb y x) (ltb m x))
  where
    go : (b c : Bool) → max (max x (cond b x 0)) (cond c x 0) ≡ x
    go true true = omega arith
    go true false = omega arith
    go false true = omega arith
    go false false = omega arith

module _ (mine yours : List Dot) {x : List Dot} (h : Lawful x) where
  pub keep_same : keep_dots mine yours x x ≡ x
  keep_same = same-clock (lawful-keep mine yours h h) h (λ a. kept-counter mine yours h h a
      ∙ kept_same (counter_in x a) (counter_in mine a) (counter_in yours a))

  -- and nothing of them is deleted
  pub gone_same : cut_dots (keep_dots mine yours x x) (join_dots x x) ≡ []
  gone_same = ap₂ cut_dots keep_same (join-again h) ∙ empty-means (cut_dots x x) (empty-covered x x ∙ covers-refl h)
