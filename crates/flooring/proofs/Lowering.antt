-- The peers' dots taken one after the other, as one sift; and what the walk ends in: the number of the first bad peer, or the floor.
use mathlib.Core.Path.{◌≡◌, refl, ap, sym, subst, ◌∙◌}
use mathlib.Core.Bool.{true, false}
use mathlib.Core.List.{List, [], ◌∷◌, map}
use Prim.Native.Nat.{ℕ, min, ◌*◌, ◌^◌, ◌≤◌, ◌<◌}
use native.Mathlib.Omega.{arith}
use lib.Dec.{eqb, ltb}
use lib.ListN.{length}
use lib.Seq.{take-length}
use borrow.Author.Tests.{eqb-true, eqb-false, ne_eqb, le-ltb, lt-ltb, ltb-true, ltb-false}
use Rattle.listlaws.specs.Sift.{sift}
use Rattle.listlaws.specs.Fold.{fold}
use Rattle.listlaws.specs.Order.{◌∈◌}
use Rattle.listlaws.proofs.Twice.{sift-same, sift-sift}
use Rattle.listlaws.proofs.Those.{those-all, sift-means}
use Rattle.scan.proofs.Eachs.{decide}
use Rattle.clock.specs.declared.Dot.{Dot}
use Rattle.clock.specs.declared.Clock.{Clock}
use Rattle.clock.specs.Dots.{dots_of, clock_of, counter_in}
use Rattle.clock.specs.Lawful.{Lawful}
use Rattle.clock.proofs.Counters.{counter-member}
use Rattle.clock.proofs.Packs.{dots-of}
use Rattle.limits.specs.Limits.{dot_limit}
use Rattle.answers.specs.Answer.{first_of}
use Rattle.advance.specs.Advancing.{rising_dots, lent_number}
use Rattle.advance.proofs.Risings.{rising-lawful}
use Rattle.flooring.specs.declared.Floored.{Floored}
use Rattle.flooring.specs.Floor.{peer_limit, smallest_at, floor_dot, counted, floor_dots, floor_number, floored_clock}
use Rattle.flooring.specs.Steps.{lower_dot, lowered_by, begun_of, taken_of, bad_of, next_of, floored_all}

-- a clock that passes is one
pub good-lawful : (c : Clock) → lent_number c ≡ 0 → Lawful (dots_of c)
unfolding lent_number
good-lawful c e = decide (rising_dots 0 (dots_of c)) (λ t. rising-lawful 0 (dots_of c) t)
    (λ f. absurd (decide (ltb dot_limit c.len) (λ t. let z : ◌≡◌ {A = ℕ} 2 0 = rw t at e in omega arith)
    (λ g. let z : ◌≡◌ {A = ℕ} 1 0 = rw (g, f) at e in omega arith)))

-- a dot at the smallest of its own counter and those of some peers
abbrev least : List (List Dot) → Dot → Dot
least peers d = record { actor = d.actor; counter = fold (λ n c. min n (counter_in c d.actor)) d.counter peers }

min-fold : (actor n : ℕ) (peers : List (List Dot)) → fold (λ k c. min k (counter_in c actor)) n peers ≤ n
unfolding fold
min-fold actor n [] = omega arith
min-fold actor n (p ∷ peers) = omega (arith, min-fold actor (min n (counter_in p actor)) peers)

-- a dot at zero stays there
stays_out : (peers : List (List Dot)) (d : Dot) → counted d ≡ false → counted (least peers d) ≡ false
stays_out peers d f = le-ltb 0 (least peers d).counter (omega (arith, ltb-false 0 d.counter f, min-fold d.actor d.counter peers))

-- one peer after the other lowers as all at once
lowered-all : (peers : List (List Dot)) (l : List Dot) → ((d : Dot) → d ∈ l → 0 < d.counter)
    → fold (λ c p. lowered_by p c) l peers ≡ sift counted (least peers) l
unfolding fold lowered_by
lowered-all [] l h = sym (those-all counted l (λ d i. lt-ltb 0 d.counter (h d i)))
lowered-all (p ∷ peers) l h =
    lowered-all peers (sift counted (lower_dot p) l) (λ d i. ltb-true 0 d.counter (sift-means counted (lower_dot p) l i).passes)
    ∙ sift-sift counted (lower_dot p) (least peers) l
    (λ d i f. stays_out peers (lower_dot p d) f)

-- the first peer, lowered by itself, and then by the others, is the floor
floor-folds : (c : List Dot) (peers : List (List Dot)) → Lawful c → fold (λ d p. lowered_by p d) (lowered_by c c) peers ≡ floor_dots (c ∷ peers)
unfolding floor_dots smallest_at lowered_by
floor-folds c peers h =
    lowered-all peers (sift counted (lower_dot c) c) (λ d i. ltb-true 0 d.counter (sift-means counted (lower_dot c) c i).passes)
    ∙ sift-sift counted (lower_dot c) (least peers) c
    (λ d i f. stays_out peers (lower_dot c d) f)
    ∙ sift-same counted (λ d. least peers (lower_dot c d)) (floor_dot (c ∷ peers)) c
    (λ d i. let e : min d.counter (counter_in c d.actor) ≡ counter_in c d.actor = omega (arith, counter-member h i) in
    λ j. record { actor = d.actor; counter = fold (λ n p. min n (counter_in p d.actor)) (e j) peers })

-- a number that is not 0 stays
bad-stays : (f : Floored) (l : List Clock) → (f.word ≡ 0 → ⊥) → fold next_of f l ≡ f
unfolding fold next_of
bad-stays f [] h = refl
bad-stays f (p ∷ l) h = rw (ne_eqb f.word 0 h) (bad-stays f l h)

-- the walk from where a peer was read
pub record Walked (f : Floored) (c : List Dot) (l : List Clock) : Type 0 where
  pub word : f.word ≡ first_of (map lent_number l) * 2 ^ 32
  pub clock : first_of (map lent_number l) ≡ 0 → f.clock ≡ clock_of (fold (λ d p. lowered_by p d) c (map dots_of l))

module _ (p : Clock) (l : List Clock) where
  first-bad : (lent_number p ≡ 0 → ⊥) → first_of (map lent_number (p ∷ l)) ≡ lent_number p
  unfolding first_of
  first-bad h = rw (ne_eqb (lent_number p) 0 h)

  first_good : lent_number p ≡ 0 → first_of (map lent_number (p ∷ l)) ≡ first_of (map lent_number l)
  unfolding first_of
  first_good e = rw e

  -- a bad peer, or a good one, in front of the others
  walk-bad : (f : Floored) (c : List Dot) → (lent_number p ≡ 0 → ⊥) → Walked (fold next_of (bad_of f (lent_number p)) l) c (p ∷ l)
  walk-bad f c h = record {
    word = ap (λ (g : Floored). g.word) (bad-stays (bad_of f (lent_number p)) l (λ e. h (omega arith))) ∙ ap (λ n. n * 2 ^ 32) (sym (first-bad h));
    clock = λ e. absurd (h (sym (first-bad h) ∙ e));
  }

  walk-good : {f : Floored} (c : List Dot) → lent_number p ≡ 0 → Walked f (lowered_by (dots_of p) c) l → Walked f c (p ∷ l)
  unfolding fold
  walk-good c e r = record { word = r.word ∙ ap (λ n. n * 2 ^ 32) (sym (first_good e)); clock = λ z. r.clock (sym (first_good e) ∙ z) }

module _ (f : Floored) (p : Clock) (w : f.word ≡ 0) where
  good-next : eqb (lent_number p) 0 ≡ true → next_of f p ≡ taken_of f p
  unfolding next_of
  good-next t = rw (w, t)

  bad-next : eqb (lent_number p) 0 ≡ false → next_of f p ≡ bad_of f (lent_number p)
  unfolding next_of
  bad-next g = rw (w, g)

walk_none : (f : Floored) (c : List Dot) → f.word ≡ 0 → f.clock ≡ clock_of c → Walked (fold next_of f []) c []
unfolding fold first_of
walk_none f c w e = record { word = w; clock = λ z. e }

-- the walk takes the first step that is said, and then the others
walk_step : (P : Floored → Type 0) (f : Floored) {g : Floored} (p : Clock) (l : List Clock) → next_of f p ≡ g → P (fold next_of g l)
    → P (fold next_of f (p ∷ l))
unfolding fold
walk_step P f p l e r = subst (λ (k : Floored). P (fold next_of k l)) (sym e) r

walk-on : (f : Floored) (c : List Dot) (l : List Clock) → f.word ≡ 0 → f.any ≡ true → f.clock ≡ clock_of c → Walked (fold next_of f l) c l
walk-on f c [] w a e = walk_none f c w e
walk-on f c (p ∷ l) w a e = decide (eqb (lent_number p) 0)
    (λ t. let z = eqb-true (lent_number p) 0 t in walk_step (λ k. Walked k c (p ∷ l)) f p l (good-next f p w t) (walk-good p l c z (walk-on
    (taken_of f p) (lowered_by (dots_of p) c) l refl refl
    (rw a (ap (λ (d : List Dot). clock_of (lowered_by (dots_of p) d)) (dots-of c e))))))
    (λ g. walk_step (λ k. Walked k c (p ∷ l)) f p l (bad-next f p w g) (walk-bad p l f c (eqb-false (lent_number p) 0 g)))

-- so the walk from the start
abbrev start : ℕ → Floored
start many = record { word = 0; many = many; any = false; clock = clock_of [] }

abbrev Whole : Floored → List Clock → Type 0
Whole f l = (f.word ≡ first_of (map lent_number l) * 2 ^ 32) × (first_of (map lent_number l) ≡ 0 → f.clock ≡ clock_of (floor_dots (map dots_of l)))

whole-walked : (many : ℕ) (l : List Clock) → Whole (fold next_of (start many) l) l
unfolding fold first_of floor_dots
whole-walked many [] = (refl, λ z. refl)
whole-walked many (p ∷ l) = decide (eqb (lent_number p) 0)
    (λ t. let z = eqb-true (lent_number p) 0 t in
    let r = walk-good p l (dots_of p) z (walk-on (taken_of (start many) p) (lowered_by (dots_of p) (dots_of p)) l refl refl refl) in
    walk_step (λ k. Whole k (p ∷ l)) (start many) p l (good-next (start many) p refl t) (
      r.word,
      λ y. r.clock y ∙ ap clock_of (floor-folds
          (dots_of p) (map dots_of l) (good-lawful p z)),
    ))
    (λ g. let r = walk-bad p l (start many) [] (eqb-false (lent_number p) 0 g) in
    walk_step (λ k. Whole k (p ∷ l)) (start many) p l (bad-next (start many) p refl g) (
      r.word,
      λ y. absurd (eqb-false (lent_number p) 0 g
          (sym (first-bad p l (eqb-false (lent_number p) 0 g)) ∙ y)),
    ))

few-walked : (peers : List Clock) → length peers ≤ peer_limit → Whole (floored_all peers) peers
unfolding begun_of
few-walked peers h = rw (le-ltb peer_limit (length peers) h, take-length peers) (whole-walked (length peers) peers)

-- what the walk ends in: the promised word, and the promised floor
module _ (peers : List Clock) where
  few-number : length peers ≤ peer_limit → floor_number peers ≡ first_of (map lent_number peers)
  unfolding floor_number first_of
  few-number h = rw (le-ltb peer_limit (length peers) h)

  many-number : peer_limit < length peers → floor_number peers ≡ 18
  unfolding floor_number first_of
  many-number h = rw (lt-ltb peer_limit (length peers) h)

  many-word : peer_limit < length peers → (floored_all peers).word ≡ 18 * 2 ^ 32
  unfolding fold begun_of
  many-word h = rw (lt-ltb peer_limit (length peers) h)

  pub floor-word : (floored_all peers).word ≡ floor_number peers * 2 ^ 32
  floor-word = decide (ltb peer_limit (length peers))
      (λ t. let h = ltb-true peer_limit (length peers) t in many-word h ∙ ap (λ n. n * 2 ^ 32) (sym (many-number h)))
      (λ g. let h = ltb-false peer_limit (length peers) g in (few-walked peers h).0 ∙ ap (λ n. n * 2 ^ 32) (sym (few-number h)))

  floor-clock : floor_number peers ≡ 0 → (floored_all peers).clock ≡ clock_of (floor_dots (map dots_of peers))
  floor-clock e = decide (ltb peer_limit (length peers))
      (λ t. absurd (omega (arith, many-number (ltb-true peer_limit (length peers) t))))
      (λ g. let h = ltb-false peer_limit (length peers) g in (few-walked peers h).1 (sym (few-number h) ∙ e))

  pub floor-stored : (h : Clock) → eqb (floored_all peers).word 0 ≡ true → (floored_all peers).clock ≡ floored_clock peers h
  unfolding floored_clock
  floor-stored h t =
      let e : floor_number peers ≡ 0 = omega (arith, floor-word, eqb-true (floored_all peers).word 0 t) in rw e (floor-clock e)

  pub floor-kept : (h : Clock) → eqb (floored_all peers).word 0 ≡ false → h ≡ floored_clock peers h
  unfolding floored_clock
  floor-kept h t = rw (ne_eqb (floor_number peers) 0 (λ e. eqb-false (floored_all peers).word 0 t (omega (arith, floor-word))))
