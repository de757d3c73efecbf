-- The next actor of two clocks: it comes next of both joined, and its counters are what a seek finds in each.
use mathlib.Core.Path.{◌≡◌, refl, ap, sym}
use mathlib.Core.Bool.{Bool, true, false, cond}
use mathlib.Core.List.{List, [], ◌∷◌, map-id}
use mathlib.Core.Logic.{◌⊎◌, inl, inr}
use Prim.Native.Nat.{ℕ, ◌+◌, ◌≤◌, ◌<◌, max}
use native.Mathlib.Numerals.{add-one}
use native.Mathlib.Omega.{arith}
use borrow.Author.Tests.{ltb-true, ltb-false, leb-true, leb-false, eq-eqb, ne_eqb, lt-ltb, le-ltb}
use lib.Dec.{ltb, leb}
use lib.ListN.{length, drop, get_or}
use lib.Seq.{drop-cons}
use Rattle.listlaws.specs.Weave.{weave}
use Rattle.listlaws.proofs.Rests.{drop-end}
use Rattle.clock.specs.declared.Dot.{Dot}
use Rattle.clock.specs.Dots.{no_dot, join_dots}
use Rattle.clock.proofs.Packs.{join-nil}
use Rattle.keeping.specs.declared.Meeting.{Meeting}
use Rattle.keeping.specs.declared.Sought.{Sought}
use Rattle.keeping.specs.Keeping.{sought, meeting}

-- the actor's dot of both joined
abbrev pub dot_met : Meeting → Dot
dot_met r = record { actor = r.actor; counter = max r.ours r.theirs }

pub record Meets (a b : List Dot) (i j : ℕ) (r : Meeting) : Type 0 where
  pub head : join_dots (drop i a) (drop j b) ≡ dot_met r ∷ join_dots (drop r.i a) (drop r.j b)
  pub ours : ◌≡◌ {A = Sought} (record { counter = r.ours; next = r.i }) (sought r.actor i (drop i a))
  pub theirs : ◌≡◌ {A = Sought} (record { counter = r.theirs; next = r.j }) (sought r.actor j (drop j b))
  pub onward : i + j < r.i + r.j
  pub first-within : r.i ≤ length a
  pub second-within : r.j ≤ length b

module _ (a b : List Dot) (i j : ℕ) where
  abbrev d : Dot
  d = get_or a i no_dot

  abbrev e : Dot
  e = get_or b j no_dot

  first-here : i < length a → drop i a ≡ d ∷ drop (i + 1) a
  first-here h = rw (add-one i) (drop-cons a i no_dot h)

  second-here : j < length b → drop j b ≡ e ∷ drop (j + 1) b
  second-here k = rw (add-one j) (drop-cons b j no_dot k)

  -- a dot with its counter said in another way
  same : (x y : Dot) → x.actor ≡ y.actor → x.counter ≡ y.counter → x ≡ y
  same x y p q = λ k. record { actor = p k; counter = q k }

  -- neither is used up
  module _ (h : i < length a) (k : j < length b) where
    earlier : d.actor < e.actor → Meets a b i j (record { actor = d.actor; ours = d.counter; theirs = 0; i = i + 1; j = j })
    unfolding sought join_dots weave
    earlier t = record {
      head = rw (first-here h, second-here k, lt-ltb _ _ t)
          (ap (λ z. z ∷ join_dots (drop (i + 1) a) (e ∷ drop (j + 1) b)) (same d _ refl (omega arith)));
      ours = rw (first-here h, eq-eqb d.actor d.actor refl);
      theirs = rw (second-here k, ne_eqb e.actor d.actor (λ q. omega arith), lt-ltb _ _ t);
      onward = omega arith;
      first-within = omega arith;
      second-within = omega arith;
    }

    later : e.actor < d.actor → Meets a b i j (record { actor = e.actor; ours = 0; theirs = e.counter; i = i; j = j + 1 })
    unfolding sought join_dots weave
    later t = record {
      head = rw (first-here h, second-here k, le-ltb d.actor e.actor (omega arith), lt-ltb _ _ t)
          (ap (λ z. z ∷ join_dots (d ∷ drop (i + 1) a) (drop (j + 1) b)) (same e _ refl (omega arith)));
      ours = rw (first-here h, ne_eqb d.actor e.actor (λ q. omega arith), lt-ltb _ _ t);
      theirs = rw (second-here k, eq-eqb e.actor e.actor refl);
      onward = omega arith;
      first-within = omega arith;
      second-within = omega arith;
    }

    level : d.actor ≡ e.actor → Meets a b i j (record { actor = d.actor; ours = d.counter; theirs = e.counter; i = i + 1; j = j + 1 })
    unfolding sought join_dots weave
    level t = record {
      head = rw (first-here h, second-here k, le-ltb d.actor e.actor (omega arith), le-ltb e.actor d.actor (omega arith))
          (ap (λ z. z ∷ join_dots (drop (i + 1) a) (drop (j + 1) b)) (larger (ltb d.counter e.counter) refl));
      ours = rw (first-here h, eq-eqb d.actor d.actor refl);
      theirs = rw (second-here k, eq-eqb e.actor d.actor (sym t));
      onward = omega arith;
      first-within = omega arith;
      second-within = omega arith;
    }
      where
        larger : (s : Bool) → ltb d.counter e.counter ≡ s → cond s e d ≡ record { actor = d.actor; counter = max d.counter e.counter }
        larger true q = same e _ (sym t) (omega (arith, ltb-true d.counter e.counter q))
        larger false q = same d _ refl (omega (arith, ltb-false d.counter e.counter q))

  -- the second is used up
  first-left : i < length a → length b ≡ j → Meets a b i j (record { actor = d.actor; ours = d.counter; theirs = 0; i = i + 1; j = j })
  unfolding sought
  first-left h q = record {
    head = rw (first-here h, drop-end b j (omega arith), join-nil (d ∷ drop (i + 1) a), join-nil (drop (i + 1) a))
        (ap (λ z. z ∷ drop (i + 1) a) (same d _ refl (omega arith)));
    ours = rw (first-here h, eq-eqb d.actor d.actor refl);
    theirs = rw (drop-end b j (omega arith));
    onward = omega arith;
    first-within = omega arith;
    second-within = omega arith;
  }

  nil-join : (l : List Dot) → join_dots [] l ≡ l
  unfolding join_dots weave
  nil-join l = map-id l

  -- the first is used up
  second-left : length a ≡ i → j < length b → Meets a b i j (record { actor = e.actor; ours = 0; theirs = e.counter; i = i; j = j + 1 })
  unfolding sought
  second-left q k = record {
    head = rw (second-here k, drop-end a i (omega arith), nil-join (e ∷ drop (j + 1) b), nil-join (drop (j + 1) b))
        (ap (λ z. z ∷ drop (j + 1) b) (same e _ refl (omega arith)));
    ours = rw (drop-end a i (omega arith));
    theirs = rw (second-here k, eq-eqb e.actor e.actor refl);
    onward = omega arith;
    first-within = omega arith;
    second-within = omega arith;
  }

  met : i ≤ length a → j ≤ length b → (i < length a) ⊎ (j < length b) → Meets a b i j (meeting i j (drop i a) (drop j b))
  unfolding meeting
  met p q o = go (leb (length a) i) (leb (length b) j) (ltb d.actor e.actor) (ltb e.actor d.actor) refl refl refl refl
    where
      none : length a ≤ i → length b ≤ j → (i < length a) ⊎ (j < length b) → ⊥
      none x y (inl h) = omega arith
      none x y (inr h) = omega arith

      go : (w x y z : Bool) → leb (length a) i ≡ w → leb (length b) j ≡ x → ltb d.actor e.actor ≡ y → ltb e.actor d.actor ≡ z
          → Meets a b i j (meeting i j (drop i a) (drop j b))
      go true true y z f g s t = absurd (none (leb-true _ _ f) (leb-true _ _ g) o)
      go true false y z f g s t =
          let h = leb-true _ _ f in
          let k = leb-false (length b) j g in
          rw (drop-end a i h, second-here k) (second-left (omega arith) k)
      go false true y z f g s t =
          let h = leb-false (length a) i f in
          let k = leb-true _ _ g in
          rw (first-here h, drop-end b j k) (first-left h (omega arith))
      go false false true z f g s t =
          let h = leb-false (length a) i f in
          let k = leb-false (length b) j g in
          rw (first-here h, second-here k, s) (earlier h k (ltb-true _ _ s))
      go false false false true f g s t =
          let h = leb-false (length a) i f in
          let k = leb-false (length b) j g in
          rw (first-here h, second-here k, s, t) (later h k (ltb-true _ _ t))
      go false false false false f g s t =
          let h = leb-false (length a) i f in
          let k = leb-false (length b) j g in
          rw (first-here h, second-here k, s, t) (level h k (omega (arith, ltb-false d.actor e.actor s, ltb-false e.actor d.actor t)))

pub meets : {a b : List Dot} {i j : ℕ} {r : Meeting} → i ≤ length a → j ≤ length b → (i < length a) ⊎ (j < length b)
    → r ≡ meeting i j (drop i a) (drop j b) → Meets a b i j r
meets {a} {b} {i} {j} p q o e = rw e (met a b i j p q o)
