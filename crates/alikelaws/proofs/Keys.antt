-- What a key has, after a cut and after a put: section 4's sentences on entry(k) and values(k) stay true.
use mathlib.Core.Path.{◌≡◌, refl, ap, sym, ◌∙◌}
use mathlib.Core.Bool.{Bool, true, false, cond}
use mathlib.Core.Logic.{◌⊎◌, inl, inr, ⊎_elim}
use mathlib.Core.List.Memᴰ
use mathlib.Core.List.{List, [], ◌∷◌, ◌++◌}
use Prim.Native.Nat.{ℕ, ◌<◌, ◌≤◌}
use native.Mathlib.Omega.{arith}
use borrow.Author.Tests.{ltb-true, ltb-false, lt-ltb, eqb-true, eq-eqb}
use lib.Dec.{ltb, eqb}
use Rattle.listlaws.specs.Sift.{sift, those}
use Rattle.listlaws.specs.Order.{◌∈◌}
use Rattle.listlaws.proofs.Those.{those-means, those-holds}
use Rattle.clock.specs.declared.Dot.{Dot}
use Rattle.clock.specs.Dots.{counter_in, covers, cut_dots, add_dot}
use Rattle.clock.specs.Lawful.{Lawful}
use Rattle.clock.proofs.Counters.{counter-nil}
use Rattle.clock.proofs.Cuts.{counter-cut}
use Rattle.clock.proofs.Joins.{counter-add}
use Rattle.clock.proofs.Covers.{covers-means}
use Rattle.register.specs.declared.Value.{Value}
use Rattle.register.specs.Values.{cut_values, put_values}
use Rattle.entries.specs.declared.Update.{Update}
use Rattle.scan.proofs.Eachs.{decide}
use Rattle.maplaws.specs.Among.{Exactly}
use Rattle.readiness.specs.Ready.{put_of}
use Rattle.alikelaws.specs.Honest.{Names}
use Rattle.alikelaws.specs.Picture.{Standing, ValueOf, EachOnce, nil, next, AtKey}
use Rattle.alikelaws.proofs.Matching.{past, match-cut, match-put}

-- lists without repetition
once-those : (p : Update → Bool) {us : List Update} → EachOnce us → EachOnce (those p us)
unfolding sift
once-those p nil = nil
once-those p (next {u = u} {us = us} f o) = go (p u) (once-those p o)
  where
    go : (b : Bool) → EachOnce (those p us) → EachOnce (cond b (u ∷ those p us) (those p us))
    go true r = next (λ i. f (those-means p us i).0) r
    go false r = r

once-snoc : {us : List Update} {u : Update} → EachOnce us → (u ∈ us → ⊥) → EachOnce (us ++ (u ∷ []))
once-snoc nil n = next (λ i. Memᴰ.not-nil i) nil
once-snoc {u = u} (next {u = x} {us = us} f o) n =
    next (λ i. ⊎_elim (λ j. f j) (λ j. let same : x ≡ u = Memᴰ.eq_of_singleton j in n (Memᴰ.head (sym same))) (Memᴰ.append_cases us i))
    (once-snoc o (λ i. n (Memᴰ.tail i)))

-- the same updates and dots in other words
pub standing-same : {Up Vp : Update → Type 0} {Sp Tp : Dot → Type 0} → ((u : Update) → Exactly (Up u) (Vp u)) → ((d : Dot) → Exactly (Sp d) (Tp d))
    → {u : Update} → Standing Up Sp u → Standing Vp Tp u
standing-same e f {u} s = record {
  among = (e u).0 s.among;
  spared = (f u.dot).0 s.spared;
  unnamed = λ x i. s.unnamed x ((e x).1 i);
}

pub at_same : {Up Vp : Update → Type 0} {Sp Tp : Dot → Type 0} {c : List Dot} {l : List Value} → ((u : Update) → Exactly (Up u) (Vp u))
    → ((d : Dot) → Exactly (Sp d) (Tp d)) → AtKey Up Sp c l → AtKey Vp Tp c l
at_same e f a = record {
  above = λ u i s. a.above u ((e u).1 i) ((f u.dot).1 s);
  reached = λ x p. let r = a.reached x p in (r.0, (e r.0).0 r.1, (f r.0.dot).0 r.2, r.3, r.4);
  updates = a.updates;
  matched = a.matched;
  once = a.once;
  stand = λ u i. standing-same e f (a.stand u i);
  every = λ u s. a.every u (standing-same (λ x. ((e x).1, (e x).0)) (λ d. ((f d).1, (f d).0)) s);
}

-- a cut
module _ {Up : Update → Type 0} {Sp Tp : Dot → Type 0} (by : List Dot)
    (e : (d : Dot) → Exactly (Tp d) (Sp d × (counter_in by d.actor < d.counter)))
    (closed : (u : Update) → Up u → Names by u → covers by (put_of u) ≡ true) {c : List Dot} (h : Lawful c) {l : List Value}
    (a : AtKey Up Sp c l) where
  less : {u : Update} → Standing Up Tp u → Standing Up Sp u
  less {u} s = record { among = s.among; spared = ((e u.dot).0 s.spared).0; unnamed = s.unnamed }

  cut-above : (u : Update) → Up u → Tp u.dot → Names (cut_dots by c) u
  cut-above u i s =
      let r = (e u.dot).0 s in
      let n = a.above u i r.0 in
      let q = counter-cut by h u.dot.actor in
      omega (arith, rw (lt-ltb (counter_in by u.dot.actor) (counter_in c u.dot.actor) (omega (arith, n, r.1))) at q, n)

  pub cut_at : AtKey Up Tp (cut_dots by c) (cut_values by l)
  cut_at = record {
    above = cut-above;
    reached = λ x p. decide (ltb (counter_in by x) (counter_in c x))
        (λ t. let q = rw t at (counter-cut by h x) in
        let b = ltb-true (counter_in by x) (counter_in c x) t in
        let r = a.reached x (omega (arith, b)) in
        (r.0, r.1, (e r.0.dot).1 (r.2, omega (arith, b, r.4, ap (counter_in by) r.3)), r.3, r.4 ∙ sym q))
        (λ t. absurd (omega (arith, rw t at (counter-cut by h x), p)));
    updates = those (past by) a.updates;
    matched = match-cut by a.matched (λ u i. closed u (a.stand u i).among);
    once = once-those (past by) a.once;
    stand = λ u i. let r = those-means (past by) a.updates i in
        let s = a.stand u r.0 in
        record {
          among = s.among;
          spared = (e u.dot).1 (s.spared, ltb-true (counter_in by u.dot.actor) u.dot.counter r.1);
          unnamed = s.unnamed;
        };
    every = λ u s. those-holds (past by) (a.every u (less s))
        (lt-ltb (counter_in by u.dot.actor) u.dot.counter ((e u.dot).0 s.spared).1);
  }

  -- nothing is left of the entry's clock: it goes with all it holds
  pub cut-gone : cut_dots by c ≡ [] → AtKey Up Tp [] []
  cut-gone z =
      let none : (u : Update) → Up u → Tp u.dot → ⊥ = λ u i s. omega (
        arith,
        ((e u.dot).0 s).1,
        cut-above u i s,
        ap (λ x. counter_in x u.dot.actor) z,
        counter-nil u.dot.actor,
      ) in
      record {
        above = λ u i s. absurd (none u i s);
        reached = λ x p. absurd (omega (arith, p, counter-nil x));
        updates = [];
        matched = nil;
        once = nil;
        stand = λ u i. absurd (Memᴰ.not-nil i);
        every = λ u s. absurd (none u s.among s.spared);
      }

-- an update that was not seen, whose put clock is closed, and that nothing seen names
module _ {Up : Update → Type 0} {Sp : Dot → Type 0} (u : Update) {c : List Dot} (h : Lawful c) {l : List Value} (a : AtKey Up Sp c l)
    (seen : List Dot) (names : (x : Update) → Up x → Names seen x) (known : (x : Update) → Up x → covers seen (put_of x) ≡ true)
    (new : counter_in seen u.dot.actor < u.dot.counter) (within : covers seen c ≡ true)
    (closed : (x : Update) → Up x → Names (put_of u) x → covers (put_of u) (put_of x) ≡ true) (f : ValueOf u u.put) where
  -- with the update, and with its dot
  abbrev pub More : Update → Type 0
  More x = Up x ⊎ (x ≡ u)

  abbrev pub Also : Dot → Type 0
  Also d = Sp d ⊎ (d ≡ u.dot)

  unseen : {x : Update} → Up x → x.dot ≡ u.dot → ⊥
  unseen {x} i q = omega (arith, names x i, new, ap (λ d. counter_in seen d.actor) q, ap (λ d. d.counter) q)

  not_named : (x : Update) → Up x → counter_in (put_of x) u.dot.actor < u.dot.counter
  not_named x i = omega (arith, new, covers-means seen (put_of x) (known x i) u.dot.actor)

  added : (x : ℕ) (b : Bool) → eqb u.dot.actor x ≡ b → 0 < counter_in (add_dot c u.dot) x
      → (v : Update) × More v × Also v.dot × (v.dot.actor ≡ x) × (v.dot.counter ≡ counter_in (add_dot c u.dot) x)
  added x true t p =
      let same = eqb-true u.dot.actor x t in (
        u,
        inr refl,
        inr refl,
        same,
        omega (
          arith,
          rw t at (counter-add h u.dot x),
          covers-means seen c within x,
          new,
          ap (counter_in seen) same,
        ),
      )
  added x false t p =
      let q = rw t at (counter-add h u.dot x) in
      let r = a.reached x (omega (arith, p, q)) in
      (r.0, inl r.1, inl r.2, r.3, r.4 ∙ sym q)

  grows : (x : ℕ) → counter_in c x ≤ counter_in (add_dot c u.dot) x
  grows x = decide (eqb u.dot.actor x) (λ t. omega (arith, rw t at (counter-add h u.dot x)))
      (λ t. omega (arith, rw t at (counter-add h u.dot x)))

  own-added : Names (add_dot c u.dot) u
  own-added = omega (arith, rw (eq-eqb u.dot.actor u.dot.actor refl) at (counter-add h u.dot u.dot.actor))

  pub put-at : AtKey More Also (add_dot c u.dot) (put_values l u.put)
  put-at = record {
    above = λ x i s. ⊎_elim
        (λ j. ⊎_elim (λ t. omega (arith, a.above x j t, grows x.dot.actor)) (λ q. absurd (unseen j q)) s)
        (λ (q : x ≡ u). rw q own-added) i;
    reached = λ x p. added x (eqb u.dot.actor x) refl p;
    updates = those (past (put_of u)) a.updates ++ (u ∷ []);
    matched = match-put a.matched u f (omega (arith, new)) (λ x i. not_named x (a.stand x i).among) (λ x i. closed x (a.stand x i).among);
    once = once-snoc (once-those (past (put_of u)) a.once)
        (λ i. unseen (a.stand u (those-means (past (put_of u)) a.updates i).0).among refl);
    stand = λ x i. ⊎_elim
        (λ j. let r = those-means (past (put_of u)) a.updates j in old x (a.stand x r.0) r.1)
        (λ j. let same : x ≡ u = Memᴰ.eq_of_singleton j in rw same fresh)
        (Memᴰ.append_cases (those (past (put_of u)) a.updates) i);
    every = λ x s. ⊎_elim
        (λ j. ⊎_elim
        (λ t. Memᴰ.append_left (u ∷ []) (those-holds (past (put_of u)) (a.every x (before x j t s))
        (decide (past (put_of u) x) (λ q. q) (λ q. absurd (s.unnamed u (inr refl) (λ z. unseen j (ap (λ y. y.dot) (sym z)))
        (ltb-false (counter_in (put_of u) x.dot.actor) x.dot.counter q))))))
        (λ q. absurd (unseen j q)) s.spared)
        (λ (q : x ≡ u). Memᴰ.append_right (those (past (put_of u)) a.updates) (Memᴰ.head q)) s.among;
  }
    where
      -- what stood and is not named stands; the update itself stands
      old : (x : Update) → Standing Up Sp x → past (put_of u) x ≡ true → Standing More Also x
      old x s t = record {
        among = inl s.among;
        spared = inl s.spared;
        unnamed = λ y i n q. ⊎_elim (λ j. s.unnamed y j n q)
            (λ (z : y ≡ u). let w : Names (put_of u) x = rw z at q in
            omega (arith, w, ltb-true (counter_in (put_of u) x.dot.actor) x.dot.counter t)) i;
      }

      fresh : Standing More Also u
      fresh = record {
        among = inr refl;
        spared = inr refl;
        unnamed = λ y i n q. ⊎_elim (λ j. omega (arith, q, not_named y j)) (λ z. n z) i;
      }

      before : (x : Update) → Up x → Sp x.dot → Standing More Also x → Standing Up Sp x
      before x i t s = record { among = i; spared = t; unnamed = λ y j. s.unnamed y (inl j) }
