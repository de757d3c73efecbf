-- Values matched with updates, place by place: a cut and a put keep them so.
use mathlib.Core.Path.{◌≡◌, refl, ap, sym, ◌∙◌}
use mathlib.Core.Bool.{Bool, true, false, not, cond}
use mathlib.Core.Logic.{⊎_elim}
use mathlib.Core.List.Memᴰ
use mathlib.Core.List.{List, [], ◌∷◌, ◌++◌}
use Prim.Native.Nat.{◌<◌}
use native.Mathlib.Omega.{arith}
use borrow.Author.Tests.{ltb-true, ltb-false, lt-ltb}
use Rattle.listlaws.specs.First.{first_in}
use Rattle.listlaws.specs.Sift.{sift, those}
use Rattle.listlaws.specs.Order.{◌∈◌}
use Rattle.listlaws.proofs.Orders.{apart}
use Rattle.listlaws.proofs.Those.{those-means}
use Rattle.listlaws.proofs.Somes.{false-some}
use Rattle.clock.specs.declared.Dot.{Dot}
use Rattle.clock.specs.Dots.{dots_of, is_empty, counter_in, beyond, covers, outcome, order_of, cut_dots}
use Rattle.clock.proofs.Cuts.{counter-cut}
use Rattle.clock.proofs.Empties.{counter-some}
use Rattle.clock.proofs.Covers.{covers-means, covers-trans, covers-cut, empty-covered}
use Rattle.register.specs.declared.Value.{Value}
use Rattle.register.specs.Values.{alive, cut_value, cut_values, yielding, yields, outdone, standing, remaining, put_values}
use Rattle.register.proofs.Cuts.{dots-cut}
use Rattle.entries.specs.declared.Update.{Update}
use Rattle.entries.proofs.Cuts.{valid-cut-value}
use Rattle.scan.proofs.Eachs.{decide}
use Rattle.readiness.specs.Ready.{put_of}
use Rattle.alikelaws.specs.Honest.{Names}
use Rattle.alikelaws.specs.Picture.{ValueOf, Matched, nil, next}

-- the update of a value
pub matched-source : {us : List Update} {vs : List Value} → Matched us vs → {v : Value} → v ∈ vs → (u : Update) × (u ∈ us) × ValueOf u v
matched-source nil i = absurd (Memᴰ.not-nil i)
matched-source (next {u = u} {v = w} f m) {v} i =
    ⊎_elim (λ (e : v ≡ w). (u, Memᴰ.head refl, rw e f)) (λ j. let r = matched-source m j in (r.0, Memᴰ.tail r.1, r.2))
    (Memᴰ.cases_cons i)

match-append : {us xs : List Update} {vs ys : List Value} → Matched us vs → Matched xs ys → Matched (us ++ xs) (vs ++ ys)
match-append nil m = m
match-append (next f l) m = next f (match-append l m)

-- what a sift keeps on both sides
match-sift : (p : Update → Bool) (keep : Value → Bool) (change : Value → Value) {us : List Update} {vs : List Value} → Matched us vs
    → ((u : Update) (v : Value) → u ∈ us → ValueOf u v → keep (change v) ≡ p u)
    → ((u : Update) (v : Value) → u ∈ us → ValueOf u v → p u ≡ true → ValueOf u (change v)) → Matched (those p us) (sift keep change vs)
unfolding sift
match-sift p keep change nil f g = nil
match-sift p keep change (next {u = u} {v = v} {us = us} {vs = vs} q m) f g =
    go (keep (change v)) (p u) (f u v (Memᴰ.head refl) q) (g u v (Memᴰ.head refl) q)
    (match-sift p keep change m (λ x y i. f x y (Memᴰ.tail i)) (λ x y i. g x y (Memᴰ.tail i)))
  where
    go : (b c : Bool) → b ≡ c → (c ≡ true → ValueOf u (change v)) → Matched (those p us) (sift keep change vs)
        → Matched (cond c (u ∷ those p us) (those p us)) (cond b (change v ∷ sift keep change vs) (sift keep change vs))
    go true true e h r = next (h refl) r
    go true false e h r = apart e
    go false true e h r = apart (sym e)
    go false false e h r = r

-- updates beyond a clock
abbrev pub past : List Dot → Update → Bool
past c u = beyond c u.dot

module _ (c : List Dot) {us : List Update} {l : List Value} (m : Matched us l) where
  -- a cut by a clock that is closed among the updates: a value goes whole, or keeps its own dot
  pub match-cut : ((u : Update) → u ∈ us → Names c u → covers c (put_of u) ≡ true) → Matched (those (past c) us) (cut_values c l)
  unfolding cut_values
  match-cut closed = match-sift (past c) alive (cut_value c) m
      (λ u v i f. decide (past c u) (λ t. kept u v f t ∙ sym t) (λ t. lost u v i f t ∙ sym t))
      (λ u v i f t. record {
        valid = valid-cut-value c v f.valid (some u v f t);
        content = f.content;
        within = rw (dots-cut c v) (covers-trans (put_of u) (dots_of v.clock) (cut_dots c (dots_of v.clock)) f.within
            (covers-cut c f.valid.clock));
        own = rw (dots-cut c v) (same u v f t);
      })
    where
      same : (u : Update) (v : Value) → ValueOf u v → past c u ≡ true → counter_in (cut_dots c (dots_of v.clock)) u.dot.actor ≡ u.dot.counter
      same u v f t =
          let q = counter-cut c f.valid.clock u.dot.actor in
          let less = ltb-true (counter_in c u.dot.actor) u.dot.counter t in
          (rw (lt-ltb (counter_in c u.dot.actor) (counter_in (dots_of v.clock) u.dot.actor) (omega (arith, f.own))) at q) ∙ f.own

      some : (u : Update) (v : Value) → ValueOf u v → past c u ≡ true → is_empty (cut_dots c (dots_of v.clock)) ≡ false
      some u v f t = counter-some (cut_dots c (dots_of v.clock)) u.dot.actor
          (omega (arith, same u v f t, ltb-true (counter_in c u.dot.actor) u.dot.counter t))

      kept : (u : Update) (v : Value) → ValueOf u v → past c u ≡ true → alive (cut_value c v) ≡ true
      kept u v f t = ap not (ap is_empty (dots-cut c v) ∙ some u v f t)

      lost : (u : Update) (v : Value) → u ∈ us → ValueOf u v → past c u ≡ false → alive (cut_value c v) ≡ false
      lost u v i f t =
          ap not (ap is_empty (dots-cut c v) ∙ empty-covered c (dots_of v.clock)
          ∙ covers-trans c (put_of u) (dots_of v.clock) (closed u i (ltb-false (counter_in c u.dot.actor) u.dot.counter t)) f.within)

-- a clock beside one that it does not cover
yields-true : (v w : Value) → covers (dots_of v.clock) (dots_of w.clock) ≡ false
    → yields true v w ≡ covers (dots_of w.clock) (dots_of v.clock)
unfolding yields order_of
yields-true v w t = rw t (go (covers (dots_of w.clock) (dots_of v.clock)))
  where
    go : (b : Bool) → yielding true (outcome false b) ≡ b
    go true = refl
    go false = refl

pub yields-false : (v w : Value) → covers (dots_of w.clock) (dots_of v.clock) ≡ false → yields false v w ≡ false
unfolding yields order_of
yields-false v w t = rw t (go (covers (dots_of v.clock) (dots_of w.clock)))
  where
    go : (b : Bool) → yielding false (outcome b false) ≡ false
    go true = refl
    go false = refl

module _ {us : List Update} {l : List Value} (m : Matched us l) (u : Update) where
  -- a put that no standing value's source names, and whose clock is closed among them
  pub match-put : ValueOf u u.put → 0 < u.dot.counter → ((x : Update) → x ∈ us → counter_in (put_of x) u.dot.actor < u.dot.counter)
      → ((x : Update) → x ∈ us → Names (put_of u) x → covers (put_of u) (put_of x) ≡ true)
      → Matched (those (past (put_of u)) us ++ (u ∷ [])) (put_values l u.put)
  unfolding put_values remaining outdone first_in
  match-put f pos apartness closed =
      rw (counter-some (put_of u) u.dot.actor (omega (arith, f.own)), none)
      (match-append (match-sift (past (put_of u)) (standing true (u.put ∷ [])) (λ v. v) m (λ x v i g. test x v i g) (λ x v i g t. g)) (next f nil))
    where
      -- no standing clock covers the put's
      below : (x : Update) (v : Value) → x ∈ us → ValueOf x v → covers (dots_of v.clock) (put_of u) ≡ false
      below x v i g = decide (covers (dots_of v.clock) (put_of u))
          (λ t. absurd (omega (
            arith,
            apartness x i,
            covers-means (dots_of v.clock) (put_of u) t u.dot.actor,
            covers-means (put_of x) (dots_of v.clock) g.within u.dot.actor,
            f.own,
          ))) (λ t. t)

      -- the put's clock covers a standing one exactly when it names its update
      named : (x : Update) (v : Value) → x ∈ us → ValueOf x v → (b : Bool) → past (put_of u) x ≡ b → covers (put_of u) (dots_of v.clock) ≡ not b
      named x v i g true t = decide (covers (put_of u) (dots_of v.clock))
          (λ s. absurd (omega (
            arith,
            ltb-true (counter_in (put_of u) x.dot.actor) x.dot.counter t,
            covers-means (put_of u) (dots_of v.clock) s x.dot.actor,
            g.own,
          ))) (λ s. s)
      named x v i g false t =
          covers-trans (put_of u) (put_of x) (dots_of v.clock)
          (closed x i (ltb-false (counter_in (put_of u) x.dot.actor) x.dot.counter t)) g.within

      flip : (b : Bool) → not (cond (not b) true false) ≡ b
      flip true = refl
      flip false = refl

      test : (x : Update) (v : Value) → x ∈ us → ValueOf x v → not (cond (yields true v u.put) true false) ≡ past (put_of u) x
      test x v i g =
          ap (λ b. not (cond b true false)) (yields-true v u.put (below x v i g) ∙ named x v i g (past (put_of u) x) refl)
          ∙ flip (past (put_of u) x)

      none : first_in (yields false u.put) (λ v. true) false (those (standing true (u.put ∷ [])) l) ≡ false
      none = false-some (yields false u.put) (those (standing true (u.put ∷ [])) l) (λ v i.
          let r = matched-source m (those-means (standing true (u.put ∷ [])) l i).0 in
          yields-false u.put v (below r.0 v r.1 r.2))
