-- What the guard's answers mean.
use mathlib.Core.Path.{◌≡◌, refl, ap, sym}
use mathlib.Core.Bool.{Bool, true, false, cond}
use mathlib.Core.Logic.{◌⊎◌, inl, inr, ⊎_elim}
use mathlib.Core.List.{List, []}
use Prim.Native.Nat.{ℕ, ◌+◌, ◌-◌, ◌*◌, ◌^◌, ◌≤◌, ◌<◌}
use native.Mathlib.Omega.{arith}
use borrow.Author.Tests.{eqb-true, eqb-false, eq-eqb, ne_eqb, leb-true, leb-false, lt-leb, ltb-false, le-ltb}
use lib.Dec.{eqb, leb, ltb}
use Rattle.listlaws.specs.First.{first_in}
use Rattle.listlaws.specs.Order.{◌∈◌}
use Rattle.listlaws.proofs.Firsts.{first-cases, first-none}
use Rattle.clock.specs.declared.Dot.{Dot}
use Rattle.clock.specs.Dots.{counter_in, covers, add_dot}
use Rattle.clock.specs.Lawful.{Lawful}
use Rattle.clock.proofs.Counters.{dot_in, counter_holds, counter-member}
use Rattle.clock.proofs.Covers.{covers-holds}
use Rattle.clock.proofs.Joins.{counter-add}
use Rattle.entries.specs.declared.Update.{Update}
use Rattle.scan.proofs.Eachs.{decide}
use Rattle.readiness.specs.declared.Readiness.{Readiness}
use Rattle.readiness.specs.declared.Readiness.TheVariants.{Next, Foreign, Seen, Hold}
use Rattle.map.specs.declared.Map.{Map}
use Rattle.map.specs.declared.Op.{Op}
use Rattle.readiness.specs.Ready.{put_of, needed, lacks, first_lacking, ready_under, ready, ready_number}
use Rattle.alikelaws.specs.Honest.{Names}
use Rattle.answers.specs.Answer.{first_of, number_of, word_of}
use Rattle.promises.specs.Calls.{bare_answer}
use Rattle.alikelaws.specs.Agreement.{LetsThrough}

-- "Causal: an update is applied only when the map clock covers its put clock but for its own dot, which is the actor's next."
pub record Causal (m : List Dot) (u : Update) : Type 0 where
  pub own : counter_in (put_of u) u.dot.actor ≡ u.dot.counter
  pub new : u.dot.counter ≡ counter_in m u.dot.actor + 1
  pub others : (b : ℕ) → (b ≡ u.dot.actor → ⊥) → counter_in (put_of u) b ≤ counter_in m b

abbrev rest : List Dot → Update → Readiness
rest m u = first_in (lacks m u.dot) (λ d. Hold d.actor (counter_in m d.actor + 1)) Next (put_of u)

none-lacks : (m : List Dot) (u : Update) → rest m u ≡ Next → (d : Dot) → d ∈ put_of u → lacks m u.dot d ≡ false
none-lacks m u e =
    ⊎_elim (λ h. let z : ◌≡◌ {A = ℕ} 0 1 = cc (h.given, e) in absurd (omega arith)) (λ f. f)
    (first-cases (lacks m u.dot) (λ d. Hold d.actor (counter_in m d.actor + 1)) Next (put_of u))

pub next-means : (m : List Dot) (u : Update) → ready_under m u ≡ Next → 0 < u.dot.counter → Causal m u
unfolding ready_under first_lacking
next-means m u e pos =
    go (eqb (counter_in (put_of u) u.dot.actor) u.dot.counter) (leb u.dot.counter (counter_in m u.dot.actor)) refl refl e
  where
    at : rest m u ≡ Next → (b : ℕ) → 0 < counter_in (put_of u) b → needed u.dot (dot_in (put_of u) b) ≤ counter_in m b
    at q b p = ltb-false (counter_in m b) (needed u.dot (dot_in (put_of u) b)) (none-lacks m u q (dot_in (put_of u) b) (counter_holds (put_of u) b p))

    go : (b c : Bool) → eqb (counter_in (put_of u) u.dot.actor) u.dot.counter ≡ b → leb u.dot.counter (counter_in m u.dot.actor) ≡ c
        → cond b (cond c Seen (rest m u)) Foreign ≡ Next → Causal m u
    go false c s t q = let z : ◌≡◌ {A = ℕ} 0 1 = cc q in absurd (omega arith)
    go true true s t q = let z : ◌≡◌ {A = ℕ} 0 1 = cc q in absurd (omega arith)
    go true false s t q =
        let same = eqb-true (counter_in (put_of u) u.dot.actor) u.dot.counter s in
        record {
          own = same;
          new = omega (
            arith,
            leb-false u.dot.counter (counter_in m u.dot.actor) t,
            rw (eq-eqb u.dot.actor u.dot.actor refl) at (at q u.dot.actor (omega arith)),
          );
          others = λ b n. decide (leb (counter_in (put_of u) b) 0) (λ z. omega (arith, leb-true (counter_in (put_of u) b) 0 z))
              (λ z. rw (ne_eqb b u.dot.actor n) at (at q b (leb-false (counter_in (put_of u) b) 0 z)));
        }

-- and the other way, an end theorem: what is causal is next
pub causal-next : {m : List Dot} {u : Update} → Causal m u → Lawful (put_of u) → ready_under m u ≡ Next
unfolding ready_under first_lacking
causal-next {m} {u} c h =
    rw (
      eq-eqb (counter_in (put_of u) u.dot.actor) u.dot.counter c.own,
      lt-leb u.dot.counter (counter_in m u.dot.actor) (omega (arith, c.new)),
    )
    (first-none (lacks m u.dot) (λ d. Hold d.actor (counter_in m d.actor + 1)) Next (put_of u)
    (λ d i. enough d i (eqb d.actor u.dot.actor) refl))
  where
    enough : (d : Dot) → d ∈ put_of u → (b : Bool) → eqb d.actor u.dot.actor ≡ b
        → ltb (counter_in m d.actor) (cond b (u.dot.counter - 1) d.counter) ≡ false
    enough d i true t =
        le-ltb (counter_in m d.actor) (u.dot.counter - 1)
        (omega (arith, c.new, ap (counter_in m) (eqb-true d.actor u.dot.actor t)))
    enough d i false t =
        le-ltb (counter_in m d.actor) d.counter
        (omega (arith, counter-member h i, c.others d.actor (eqb-false d.actor u.dot.actor t)))

pub seen-means : (m : List Dot) (u : Update) → ready_under m u ≡ Seen
    → (counter_in (put_of u) u.dot.actor ≡ u.dot.counter) × (u.dot.counter ≤ counter_in m u.dot.actor)
unfolding ready_under first_lacking
seen-means m u e = go (eqb (counter_in (put_of u) u.dot.actor) u.dot.counter) (leb u.dot.counter (counter_in m u.dot.actor)) refl refl e
  where
    go : (b c : Bool) → eqb (counter_in (put_of u) u.dot.actor) u.dot.counter ≡ b → leb u.dot.counter (counter_in m u.dot.actor) ≡ c
        → cond b (cond c Seen (rest m u)) Foreign ≡ Seen
        → (counter_in (put_of u) u.dot.actor ≡ u.dot.counter) × (u.dot.counter ≤ counter_in m u.dot.actor)
    go false c s t q = let z : ◌≡◌ {A = ℕ} 0 1 = cc q in absurd (omega arith)
    go true true s t q = (eqb-true _ _ s, leb-true _ _ t)
    go true false s t q =
        ⊎_elim (λ h. let z : ◌≡◌ {A = ℕ} 0 1 = cc (h.given, q) in absurd (omega arith))
        (λ f. let r = first-none (lacks m u.dot) (λ d. Hold d.actor (counter_in m d.actor + 1)) Next (put_of u) f in
        let z : ◌≡◌ {A = ℕ} 0 1 = cc (r, q) in absurd (omega arith))
        (first-cases (lacks m u.dot) (λ d. Hold d.actor (counter_in m d.actor + 1)) Next (put_of u))

-- the map clock with the dot covers the put clock
pub causal-covers : {m : List Dot} {u : Update} → Causal m u → Lawful m → Lawful (put_of u) → covers (add_dot m u.dot) (put_of u) ≡ true
causal-covers {m} {u} c h k = covers-holds (add_dot m u.dot) (λ x. go x (eqb u.dot.actor x) refl) k
  where
    go : (x : ℕ) (b : Bool) → eqb u.dot.actor x ≡ b → counter_in (put_of u) x ≤ counter_in (add_dot m u.dot) x
    go x true t = let same = eqb-true u.dot.actor x t in
        omega (arith, rw t at (counter-add h u.dot x), c.own, ap (counter_in (put_of u)) same)
    go x false t = omega (arith, rw t at (counter-add h u.dot x), c.others x (λ q. eqb-false u.dot.actor x t (sym q)))

-- the words that let an operation through: both images pass, and it is next or was seen
pub let_through : {first second word : ℕ} (g : Readiness) → first ≡ 0 → second ≡ 0 → word ≡ word_of (bare_answer first second (ready_number g)) []
    → LetsThrough word → (g ≡ Next) ⊎ (g ≡ Seen)
unfolding word_of number_of first_of
let_through {word = word} g p q e t = go g (rw (p, q) at e)
  where
    go : (r : Readiness) → word ≡ word_of (bare_answer 0 0 (ready_number r)) [] → (r ≡ Next) ⊎ (r ≡ Seen)
    go Next w = inl refl
    go Seen w = inr refl
    go Foreign w = absurd (⊎_elim (λ (z : word ≡ 0). omega (arith, z, w)) (λ (z : word ≡ 20 * 2 ^ 32). omega (arith, z, w)) t)
    go (Hold actor counter) w = absurd (⊎_elim (λ (z : word ≡ 0). omega (arith, z, w)) (λ (z : word ≡ 20 * 2 ^ 32). omega (arith, z, w)) t)

-- an update that is not foreign has its own dot in its put clock
pub not-foreign : (m : Map) (o : Op) → o.up ≡ true → (ready m o ≡ Foreign → ⊥) → Names (put_of o.update) o.update
unfolding ready ready_under
not-foreign m o up n =
    let own = o.update.dot in
    decide (eqb (counter_in (put_of o.update) own.actor) own.counter)
    (λ t. omega (arith, eqb-true (counter_in (put_of o.update) own.actor) own.counter t)) (λ f. absurd (n (rw (up, f))))

pub foreign-word : {first second : ℕ} {g : Readiness} → first ≡ 0 → second ≡ 0 → g ≡ Foreign
    → word_of (bare_answer first second (ready_number g)) [] ≡ 19 * 2 ^ 32
unfolding word_of number_of first_of
foreign-word p q e = rw (p, q, e)
