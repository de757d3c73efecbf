-- A run of dots: what a walk over it takes is the records of a clock, and it takes all records of a clock.
use mathlib.Core.Path.{◌≡◌, refl, ap₂, ◌∙◌}
use mathlib.Core.Bool.{Bool, true, false, ◌&&◌}
use mathlib.Core.Logic.{⊎_elim}
use mathlib.Core.List.Memᴰ
use mathlib.Core.List.{List, [], ◌∷◌, ◌++◌}
use Prim.Native.Nat.{ℕ, zero, suc, ◌+◌, ◌≤◌, ◌<◌}
use native.Mathlib.Omega.{arith}
use lib.Dec.{eqb, leb}
use lib.ListN.{length, drop}
use borrow.Author.Tests.{ltb-true, ltb-false, lt-ltb, le-ltb, leb-true, le-leb, eqb-true, eq-eqb}
use Rattle.listlaws.specs.Order.{◌∈◌, Ascending, nil, next, by}
use Rattle.listlaws.proofs.Orders.{tail-ascends, head-before}
use Rattle.listlaws.proofs.Firsts.{none-means, none-holds}
use Rattle.scan.proofs.Eachs.{decide, both, both_left, both_right}
use Rattle.clock.specs.declared.Dot.{Dot}
use Rattle.limits.specs.Limits.{dot_limit}
use Rattle.clock.specs.Dots.{counter_in, covers, beyond}
use Rattle.clock.specs.Lawful.{Lawful}
use Rattle.records.specs.declared.Record.{Record}
use Rattle.records.proofs.RoundTrips.{by-fields}
use Rattle.clockimage.specs.Image.{dot_of, dot_record, dot_records}
use Rattle.walks.specs.Walk.{dot_test, own_test, run_end}

module _ (kind index key : ℕ) (test : Record → Bool) where
  -- the dots that a walk takes
  pub record Run (low n i : ℕ) (l : List Record) : Type 0 where
    pub dots : List Dot
    pub count : run_end test low n i l ≡ i + length dots
    pub parts : l ≡ dot_records kind index key dots ++ drop (length dots) l
    pub few : length dots ≤ n
    pub rising : Ascending (by (λ d. d.actor)) dots
    pub from : (d : Dot) → d ∈ dots → low ≤ d.actor
    pub passes : (d : Dot) → d ∈ dots → test (dot_record kind index key d) ≡ true

  none : (low n i : ℕ) (l : List Record) → run_end test low n i l ≡ i → Run low n i l
  none low n i l e = record {
    dots = [];
    count = e ∙ omega arith;
    parts = refl;
    few = omega arith;
    rising = nil;
    from = λ d j. absurd (Memᴰ.not-nil j);
    passes = λ d j. absurd (Memᴰ.not-nil j);
  }

  module _ (header : (r : Record) → test r ≡ true → r ≡ dot_record kind index key (dot_of r)) where
    one_more : (low n i : ℕ) (r : Record) (l : List Record) → test r && leb low r.actor ≡ true → Run (r.actor + 1) n (i + 1) l
        → Run low (suc n) i (r ∷ l)
    unfolding run_end
    one_more low n i r l t w =
        let p = both_left (test r) (leb low r.actor) t in
        let q = leb-true low r.actor (both_right (test r) (leb low r.actor) t) in
        record {
          dots = dot_of r ∷ w.dots;
          count = rw t (w.count ∙ omega arith);
          parts = ap₂ ◌∷◌ (header r p) w.parts;
          few = let k = w.few in omega arith;
          rising = next (λ d j. lt-ltb r.actor d.actor (let k = w.from d j in omega arith)) w.rising;
          from = λ d j. ⊎_elim (λ (e : d ≡ dot_of r). rw e q) (λ m. let k = w.from d m in omega arith) (Memᴰ.cases_cons j);
          passes = λ d j. ⊎_elim (λ (e : d ≡ dot_of r). rw (e, ← header r p) p) (λ m. w.passes d m) (Memᴰ.cases_cons j);
        }

    pub run-means : (low n i : ℕ) (l : List Record) → Run low n i l
    unfolding run_end
    run-means low n i [] = none low n i [] refl
    run-means low zero i (r ∷ l) = none low zero i (r ∷ l) refl
    run-means low (suc n) i (r ∷ l) =
        decide (test r && leb low r.actor) (λ t. one_more low n i r l t (run-means (r.actor + 1) n (i + 1) l))
        (λ f. none low (suc n) i (r ∷ l) (rw f))

  -- where what follows is no part of the run, the walk takes the run and no more
  pub run-counts : (low n i : ℕ) (ds : List Dot) (rest : List Record) → Ascending (by (λ d. d.actor)) ds → ((d : Dot) → d ∈ ds → low ≤ d.actor)
      → ((d : Dot) → d ∈ ds → test (dot_record kind index key d) ≡ true)
      → length ds ≤ n → ((r : Record) → r ∈ rest → test r ≡ false) → run_end test low n i (dot_records kind index key ds ++ rest) ≡ i + length ds
  unfolding run_end
  run-counts low n i [] [] a f g h s = omega arith
  run-counts low zero i [] (r ∷ rest) a f g h s = omega arith
  run-counts low (suc n) i [] (r ∷ rest) a f g h s = rw (s r (Memᴰ.head refl)) (omega arith)
  run-counts low zero i (d ∷ ds) rest a f g h s = absurd (omega arith)
  run-counts low (suc n) i (d ∷ ds) rest a f g h s =
      rw (g d (Memᴰ.head refl), le-leb low d.actor (f d (Memᴰ.head refl)))
      (run-counts (d.actor + 1) n (i + 1) ds rest (tail-ascends a) (λ x j. let k = ltb-true d.actor x.actor (head-before a x j) in omega arith)
      (λ x j. g x (Memᴰ.tail j)) (omega arith) s
      ∙ omega arith)

-- what passes
pub record DotFields (kind index key : ℕ) (r : Record) : Type 0 where
  pub kind-is : r.kind ≡ kind
  pub index_is : r.index ≡ index
  pub key-is : r.key ≡ key
  pub positive : 0 < r.number

module _ (kind index key : ℕ) where
  pub dot-means : (r : Record) → dot_test kind index key r ≡ true → DotFields kind index key r
  unfolding dot_test
  dot-means r t =
      let u = both_right (eqb r.kind kind) _ t in
      let v = both_right (eqb r.index index) _ u in
      record {
        kind-is = eqb-true _ _ (both_left (eqb r.kind kind) _ t);
        index_is = eqb-true _ _ (both_left (eqb r.index index) _ u);
        key-is = eqb-true _ _ (both_left (eqb r.key key) _ v);
        positive = ltb-true 0 r.number (both_right (eqb r.key key) _ v);
      }

  pub dot_holds : (d : Dot) → 0 < d.counter → dot_test kind index key (dot_record kind index key d) ≡ true
  unfolding dot_test
  dot_holds d p = rw (eq-eqb kind kind refl, eq-eqb index index refl, eq-eqb key key refl, lt-ltb 0 d.counter p)

  pub dot-header : (r : Record) → dot_test kind index key r ≡ true → r ≡ dot_record kind index key (dot_of r)
  dot-header r t = let m = dot-means r t in by-fields m.kind-is m.index_is refl m.key-is refl

  pub dot-not : (r : Record) → (DotFields kind index key r → ⊥) → dot_test kind index key r ≡ false
  dot-not r n = decide (dot_test kind index key r) (λ t. absurd (n (dot-means r t))) (λ f. f)

  -- a run of dots
  abbrev pub DotRun : List Record → Type 0
  DotRun l = Run kind index key (dot_test kind index key) 0 dot_limit 0 l

  pub run-dots : (l : List Record) → DotRun l
  run-dots l = run-means kind index key (dot_test kind index key) dot-header 0 dot_limit 0 l

  pub run-lawful : {l : List Record} (w : DotRun l) → Lawful w.dots
  run-lawful w = record { rising = w.rising; positive = λ d i. (dot-means (dot_record kind index key d) (w.passes d i)).positive }

  pub run_of : (ds : List Dot) (rest : List Record) → Lawful ds → length ds ≤ dot_limit → ((r : Record) → r ∈ rest → DotFields kind index key r → ⊥)
      → run_end (dot_test kind index key) 0 dot_limit 0 (dot_records kind index key ds ++ rest) ≡ length ds
  run_of ds rest h n s =
      run-counts kind index key (dot_test kind index key) 0 dot_limit 0 ds rest h.rising (λ d i. omega arith)
      (λ d i. dot_holds d (h.positive d i)) n (λ r i. dot-not r (s r i)) ∙ omega arith

-- the dots of an entry, which the map clock covers
module _ (c : List Dot) (key : ℕ) where
  own-covered : (r : Record) → own_test c key r ≡ true → r.number ≤ counter_in c r.actor
  unfolding own_test
  own-covered r t = leb-true r.number (counter_in c r.actor) (both_right (dot_test 2 0 key r) _ t)

  own-dot : (r : Record) → own_test c key r ≡ true → dot_test 2 0 key r ≡ true
  unfolding own_test
  own-dot r t = both_left (dot_test 2 0 key r) _ t

  own-holds : (d : Dot) → 0 < d.counter → d.counter ≤ counter_in c d.actor → own_test c key (dot_record 2 0 key d) ≡ true
  unfolding own_test
  own-holds d p q = both (dot_test 2 0 key (dot_record 2 0 key d)) _ (dot_holds 2 0 key d p) (le-leb d.counter (counter_in c d.actor) q)

  abbrev pub OwnRun : List Record → Type 0
  OwnRun l = Run 2 0 key (own_test c key) 0 dot_limit 0 l

  pub run-own : (l : List Record) → OwnRun l
  run-own l = run-means 2 0 key (own_test c key) (λ r t. dot-header 2 0 key r (own-dot r t)) 0 dot_limit 0 l

  pub own-lawful : {l : List Record} (w : OwnRun l) → Lawful w.dots
  own-lawful w = record { rising = w.rising; positive = λ d i. (dot-means 2 0 key (dot_record 2 0 key d) (own-dot _ (w.passes d i))).positive }

  pub own-covers : {l : List Record} (w : OwnRun l) → covers c w.dots ≡ true
  unfolding covers
  own-covers w = none-holds (beyond c) w.dots (λ d i. le-ltb (counter_in c d.actor) d.counter
      (own-covered (dot_record 2 0 key d) (w.passes d i)))

  pub own_of : (ds : List Dot) (rest : List Record) → Lawful ds → covers c ds ≡ true → length ds ≤ dot_limit
      → ((r : Record) → r ∈ rest → r.key ≡ key → ⊥) → run_end (own_test c key) 0 dot_limit 0 (dot_records 2 0 key ds ++ rest) ≡ length ds
  unfolding covers
  own_of ds rest h v n s =
      run-counts 2 0 key (own_test c key) 0 dot_limit 0 ds rest h.rising (λ d i. omega arith)
      (λ d i. own-holds d (h.positive d i) (ltb-false (counter_in c d.actor) d.counter (none-means (beyond c) ds v d i))) n
      (λ r i. decide (own_test c key r) (λ t. absurd (s r i (dot-means 2 0 key r (own-dot r t)).key-is)) (λ f. f)) ∙ omega arith
