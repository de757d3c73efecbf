-- The values of a key with their dots: what the walk takes is the records of values, and it takes all of a key's values.
use mathlib.Core.Path.{◌≡◌, refl, ap, ap₂, sym, ◌∙◌}
use mathlib.Core.Bool.{true, false, cond}
use mathlib.Core.Logic.{⊎_elim}
use mathlib.Core.List.Memᴰ
use mathlib.Core.List.{List, [], ◌∷◌, ◌++◌, append_assoc}
use Prim.Native.Nat.{ℕ, zero, suc, ◌+◌, ◌≤◌}
use native.Mathlib.Omega.{arith}
use lib.Dec.{eqb}
use lib.ListN.{length, drop, length-append, length-map}
use lib.Seq.{drop_at, drop-drop}
use borrow.Author.Tests.{eqb-true, eq-eqb}
use Rattle.listlaws.specs.Order.{◌∈◌}
use Rattle.listlaws.proofs.Orders.{apart}
use Rattle.scan.proofs.Eachs.{decide, both_left, both_right}
use Rattle.limits.specs.Limits.{dot_limit}
use Rattle.clock.specs.Dots.{dots_of, clock_of, is_empty}
use Rattle.clock.proofs.Packs.{dots-of}
use Rattle.register.specs.declared.Value.{Value}
use Rattle.entries.specs.Valid.{ValidValue}
use Rattle.records.specs.declared.Record.{Record}
use Rattle.records.proofs.RoundTrips.{by-fields}
use Rattle.clockimage.specs.Image.{dot_record, dot_records, content_of}
use Rattle.mapimage.specs.MapImage.{flat_from, value_record, value_records}
use Rattle.oneimagelaws.proofs.Stands.{flat-means-from}
use Rattle.walks.specs.declared.Passed.{Passed}
use Rattle.walks.specs.Walk.{dot_test, value_test, run_end, values_end}
use Rattle.layout.proofs.Runs.{DotRun, run-dots, run-lawful, run_of}

-- a list in two parts and a rest
pub two-parts : {A : Type 0} (l p q : List A) (m k : ℕ) → l ≡ p ++ drop m l → drop m l ≡ q ++ drop k (drop m l) → length p ≡ m → length q ≡ k
    → l ≡ (p ++ q) ++ drop (length (p ++ q)) l
two-parts l p q m k e f g h =
    let n : m + k ≡ length (p ++ q) = omega (arith, length-append p q) in
    e ∙ ap (λ y. p ++ y) (f ∙ ap (λ y. q ++ y) (drop-drop k m l ∙ ap (λ z. drop z l) n)) ∙ sym (append_assoc p q (drop (length (p ++ q)) l))

-- a value within the limits
pub record ValueFits (v : Value) : Type 0 where
  pub valid : ValidValue v
  pub few : length (dots_of v.clock) ≤ dot_limit

module _ (key : ℕ) where
  abbrev pub threes : ℕ → List Value → List Record
  threes i vs = flat_from (value_records 3 key) i vs

  abbrev pub fours : ℕ → List Value → List Record
  fours i vs = flat_from (value_records 4 key) i vs

  -- the values that a walk takes
  pub record Taken (n i p : ℕ) (b d : List Record) (w : Passed) : Type 0 where
    pub values : List Value
    pub many : w.values ≡ i + length values
    pub dots : w.dots ≡ p + length (fours i values)
    pub first : b ≡ threes i values ++ drop (length values) b
    pub second : d ≡ fours i values ++ drop (length (fours i values)) d
    pub few : length values ≤ n
    pub each : (v : Value) → v ∈ values → ValueFits v

  none : (n i p : ℕ) (b d : List Record) (w : Passed) → w ≡ record { good = true; values = i; dots = p } → Taken n i p b d w
  unfolding flat_from
  none n i p b d w e = record {
    values = [];
    many = ap (λ x. x.values) e ∙ omega arith;
    dots = ap (λ x. x.dots) e ∙ omega arith;
    first = refl;
    second = refl;
    few = omega arith;
    each = λ v j. absurd (Memᴰ.not-nil j);
  }

  value-header : (i : ℕ) (r : Record) (v : Value) → value_test key i r ≡ true → v.value ≡ content_of r → r ≡ value_record key i v
  unfolding value_test
  value-header i r v t e =
      let u = both_right (eqb r.kind 3) _ t in
      by-fields (eqb-true _ _ (both_left (eqb r.kind 3) _ t)) (eqb-true _ _ (both_left (eqb r.index i) _ u))
      (sym (ap (λ x. x.origin) e)) (eqb-true _ _ (both_right (eqb r.index i) _ u)) (sym (ap (λ x. x.number) e))

  -- one value and its dots, and those behind them
  one_more : (n i p : ℕ) (r : Record) (b d : List Record) (x : DotRun 4 i key d) (q : ℕ) → q ≡ length x.dots → value_test key i r ≡ true
      → eqb q 0 ≡ false → (w : Passed)
      → Taken n (i + 1) (p + q) b (drop q d) w → Taken (suc n) i p (r ∷ b) d w
  unfolding flat_from is_empty
  one_more n i p r b d x q y t z w k =
      let v : Value = record { clock = clock_of x.dots; value = content_of r } in
      let e : dots_of v.clock ≡ x.dots = dots-of x.dots refl in
      let m = length-map x.dots (dot_record 4 i key) in
      let a = length-append (dot_records 4 i key x.dots) (fours (i + 1) k.values) in
      record {
        values = v ∷ k.values;
        many = k.many ∙ omega arith;
        dots = k.dots ∙ rw e (omega arith);
        first = ap₂ ◌∷◌ (value-header i r v t refl) k.first;
        second = rw e (two-parts d (dot_records 4 i key x.dots) (fours (i + 1) k.values) q (length (fours (i + 1) k.values))
            (rw (← y) at x.parts) k.second (m ∙ sym y) refl);
        few = let q = k.few in omega arith;
        each = λ u j. ⊎_elim (λ (q : u ≡ v). rw q
            (record { valid = record { laid = rw e; clock = rw e (run-lawful 4 i key x); some = rw e (rw y at z) }; few = rw e x.few }))
            (λ q. k.each u q) (Memᴰ.cases_cons j);
      }

  values-step : (n i p : ℕ) (r : Record) (b d : List Record) (x : DotRun 4 i key d) (q : ℕ) → q ≡ length x.dots
      → ((values_end key n (i + 1) (p + q) b (drop q d)).good ≡ true → Taken n (i + 1) (p + q) b (drop q d)
      (values_end key n (i + 1) (p + q) b (drop q d)))
      → (cond (value_test key i r) (cond (eqb q 0) (record { good = false; values = i; dots = p }) (values_end key n (i + 1) (p + q) b (drop q d)))
      (record { good = true; values = i; dots = p })).good ≡ true
      → Taken (suc n) i p (r ∷ b) d (cond (value_test key i r) (cond (eqb q 0) (record { good = false; values = i; dots = p })
      (values_end key n (i + 1) (p + q) b (drop q d))) (record { good = true; values = i; dots = p }))
  values-step n i p r b d x q e more g =
      decide (value_test key i r)
      (λ t. decide (eqb q 0) (λ z. apart (sym (rw (t, z) at g))) (λ z. rw (t, z) (one_more n i p r b d x q e t z _ (more (rw (t, z) at g)))))
      (λ f. rw f (none (suc n) i p (r ∷ b) d _ refl))

  pub values-mean : (n i p : ℕ) (b d : List Record) → (values_end key n i p b d).good ≡ true → Taken n i p b d (values_end key n i p b d)
  unfolding values_end
  values-mean n i p [] d g = none n i p [] d _ refl
  values-mean zero i p (r ∷ b) d g = none zero i p (r ∷ b) d _ refl
  values-mean (suc n) i p (r ∷ b) d g = values-step n i p r b d (run-dots 4 i key d) _ ((run-dots 4 i key d).count ∙ omega arith)
      (values-mean n (i + 1) _ b _) g

  -- a record behind a key's values has another key
  value_not : (i : ℕ) (r : Record) → (r.key ≡ key → ⊥) → value_test key i r ≡ false
  unfolding value_test
  value_not i r n =
      decide (value_test key i r) (λ t. absurd (n (eqb-true r.key key (both_right (eqb r.index i) _ (both_right (eqb r.kind 3) _ t)))))
      (λ f. f)

  value-holds : (i : ℕ) (v : Value) → value_test key i (value_record key i v) ≡ true
  unfolding value_test
  value-holds i v = rw (eq-eqb i i refl, eq-eqb key key refl)

  -- dots of later values have a later index
  pub fours-later : (i : ℕ) (vs : List Value) (r : Record) → r ∈ fours i vs → i ≤ r.index
  fours-later i vs r m =
      let w = flat-means-from (value_records 4 key) i vs r m in
      let (d, j, e) = Memᴰ.of_map (dot_record 4 (i + w.place) key) (dots_of w.source.clock) w.given in
      let q = ap (λ (x : Record). x.index) e in omega arith

  pub values-count : (n i p : ℕ) (vs : List Value) (b d : List Record) → ((v : Value) → v ∈ vs → ValueFits v) → length vs ≤ n
      → ((r : Record) → r ∈ b → r.key ≡ key → ⊥) → ((r : Record) → r ∈ d → r.key ≡ key → ⊥)
      → values_end key n i p (threes i vs ++ b) (fours i vs ++ d) ≡ record { good = true; values = i + length vs; dots = p + length (fours i vs) }
  unfolding values_end flat_from is_empty
  values-count n i p [] [] d f h s t = (let x : i ≡ i + 0 = omega arith in let y : p ≡ p + 0 = omega arith in
      λ k. record { good = true; values = x k; dots = y k })
  values-count zero i p [] (r ∷ b) d f h s t = (let x : i ≡ i + 0 = omega arith in let y : p ≡ p + 0 = omega arith in
      λ k. record { good = true; values = x k; dots = y k })
  values-count (suc n) i p [] (r ∷ b) d f h s t =
      rw (value_not i r (s r (Memᴰ.head refl))) (let x : i ≡ i + 0 = omega arith in let y : p ≡ p + 0 = omega arith in
      λ k. record { good = true; values = x k; dots = y k })
  values-count zero i p (v ∷ vs) b d f h s t = absurd (omega arith)
  values-count (suc n) i p (v ∷ vs) b d f h s t =
      let g = f v (Memᴰ.head refl) in
      let ds = dots_of v.clock in
      let l = dot_records 4 i key ds in
      let rest = fours (i + 1) vs ++ d in
      let q : run_end (dot_test 4 i key) 0 dot_limit 0 (l ++ rest) ≡ length ds =
      run_of 4 i key ds rest g.valid.clock g.few
      (λ r m y. ⊎_elim (λ a. let k = fours-later (i + 1) vs r a in let e = y.index_is in absurd (omega arith)) (λ a. t r a y.key-is)
      (Memᴰ.append_cases (fours (i + 1) vs) m)) in
      let e = length-map ds (dot_record 4 i key) in
      rw (append_assoc l (fours (i + 1) vs) d, q, value-holds i v, some g.valid.some, drop_at l rest (length ds) e)
      (values-count n (i + 1) (p + length ds) vs b d (λ u j. f u (Memᴰ.tail j)) (omega arith) s t
      ∙ (let x : i + 1 + length vs ≡ i + length (v ∷ vs) = omega arith in
      let y : p + length ds + length (fours (i + 1) vs) ≡ p + length (l ++ fours (i + 1) vs) = omega (arith, length-append l (fours (i + 1) vs)) in
      λ k. record { good = true; values = x k; dots = y k }))
    where
      some : is_empty (dots_of v.clock) ≡ false → eqb (length (dots_of v.clock)) 0 ≡ false
      some z = z
