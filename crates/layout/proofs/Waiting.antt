-- The clocks of waiting removals: what the walk over kind 5 accepts is the records of clocks in order, and it accepts those of all waiting removals.
use mathlib.Core.Path.{◌≡◌, refl, ap, sym, ◌∙◌}
use mathlib.Core.Bool.{Bool, true, false, cond}
use mathlib.Core.Logic.{⊎_elim}
use mathlib.Core.List.Memᴰ
use mathlib.Core.List.{List, [], ◌∷◌, ◌++◌, map}
use Prim.Native.Nat.{ℕ, zero, suc, ◌+◌, ◌≤◌}
use native.Mathlib.Omega.{arith}
use lib.ListN.{length, take, drop, length-map}
use lib.Seq.{take_at, drop_at}
use borrow.Author.Tests.{ne_eqb}
use Rattle.listlaws.specs.Order.{◌∈◌, Ascending, nil, next}
use Rattle.listlaws.proofs.Orders.{apart, tail-ascends, head-before}
use Rattle.clock.specs.declared.Dot.{Dot}
use Rattle.limits.specs.Limits.{dot_limit, waiting_limit}
use Rattle.clock.specs.Dots.{is_empty}
use Rattle.clock.specs.Lawful.{Lawful}
use Rattle.removals.specs.declared.Removal.{Removal}
use Rattle.removals.specs.Model.{under_of}
use Rattle.removals.proofs.ClockOrder.{before-strict, before-steady}
use Rattle.listlaws.proofs.Levels.{before-before}
use Rattle.clockimage.proofs.RoundTrip.{dots-back}
use Rattle.removals.specs.Waits.{clock_before, removal_before}
use Rattle.records.specs.declared.Record.{Record}
use Rattle.clockimage.specs.Image.{dot_of, dot_record, dot_records}
use Rattle.mapimage.specs.MapImage.{flat_from, waiting_dots}
use Rattle.oneimagelaws.proofs.Stands.{flat-means-from}
use Rattle.walks.specs.Walk.{dot_test, run_end, is_none, waits_end}
use Rattle.layout.proofs.Runs.{DotRun, run-dots, run-lawful, run_of}
use Rattle.layout.proofs.Entered.{none-nil}

-- the first records of a run are its dots
pub taken-dots : (kind index key : ℕ) (l : List Record) (ds : List Dot) (rest : List Record) → l ≡ dot_records kind index key ds ++ rest
    → map dot_of (take (length ds) l) ≡ ds
taken-dots kind index key l ds rest e =
    rw e (ap (map dot_of) (take_at (dot_records kind index key ds) rest (length ds) (length-map ds (dot_record kind index key)))
    ∙ dots-back kind index key ds)

clock-trans : (x y z : List Dot) → clock_before x y ≡ true → clock_before y z ≡ true → clock_before x z ≡ true
clock-trans x y z a b = before-before {before = clock_before} before-strict before-steady {x = x} {y = y} {z = z} a b

-- a waiting clock
pub record Clocked (ds : List Dot) : Type 0 where
  pub lawful : Lawful ds
  pub some : is_empty ds ≡ false
  pub few : length ds ≤ dot_limit

abbrev pub fives : ℕ → List Dot → List Record
fives i ds = dot_records 5 i 0 ds

pub record Waited (f n : ℕ) (last : List Dot) (l : List Record) (many : ℕ) : Type 0 where
  pub clocks : List (List Dot)
  pub count : many ≡ n + length clocks
  pub few : length clocks ≤ f
  pub parts : l ≡ flat_from fives n clocks
  pub rising : Ascending clock_before clocks
  pub behind : (ds : List Dot) → ds ∈ clocks → clock_before last ds ≡ true
  pub each : (ds : List Dot) → ds ∈ clocks → Clocked ds

none : (f n : ℕ) (last : List Dot) (l : List Record) → is_none l ≡ true → Waited f n last l n
unfolding flat_from
none f n last l t = record {
  clocks = [];
  count = omega arith;
  few = omega arith;
  parts = none-nil l t;
  rising = nil;
  behind = λ ds i. absurd (Memᴰ.not-nil i);
  each = λ ds i. absurd (Memᴰ.not-nil i);
}

-- a clock behind another has a dot
pub behind-some : (last ds : List Dot) → clock_before last ds ≡ true → is_empty ds ≡ false
unfolding clock_before is_empty
behind-some last [] t = apart (sym t)
behind-some last (d ∷ ds) t = ne_eqb (length (d ∷ ds)) 0 (λ e. omega arith)

-- which of two numbers it is
choose : (P : ℕ → Type 0) (t : Bool) (x y : ℕ) → (t ≡ true → x ≤ waiting_limit → P x) → (t ≡ false → y ≤ waiting_limit → P y)
    → cond t x y ≤ waiting_limit → P (cond t x y)
choose P true x y f g h = f refl h
choose P false x y f g h = g refl h

-- a clock, and those behind it
one_more : (f n : ℕ) (last : List Dot) (l : List Record) (x : DotRun 5 n 0 l) (many : ℕ) → clock_before last x.dots ≡ true
    → Waited f (n + 1) x.dots (drop (length x.dots) l) many → Waited (suc f) n last l many
unfolding flat_from
one_more f n last l x many t k = record {
  clocks = x.dots ∷ k.clocks;
  count = k.count ∙ omega arith;
  few = let z = k.few in omega arith;
  parts = x.parts ∙ ap (λ y. fives n x.dots ++ y) k.parts;
  rising = next k.behind k.rising;
  behind = λ ds i. ⊎_elim (λ (e : ds ≡ x.dots). rw e t) (λ j. clock-trans last x.dots ds t (k.behind ds j)) (Memᴰ.cases_cons i);
  each = λ ds i. ⊎_elim (λ (e : ds ≡ x.dots). rw e (record { lawful = run-lawful 5 n 0 x; some = behind-some last x.dots t; few = x.few }))
      (λ j. k.each ds j) (Memᴰ.cases_cons i);
}

waits-step : (f n : ℕ) (last : List Dot) (l : List Record) (x : DotRun 5 n 0 l) (clock : List Dot) → clock ≡ x.dots → (q : ℕ) → q ≡ length x.dots
    → (on : ℕ) → (on ≤ waiting_limit → Waited f (n + 1) clock (drop q l) on)
    → cond (is_none l) n (cond (clock_before last clock) on (waiting_limit + 1)) ≤ waiting_limit
    → Waited (suc f) n last l (cond (is_none l) n (cond (clock_before last clock) on (waiting_limit + 1)))
waits-step f n last l x clock e q y on k h =
    choose (Waited (suc f) n last l) (is_none l) n _ (λ t m. none (suc f) n last l t)
    (λ t. choose (Waited (suc f) n last l) (clock_before last clock) on (waiting_limit + 1)
    (λ u m. one_more f n last l x on (rw e at u) (rw (e, y) at (k m))) (λ u m. absurd (omega arith))) h

pub waits-mean : (f n : ℕ) (last : List Dot) (l : List Record) → waits_end f n last l ≤ waiting_limit → Waited f n last l (waits_end f n last l)
unfolding waits_end
waits-mean zero n last l h = choose (Waited zero n last l) (is_none l) n (waiting_limit + 1) (λ t m. none zero n last l t)
    (λ t m. absurd (omega arith)) h
waits-mean (suc f) n last l h =
    let x = run-dots 5 n 0 l in
    let q : run_end (dot_test 5 n 0) 0 dot_limit 0 l ≡ length x.dots = x.count ∙ omega arith in
    let e : map dot_of (take (run_end (dot_test 5 n 0) 0 dot_limit 0 l) l) ≡ x.dots = ap (λ k. map dot_of (take k l)) q
    ∙ taken-dots 5 n 0 l x.dots _ x.parts in
    waits-step f n last l x _ e _ q _ (waits-mean f (n + 1) _ _) h

-- dots of later clocks have a later index
pub fives-later : (n : ℕ) (w : List Removal) (r : Record) → r ∈ flat_from waiting_dots n w → n ≤ r.index
fives-later n w r m =
    let v = flat-means-from waiting_dots n w r m in
    let (d, j, e) = Memᴰ.of_map (dot_record 5 (n + v.place) 0) (under_of v.source) v.given in
    let q = ap (λ (x : Record). x.index) e in omega arith

dots-some : (n : ℕ) (ds : List Dot) (rest : List Record) → is_empty ds ≡ false → is_none (fives n ds ++ rest) ≡ false
unfolding is_empty
dots-some n [] rest z = apart z
dots-some n (d ∷ ds) rest z = ne_eqb (length (fives n (d ∷ ds) ++ rest)) 0 (λ e. omega arith)

pub waits-count : (f n : ℕ) (last : List Dot) (w : List Removal) → length w ≤ f → Ascending removal_before w
    → ((r : Removal) → r ∈ w → Clocked (under_of r)) → ((r : Removal) → r ∈ w → clock_before last (under_of r) ≡ true)
    → waits_end f n last (flat_from waiting_dots n w) ≡ n + length w
unfolding waits_end flat_from
waits-count zero n last [] h a g l = omega arith
waits-count (suc f) n last [] h a g l = omega arith
waits-count zero n last (r ∷ w) h a g l = absurd (omega arith)
waits-count (suc f) n last (r ∷ w) h a g l =
    let own = g r (Memᴰ.head refl) in
    let ds = under_of r in
    let rest = flat_from waiting_dots (n + 1) w in
    let q = run_of 5 n 0 ds rest own.lawful own.few (λ x m y. let k = fives-later (n + 1) w x m in let e = y.index_is in omega arith) in
    let e = length-map ds (dot_record 5 n 0) in
    rw (
      q,
      dots-some n ds rest own.some,
      taken-dots 5 n 0 (fives n ds ++ rest) ds rest refl,
      l r (Memᴰ.head refl),
      drop_at (fives n ds) rest (length ds) e,
    )
    (waits-count f (n + 1) ds w (omega arith) (tail-ascends a) (λ x i. g x (Memᴰ.tail i)) (λ x i. head-before a x i) ∙ omega arith)
