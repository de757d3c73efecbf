-- Six sections are recognised exactly where they are those of a map within the limits.
use mathlib.Core.Path.{◌≡◌, refl, ap, sym, ◌∙◌}
use mathlib.Core.Bool.{true, false}
use mathlib.Core.List.Memᴰ
use mathlib.Core.List.{List, [], ◌∷◌, ◌++◌, map, append-nil}
use Prim.Native.Nat.{ℕ, ◌+◌, ◌≤◌}
use native.Mathlib.Omega.{arith}
use lib.Dec.{eqb, leb}
use lib.ListN.{length, replicate, length-replicate, length-map, drop_of_length-le}
use borrow.Author.Tests.{leb-true, le-leb, eqb-true, eq-eqb}
use Rattle.listlaws.proofs.Orders.{apart}
use Rattle.scan.proofs.Eachs.{both_left, both_right}
use Rattle.clock.specs.declared.Dot.{Dot}
use Rattle.limits.specs.Limits.{dot_limit, entry_limit, waiting_limit}
use Rattle.clock.specs.Dots.{clock_of, is_empty}
use Rattle.clock.specs.Lawful.{Lawful}
use Rattle.removals.specs.Model.{under_of}
use Rattle.removals.specs.Waits.{clock_before}
use Rattle.entries.proofs.Packs.{entries-of}
use Rattle.removals.proofs.Packs.{waiting-of}
use Rattle.map.specs.declared.Map.{Map}
use Rattle.map.specs.Model.{seen_by, entries_in, waiting_in, map_as}
use Rattle.map.specs.Valid.{Within}
use Rattle.map.proofs.Kept.{seen_of, valid-as}
use Rattle.map.proofs.Accepts.{fits-means, fits-holds, fits-as}
use Rattle.records.specs.declared.Record.{Record}
use Rattle.clockimage.specs.Image.{dot_of, dot_record, dot_records}
use Rattle.clockimage.proofs.RoundTrip.{dots-back}
use Rattle.walks.specs.Walk.{dot_test, run_end, entries_end, waits_end, keys_good}
use Rattle.layout.specs.Whole.{Sectioned, recognised}
use Rattle.layout.proofs.Runs.{run-dots, run-lawful, run_of}
use Rattle.layout.proofs.Entered.{Entered, entries-mean, entries-count}
use Rattle.layout.proofs.Waiting.{Waited, waits-mean, waits-count}
use Rattle.walks.proofs.Keys.{Listed, keys-mean}
use Rattle.maprecords.proofs.Keys.{length-places}
use Rattle.layout.proofs.Queued.{removal_for, removals_for, keys-back, dots-back as clocks-back, removals-valid, removals-fit, keys-accepted}

-- the map of six sections
pub record Found (a b c d e f : List Record) : Type 0 where
  pub map_is : Map
  pub within : Within map_is
  pub sections : Sectioned map_is a b c d e f
  pub clock : clock_of (map dot_of a) ≡ map_is.clock
  pub entries : entries_end (map dot_of a) entry_limit 0 0 b c d ≡ length (entries_in map_is)
  pub waits : waits_end waiting_limit 0 [] e ≡ length (waiting_in map_is)

-- the dots of a whole run
whole_run : (a : List Record) → run_end (dot_test 1 0 0) 0 dot_limit 0 a ≡ length a
    → Lawful (map dot_of a) × (dot_records 1 0 0 (map dot_of a) ≡ a) × (length (map dot_of a) ≤ dot_limit)
whole_run a h =
    let x = run-dots 1 0 0 a in
    let n : length a ≤ length x.dots = (let k = x.count in omega arith) in
    let e : a ≡ dot_records 1 0 0 x.dots = x.parts ∙ ap (λ y. dot_records 1 0 0 x.dots ++ y) (drop_of_length-le a n)
    ∙ append-nil (dot_records 1 0 0 x.dots) in
    let d : map dot_of a ≡ x.dots = ap (map dot_of) e ∙ dots-back 1 0 0 x.dots in
    (rw d (run-lawful 1 0 0 x), rw d (sym e), rw d x.few)

module _ (a b c d e f : List Record) where
  pub sections-mean : recognised a b c d e f ≡ true → Found a b c d e f
  unfolding recognised
  sections-mean t =
      let t1 = eqb-true (run_end (dot_test 1 0 0) 0 dot_limit 0 a) (length a)
      (both_left (eqb (run_end (dot_test 1 0 0) 0 dot_limit 0 a) (length a)) _ t) in
      let u = both_right (eqb (run_end (dot_test 1 0 0) 0 dot_limit 0 a) (length a)) _ t in
      let t2 = leb-true (entries_end (map dot_of a) entry_limit 0 0 b c d) entry_limit
      (both_left (leb (entries_end (map dot_of a) entry_limit 0 0 b c d) entry_limit) _ u) in
      let v = both_right (leb (entries_end (map dot_of a) entry_limit 0 0 b c d) entry_limit) _ u in
      let t3 = leb-true (waits_end waiting_limit 0 [] e) waiting_limit (both_left (leb (waits_end waiting_limit 0 [] e) waiting_limit) _ v) in
      let t4 = both_right (leb (waits_end waiting_limit 0 [] e) waiting_limit) _ v in
      made (map dot_of a) (whole_run a t1) _ (entries-mean (map dot_of a) entry_limit 0 0 b c d t2) refl _
      (waits-mean waiting_limit 0 [] e t3) refl t4
    where
      made : (ds : List Dot) → Lawful ds × (dot_records 1 0 0 ds ≡ a) × (length ds ≤ dot_limit) → (n : ℕ) (x : Entered ds entry_limit 0 0 b c d n)
          → entries_end (map dot_of a) entry_limit 0 0 b c d ≡ n
          → (k : ℕ) (y : Waited waiting_limit 0 [] e k) → waits_end waiting_limit 0 [] e ≡ k → keys_good k (replicate waiting_limit 0) 0 f ≡ true
          → Found a b c d e f
      made ds run n x p k y q t =
          let cs = y.clocks in
          let few : length cs ≤ waiting_limit = y.few in
          let count : k ≡ length cs = y.count ∙ omega arith in
          let listed : Listed (length cs) (replicate waiting_limit 0) 0 f = keys-mean (length cs) (replicate waiting_limit 0) 0 f (rw count at t)
          (omega (arith, length-replicate {A = ℕ} waiting_limit 0)) in
          let ws = removals_for cs f in
          let es = x.entries in
          let m = map_as ds es ws in
          let s = seen_of ds es ws in
          record {
            map_is = m;
            within = record {
              valid = valid-as run.0 x.valid (removals-valid cs f few listed y.rising y.each);
              limits = fits-holds (fits-as ds es ws run.2 x.few x.fits (omega (arith, length-places (removal_for f) 0 cs))
                  (removals-fit cs f few listed y.rising y.each));
            };
            sections = record {
              first = rw s run.1;
              second = rw (entries-of es) (sym x.twos);
              third = rw (entries-of es) (sym x.threes);
              fourth = rw (entries-of es) (sym x.fours);
              fifth = rw (waiting-of ws) (clocks-back cs f few listed ∙ sym y.parts);
              sixth = rw (waiting-of ws) (keys-back cs f few listed);
            };
            clock = ap clock_of (ap (map dot_of) (sym run.1) ∙ dots-back 1 0 0 ds);
            entries = p ∙ x.count ∙ rw (entries-of es) (omega arith);
            waits = q ∙ count ∙ rw (waiting-of ws) (sym (length-places (removal_for f) 0 cs));
          }

none_before : (ds : List Dot) → is_empty ds ≡ false → clock_before [] ds ≡ true
unfolding is_empty clock_before
none_before [] z = apart z
none_before (d ∷ ds) z = refl

module _ {m : Map} (h : Within m) where
  pub sections-hold : {a b c d e f : List Record} → Sectioned m a b c d e f → recognised a b c d e f ≡ true
  unfolding recognised
  sections-hold s =
      let k = fits-means m h.limits in
      let ds = seen_by m in
      let n = length-map ds (dot_record 1 0 0) in
      let r : run_end (dot_test 1 0 0) 0 dot_limit 0 (dot_records 1 0 0 ds) ≡ length ds = rw append-nil at
      (run_of 1 0 0 ds [] h.valid.clock k.clock (λ r i. absurd (Memᴰ.not-nil i))) in
      let w = waits-count waiting_limit 0 [] (waiting_in m) k.number h.valid.waiting.rising
      (λ q i. record { lawful = (h.valid.waiting.each q i).clock; some = h.valid.waiting.some q i; few = (k.waiting q i).dots })
      (λ q i. none_before (under_of q) (h.valid.waiting.some q i)) in
      let w2 = w ∙ zero-plus (length (waiting_in m)) in
      let x = entries-count ds entry_limit 0 0 (entries_in m) k.count h.valid.entries k.entries (λ q i. omega arith)
      ∙ zero-plus (length (entries_in m)) in
      rw (
        ← s.first,
        ← s.second,
        ← s.third,
        ← s.fourth,
        ← s.fifth,
        ← s.sixth,
        r,
        dots-back 1 0 0 ds,
        x,
        w2,
        eq-eqb (length ds) (length (dot_records 1 0 0 ds)) (sym n),
        le-leb (length (entries_in m)) entry_limit k.count,
        le-leb (length (waiting_in m)) waiting_limit k.number,
      )
      (keys-accepted (waiting_in m) k.number h.valid.waiting k.waiting)
    where
      zero-plus : (n : ℕ) → 0 + n ≡ n
      zero-plus n = omega arith
