-- What `lay_out` answers: where the sections are recognised, the map that was read; where not, the number that refuses it.
use mathlib.Core.Path.{◌≡◌, ap, sym, ◌∙◌}
use mathlib.Core.Bool.{Bool, true, false, ◌||◌}
use mathlib.Core.List.{List, [], ◌++◌, map}
use Prim.Native.Nat.{ℕ, ◌%◌, ◌≤◌}
use native.Mathlib.Omega.{arith}
use lib.Dec.{eqb, ltb}
use lib.ListN.{length, replicate}
use borrow.Author.Tests.{ltb-true, ltb-false, le-ltb, le-leb, lt-leb, eqb-true, eqb-false, eq-eqb, ne_eqb}
use Rattle.listlaws.proofs.Orders.{apart}
use Rattle.scan.specs.Numbers.{scan_number}
use Rattle.scan.proofs.Eachs.{decide}
use Rattle.clock.specs.declared.Clock.{Clock}
use Rattle.limits.specs.Limits.{dot_limit, entry_limit, waiting_limit}
use Rattle.clock.specs.Dots.{dots_of, clock_of}
use Rattle.clock.proofs.Packs.{dots-of}
use Rattle.map.specs.declared.Map.{Map}
use Rattle.map.specs.Valid.{Within}
use Rattle.records.specs.declared.Record.{Record}
use Rattle.records.specs.Records.{records_of}
use Rattle.clockimage.specs.Image.{dot_of}
use Rattle.mapimage.specs.MapImage.{map_longest, map_records}
use Rattle.maprecords.specs.Reading.{map_in}
use Rattle.maprecords.specs.Related.{related, judged_map, length_number, read_map}
use Rattle.acceptancelaws.proofs.Maps.{related-within}
use Rattle.oneimagelaws.proofs.Scans.{records-scan}
use Rattle.oneimagelaws.proofs.Relates.{records-related}
use Rattle.oneimagelaws.proofs.Reread.{map-again}
use Rattle.oneimagelaws.proofs.Rewritten.{records-rewritten}
use Rattle.walks.specs.declared.Layout.{Layout}
use Rattle.layout.specs.declared.Laid.{Laid}
use Rattle.walks.specs.Walk.{part, dot_test, run_end, entries_end, waits_end, keys_good}
use Rattle.layout.specs.Whole.{recognised, recognised_at, Parted, slow_number, LaidOut}
use Rattle.walks.proofs.Loops.{length_part}
use Rattle.layout.proofs.Wholes.{Found, sections-mean, sections-hold}
use Rattle.layout.proofs.Found.{part-append, all-records, sections-found}

-- the records of a map that keeps the limits are judged to be it
judged-map : {m : Map} (l : List Record) → Within m → map_records m ≡ l → judged_map l ≡ record { number = 0; map = m }
judged-map {m} l h e = rw (← e, eq-eqb (scan_number 1 6 (map_records m)) 0 (records-scan h), records-related h)
    (ap (λ x. record { number = 0; map = x }) (map-again h))

-- what a length alone says
module _ (s : List ℕ) (n : ℕ) (e : n ≡ length_number (length s)) where
  pub length-refused : (n ≡ 0 → ⊥) → n ≡ (read_map s).number
  unfolding read_map
  length-refused z =
      decide (ltb map_longest (length s)) (λ t. rw t (rw t at e))
      (λ f. decide (eqb (length s % 16) 0) (λ t. absurd (z (rw (f, t) at e))) (λ u. rw (f, u) (rw (f, u) at e)))

  pub length-good : n ≡ 0 → (length s ≤ map_longest) × (length s % 16 ≡ 0)
  length-good z =
      decide (ltb map_longest (length s)) (λ t. absurd (let k = rw t at e in omega arith))
      (λ f. decide (eqb (length s % 16) 0) (λ t. (ltb-false map_longest (length s) f, eqb-true (length s % 16) 0 t))
      (λ u. absurd (let k = rw (f, u) at e in omega arith)))

slow-some : (l : List Record) → slow_number l ≡ 0 → ⊥
slow-some l e = decide (eqb (scan_number 1 6 l) 0) (λ t. let k = rw t at e in omega arith) (λ f. let k = rw f at e in
    eqb-false (scan_number 1 6 l) 0 f k)

module _ (s : List ℕ) (l : Layout) (p : Parted s l) (good : (length s ≤ map_longest) × (length s % 16 ≡ 0)) where
  read_as : read_map s ≡ judged_map (records_of s)
  unfolding read_map
  read_as = rw (le-ltb map_longest (length s) good.0, eq-eqb (length s % 16) 0 good.1)

  -- the sections are all records
  joined : records_of s ≡ part s 0
      l.second ++ (part s l.second l.third ++ (part s l.third
      l.fourth ++ (part s l.fourth l.fifth ++ (part s l.fifth l.sixth ++ part s l.sixth l.end))))
  joined =
      let q = p.places in
      let q1 = q.second in
      let q2 = q.third in
      let q3 = q.fourth in
      let q4 = q.fifth in
      let q5 = q.sixth in
      sym (all-records s l.end p.end) ∙ part-append s 0 l.second l.end (omega arith) (omega arith)
      ∙ ap (λ y. part s 0 l.second ++ y) (part-append s l.second l.third l.end (omega arith) (omega arith)
      ∙ ap (λ y. part s l.second l.third ++ y) (part-append s l.third l.fourth l.end (omega arith) (omega arith)
      ∙ ap (λ y. part s l.third l.fourth ++ y) (part-append s l.fourth l.fifth l.end (omega arith) (omega arith)
      ∙ ap (λ y. part s l.fourth l.fifth ++ y) (part-append s l.fifth l.sixth l.end (omega arith) (omega arith)))))

  found : recognised_at s l ≡ true → Found (part s 0 l.second) (part s l.second l.third) (part s l.third l.fourth)
      (part s l.fourth l.fifth) (part s l.fifth l.sixth) (part s l.sixth l.end)
  found t = sections-mean _ _ _ _ _ _ t

  accepted : (t : recognised_at s l ≡ true) → read_map s ≡ record { number = 0; map = (found t).map_is }
  accepted t =
      let f = found t in
      let k = f.sections in
      read_as ∙ judged-map (records_of s) f.within (rw (k.first, k.second, k.third, k.fourth, k.fifth, k.sixth) (sym joined))

  not-accepted : recognised_at s l ≡ false → slow_number (records_of s) ≡ (read_map s).number
  not-accepted f =
      let r = records_of s in
      rw read_as
      (decide (eqb (scan_number 1 6 r) 0)
      (λ t. decide (related r)
      (λ u. let z = eqb-true (scan_number 1 6 r) 0 t in
      apart (sym (sections-hold (related-within r z u) (sections-found s l (map_in r) p (records-rewritten r z u))) ∙ f))
      (λ u. rw (t, u)))
      (λ t. rw t))

  -- a refusal
  pub refuses : recognised_at s l ≡ false → (r : Laid) (n : ℕ) → r.number ≡ n → n ≡ slow_number (records_of s)
      → (r.number ≡ (read_map s).number) × (r.number ≡ 0 → LaidOut s (read_map s).map r)
  refuses f r n a b = (a ∙ b ∙ not-accepted f, λ z. absurd (slow-some (records_of s) (sym (a ∙ b) ∙ z)))

  -- what the walks found
  module _ (run : ℕ) (er : run ≡ run_end (dot_test 1 0 0) 0 dot_limit 0 (part s 0 l.second)) where
    first-length : length (part s 0 l.second) ≡ l.second
    first-length = length_part s 0 l.second ∙ omega arith

    pub run-refused : (run ≡ l.second → ⊥) → recognised_at s l ≡ false
    unfolding recognised
    run-refused n = rw (← er, first-length, ne_eqb run l.second n)

    module _ (clock : Clock) (entries waits : ℕ) (ec : clock ≡ clock_of (map dot_of (part s 0 l.second))) (same : run ≡ l.second)
        (ee : entries ≡ entries_end (dots_of clock) entry_limit 0 0 (part s l.second l.third) (part s l.third l.fourth)
        (part s l.fourth l.fifth)) (ew : waits ≡ waits_end waiting_limit 0 [] (part s l.fifth l.sixth)) where
      clock-dots : map dot_of (part s 0 l.second) ≡ dots_of clock
      clock-dots = sym (dots-of (map dot_of (part s 0 l.second)) ec)

      pub counts-refused : (ltb entry_limit entries || ltb waiting_limit waits) ≡ true → recognised_at s l ≡ false
      unfolding recognised
      counts-refused t =
          rw (← er, first-length, eq-eqb run l.second same, clock-dots, ← ee, ← ew)
          (decide (ltb entry_limit entries) (λ u. rw (lt-leb entries entry_limit (ltb-true entry_limit entries u)))
          (λ u. let v : ltb waiting_limit waits ≡ true = rw u at t in rw (
            le-leb entries entry_limit (ltb-false entry_limit entries u),
            lt-leb waits waiting_limit (ltb-true waiting_limit waits v),
          )))

      module _ (t : (ltb entry_limit entries || ltb waiting_limit waits) ≡ false) (k : Bool)
          (ek : k ≡ keys_good waits (replicate waiting_limit 0) 0 (part s l.sixth l.end)) where
        within-limits : (entries ≤ entry_limit) × (waits ≤ waiting_limit)
        within-limits =
            decide (ltb entry_limit entries) (λ u. apart (rw u at t))
            (λ u. (ltb-false entry_limit entries u, ltb-false waiting_limit waits (rw u at t)))

        pub all_told : recognised_at s l ≡ k
        unfolding recognised
        all_told =
            rw (
              ← er,
              first-length,
              eq-eqb run l.second same,
              clock-dots,
              ← ee,
              ← ew,
              le-leb entries entry_limit within-limits.0,
              le-leb waits waiting_limit within-limits.1,
            ) (sym ek)

        pub accepts : k ≡ true → (0 ≡ (read_map s).number) × (LaidOut s (read_map s).map
            (record { number = 0; entries = entries; waits = waits; clock = clock; layout = l }))
        accepts u =
            let a = all_told ∙ u in
            let f = found a in
            let e = accepted a in (
              rw e,
              rw e (record {
                clock = ec ∙ f.clock;
                entries = ee ∙ ap (λ ds. entries_end ds entry_limit 0 0 (part s l.second l.third) (part s l.third l.fourth)
                    (part s l.fourth l.fifth)) (sym clock-dots) ∙ f.entries;
                waits = ew ∙ f.waits;
                lies = record { within = f.within; end = p.end; places = p.places; sections = f.sections };
              }),
            )
