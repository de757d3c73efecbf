-- Reports written one behind the other, in bay order.
use mathlib.Core.Path.{◌≡◌, refl, ap, sym, ◌∙◌}
use mathlib.Core.List.{List, ◌++◌, append-nil, append_assoc}
use Prim.Native.Nat.{ℕ, zero, suc, ◌+◌, ◌*◌, ◌≤◌}
use native.Mathlib.Numerals.{add-one}
use native.Mathlib.Omega.{arith}
use lib.ListN.{length, length-append}
use Rattle.map.specs.declared.Map.{Map}
use Rattle.records.specs.Writing.{Wrote}
use Rattle.records.proofs.Placing.{placed-none, placed_on, length-placed}
use Rattle.loader.specs.declared.Report.{Report}
use Rattle.loader.specs.Reports.{report_at, report_bytes, reports_after}

module _ (m : Map) where
  -- "eleven bytes each"
  pub length-reports : (after n : ℕ) → length (reports_after m after n) ≡ n * 11
  unfolding reports_after
  length-reports after zero = refl
  length-reports after (suc n) =
      length-append (report_bytes (report_at m (after + 1))) (reports_after m (after + 1) n) ∙ omega (arith, length-reports (after + 1) n)

  -- one bay more
  reports-more : (after n last : ℕ) → last ≡ after + n + 1 → reports_after m after (suc n) ≡ reports_after m after n
      ++ report_bytes (report_at m last)
  unfolding reports_after
  reports-more after zero last e =
      let q : last ≡ after + 1 = omega arith in rw q (append-nil (report_bytes (report_at m (after + 1))))
  reports-more after (suc n) last e =
      ap (λ t. report_bytes (report_at m (after + 1)) ++ t) (reports-more (after + 1) n last (omega arith))
      ∙ sym (append_assoc (report_bytes (report_at m (after + 1))) (reports_after m (after + 1) n) (report_bytes (report_at m last)))

-- the reports of the bays up to `bay` are written from the start of `entry` on; `now` is the output, and `next` the place for the next
pub record Reporting (m : Map) (entry : List ℕ) (bay : ℕ) (now : List ℕ) (next : ℕ) : Type 0 where
  pub wrote : Wrote 0 (reports_after m 0 bay) entry now next

module _ {m : Map} {entry : List ℕ} where
  pub report-start : Reporting m entry 0 entry 0
  unfolding reports_after
  report-start = record { wrote = record { left = sym (placed-none 0 entry (omega arith)); ends = refl } }

  module _ {bay next : ℕ} {o : List ℕ} (w : Reporting m entry bay o next) where
    -- the next place, and that the output keeps its length
    pub report-room : bay * 11 ≤ length entry → (next ≡ bay * 11) × (length o ≡ length entry)
    report-room h =
        let n = length-reports m 0 bay in
        let z = w.wrote.ends in
        (omega arith, ap length w.wrote.left ∙ length-placed 0 (reports_after m 0 bay) entry (omega arith))

    pub report-on : {after : ℕ} {p : List ℕ} {r : Report} → (bay + 1) * 11 ≤ length entry → r ≡ report_at m (bay + 1)
        → Wrote next (report_bytes r) o p after → Reporting m entry (bay + 1) p after
    report-on {r = r} h e x =
        let n = length-reports m 0 bay in
        let z = w.wrote.ends in
        let y = x.ends in
        let all = reports-more m 0 bay (bay + 1) (omega arith) ∙ ap (λ (s : Report). reports_after m 0 bay ++ report_bytes s) (sym e) in
        record {
          wrote = rw (add-one bay, all)
              (record {
                left = placed_on 0 next (reports_after m 0 bay) (report_bytes r) entry w.wrote.left x.left z (omega arith);
                ends = rw (length-append (reports_after m 0 bay) (report_bytes r)) (omega arith);
              });
        }
