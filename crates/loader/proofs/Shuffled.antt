-- Two images whose registers hold the same value-and-clock pairs, in whatever order, are reported alike by both calls, byte for byte.
use mathlib.Core.Path.{◌≡◌, refl, sym, ap₂, subst}
use mathlib.Core.List.{List, Permᴰ, ◌++◌}
use Prim.Native.Nat.{ℕ, zero, suc, ◌+◌}
use Rattle.clock.specs.declared.Dot.{Dot}
use Rattle.entries.specs.Model.{values_in}
use Rattle.entries.specs.Entries.{entry_at}
use Rattle.map.specs.declared.Map.{Map}
use Rattle.map.specs.Model.{entries_in}
use Rattle.maprecords.specs.Related.{read_map}
use Rattle.answers.specs.Answer.{Answer, Answered}
use Rattle.answers.proofs.Answers.{Same, same_answer}
use Rattle.loader.specs.Choice.{pairs_of}
use Rattle.loader.specs.Reports.{report_at, report_bytes, reports_after}
use Rattle.loader.specs.Calls.{bay_count, bay_number, bay_answer, bays_answer}
use Rattle.loader.proofs.Reordered.{same-bay}

-- what the register of a bay holds in an image
abbrev held_at : List ℕ → ℕ → List (List Dot × ℕ)
held_at image bay = pairs_of (values_in (entry_at bay (entries_in (read_map image).map)))

reports-same : (m n : Map) → ((bay : ℕ) → report_at m bay ≡ report_at n bay) → (after count : ℕ)
    → reports_after m after count ≡ reports_after n after count
unfolding reports_after
reports-same m n f after zero = refl
reports-same m n f after (suc count) = ap₂ (λ r l. report_bytes r ++ l) (f (after + 1)) (reports-same m n f (after + 1) count)

pub record ReportedAlike (map other : List ℕ) : Type 0 where
  pub bay : (bay : ℕ) (out d e : List ℕ) (r s : ℕ) → Answered (bay_answer map bay) out d r → Answered (bay_answer other bay) out e s → Same d e r s
  pub bays : (out d e : List ℕ) (r s : ℕ) → Answered (bays_answer map) out d r → Answered (bays_answer other) out e s → Same d e r s

pub any_order : (map other : List ℕ) → (read_map map).number ≡ (read_map other).number → ((bay : ℕ) → Permᴰ (held_at map bay) (held_at other bay))
    → ReportedAlike map other
any_order map other number held =
    let same : (bay : ℕ) → report_at (read_map map).map bay ≡ report_at (read_map other).map bay = λ bay. same-bay (read_map map).map
    (read_map other).map bay (held bay) in
    let one : (bay : ℕ) → bay_answer map bay ≡ bay_answer other bay =
    λ bay. ap₂ (λ n r. record { first = n; second = 0; own = bay_number bay; bytes = report_bytes r }) number (same bay) in
    let all : bays_answer map ≡ bays_answer other =
    ap₂ (λ n l. record { first = n; second = 0; own = 0; bytes = l }) number
    (reports-same (read_map map).map (read_map other).map same 0 bay_count) in
    record {
      bay = λ bay out d e r s p q. same_answer p (subst (λ (a : Answer). Answered a out e s) (sym (one bay)) q);
      bays = λ out d e r s p q. same_answer p (subst (λ (a : Answer). Answered a out e s) (sym all) q);
    }
