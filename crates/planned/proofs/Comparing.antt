-- What is left of two runs, compared dot by dot.
use mathlib.Core.Path.{◌≡◌, ap, sym, ◌∙◌}
use mathlib.Core.Bool.{Bool, true, false}
use mathlib.Core.Logic.{◌⊎◌, ⊎_elim}
use mathlib.Core.List.{List, [], ◌∷◌}
use Prim.Native.Nat.{ℕ, ◌+◌, ◌*◌, ◌/◌, ◌≤◌, ◌<◌}
use native.Mathlib.Omega.{arith}
use borrow.Author.Tests.{ltb-true, ltb-false}
use lib.Dec.{ltb}
use lib.ListN.{length, drop, get_or}
use Rattle.scan.proofs.Eachs.{decide}
use Rattle.clock.specs.declared.Dot.{Dot}
use Rattle.clock.specs.Dots.{no_dot}
use Rattle.removals.specs.Waits.{clock_before}
use Rattle.records.specs.Records.{record_from}
use Rattle.clockimage.specs.Image.{dot_of}
use Rattle.runs.specs.Run.{run_dots}
use Rattle.marks.specs.Marks.{picked}
use Rattle.marks.proofs.Picks.{picked-yes, picked-end}
use Rattle.marks.proofs.Dots.{run_at, length_run}

-- what is left from a place on
abbrev pub left_from : List ℕ → List Bool → ℕ → List Dot
left_from run marks i = picked (drop i marks) (drop i (run_dots run))

module _ (run : List ℕ) (marks : List Bool) (i : ℕ) where
  -- begins with the dot of its place, where that is marked
  pub next-dot : i < length marks → i < length run / 16 → get_or marks i false ≡ true → {d : Dot} → d ≡ dot_of (record_from run (i * 16))
      → left_from run marks i ≡ d ∷ left_from run marks (i + 1)
  next-dot h k t {d} e =
      picked-yes marks (run_dots run) i no_dot h (omega (arith, length_run run)) t
      ∙ ap (λ (x : Dot). x ∷ left_from run marks (i + 1)) (run_at run i k ∙ sym e)

  pub no-dot : length run / 16 ≤ i → left_from run marks i ≡ []
  no-dot h = picked-end marks (run_dots run) i (omega (arith, length_run run))

-- one of the two runs is at its end
pub compared : (x : List ℕ) (mine : List Bool) (i : ℕ) (y : List ℕ) (yours : List Bool) (j : ℕ) → (length x / 16 ≤ i) ⊎ (length y / 16 ≤ j)
    → (j < length y / 16 → (j < length yours) × (get_or yours j false ≡ true))
    → ltb j (length y / 16) ≡ clock_before (left_from x mine i) (left_from y yours j)
unfolding clock_before
compared x mine i y yours j end mark =
    decide (ltb j (length y / 16))
    (λ t. let k = ltb-true j (length y / 16) t in
    let m = mark k in
    let h : length x / 16 ≤ i = ⊎_elim (λ h. h) (λ h. absurd (omega arith)) end in
    rw (t, no-dot x mine i h, next-dot y yours j m.0 k m.1 {d = dot_of (record_from y (j * 16))} (λ o. dot_of (record_from y (j * 16)))))
    (λ f. rw (f, no-dot y yours j (ltb-false j (length y / 16) f)))
