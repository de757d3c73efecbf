-- A clock read from where its records lie.
use mathlib.Core.Path.{◌≡◌, ap, ◌∙◌}
use mathlib.Core.List.{List, map}
use Prim.Native.Nat.{ℕ, ◌*◌, ◌-◌, ◌≤◌}
use native.Mathlib.Omega.{arith}
use lib.ListN.{length, take, drop, length-take, length-map}
use Rattle.clock.specs.declared.Dot.{Dot}
use Rattle.limits.specs.Limits.{dot_limit}
use Rattle.clock.specs.Dots.{clock_of}
use Rattle.entries.specs.declared.Entry.{Entry}
use Rattle.entries.specs.Model.{dots_in}
use Rattle.clockimage.specs.Image.{dot_of, dot_record, dot_records}
use Rattle.clockimage.proofs.RoundTrip.{dots-back}
use Rattle.runs.specs.Run.{run_dots}
use Rattle.keyed.specs.declared.Spans.{Spans}
use Rattle.walks.specs.Walk.{part}
use Rattle.keyed.specs.Keyed.{EntryLies}
use Rattle.walks.proofs.Loops.{length_part, clock-between}

-- the clock of a slice that holds a run of dots, which is short enough
module _ (s : List ℕ) (i j kind index key : ℕ) (ds : List Dot) (h : i ≤ j) (inside : j * 16 ≤ length s)
    (e : part s i j ≡ dot_records kind index key ds) where
  pub clock-there : clock_of (run_dots (take (j * 16 - i * 16) (drop (i * 16) s))) ≡ clock_of ds
  clock-there = clock-between s i j h inside ∙ ap clock_of (ap (map dot_of) e ∙ dots-back kind index key ds)

  pub short-there : length ds ≤ dot_limit → length (take (j * 16 - i * 16) (drop (i * 16) s)) ≤ dot_limit * 16
  short-there n = omega (
    arith,
    length-take (j * 16 - i * 16) (drop (i * 16) s),
    length_part s i j,
    ap length e,
    length-map ds (dot_record kind index key),
  )

-- so of an entry's dots
module _ {s : List ℕ} {e : Entry} {r : Spans} (h : EntryLies s e r) where
  abbrev run : List ℕ
  run = take (r.dots.to * 16 - r.dots.from * 16) (drop (r.dots.from * 16) s)

  pub entry-clock : clock_of (run_dots run) ≡ clock_of (dots_in e)
  entry-clock = clock-there s r.dots.from r.dots.to 2 0 e.key (dots_in e) h.dots.order h.dots.within h.dots.records

  pub entry-short : length run ≤ dot_limit * 16
  entry-short = short-there s r.dots.from r.dots.to 2 0 e.key (dots_in e) h.dots.order h.dots.within h.dots.records h.short
