-- The dots of a run, place by place.
use mathlib.Core.Bool.{Bool, true, false}
use mathlib.Core.Path.{◌≡◌, ap, sym, ◌∙◌}
use mathlib.Core.List.{List, ◌∷◌, map}
use Prim.Native.Nat.{ℕ, zero, suc, ◌+◌, ◌*◌, ◌/◌, ◌<◌, ◌≤◌}
use native.Mathlib.Omega.{arith}
use lib.ListN.{length, get_or, length-map, take, drop}
use Rattle.clock.specs.declared.Dot.{Dot}
use Rattle.clock.specs.Dots.{no_dot}
use Rattle.limits.specs.Limits.{dot_limit}
use Rattle.records.specs.Records.{record_from, records_from, records_of}
use Rattle.records.proofs.Joined.{length-records}
use Rattle.clockimage.specs.Image.{dot_of}
use Rattle.runs.specs.Run.{run_dots}
use Rattle.marks.specs.Marks.{picked}
use Rattle.marks.proofs.Picks.{picked-yes, picked-no}

-- all of a list, as a walk along its places speaks of it
abbrev pub all : List Dot → List Dot
all l = take (length l) l

dots-from : (s : List ℕ) (n i at : ℕ) → i < n → get_or (map dot_of (records_from s at n)) i no_dot ≡ dot_of (record_from s (at + i * 16))
unfolding records_from
dots-from s zero i at h = absurd (omega arith)
dots-from s (suc n) zero at h = let e : at ≡ at + zero * 16 = omega arith in ap (λ k. dot_of (record_from s k)) e
dots-from s (suc n) (suc i) at h =
    let e : at + 16 + i * 16 ≡ at + suc i * 16 = omega arith in
    dots-from s n i (at + 16) (omega arith) ∙ ap (λ k. dot_of (record_from s k)) e

pub run_at : (s : List ℕ) (i : ℕ) → i < length s / 16 → get_or (run_dots s) i no_dot ≡ dot_of (record_from s (i * 16))
run_at s i h = let e : 0 + i * 16 ≡ i * 16 = omega arith in dots-from s (length s / 16) i 0 h ∙ ap (λ k. dot_of (record_from s k)) e

pub length_run : (s : List ℕ) → length (run_dots s) ≡ length s / 16
length_run s = length-map (records_of s) dot_of ∙ length-records s 0 (length s / 16)

-- a run that fits a clock has no more dots than a clock has room for
pub few-dots : (s : List ℕ) (n : ℕ) → length s ≤ dot_limit * 16 → n ≡ dot_limit → length (run_dots s) ≤ n
few-dots s n h e = omega (arith, length_run s)

-- at each place a dot is picked or not
module _ (s : List ℕ) (bs : List Bool) (i : ℕ) (h : i < length bs) (k : i < length s / 16) where
  pub marked : {d : Dot} → d ≡ dot_of (record_from s (i * 16)) → get_or bs i false ≡ true
      → picked (drop i bs) (drop i (run_dots s)) ≡ d ∷ picked (drop (i + 1) bs) (drop (i + 1) (run_dots s))
  marked e t =
      picked-yes bs (run_dots s) i no_dot h (omega (arith, length_run s)) t
      ∙ ap (λ x. x ∷ picked (drop (i + 1) bs) (drop (i + 1) (run_dots s))) (run_at s i k ∙ sym e)

  pub unmarked : get_or bs i false ≡ false → picked (drop i bs) (drop i (run_dots s)) ≡ picked (drop (i + 1) bs) (drop (i + 1) (run_dots s))
  unmarked t = picked-no bs (run_dots s) i no_dot h (omega (arith, length_run s)) t
