-- A clock cut by the removals that list a key, one after the other.
use mathlib.Core.Path.{◌≡◌, ap, ap₂, ◌∙◌}
use mathlib.Core.Bool.{true, false, cond}
use mathlib.Core.List.{List}
use Prim.Native.Nat.{ℕ, ◌+◌, ◌≤◌, ◌<◌}
use lib.ListN.{length, get_or}
use Rattle.listlaws.proofs.SliceFolding.{Folding, folding-on, folding-end}
use Rattle.clock.specs.declared.Clock.{Clock}
use Rattle.clock.specs.declared.Dot.{Dot}
use Rattle.clock.specs.Dots.{dots_of, clock_of, cut_dots}
use Rattle.clock.proofs.Packs.{dots-of}
use Rattle.removals.specs.declared.Removal.{Removal}
use Rattle.removals.specs.Model.{no_removal, under_of, listed_in}
use Rattle.removals.specs.Waits.{listed}
use Rattle.queued.specs.Queue.{cuts_for, lists}

module _ (w : List Removal) (key : ℕ) where
  abbrev cut_by : List Dot → Removal → List Dot
  cut_by d r = cond (listed (listed_in r) key) (cut_dots (under_of r) d) d

  -- i removals have been looked at
  abbrev pub Cutting : List Dot → ℕ → Clock → Type 0
  Cutting d i out = Folding clock_of cut_by d w i out

  module _ {d : List Dot} {i : ℕ} {out : Clock} (f : Cutting d i out) (h : i < length w) where
    pub cut_on : {by next : Clock} → by ≡ clock_of (under_of (get_or w i no_removal)) → lists w i key ≡ true
        → next ≡ clock_of (cut_dots (dots_of by) (dots_of out)) → Cutting d (i + 1) next
    cut_on b t n = folding-on no_removal f h (λ s p. n
        ∙ rw t (ap clock_of (ap₂ cut_dots (dots-of (under_of (get_or w i no_removal)) b) (dots-of s p))))

    pub cut-not : lists w i key ≡ false → Cutting d (i + 1) out
    cut-not t = folding-on no_removal f h (λ s p. p ∙ rw t)

  pub cut-end : {d : List Dot} {i : ℕ} {out : Clock} → Cutting d i out → length w ≤ i → out ≡ clock_of (cuts_for w key d)
  unfolding cuts_for
  cut-end f h = folding-end f h

  -- the same of marks on a run, whose dots are these
  abbrev pub MarksCutting : List Dot → ℕ → List Dot → Type 0
  MarksCutting d i left = Folding (λ x. x) cut_by d w i left

  module _ {d : List Dot} {i : ℕ} {left : List Dot} (f : MarksCutting d i left) (h : i < length w) where
    pub marks-on : {more : List Dot} → lists w i key ≡ true → more ≡ cut_dots (under_of (get_or w i no_removal)) left → MarksCutting d (i + 1) more
    marks-on t n = folding-on no_removal f h (λ s p. n ∙ rw t (ap (cut_dots (under_of (get_or w i no_removal))) p))

    pub marks-not : lists w i key ≡ false → MarksCutting d (i + 1) left
    marks-not t = folding-on no_removal f h (λ s p. p ∙ rw t)

  pub marks-end : {d : List Dot} {i : ℕ} {left : List Dot} → MarksCutting d i left → length w ≤ i → left ≡ cuts_for w key d
  unfolding cuts_for
  marks-end f h = folding-end f h
