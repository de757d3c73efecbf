-- What stands in a register after a cut, a put or a merge, for anything that can be said of a value.
use mathlib.Core.Path.{◌≡◌, refl, ap, sym, ◌∙◌}
use mathlib.Core.Bool.{Bool, true, false, not, cond}
use mathlib.Core.Logic.{⊎_elim}
use mathlib.Core.List.Memᴰ
use mathlib.Core.List.{List, [], ◌∷◌, ◌++◌}
use borrow.Author.Tests.{not-true}
use Rattle.listlaws.specs.Order.{◌∈◌}
use Rattle.listlaws.proofs.Pads.{take-pad}
use Rattle.listlaws.proofs.Those.{sift-means, those-means}
use Rattle.clock.specs.declared.Dot.{Dot}
use Rattle.limits.specs.Limits.{dot_limit}
use Rattle.clock.specs.Dots.{no_dot, dots_of, is_empty, cut_dots}
use Rattle.register.specs.declared.Value.{Value}
use Rattle.register.specs.Values.{alive, cut_value, cut_values, outdone, standing, remaining, put_values, ours_left, merge_values}

module _ (P : Value → Type 0) where
  -- a cut leaves the cuts of those values that keep a dot
  pub cut-each : (c : List Dot) (l : List Value) → ((v : Value) → v ∈ l → is_empty (cut_dots c (dots_of v.clock)) ≡ false → P (cut_value c v))
      → (z : Value) → z ∈ cut_values c l → P z
  unfolding cut_values
  cut-each c l f z i =
      let r = sift-means alive (cut_value c) l i in
      let kept : not (is_empty (dots_of (cut_value c r.source).clock)) ≡ true = ap alive (sym r.changed) ∙ r.passes in
      rw r.changed (f r.source r.stands (ap is_empty (sym (take-pad no_dot dot_limit (cut_dots c (dots_of r.source.clock))))
      ∙ not-true _ kept))

  -- a put leaves values that stood there, and the put's if its clock is not empty
  pub put-each : (l : List Value) (put : Value) → ((v : Value) → v ∈ l → P v) → (is_empty (dots_of put.clock) ≡ false → P put) → (z : Value)
      → z ∈ put_values l put → P z
  unfolding put_values remaining
  put-each l put f g z i = go (is_empty (dots_of put.clock)) (outdone false (remaining l put) put) refl i
    where
      rest : z ∈ remaining l put → P z
      rest j = f z (those-means (standing true (put ∷ [])) l j).0

      go : (b c : Bool) → is_empty (dots_of put.clock) ≡ b → z ∈ cond b l (cond c (remaining l put) (remaining l put ++ (put ∷ []))) → P z
      go true c e j = f z j
      go false true e j = rest j
      go false false e j =
          ⊎_elim (λ k. rest k) (λ k. let same : z ≡ put = Memᴰ.eq_of_singleton k in rw same (g e)) (Memᴰ.append_cases (remaining l put) j)

  -- a merge leaves values of both
  pub merge-each : (l m : List Value) → ((v : Value) → v ∈ l → P v) → ((v : Value) → v ∈ m → P v) → (z : Value) → z ∈ merge_values l m → P z
  unfolding merge_values ours_left
  merge-each l m f g z i =
      ⊎_elim
      (λ j. f z (those-means (standing false m) l j).0)
      (λ j. g z (those-means (standing true (ours_left l m)) m j).0)
      (Memᴰ.append_cases (ours_left l m) i)
