-- A tally with one record more: what it counts is new, or was counted, or is of another group (`tally-step`).
use mathlib.Core.Path.{◌≡◌, refl, ap, sym, ◌∙◌}
use mathlib.Core.Bool.{Bool, true, false, cond, ◌&&◌}
use mathlib.Core.Logic.{⊎_elim}
use mathlib.Core.List.Memᴰ
use mathlib.Core.List.{List, [], ◌∷◌, ◌++◌}
use Prim.Native.Nat.{ℕ, ◌+◌, ◌<◌}
use native.Mathlib.Omega.{arith}
use lib.Dec.{eqb}
use Rattle.listlaws.specs.Order.{◌∈◌}
use Rattle.listlaws.specs.First.{first_in, some}
use Rattle.listlaws.proofs.Orders.{apart}
use Rattle.listlaws.proofs.Somes.{false-some}
use Rattle.records.specs.declared.Record.{Record}
use Rattle.scan.specs.Each.{count_after}
use Rattle.scan.specs.Limits.{fresh, tally}
use Rattle.scan.specs.Scanned.{tally_on}
use Rattle.scan.proofs.Eachs.{decide, count-snoc}

module _ (group : Record → Bool) (f : Record → ℕ) where
  pub tally-snoc : (l : List Record) (r : Record) → tally group f (l ++ (r ∷ [])) ≡ cond (fresh group f l r) (tally group f l + 1) (tally group f l)
  unfolding tally
  tally-snoc l r = count-snoc (fresh group f) l r

  -- a record of another group
  pub tally-other : (l : List Record) (r : Record) → group r ≡ false → tally group f (l ++ (r ∷ [])) ≡ tally group f l
  tally-other l r g = tally-snoc l r ∙ rw g

  -- a record of the group, that gives what none in the group gave
  pub tally-new : (l : List Record) (r : Record) → group r ≡ true → some (λ s. group s && eqb (f s) (f r)) l ≡ false
      → tally group f (l ++ (r ∷ [])) ≡ tally group f l + 1
  tally-new l r g e = tally-snoc l r ∙ rw (g, e)

  -- a record of the group, that gives what one gave
  pub tally-old : (l : List Record) (r : Record) → some (λ s. group s && eqb (f s) (f r)) l ≡ true → tally group f (l ++ (r ∷ [])) ≡ tally group f l
  tally-old l r e = tally-snoc l r ∙ rw e (go (group r))
    where
      go : (b : Bool) → cond (b && false) (tally group f l + 1) (tally group f l) ≡ tally group f l
      go true = refl
      go false = refl

  none_after : (seen l : List Record) → ((s : Record) → s ∈ l → group s ≡ false) → count_after (fresh group f) seen l ≡ 0
  unfolding count_after
  none_after seen [] h = refl
  none_after seen (x ∷ l) h = rw (h x (Memᴰ.head refl)) (none_after (seen ++ (x ∷ [])) l (λ s i. h s (Memᴰ.tail i)))

  pub tally-none : (l : List Record) → ((s : Record) → s ∈ l → group s ≡ false) → tally group f l ≡ 0
  unfolding tally
  tally-none l h = none_after [] l h

  some_after : (seen l : List Record) → ((s : Record) → s ∈ seen → group s ≡ false) → some group l ≡ true → 0 < count_after (fresh group f) seen l
  unfolding count_after first_in
  some_after seen [] h t = apart (sym t)
  some_after seen (x ∷ l) h t =
      decide (group x)
      (λ g. rw (g, false-some (λ s. group s && eqb (f s) (f x)) seen apart_from) (omega arith))
      (λ g. rw g (some_after (seen ++ (x ∷ [])) l (further g) (rw g at t)))
    where
      apart_from : (s : Record) → s ∈ seen → (group s && eqb (f s) (f x)) ≡ false
      apart_from s i = rw (h s i)

      further : group x ≡ false → (s : Record) → s ∈ (seen ++ (x ∷ [])) → group s ≡ false
      further g s i = ⊎_elim (λ j. h s j) (λ j. ap group (Memᴰ.eq_of_singleton j) ∙ g) (Memᴰ.append_cases seen i)

  -- where one record is in the group, something is counted
  pub tally-some : (l : List Record) → some group l ≡ true → 0 < tally group f l
  unfolding tally
  tally-some l t = some_after [] l (λ s i. absurd (Memᴰ.not-nil i)) t

  -- a count goes on by whether the records before are of the group, and one of them gave the same
  pub tally-step : (l : List Record) (r : Record) (n : ℕ) (grouped same : Bool) → group r ≡ true
      → (grouped ≡ false → (s : Record) → s ∈ l → group s ≡ false)
      → (grouped ≡ true → (n ≡ tally group f l) × (some (λ s. group s && eqb (f s) (f r)) l ≡ same))
      → tally_on n grouped same ≡ tally group f (l ++ (r ∷ []))
  tally-step l r n false same g a b =
      let none = tally-none l (a refl) in
      sym (tally-new l r g (false-some (λ s. group s && eqb (f s) (f r)) l (λ s i. rw (a refl s i))) ∙ rw none)
  tally-step l r n true true g a b = (b refl).0 ∙ sym (tally-old l r (b refl).1)
  tally-step l r n true false g a b = rw (b refl).0 (sym (tally-new l r g (b refl).1))
