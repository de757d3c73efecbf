-- A loop that puts removals in order, one after the other, where something is left of them.
use mathlib.Core.Path.{◌≡◌, refl, ap, sym, ◌∙◌}
use mathlib.Core.Bool.{true, false}
use mathlib.Core.List.{List, [], ◌∷◌}
use Prim.Native.Nat.{ℕ, ◌+◌, ◌≤◌, ◌<◌}
use native.Mathlib.Numerals.{add-one}
use native.Mathlib.Omega.{arith}
use borrow.Author.Tests.{eq-eqb, ne_eqb}
use lib.ListN.{length, drop, get_or}
use lib.Seq.{drop-cons}
use Rattle.listlaws.specs.Fold.{fold}
use Rattle.listlaws.proofs.Rests.{drop-end}
use Rattle.clock.specs.declared.Dot.{Dot}
use Rattle.clock.specs.Dots.{is_empty}
use Rattle.planned.specs.declared.Held.{Held}
use Rattle.planned.specs.declared.Ordered.{Ordered}
use Rattle.planned.specs.Seats.{insert_clock, gather_all}
use Rattle.planned.specs.Left.{left_in, Left, Lined}
use Rattle.planned.proofs.Uniting.{gather-skip, gather-more}

-- something is left of a clock, or nothing
module _ {s : List ℕ} {x : Held} {d : List Dot} (h : Left s x d) {n : ℕ} (e : n ≡ length (left_in s x)) where
  pub left-some : 0 < n → is_empty d ≡ false
  unfolding is_empty
  left-some k = ne_eqb (length d) 0 (λ z. omega (arith, e, ap length h.dots))

  pub left-none : n ≤ 0 → is_empty d ≡ true
  unfolding is_empty
  left-none k = eq-eqb (length d) 0 (omega (arith, e, ap length h.dots))

-- i clocks are passed
pub record Gathers (s : List ℕ) (m : List (List Dot)) (i : ℕ) (all : Ordered) : Type 0 where
  pub done : List (List Dot)
  pub lined : Lined s all done
  pub left : gather_all done (drop i m) ≡ gather_all [] m

module _ {s : List ℕ} {m : List (List Dot)} where
  pub gathers-start : {all : Ordered} → all.len ≡ 0 → Gathers s m 0 all
  gathers-start e = record { done = []; lined = record { count = e; few = omega arith; each = λ j h. absurd (omega arith) }; left = refl }

  module _ {i : ℕ} {all : Ordered} (g : Gathers s m i all) where
    module _ (h : i < length m) where
      next-clock : drop i m ≡ get_or m i [] ∷ drop (i + 1) m
      next-clock = rw add-one (drop-cons m i [] h)

      pub gathers-on : is_empty (get_or m i []) ≡ false → {out : Ordered} → Lined s out (insert_clock g.done (get_or m i []))
          → Gathers s m (i + 1) out
      gathers-on t k = record {
        done = insert_clock g.done (get_or m i []);
        lined = k;
        left = sym (gather-more g.done (drop (i + 1) m) (get_or m i []) t) ∙ ap (gather_all g.done) (sym next-clock) ∙ g.left;
      }

      pub gathers-not : is_empty (get_or m i []) ≡ true → Gathers s m (i + 1) all
      gathers-not t = record {
        done = g.done;
        lined = g.lined;
        left = sym (gather-skip g.done (drop (i + 1) m) (get_or m i []) t) ∙ ap (gather_all g.done) (sym next-clock) ∙ g.left;
      }

    pub gathers-end : length m ≤ i → Lined s all (gather_all [] m)
    unfolding gather_all fold
    gathers-end h = rw (sym g.left ∙ ap (gather_all g.done) (drop-end m i h) ∙ none g.done) g.lined
      where
        none : (l : List (List Dot)) → gather_all l [] ≡ l
        none l = refl
