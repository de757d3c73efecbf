-- What the waiting removals leave of an entry: its clock and each value cut by those that list its key; and whether something is left.
use mathlib.Core.Path.{◌≡◌, refl, ap, sym, ◌∙◌}
use mathlib.Core.Bool.{Bool, true, false, not, cond}
use mathlib.Core.List.{List, [], ◌∷◌}
use Prim.Native.Nat.{ℕ}
use lib.ListN.{length}
use borrow.Author.Tests.{not-true, not-false, eq-eqb, ne_eqb}
use Rattle.listlaws.specs.Fold.{fold}
use Rattle.listlaws.specs.Order.{◌∈◌}
use Rattle.listlaws.specs.Sift.{sift}
use Rattle.listlaws.proofs.Those.{sift-means}
use Rattle.listlaws.proofs.Twice.{sift-same, sift-sift}
use Rattle.clock.specs.declared.Dot.{Dot}
use Rattle.clock.specs.Dots.{dots_of, clock_of, is_empty, cut_dots}
use Rattle.clock.specs.Lawful.{Lawful}
use Rattle.clock.proofs.Packs.{dots-of}
use Rattle.clock.proofs.Cuts.{lawful-cut}
use Rattle.register.specs.declared.Value.{Value}
use Rattle.register.specs.Values.{alive, cut_value, cut_values}
use Rattle.register.proofs.Cuts.{dots-cut}
use Rattle.register.proofs.Kept.{cut-each}
use Rattle.removals.specs.declared.Removal.{Removal}
use Rattle.entries.specs.Model.{entry_as}
use Rattle.removals.specs.Model.{under_of, listed_in}
use Rattle.removals.specs.Waits.{listed}
use Rattle.entries.specs.Entries.{run}
use Rattle.entries.specs.Valid.{ValidValue}
use Rattle.entries.proofs.Cuts.{valid-cut-value}
use Rattle.queued.specs.Queue.{cuts_for}
use Rattle.queued.proofs.Ran.{cut_for, empty-cuts, run-listed}
use Rattle.leaving.specs.Left.{value_left}

lawful-cuts : (w : List Removal) (key : ℕ) (x : List Dot) → Lawful x → Lawful (cuts_for w key x)
unfolding cuts_for fold
lawful-cuts [] key x h = h
lawful-cuts (r ∷ w) key x h = lawful-cuts w key _ (go (listed (listed_in r) key))
  where
    go : (b : Bool) → Lawful (cond b (cut_dots (under_of r) x) x)
    go true = lawful-cut (under_of r) h
    go false = h

-- a value that is cut
module _ (w : List Removal) (key : ℕ) where
  dots-cuts : (v : Value) → dots_of (cut_for w key v).clock ≡ cuts_for w key (dots_of v.clock)
  dots-cuts v = dots-of (cuts_for w key (dots_of v.clock)) refl

  dead-cuts : (v : Value) → alive v ≡ false → alive (cut_for w key v) ≡ false
  dead-cuts v t = ap not (ap is_empty (dots-cuts v) ∙ empty-cuts w key (dots_of v.clock) (not-false _ t))

  valid-cuts : (l : List Value) → ((v : Value) → v ∈ l → ValidValue v) → (v : Value) → v ∈ sift alive (cut_for w key) l → ValidValue v
  valid-cuts l f v i =
      let r = sift-means alive (cut_for w key) l i in
      let e = ap (λ (x : Value). dots_of x.clock) r.changed ∙ dots-cuts r.source in
      record {
        laid = r.changed ∙ (λ j. record { clock = clock_of (sym e j); value = sym (ap (λ (x : Value). x.value) r.changed) j });
        clock = rw e (lawful-cuts w key _ (f r.source r.stands).clock);
        some = not-true (is_empty (dots_of v.clock)) r.passes;
      }

module _ (ours theirs : List Removal) (key : ℕ) (gone : List Dot) where
  value-thrice : (v : Value) → cut_for ours key (cut_for theirs key (cut_value gone v)) ≡ value_left ours theirs key gone v
  value-thrice v = ap (λ x. record { clock = clock_of (cuts_for ours key x); value = v.value })
      (dots-cuts theirs key (cut_value gone v) ∙ ap (cuts_for theirs key) (dots-cut gone v))

  values-thrice : (l : List Value) → sift alive (cut_for ours key) (sift alive (cut_for theirs key) (cut_values gone l)) ≡ sift alive
      (value_left ours theirs key gone) l
  unfolding cut_values
  values-thrice l =
      ap (sift alive (cut_for ours key)) (sift-sift alive (cut_value gone) (cut_for theirs key) l
      (λ v i t. dead-cuts theirs key (cut_value gone v) t))
      ∙ sift-sift alive (λ v. cut_for theirs key (cut_value gone v)) (cut_for ours key) l
      (λ v i t. dead-cuts ours key (cut_for theirs key (cut_value gone v)) t)
      ∙ sift-same alive _ _ l (λ v i. value-thrice v)

  pub fated : (keep : List Dot) (l : List Value) → ((v : Value) → v ∈ l → ValidValue v)
      → run ours (run theirs (entry_as key keep (cut_values gone l))) ≡ entry_as key (cuts_for ours key (cuts_for theirs key keep))
      (sift alive (value_left ours theirs key gone) l)
  fated keep l f =
      let valid = cut-each ValidValue gone l (λ v i n. valid-cut-value gone v (f v i) n) in
      ap (run ours) (run-listed theirs key keep (cut_values gone l) valid)
      ∙ run-listed ours key (cuts_for theirs key keep) (sift alive (cut_for theirs key) (cut_values gone l))
      (valid-cuts theirs key (cut_values gone l) valid)
      ∙ ap (entry_as key (cuts_for ours key (cuts_for theirs key keep))) (values-thrice l)

-- something, or nothing, is left of a clock, by how many dots it has
pub some_left : (d : List Dot) {n : ℕ} → n ≡ length d → (n ≡ 0 → ⊥) → is_empty d ≡ false
unfolding is_empty
some_left d e h = ne_eqb (length d) 0 (λ z. h (e ∙ z))

pub none_left : (d : List Dot) {n : ℕ} → n ≡ length d → n ≡ 0 → is_empty d ≡ true
unfolding is_empty
none_left d e h = eq-eqb (length d) 0 (sym e ∙ h)
