-- The entries of two maps woven: what the first of them is, where one side has it alone and where both have it, and what waiting removals
-- leave of them.
use mathlib.Core.Path.{◌≡◌, refl, ap, sym, ◌∙◌}
use mathlib.Core.Bool.{not, true, false}
use mathlib.Core.List.Memᴰ
use mathlib.Core.List.{List, [], ◌∷◌, map, append-nil}
use Prim.Native.Nat.{◌<◌}
use native.Mathlib.Omega.{arith}
use borrow.Author.Tests.{lt-ltb, le-ltb, not-false}
use Rattle.listlaws.specs.First.{first_in}
use Rattle.listlaws.specs.Order.{◌∈◌}
use Rattle.listlaws.specs.Sift.{sift, those}
use Rattle.listlaws.specs.Weave.{weave}
use Rattle.listlaws.proofs.Those.{those-all}
use Rattle.listlaws.proofs.Twice.{sift-sift}
use Rattle.clock.specs.declared.Dot.{Dot}
use Rattle.clock.specs.Dots.{is_empty}
use Rattle.register.specs.declared.Value.{Value}
use Rattle.register.specs.Values.{outdone, standing, ours_left, merge_values}
use Rattle.entries.specs.declared.Entry.{Entry}
use Rattle.removals.specs.declared.Removal.{Removal}
use Rattle.entries.specs.Model.{dots_in}
use Rattle.entries.specs.Entries.{stays, run, cut_alone, merge_both, merge_entries}
use Rattle.entries.proofs.Runs.{gone-stays}
use Rattle.entries.proofs.MergeLeaves.{merge-sifted}
use Rattle.merging.specs.Coming.{woven}

module _ (mine yours : List Dot) where
  woven-nil : (l : List Entry) → woven mine yours l [] ≡ map (cut_alone yours) l
  unfolding weave
  woven-nil [] = refl
  woven-nil (e ∷ l) = refl

  pub woven-first : (e : Entry) (l m : List Entry) → ((f : Entry) → f ∈ m → e.key < f.key)
      → woven mine yours (e ∷ l) m ≡ cut_alone yours e ∷ woven mine yours l m
  unfolding weave
  woven-first e l [] h = ap (λ r. cut_alone yours e ∷ r) (sym (woven-nil l))
  woven-first e l (f ∷ m) h = rw (lt-ltb e.key f.key (h f (Memᴰ.head refl)))

  pub woven-second : (f : Entry) (l m : List Entry) → ((e : Entry) → e ∈ l → f.key < e.key)
      → woven mine yours l (f ∷ m) ≡ cut_alone mine f ∷ woven mine yours l m
  unfolding weave
  woven-second f [] m h = refl
  woven-second f (e ∷ l) m h = let k = h e (Memᴰ.head refl) in rw (le-ltb e.key f.key (omega arith), lt-ltb f.key e.key k)

  pub woven-both : (e f : Entry) (l m : List Entry) → e.key ≡ f.key → woven mine yours (e ∷ l) (f ∷ m)
      ≡ merge_both mine yours e f ∷ woven mine yours l m
  unfolding weave
  woven-both e f l m q = rw (le-ltb e.key f.key (omega arith), le-ltb f.key e.key (omega arith))

-- a register merged with none
pub merge_none : (l : List Value) → merge_values l [] ≡ l
unfolding merge_values ours_left sift outdone first_in
merge_none l = append-nil (those (standing false []) l) ∙ those-all (standing false []) l (λ v i. refl)

pub none-merge : (l : List Value) → merge_values [] l ≡ l
unfolding merge_values ours_left sift outdone first_in
none-merge l = those-all (standing true []) l (λ v i. refl)

-- what is left of a merge's entries is what is left of them before any goes
pub merged-woven : (w u : List Removal) (mine yours : List Dot) (l m : List Entry)
    → sift stays (λ e. run w (run u e)) (merge_entries mine yours l m) ≡ sift stays (λ e. run w (run u e)) (woven mine yours l m)
merged-woven w u mine yours l m =
    ap (sift stays (λ e. run w (run u e))) (merge-sifted mine yours l m)
    ∙ sift-sift stays (λ e. e) (λ e. run w (run u e)) (woven mine yours l m)
    (λ e i t. ap not (gone-stays w (run u e) (gone-stays u e (not-false (is_empty (dots_in e)) t))))
