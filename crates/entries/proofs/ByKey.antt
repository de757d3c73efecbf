-- After a change of all entries that keeps their keys, a key's entry depends only on that key's old entry: `entry-after`.
use mathlib.Core.Path.{◌≡◌, refl, ap, sym, ◌∙◌}
use mathlib.Core.Bool.{Bool, true, false, not, cond}
use mathlib.Core.Logic.{⊎_elim}
use mathlib.Core.List.{List, []}
use Prim.Native.Nat.{ℕ}
use borrow.Author.Tests.{eqb-true, eqb-false, ne_eqb}
use lib.Dec.{eqb}
use Rattle.listlaws.specs.First.{first_in}
use Rattle.listlaws.specs.Sift.{sift}
use Rattle.listlaws.specs.Order.{◌∈◌, Ascending, by}
use Rattle.listlaws.proofs.Orders.{apart, by-strict}
use Rattle.listlaws.proofs.Levels.{map-ascends}
use Rattle.listlaws.proofs.Ranks.{by-steady, level_by, first_member}
use Rattle.listlaws.proofs.Firsts.{first-cases, first-none}
use Rattle.listlaws.proofs.Those.{sift-means, sift-holds, those-ascends}
use Rattle.listlaws.proofs.Twice.{sift-map}
use Rattle.clock.specs.Dots.{is_empty}
use Rattle.removals.specs.declared.Removal.{Removal}
use Rattle.entries.specs.declared.Entry.{Entry}
use Rattle.entries.specs.Model.{dots_in, entry_as}
use Rattle.entries.specs.Entries.{stays, remove_from, remove_entries, entry_at}
use Rattle.entries.proofs.Packs.{dots-in}
use Rattle.entries.proofs.Runs.{from_key, gone-from}

-- an entry, or a new one where it was emptied
unfoldable pub or_new_entry : Entry → Entry
or_new_entry e = cond (stays e) e (entry_as e.key [] [])

new-gone : (k : ℕ) → is_empty (dots_in (entry_as k [] [])) ≡ true
new-gone k = ap is_empty (dots-in k [] []) ∙ none
  where
    none : is_empty [] ≡ true
    none = unfold is_empty in refl

module _ (f : Entry → Entry) (key : (e : Entry) → (f e).key ≡ e.key) (gone : (e : Entry) → is_empty (dots_in e) ≡ true
    → is_empty (dots_in (f e)) ≡ true) where
  pub changed-ascends : {l : List Entry} → Ascending (by (λ e. e.key)) l → Ascending (by (λ e. e.key)) (sift stays f l)
  changed-ascends {l} a =
      rw (← sift-map stays (λ e. e) f l)
      (those-ascends stays (map-ascends (by-strict (λ e. e.key)) (by-steady (λ e. e.key)) f (λ e. level_by (λ x. x.key) e (f e) (sym (key e))) a))

  pub entry-after : {l : List Entry} → Ascending (by (λ e. e.key)) l → (k : ℕ) → entry_at k (sift stays f l) ≡ or_new_entry (f (entry_at k l))
  unfolding entry_at or_new_entry
  entry-after {l} a k =
      ⊎_elim
      (λ h. rw h.given (held h.found h.stands (eqb-true h.found.key k h.passes) (stays (f h.found)) refl))
      (λ g. rw (first-none has (λ e. e) new l g, ap not (gone new (new-gone k))) (absent new refl (λ e i q w. eqb-false e.key k (g e i) q)))
      (first-cases has (λ e. e) new l)
    where
      has : Entry → Bool
      has e = eqb e.key k

      new : Entry
      new = entry_as k [] []

      -- a key's one entry
      one : {s : List Entry} → Ascending (by (λ e. e.key)) s → (e : Entry) → e ∈ s → e.key ≡ k → first_in has (λ x. x) new s ≡ e
      one {s} b e i q = ap (λ n. first_in (λ y. eqb y.key n) (λ x. x) new s) (sym q) ∙ first_member (λ x. x.key) (λ x. x) new b i

      -- nothing of the key is left
      absent : (e : Entry) → e.key ≡ k → ((x : Entry) → x ∈ l → x.key ≡ k → stays (f x) ≡ true → ⊥)
          → first_in has (λ x. x) new (sift stays f l) ≡ entry_as (f e).key [] []
      absent e q g =
          first-none has (λ x. x) new (sift stays f l)
          (λ z j. let s = sift-means stays f l j in
          ne_eqb z.key k (λ w. g s.source s.stands (sym (key s.source) ∙ ap (λ x. x.key) (sym s.changed) ∙ w)
          (ap stays (sym s.changed) ∙ s.passes)))
          ∙ ap (λ n. entry_as n [] []) (sym (key e ∙ q))

      -- the key has an entry
      held : (e : Entry) → e ∈ l → e.key ≡ k → (b : Bool) → stays (f e) ≡ b
          → first_in has (λ x. x) new (sift stays f l) ≡ cond b (f e) (entry_as (f e).key [] [])
      held e i q true t = one (changed-ascends a) (f e) (sift-holds stays f i t) (key e ∙ q)
      held e i q false t = absent e q (λ x j w u. apart (sym u ∙ ap (λ y. stays (f y)) (sym (one a x j w) ∙ one a e i q) ∙ t))

-- "After a removal, a key's entry depends only on that key's old entry, the clock, and whether it was listed."
pub removed-entry : (r : Removal) {l : List Entry} → Ascending (by (λ e. e.key)) l → (k : ℕ)
    → entry_at k (remove_entries r l) ≡ or_new_entry (remove_from r (entry_at k l))
unfolding remove_entries
removed-entry r a k = entry-after (remove_from r) (from_key r) (gone-from r) a k
