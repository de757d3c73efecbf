-- A key's entry after an update's put and after a cut, by its clock and values.
use mathlib.Core.Path.{◌≡◌, refl, ap, sym, ◌∙◌}
use mathlib.Core.Bool.{Bool, true, false, not, cond}
use mathlib.Core.Logic.{⊎_elim}
use mathlib.Core.List.Memᴰ
use mathlib.Core.List.{List, [], ◌∷◌}
use Prim.Native.Nat.{ℕ, ◌<◌, ◌≤◌}
use native.Mathlib.Omega.{arith}
use borrow.Author.Tests.{eqb-true, eqb-false, ne_eqb, lt-ltb, ltb-true, ltb-false}
use lib.Dec.{eqb, ltb}
use Rattle.listlaws.specs.First.{first_in}
use Rattle.listlaws.specs.Fold.{fold}
use Rattle.listlaws.specs.Sift.{those}
use Rattle.listlaws.specs.Order.{◌∈◌, Ascending, by}
use Rattle.listlaws.proofs.Firsts.{first-cases, first-none}
use Rattle.listlaws.proofs.Ranks.{first_member}
use Rattle.listlaws.proofs.Those.{those-holds}
use Rattle.clock.specs.declared.Dot.{Dot}
use Rattle.clock.specs.Dots.{is_empty, counter_in, covers}
use Rattle.clock.proofs.Empties.{empty-means}
use Rattle.removals.specs.declared.Removal.{Removal}
use Rattle.entries.specs.declared.Entry.{Entry}
use Rattle.entries.specs.declared.Update.{Update}
use Rattle.entries.specs.Model.{dots_in, values_in, entry_as}
use Rattle.entries.specs.Entries.{cut_entry, remove_from, run, aside, put_entry, entry_at, put_entries}
use Rattle.entries.proofs.Packs.{dots-in, values-in}
use Rattle.entries.proofs.Cuts.{Whole, cut-dots, cut-values}
use Rattle.entries.proofs.Runs.{from_key}
use Rattle.entries.proofs.Puts.{put-every}
use Rattle.entries.proofs.ByKey.{or_new_entry}
use Rattle.entries.proofs.EntriesValid.{put-key, at_key}
use Rattle.maplaws.specs.Among.{Exactly}
use Rattle.scan.proofs.Eachs.{decide}
use Rattle.readiness.specs.Ready.{put_of}
use Rattle.alikelaws.specs.Honest.{Names}
use Rattle.alikelaws.specs.Picture.{AtKey}
use Rattle.alikelaws.proofs.Keys.{cut_at, cut-gone}

pub run-key : (ws : List Removal) (e : Entry) → (run ws e).key ≡ e.key
unfolding fold
run-key [] e = refl
run-key (w ∷ ws) e = run-key ws (remove_from w e) ∙ from_key w e

-- the entry of a key that stands among the entries, and of one that does not
pub at-member : {l : List Entry} → Ascending (by (λ e. e.key)) l → (k : ℕ) (e : Entry) → e ∈ l → e.key ≡ k → entry_at k l ≡ e
unfolding entry_at
at-member {l} a k e i q =
    ap (λ n. first_in (λ y. eqb y.key n) (λ x. x) (entry_as k [] []) l) (sym q) ∙ first_member (λ x. x.key) (λ x. x) (entry_as k [] []) a i

pub at_none : (l : List Entry) (k : ℕ) → ((e : Entry) → e ∈ l → e.key ≡ k → ⊥) → entry_at k l ≡ entry_as k [] []
unfolding entry_at
at_none l k f = first-none (λ e. eqb e.key k) (λ e. e) (entry_as k [] []) l (λ e i. ne_eqb e.key k (f e i))

-- an update's put: its key's entry takes it, and every other stays
module _ (u : Update) {l : List Entry} (a : Ascending (by (λ e. e.key)) l) (b : Ascending (by (λ e. e.key)) (put_entries u l)) where
  pub put-own : entry_at u.key (put_entries u l) ≡ put_entry u (entry_at u.key l)
  unfolding put_entries
  put-own =
      at-member b u.key (put_entry u (entry_at u.key l))
      (Memᴰ.append_right (those (aside true u.key) l) (Memᴰ.head refl))
      (put-key u (entry_at u.key l) ∙ at_key u.key l)

  -- an entry of another key stands among them
  kept : (e : Entry) → e ∈ l → (e.key ≡ u.key → ⊥) → e ∈ put_entries u l
  unfolding put_entries
  kept e i n =
      decide (ltb e.key u.key)
      (λ t. Memᴰ.append_left (put_entry u (entry_at u.key l) ∷ those (aside false u.key) l) (those-holds (aside true u.key) i t))
      (λ t. Memᴰ.append_right (those (aside true u.key) l) (Memᴰ.tail (those-holds (aside false u.key) i
      (lt-ltb u.key e.key (above (ltb-false e.key u.key t))))))
    where
      above : u.key ≤ e.key → u.key < e.key
      above g = decide (ltb u.key e.key) (λ s. ltb-true u.key e.key s)
          (λ s. absurd (n (omega (arith, g, ltb-false u.key e.key s))))

  pub put_other : (k : ℕ) → (u.key ≡ k → ⊥) → entry_at k (put_entries u l) ≡ entry_at k l
  put_other k n =
      ⊎_elim
      (λ h. let q = eqb-true h.found.key k h.passes in
      at-member b k h.found (kept h.found h.stands (λ z. n (sym z ∙ q))) q ∙ sym (at-member a k h.found h.stands q))
      (λ g. at_none (put_entries u l) k (put-every (λ e. e.key ≡ k → ⊥) u l (λ e i. eqb-false e.key k (g e i))
      (λ z. n (sym (put-key u (entry_at u.key l) ∙ at_key u.key l) ∙ z)))
      ∙ sym (at_none l k (λ e i. eqb-false e.key k (g e i))))
      (first-cases (λ e. eqb e.key k) (λ e. e) (entry_as k [] []) l)

-- what a key has after a cut of its entry
module _ {Up : Update → Type 0} {Sp Tp : Dot → Type 0} (by : List Dot)
    (e : (d : Dot) → Exactly (Tp d) (Sp d × (counter_in by d.actor < d.counter)))
    (closed : (u : Update) → Up u → Names by u → covers by (put_of u) ≡ true) where
  abbrev Has : Entry → Type 0
  Has x = AtKey Up Tp (dots_in x) (values_in x)

  pub entry-cut : (x : Entry) → Whole x → AtKey Up Sp (dots_in x) (values_in x) → Has (or_new_entry (cut_entry by x))
  unfolding or_new_entry
  entry-cut x w a = go (is_empty (dots_in (cut_entry by x))) refl
    where
      go : (b : Bool) → is_empty (dots_in (cut_entry by x)) ≡ b → Has (cond (not b) (cut_entry by x) (entry_as (cut_entry by x).key [] []))
      go true t =
          rw (dots-in (cut_entry by x).key [] [], values-in (cut_entry by x).key [] [])
          (cut-gone by e closed w.clock a (sym (cut-dots by x) ∙ empty-means (dots_in (cut_entry by x)) t))
      go false t = rw (cut-dots by x, cut-values by x) (cut_at by e closed w.clock a)
