-- What a merge leaves, once over the level: those of all entries, cut or merged, that stay.
use mathlib.Core.Path.{◌≡◌, refl, ap, ◌∙◌}
use mathlib.Core.Bool.{Bool, true, false, not, cond}
use mathlib.Core.List.{List, [], ◌∷◌, flatten}
use Rattle.listlaws.specs.Sift.{sift, those}
use Rattle.listlaws.specs.Weave.{weave}
use Rattle.listlaws.specs.Order.{by}
use Rattle.listlaws.proofs.Weaves.{weave-map, flatten-those}
use Rattle.clock.specs.declared.Dot.{Dot}
use Rattle.clock.specs.Dots.{is_empty, covers}
use Rattle.clock.proofs.Covers.{empty-covered}
use Rattle.rules.specs.OneEntry.{keep_dots, Holds}
use Rattle.levels.specs.MapOver.{EntryOf, stays_of, cut_alone_of, alone_of, merge_both_of, together_of, merge_entries_of}

module _ {A O : Type 0} (r : Holds A O) where
  left-sifted : (b : Bool) (e : EntryOf A) → stays_of e ≡ not b → cond b [] (e ∷ []) ≡ those stays_of (e ∷ [])
  unfolding sift
  left-sifted true e t = rw t
  left-sifted false e t = rw t

  alone-sifted : (other : List Dot) (e : EntryOf A) → alone_of r other e ≡ those stays_of (cut_alone_of r other e ∷ [])
  unfolding alone_of cut_alone_of
  alone-sifted other e = left-sifted (covers other e.dots) (cut_alone_of r other e) (ap not (empty-covered other e.dots))

  together-sifted : (ours theirs : List Dot) (e f : EntryOf A) → together_of r ours theirs e f ≡ those stays_of (merge_both_of r ours theirs e f ∷ [])
  unfolding together_of merge_both_of
  together-sifted ours theirs e f = left-sifted (is_empty (keep_dots ours theirs e.dots f.dots)) (merge_both_of r ours theirs e f) refl

  -- the entries of two maps, each cut or merged, before any goes
  abbrev pub woven_of : List Dot → List Dot → List (EntryOf A) → List (EntryOf A) → List (EntryOf A)
  woven_of ours theirs l m = weave (by (λ e. e.key)) (cut_alone_of r theirs) (cut_alone_of r ours) (merge_both_of r ours theirs) l m

  pub merge-sifted : (ours theirs : List Dot) (l m : List (EntryOf A)) → merge_entries_of r ours theirs l m
      ≡ those stays_of (woven_of ours theirs l m)
  unfolding merge_entries_of
  merge-sifted ours theirs l m =
      (λ i. flatten (weave (by (λ e. e.key)) (λ e. alone-sifted theirs e i) (λ e. alone-sifted ours e i)
      (λ e f. together-sifted ours theirs e f i) l m))
      ∙ ap flatten (weave-map (by (λ e. e.key)) (cut_alone_of r theirs) (cut_alone_of r ours) (merge_both_of r ours theirs)
      (λ e. those stays_of (e ∷ [])) l m)
      ∙ flatten-those stays_of (woven_of ours theirs l m)
