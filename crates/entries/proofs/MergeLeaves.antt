-- What a merge leaves: an entry on one side only goes exactly when the cut would empty its clock, so that nothing else need be asked.
use mathlib.Core.Path.{◌≡◌, ap, ◌∙◌}
use mathlib.Core.Bool.{Bool, true, false, not, cond}
use mathlib.Core.List.{List, [], ◌∷◌, flatten}
use borrow.Author.Tests.{not-true}
use Rattle.listlaws.specs.Sift.{sift, those}
use Rattle.listlaws.specs.Weave.{weave}
use Rattle.listlaws.specs.Order.{by}
use Rattle.listlaws.proofs.Those.{those-again}
use Rattle.listlaws.proofs.Weaves.{weave-map, flatten-those}
use Rattle.clock.specs.declared.Dot.{Dot}
use Rattle.clock.specs.Dots.{is_empty, covers, cut_dots, join_dots}
use Rattle.clock.proofs.Covers.{empty-covered}
use Rattle.register.specs.Values.{cut_values, merge_values}
use Rattle.entries.specs.declared.Entry.{Entry}
use Rattle.entries.specs.Model.{dots_in, values_in}
use Rattle.entries.specs.Entries.{stays, cut_alone, alone, keep_dots, merge_both, together, merge_entries}
use Rattle.entries.specs.Valid.{ValidEntry}
use Rattle.entries.proofs.Packs.{dots-in}

-- an entry alone stays exactly where the other map's clock doesn't cover it
stays-alone : (other : List Dot) (e : Entry) → stays (cut_alone other e) ≡ not (covers other (dots_in e))
unfolding cut_alone
stays-alone other e =
    let left = cut_dots other (dots_in e) in
    ap (λ d. not (is_empty d)) (dots-in e.key left (cut_values (cut_dots left other) (values_in e))) ∙ ap not (empty-covered other (dots_in e))

-- an end theorem: so that, where it doesn't cover the entry clock of a valid map, the cut leaves a dot
pub cut-leaves : {seen : List Dot} {e : Entry} → ValidEntry seen e → (other : List Dot) → covers other (dots_in e) ≡ false
    → is_empty (dots_in (cut_alone other e)) ≡ false
cut-leaves {e = e} v other n = not-true _ (stays-alone other e ∙ ap not n)

-- one of both stays where something is kept
stays-both : (ours theirs : List Dot) (e f : Entry) → stays (merge_both ours theirs e f)
    ≡ not (is_empty (keep_dots ours theirs (dots_in e) (dots_in f)))
unfolding merge_both
stays-both ours theirs e f =
    let keep = keep_dots ours theirs (dots_in e) (dots_in f) in
    ap (λ d. not (is_empty d)) (dots-in e.key keep (cut_values (cut_dots keep (join_dots (dots_in e) (dots_in f)))
    (merge_values (values_in e) (values_in f))))

-- what is left of it is the one entry, if that stays
left-sifted : (b : Bool) (e : Entry) → stays e ≡ not b → cond b [] (e ∷ []) ≡ those stays (e ∷ [])
unfolding sift
left-sifted true e t = rw t
left-sifted false e t = rw t

alone-sifted : (other : List Dot) (e : Entry) → alone other e ≡ those stays (cut_alone other e ∷ [])
unfolding alone
alone-sifted other e = left-sifted (covers other (dots_in e)) (cut_alone other e) (stays-alone other e)

together-sifted : (ours theirs : List Dot) (e f : Entry) → together ours theirs e f ≡ those stays (merge_both ours theirs e f ∷ [])
unfolding together
together-sifted ours theirs e f = left-sifted (is_empty (keep_dots ours theirs (dots_in e) (dots_in f))) (merge_both ours theirs e f)
    (stays-both ours theirs e f)

-- the entries of two maps, each cut or merged, before any goes
abbrev pub woven_entries : List Dot → List Dot → List Entry → List Entry → List Entry
woven_entries ours theirs l m = weave (by (λ e. e.key)) (cut_alone theirs) (cut_alone ours) (merge_both ours theirs) l m

-- a merge leaves those of them that stay
pub merge-sifted : (ours theirs : List Dot) (l m : List Entry) → merge_entries ours theirs l m ≡ those stays (woven_entries ours theirs l m)
unfolding merge_entries
merge-sifted ours theirs l m =
    (λ i. flatten (weave (by (λ e. e.key)) (λ e. alone-sifted theirs e i) (λ e. alone-sifted ours e i)
    (λ e f. together-sifted ours theirs e f i) l m))
    ∙ ap flatten (weave-map (by (λ e. e.key)) (cut_alone theirs) (cut_alone ours) (merge_both ours theirs) (λ e. those stays (e ∷ [])) l m)
    ∙ flatten-those stays (woven_entries ours theirs l m)

-- and all that it leaves stay
pub merge-stays : (ours theirs : List Dot) (l m : List Entry) → those stays (merge_entries ours theirs l m) ≡ merge_entries ours theirs l m
merge-stays ours theirs l m = rw (merge-sifted ours theirs l m) (those-again stays (woven_entries ours theirs l m))
