-- The loader's choice reads values only: two images that differ in origins alone are reported alike by both calls, byte for byte.
use mathlib.Core.Path.{◌≡◌, refl, ap, sym, ◌∙◌, subst}
use mathlib.Core.List.Permᴰ
use mathlib.Core.List.{List, [], ◌∷◌, map, Permᴰ}
use Prim.Native.Nat.{ℕ}
use lib.Dec.{eqb}
use Rattle.listlaws.specs.First.{first_in}
use Rattle.clock.specs.Dots.{dots_of}
use Rattle.register.specs.declared.Value.{Value}
use Rattle.entries.specs.declared.Entry.{Entry}
use Rattle.entries.specs.Model.{dots_in, values_in}
use Rattle.entries.specs.Entries.{entry_at}
use Rattle.entries.proofs.Packs.{values-in, entries-of}
use Rattle.map.specs.declared.Map.{Map}
use Rattle.map.specs.Model.{entries_in}
use Rattle.maprecords.specs.Related.{read_map}
use Rattle.scan.proofs.Eachs.{decide}
use Rattle.loader.specs.Choice.{pairs_of}
use Rattle.loader.specs.Unnamed.{unnamed_value, unnamed_entry, unnamed, AlikeButOrigins}
use Rattle.loader.proofs.Shuffled.{ReportedAlike, any_order}

pairs-same : (l : List Value) → pairs_of (map unnamed_value l) ≡ pairs_of l
pairs-same [] = refl
pairs-same (v ∷ l) = ap (λ m. (dots_of v.clock, v.value.number) ∷ m) (pairs-same l)

entry-same : (e : Entry) → pairs_of (values_in (unnamed_entry e)) ≡ pairs_of (values_in e)
entry-same e = ap pairs_of (values-in e.key (dots_in e) (map unnamed_value (values_in e))) ∙ pairs-same (values_in e)

at_same : (bay : ℕ) (l : List Entry) → pairs_of (values_in (entry_at bay (map unnamed_entry l))) ≡ pairs_of (values_in (entry_at bay l))
unfolding entry_at first_in
at_same bay [] = refl
at_same bay (e ∷ l) = decide (eqb e.key bay) (λ t. rw t (entry-same e)) (λ f. rw f (at_same bay l))

held_same : (m : Map) (bay : ℕ) → pairs_of (values_in (entry_at bay (entries_in (unnamed m)))) ≡ pairs_of (values_in (entry_at bay (entries_in m)))
held_same m bay = ap (λ l. pairs_of (values_in (entry_at bay l))) (entries-of (map unnamed_entry (entries_in m))) ∙ at_same bay (entries_in m)

-- an end theorem: the sentence of the request
pub origins-unread : (map other : List ℕ) → (read_map map).number ≡ (read_map other).number → AlikeButOrigins (read_map map).map (read_map other).map
    → ReportedAlike map other
origins-unread image other number alike =
    any_order image other number
    (λ bay. subst (λ l. Permᴰ (pairs_of (values_in (entry_at bay (entries_in (read_map image).map)))) l)
    (sym (held_same (read_map image).map bay) ∙ ap (λ m. pairs_of (values_in (entry_at bay (entries_in m)))) alike
    ∙ held_same (read_map other).map bay)
    (Permᴰ.refl _))
