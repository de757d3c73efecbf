-- The law of what survives, of what the call hands over, by the maps that the two images stand for.
use mathlib.Core.Path.{◌≡◌, refl, ap, sym, ◌∙◌}
use mathlib.Core.Bool.{true, false}
use mathlib.Core.Logic.{⊎_elim}
use mathlib.Core.List.Memᴰ
use mathlib.Core.List.{List, [], ◌∷◌, map}
use Prim.Native.Nat.{ℕ, ◌/◌, ◌%◌, ◌^◌}
use lib.Dec.{eqb}
use lib.ListN.{take}
use borrow.Author.Tests.{eqb-true, eqb-false, eq-eqb}
use Rattle.listlaws.specs.Order.{◌∈◌}
use Rattle.listlaws.specs.First.{first_in, some}
use Rattle.listlaws.specs.Sift.{those}
use Rattle.listlaws.proofs.Orders.{apart}
use Rattle.listlaws.proofs.Firsts.{first-none}
use Rattle.listlaws.proofs.Somes.{some-means, some_holds, some-false}
use Rattle.listlaws.proofs.Those.{those-means, those-holds}
use Rattle.entries.specs.declared.Entry.{Entry}
use Rattle.entries.specs.Model.{entry_as}
use Rattle.entries.specs.Entries.{entry_at}
use Rattle.map.specs.Model.{entries_in}
use Rattle.records.specs.declared.Record.{Record}
use Rattle.records.specs.Bytes.{Bytes}
use Rattle.records.specs.Records.{records_of}
use Rattle.scan.proofs.Eachs.{decide}
use Rattle.maprecords.specs.Reading.{under_key, entry_in, entry_keys, entries_for}
use Rattle.maprecords.specs.Related.{read_map}
use Rattle.acceptancelaws.proofs.Limited.{at_key}
use Rattle.oneimagelaws.proofs.Keyed.{keys-has, keys-means}
use Rattle.salvagerules.specs.Calls.{salvaged_image, salvage_answer, SalvagePromise}
use Rattle.salvagelaws.specs.Survival.{SomeOf, EntryLeft, EntryBack, ClockBack, Survived}
use Rattle.salvagelaws.proofs.Accepted.{image-accepted, image-records}
use Rattle.salvagelaws.proofs.Salvages.{sound, read_as, handed}
use Rattle.salvagelaws.proofs.Survives.{clock-back, entry-back}

-- the entry of a key, of the entries that records stand for
entry_of : (l : List Record) (key : ℕ) (ks : List ℕ) → key ∈ ks
    → first_in (λ (e : Entry). eqb e.key key) (λ e. e) (entry_as key [] []) (map (entry_in l) ks) ≡ entry_in l key
unfolding first_in
entry_of l key [] i = absurd (Memᴰ.not-nil i)
entry_of l key (j ∷ ks) i =
    decide (eqb j key) (λ t. rw t (ap (entry_in l) (eqb-true j key t)))
    (λ f. rw f (⊎_elim (λ (e : key ≡ j). absurd (eqb-false j key f (sym e))) (λ m. entry_of l key ks m) (Memᴰ.cases_cons i)))

-- records with the same dots under a key and the same entry there have the same entry in their maps
module _ (l m : List Record) (key : ℕ) (dots : those (under_key 2 key) m ≡ those (under_key 2 key) l) (same : entry_in m key ≡ entry_in l key) where
  has : (a b : List Record) → those (under_key 2 key) a ≡ those (under_key 2 key) b → key ∈ entry_keys a → key ∈ entry_keys b
  has a b e i =
      let (s, j, kind, at) = keys-means a key i in
      let n = those-means (under_key 2 key) b (rw e at (those-holds (under_key 2 key) j (rw (eq-eqb s.kind 2 kind, eq-eqb s.key key at)))) in
      let u = at_key key 2 s n.1 in
      Memᴰ.cast (sym u.1) (keys-has b s n.0 u.0)

  none-at : (a : List Record) → some (λ j. eqb j key) (entry_keys a) ≡ false → entry_at key (entries_for a) ≡ entry_as key [] []
  unfolding entry_at
  none-at a f =
      first-none (λ (e : Entry). eqb e.key key) (λ e. e) (entry_as key [] []) (entries_for a)
      (λ e i. let (j, n, q) = Memᴰ.of_map (entry_in a) (entry_keys a) i in
      ap (λ (x : Entry). eqb x.key key) (sym q) ∙ some-false (λ x. eqb x key) f j n)

  found_at : (a : List Record) → key ∈ entry_keys a → entry_at key (entries_for a) ≡ entry_in a key
  unfolding entry_at
  found_at a i = entry_of a key (entry_keys a) i

  known : (a : List Record) → some (λ j. eqb j key) (entry_keys a) ≡ true → key ∈ entry_keys a
  known a t = let (x, i, e) = some-means (λ j. eqb j key) (entry_keys a) t in Memᴰ.cast (sym (eqb-true x key e)) i

  same-entry : entry_at key (entries_for m) ≡ entry_at key (entries_for l)
  same-entry =
      decide (some (λ j. eqb j key) (entry_keys l))
      (λ t. let i = known l t in found_at m (has l m (sym dots) i) ∙ same ∙ sym (found_at l i))
      (λ f. none-at m (decide (some (λ j. eqb j key) (entry_keys m))
      (λ t. apart (sym (some_holds (λ j. eqb j key) (has m l dots (known m t)) (eq-eqb key key refl)) ∙ f))
      (λ g. g)) ∙ sym (none-at l f))

pub survives : (image damaged : List ℕ) → (read_map image).number ≡ 0 → Bytes damaged → SomeOf (records_of damaged) (records_of image)
    → (key : ℕ) → EntryLeft (records_of image) (records_of damaged) key
    → (entry exit : List ℕ) (word : ℕ) → SalvagePromise damaged entry exit word → word / 2 ^ 32 ≡ 0 → Survived image (take (word % 2 ^ 32) exit) key
survives image damaged e b sub key left entry exit word p z =
    rw (handed (salvage_answer damaged) entry exit word p z).bytes
    (record { records = back; entry = of-maps })
  where
    back : EntryBack (records_of image) (records_of (salvaged_image damaged)) key
    back =
        let h = sound image e in
        rw (image-records damaged b) (entry-back (records_of image) (records_of damaged) h.scan h.sentences sub key left)

    of-maps : entry_at key (entries_in (read_map (salvaged_image damaged)).map) ≡ entry_at key (entries_in (read_map image).map)
    of-maps =
        ap (entry_at key) (read_as (salvaged_image damaged) (image-accepted damaged b))
        ∙ same-entry (records_of image) (records_of (salvaged_image damaged)) key back.dots back.entry
        ∙ sym (ap (entry_at key) (read_as image e))

pub clock-survives : (image damaged : List ℕ) → (read_map image).number ≡ 0 → Bytes damaged → SomeOf (records_of damaged) (records_of image)
    → (entry exit : List ℕ) (word : ℕ) → SalvagePromise damaged entry exit word → word / 2 ^ 32 ≡ 0
    → ClockBack (records_of damaged) (records_of (take (word % 2 ^ 32) exit))
clock-survives image damaged e b sub entry exit word p z =
    let h = sound image e in
    rw ((handed (salvage_answer damaged) entry exit word p z).bytes, image-records damaged b)
    (clock-back (records_of image) (records_of damaged) h.scan h.sentences sub)
