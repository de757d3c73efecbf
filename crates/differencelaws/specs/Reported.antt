-- What castribba_differences reports of any two images, in CR 14's sentences.
use Rattle.std.specs.Prelude.{◌≡◌, true, false, cond, ◌⊎◌, List, [], map, ℕ, eqb}
use Rattle.listlaws.specs.Order.{◌∈◌, Ascending, by}
use Rattle.entries.specs.declared.Entry.{Entry}
use Rattle.map.specs.Model.{entries_in}
use Rattle.maprecords.specs.Related.{read_map}
use Rattle.differences.specs.declared.Difference.{Difference}
use Rattle.differences.specs.Differences.{same_entry, differences_of}

-- a map has a key, or has it not
abbrev pub HasKey : List Entry → ℕ → Type 0
HasKey l k = (e : Entry) × (e ∈ l) × (e.key ≡ k)

abbrev pub LacksKey : List Entry → ℕ → Type 0
LacksKey l k = (e : Entry) → e ∈ l → e.key ≡ k → ⊥

-- both have it, "with another clock or register"
pub record BothOther (l m : List Entry) (k : ℕ) : Type 0 where
  pub mine : Entry
  pub yours : Entry
  pub here : mine ∈ l
  pub there : yours ∈ m
  pub same : mine.key ≡ k
  pub level : yours.key ≡ k
  pub apart : same_entry mine yours ≡ false

-- "keys only in the first, only in the second, and in both with another clock or register (classes 1, 2, 3)"
abbrev pub SaysClass : List Entry → List Entry → Difference → Type 0
SaysClass l m t = ((t.class ≡ 1) × HasKey l t.key × LacksKey m t.key)
    ⊎ (((t.class ≡ 2) × LacksKey l t.key × HasKey m t.key) ⊎ ((t.class ≡ 3) × BothOther l m t.key))

-- "both have the same entries, register order ignored as in CR 5"
pub record SameEntries (l m : List Entry) : Type 0 where
  pub ours : (e : Entry) → e ∈ l → (f : Entry) × (f ∈ m) × (f.key ≡ e.key) × (same_entry e f ≡ true)
  pub theirs : (f : Entry) → f ∈ m → HasKey l f.key

-- classes 1 and 2 exchanged
abbrev pub turned : Difference → Difference
turned t = record { class = cond (eqb t.class 1) 2 (cond (eqb t.class 2) 1 t.class); key = t.key }

abbrev pub entries_of_image : List ℕ → List Entry
entries_of_image s = entries_in (read_map s).map

abbrev pub report_of_images : List ℕ → List ℕ → List Difference
report_of_images s t = differences_of (entries_of_image s) (entries_of_image t)

-- of any two byte strings (one that is refused reads as the empty map): `castribba_differences` writes the records of `report_of_images`
pub record Reported (s t : List ℕ) : Type 0 where
  -- each key with its class exactly when the sentence holds
  pub told : (d : Difference) → d ∈ report_of_images s t → SaysClass (entries_of_image s) (entries_of_image t) d
  pub telling : (d : Difference) → SaysClass (entries_of_image s) (entries_of_image t) d → d ∈ report_of_images s t
  -- "ascending by key, each exactly once"
  pub ascending : Ascending (by (λ d. d.key)) (report_of_images s t)
  pub once : (d e : Difference) → d ∈ report_of_images s t → e ∈ report_of_images s t → d.key ≡ e.key → d ≡ e
  -- "It is empty exactly when both have the same entries"
  pub empty : report_of_images s t ≡ [] → SameEntries (entries_of_image s) (entries_of_image t)
  pub same : SameEntries (entries_of_image s) (entries_of_image t) → report_of_images s t ≡ []
  -- with the maps exchanged
  pub exchanged : report_of_images t s ≡ map turned (report_of_images s t)
