-- The entry of a record's key among the entries that the records before it stand for.
use mathlib.Core.Path.{◌≡◌, refl, ap, sym, ◌∙◌}
use mathlib.Core.Bool.{Bool, true, false, ◌&&◌}
use mathlib.Core.List.Memᴰ
use mathlib.Core.List.{List, [], ◌∷◌, ◌++◌, map}
use Prim.Native.Nat.{ℕ, ◌<◌}
use native.Mathlib.Omega.{arith}
use lib.Dec.{eqb}
use lib.ListN.{length, get_or, set, length-map}
use borrow.Author.Tests.{eq-eqb, eqb-true}
use Rattle.listlaws.specs.Order.{◌∈◌}
use Rattle.listlaws.specs.First.{some}
use Rattle.listlaws.proofs.Orders.{apart}
use Rattle.listlaws.proofs.Somes.{some_holds, false-some}
use Rattle.entries.specs.declared.Entry.{Entry}
use Rattle.entries.specs.Model.{no_entry}
use Rattle.records.specs.declared.Record.{Record}
use Rattle.scan.proofs.Eachs.{decide, both}
use Rattle.maprecords.specs.Reading.{entry_in, entry_keys, entries_for}
use Rattle.maprecords.proofs.Keys.{some_at, get-map, map-changed}
use Rattle.maprecords.proofs.Entries.{keys-unique, entry_other}

module _ (l : List Record) (r : Record) where
  abbrev keyed : Entry → Bool
  keyed e = eqb e.key r.key

  -- an entry of the key is the one that the records stand for
  same-entry : (e : Entry) → e ∈ entries_for l → keyed e ≡ true → e ≡ entry_in l r.key
  same-entry e i t =
      let m = Memᴰ.of_map (entry_in l) (entry_keys l) i in
      sym m.2 ∙ ap (entry_in l) (eqb-true m.0 r.key (ap keyed m.2 ∙ t))

  module _ (j : ℕ) (in-keys : j < length (entry_keys l)) (key-at : get_or (entry_keys l) j 0 ≡ r.key) where
    in-entries : j < length (entries_for l)
    in-entries = omega (arith, length-map (entry_keys l) (entry_in l))

    pub entry_at : get_or (entries_for l) j no_entry ≡ entry_in l r.key
    entry_at = get-map (entry_in l) (entry_keys l) j no_entry in-keys ∙ ap (entry_in l) key-at

    pub key-known : some (λ x. eqb x r.key) (entry_keys l) ≡ true
    key-known = some_at (λ x. eqb x r.key) (entry_keys l) j 0 in-keys (eq-eqb (get_or (entry_keys l) j 0) r.key key-at)

    -- the entry changes, and no other
    pub entries-changed : entry_keys (l ++ (r ∷ [])) ≡ entry_keys l
        → set (entries_for l) j (entry_in (l ++ (r ∷ [])) r.key) ≡ entries_for (l ++ (r ∷ []))
    entries-changed same =
        sym (ap (map (entry_in (l ++ (r ∷ [])))) same
        ∙ map-changed no_entry (entry_in l) (entry_in (l ++ (r ∷ []))) (entry_keys l) j (keys-unique l) in-keys
        (λ k n. entry_other l r k (λ e. n (sym e ∙ sym key-at)))
        ∙ ap (λ k. set (entries_for l) j (entry_in (l ++ (r ∷ [])) k)) key-at)

    -- a test of the entry of the key
    pub fits-at : (test : Entry → Bool) → some (λ e. keyed e && test e) (entries_for l) ≡ test (entry_in l r.key)
    fits-at test =
        decide (test (entry_in l r.key))
        (λ t. some_at (λ e. keyed e && test e) (entries_for l) j no_entry in-entries
        (rw entry_at (both (eqb r.key r.key) (test (entry_in l r.key)) (eq-eqb r.key r.key refl) t)) ∙ sym t)
        (λ f. false-some (λ e. keyed e && test e) (entries_for l) (λ e i. fails e i f) ∙ sym f)
      where
        fails : (e : Entry) → e ∈ entries_for l → test (entry_in l r.key) ≡ false → (keyed e && test e) ≡ false
        fails e i f = decide (keyed e) (λ t. rw t (ap test (same-entry e i t) ∙ f)) (λ n. rw n)

  module _ (new : some (λ x. eqb x r.key) (entry_keys l) ≡ false) where
    none-keyed : some keyed (entries_for l) ≡ false
    none-keyed =
        false-some keyed (entries_for l)
        (λ e i. decide (keyed e)
        (λ t. let m = Memᴰ.of_map (entry_in l) (entry_keys l) i in apart
        (sym (some_holds (λ x. eqb x r.key) m.1 (ap keyed m.2 ∙ t)) ∙ new))
        (λ n. n))

    pub fits-none : (test : Entry → Bool) → some (λ e. keyed e && test e) (entries_for l) ≡ false
    fits-none test =
        false-some (λ e. keyed e && test e) (entries_for l)
        (λ e i. decide (keyed e) (λ t. apart (sym (some_holds keyed i t) ∙ none-keyed)) (λ n. rw n))
