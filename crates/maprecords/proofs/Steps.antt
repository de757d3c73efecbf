-- The entries that records stand for, with one record more: what each way to add it needs, and gives.
use mathlib.Core.Path.{◌≡◌, ap, ap₂, sym, ◌∙◌}
use mathlib.Core.Bool.{true, false}
use mathlib.Core.List.{List, [], ◌∷◌, ◌++◌, map}
use Prim.Native.Nat.{ℕ, ◌+◌, ◌≤◌, ◌<◌}
use native.Mathlib.Omega.{arith}
use lib.Dec.{eqb, ltb}
use lib.ListN.{length, get_or, set}
use borrow.Author.Tests.{eq-eqb, ne_eqb, eqb-true, eqb-false, lt-ltb, le-ltb}
use Rattle.listlaws.specs.Order.{◌∈◌}
use Rattle.listlaws.specs.First.{some}
use Rattle.listlaws.specs.Sift.{those}
use Rattle.listlaws.proofs.Orders.{apart}
use Rattle.listlaws.proofs.Pads.{take-pad}
use Rattle.listlaws.proofs.Those.{those-none}
use Rattle.listlaws.proofs.Twice.{map_same}
use Rattle.clock.specs.declared.Dot.{Dot}
use Rattle.clock.specs.Dots.{clock_of}
use Rattle.register.specs.declared.Value.{Value}
use Rattle.limits.specs.Limits.{value_limit}
use Rattle.register.specs.Values.{no_value}
use Rattle.entries.specs.declared.Entry.{Entry}
use Rattle.entries.specs.Model.{entry_as, values_in}
use Rattle.records.specs.declared.Record.{Record}
use Rattle.scan.specs.Numbers.{scan_number}
use Rattle.listlaws.proofs.Somes.{some_holds}
use Rattle.scan.proofs.Eachs.{decide, both_left, both_right}
use Rattle.clockimage.specs.Image.{is_kind, dot_of, content_of, dots_from}
use Rattle.clockimage.proofs.Dots.{map_snoc}
use Rattle.maprecords.specs.Reading.{under_key, under_both, value_in, values_under, entry_in, entry_keys, entries_for, places_from}
use Rattle.maprecords.specs.Related.{entry_fits}
use Rattle.maprecords.proofs.Keys.{length-places, get-places}
use Rattle.maprecords.proofs.SoFar.{EntriesNow}
use Rattle.maprecords.proofs.Entries.{keys-more, keys-same, entry_other, entries-same, dot-entry, value-entry, value-dot-entry}
use Rattle.maprecords.proofs.Counts.{kinds-ascend, keys-counted, values-room}
use Rattle.maprecords.proofs.Finding.{key-known, entries-changed, fits-at, fits-none}

-- a new entry behind the last
entries-new : (l : List Record) (r : Record) → scan_number 1 6 (l ++ (r ∷ [])) ≡ 0 → r.kind ≡ 2 → some (λ x. eqb x r.key) (entry_keys l) ≡ false
    → entries_for l ++ (entry_as r.key (dot_of r ∷ []) [] ∷ []) ≡ entries_for (l ++ (r ∷ []))
unfolding places_from
entries-new l r z k f =
    let one : entry_keys (l ++ (r ∷ [])) ≡ entry_keys l ++ (r.key ∷ []) = keys-more l r k ∙ rw f in
    sym (ap (map (entry_in (l ++ (r ∷ [])))) one ∙ map_snoc (entry_in (l ++ (r ∷ []))) (entry_keys l) r.key
    ∙ ap₂ (λ m e. m ++ (e ∷ []))
    (map_same (entry_in l) (entry_in (l ++ (r ∷ []))) (entry_keys l)
    (λ x i. entry_other l r x (λ e. apart (sym (some_holds (λ y. eqb y r.key) i (eq-eqb x r.key (sym e))) ∙ f))))
    (dot-entry l r k ∙ ap₂ (λ d v. entry_as r.key (d ++ (dot_of r ∷ [])) v) (ap (map dot_of) (those-none (under_key 2 r.key) l no-dot))
    (ap (places_from (value_in l r.key) 0) (those-none (under_key 3 r.key) l no_value_lem))))
  where
    no-dot : (x : Record) → x ∈ l → under_key 2 r.key x ≡ false
    no-dot x i =
        decide (under_key 2 r.key x)
        (λ t. apart (sym ((keys-counted l).all x i (eqb-true x.kind 2 (both_left (is_kind 2 x) (eqb x.key r.key) t)))
        ∙ ap (λ q. some (λ y. eqb y q) (entry_keys l)) (eqb-true x.key r.key (both_right (is_kind 2 x) (eqb x.key r.key) t)) ∙ f))
        (λ n. n)

    no_value_lem : (x : Record) → x ∈ l → under_key 3 r.key x ≡ false
    no_value_lem x i = let h = kinds-ascend l r z x i in rw (ne_eqb x.kind 3 (λ e. omega arith))

module _ (l : List Record) (r : Record) where
  abbrev all : List Record
  all = l ++ (r ∷ [])

  abbrev own : List Dot
  own = dots_from (under_key 2 r.key) l

  abbrev values : List Value
  values = values_under l r.key

  -- whatever the entries are, once r does not find what it needs
  missed : entry_fits (entries_for l) r ≡ false → (es : List Entry) → EntriesNow l r true es
  missed none es = record { lost = rw none; held = λ t. apart (sym t ∙ none) }

  -- what is no value and no value dot needs nothing
  unasked : (r.kind ≡ 3 → ⊥) → (r.kind ≡ 4 → ⊥) → entry_fits (entries_for l) r ≡ true
  unasked three four = rw (ne_eqb r.kind 3 three, ne_eqb r.kind 4 four)

  pub untouched : {es : List Entry} → es ≡ entries_for l → (r.kind ≡ 2 → ⊥) → (r.kind ≡ 3 → ⊥) → (r.kind ≡ 4 → ⊥) → EntriesNow l r false es
  untouched held two three four = record { lost = rw (unasked three four); held = λ _. held ∙ sym (entries-same l r two three four) }

  -- no entry has r's key
  module _ (new : some (λ x. eqb x r.key) (entry_keys l) ≡ false) where
    value-lost : r.kind ≡ 3 → (es : List Entry) → EntriesNow l r true es
    value-lost k = missed (rw (eq-eqb r.kind 3 k) (fits-none l r new (λ e. eqb (length (values_in e)) r.index)))

    value-dot-lost : r.kind ≡ 4 → (es : List Entry) → EntriesNow l r true es
    value-dot-lost k =
        missed (rw (ne_eqb r.kind 3 (λ b. omega arith), eq-eqb r.kind 4 k) (fits-none l r new (λ e. ltb r.index (length (values_in e)))))

    pub entry-lost : 1 ≤ r.kind → (r.kind ≡ 1 → ⊥) → r.kind < 5 → (r.kind ≡ 2 → ⊥) → (es : List Entry) → EntriesNow l r true es
    entry-lost low one high two =
        decide (eqb r.kind 3) (λ t. value-lost (eqb-true r.kind 3 t))
        (λ f. value-dot-lost (let three = eqb-false r.kind 3 f in omega arith))

    pub new-now : scan_number 1 6 all ≡ 0 → r.kind ≡ 2 → {es : List Entry} → es ≡ entries_for l ++ (entry_as r.key (dot_of r ∷ []) [] ∷ [])
        → EntriesNow l r false es
    new-now good k e = record { lost = rw (unasked (λ b. omega arith) (λ b. omega arith)); held = λ _. e ∙ entries-new l r good k new }

  pub values-few : scan_number 1 6 all ≡ 0 → r.kind ≡ 3 → length values < value_limit
  values-few good k = omega (arith, length-places (value_in l r.key) 0 (those (under_key 3 r.key) l), values-room l r good k)

  pub value-clock : r.index < length values → (get_or values r.index no_value).clock ≡ clock_of (dots_from (under_both 4 r.key r.index) l)
  value-clock i =
      let vs = those (under_key 3 r.key) l in
      let n : 0 + r.index ≡ r.index = omega arith in
      let long = length-places (value_in l r.key) 0 vs in
      ap (λ v. v.clock) (get-places (value_in l r.key) 0 vs r.index r no_value (omega arith))
      ∙ ap (λ p. clock_of (dots_from (under_both 4 r.key p) l)) n

  -- the entry of r's key stands at a place, and changes there
  module _ (j : ℕ) (in-keys : j < length (entry_keys l)) (key-at : get_or (entry_keys l) j 0 ≡ r.key) where
    changed : entry_fits (entries_for l) r ≡ true → entry_keys all ≡ entry_keys l → {es : List Entry} → es
        ≡ set (entries_for l) j (entry_in all r.key)
        → EntriesNow l r false es
    changed fit same e = record { lost = rw fit; held = λ _. e ∙ entries-changed l r j in-keys key-at same }

    pub dot-now : r.kind ≡ 2 → {es : List Entry} → es ≡ set (entries_for l) j (entry_as r.key (own ++ (dot_of r ∷ [])) values)
        → EntriesNow l r false es
    dot-now k e =
        changed (unasked (λ b. omega arith) (λ b. omega arith)) (keys-more l r k ∙ rw (key-known l r j in-keys key-at))
        (e ∙ ap (set (entries_for l) j) (sym (dot-entry l r k)))

    values-long : length (values_in (entry_in l r.key)) ≡ length values
    values-long = ap length (take-pad no_value value_limit values)

    value-fits : r.kind ≡ 3 → entry_fits (entries_for l) r ≡ eqb (length values) r.index
    value-fits k =
        rw (eq-eqb r.kind 3 k)
        (fits-at l r j in-keys key-at (λ e. eqb (length (values_in e)) r.index) ∙ ap (λ n. eqb n r.index) values-long)

    pub value-misfit : r.kind ≡ 3 → (length values ≡ r.index → ⊥) → (es : List Entry) → EntriesNow l r true es
    value-misfit k n = missed (value-fits k ∙ ne_eqb _ _ n)

    pub value-now : scan_number 1 6 all ≡ 0 → r.kind ≡ 3 → length values ≡ r.index → {es : List Entry}
        → es ≡ set (entries_for l) j (entry_as r.key own (values ++ (record { clock = clock_of []; value = content_of r } ∷ [])))
        → EntriesNow l r false es
    value-now good k i e =
        changed (value-fits k ∙ eq-eqb _ _ i) (keys-same l r (λ b. omega arith))
        (e ∙ ap (set (entries_for l) j) (sym (value-entry l r (kinds-ascend l r good) k)))

    value-dot-fits : r.kind ≡ 4 → entry_fits (entries_for l) r ≡ ltb r.index (length values)
    value-dot-fits k =
        rw (ne_eqb r.kind 3 (λ b. omega arith), eq-eqb r.kind 4 k)
        (fits-at l r j in-keys key-at (λ e. ltb r.index (length (values_in e))) ∙ ap (ltb r.index) values-long)

    pub value-dot-misfit : r.kind ≡ 4 → length values ≤ r.index → (es : List Entry) → EntriesNow l r true es
    value-dot-misfit k n = missed (value-dot-fits k ∙ le-ltb _ _ n)

    pub value-dot-now : r.kind ≡ 4 → r.index < length values → {es : List Entry}
        → es ≡ set (entries_for l) j (entry_as r.key own (set values r.index
        (record { clock = clock_of (dots_from (under_both 4 r.key r.index) l ++ (dot_of r ∷ [])); value = (get_or values r.index no_value).value })))
        → EntriesNow l r false es
    value-dot-now k i e =
        changed (value-dot-fits k ∙ lt-ltb _ _ i) (keys-same l r (λ b. omega arith)) (e ∙ ap (set (entries_for l) j) (sym (value-dot-entry l r k i)))
