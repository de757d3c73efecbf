-- Records lost from an accepted image: an entry of which nothing was lost, nor of the map clock's dots of its actors, comes back whole.
use mathlib.Core.Path.{◌≡◌, refl, ap, sym, ◌∙◌}
use mathlib.Core.Bool.{Bool, true}
use mathlib.Core.Logic.{⊎_elim}
use mathlib.Core.List.Memᴰ
use mathlib.Core.List.{List, [], ◌∷◌, ◌++◌, map}
use Prim.Native.Nat.{ℕ, ◌≤◌, ◌<◌}
use native.Mathlib.Omega.{arith}
use lib.Dec.{eqb, ltb, leb}
use lib.ListN.{length}
use borrow.Author.Tests.{eqb-true, eq-eqb, le-leb}
use Rattle.listlaws.specs.Order.{◌∈◌, Ascending, nil, next}
use Rattle.listlaws.specs.First.{some}
use Rattle.listlaws.specs.Sift.{those}
use Rattle.listlaws.proofs.Orders.{head-before, tail-ascends}
use Rattle.listlaws.proofs.Somes.{some_holds}
use Rattle.listlaws.proofs.Those.{those-those, those-ascends, those-means, those-holds}
use Rattle.clock.specs.Dots.{clock_of}
use Rattle.entries.specs.Model.{entry_as}
use Rattle.map.proofs.Accepts.{fits-means}
use Rattle.records.specs.declared.Record.{Record}
use Rattle.records.proofs.RoundTrips.{by-fields}
use Rattle.scan.specs.Limits.{outer, middle, inner, same_kind, same_outer, same_middle, today, outer_by, middle_by, limit_at, tally, room}
use Rattle.scan.specs.Numbers.{scan_number}
use Rattle.scan.proofs.Eachs.{both, both_left}
use Rattle.scan.proofs.Builds.{Among, tally-among}
use Rattle.clockimage.specs.Image.{is_kind, dot_of, content_of}
use Rattle.maprecords.specs.Reading.{under_key, under_both, places_from, entry_in, map_in}
use Rattle.acceptancelaws.proofs.Grouped.{fine, rises}
use Rattle.acceptancelaws.proofs.Limited.{at_key}
use Rattle.acceptancelaws.proofs.Maps.{related-within}
use Rattle.oneimagelaws.proofs.Rewritten.{records-rewritten}
use Rattle.oneimagelaws.proofs.Scans.{records-among}
use Rattle.oneimagelaws.proofs.Selected.{before-strict, selected}
use Rattle.sentencelaws.specs.Sentences.{MapSentences}
use Rattle.sentencelaws.proofs.Needing.{needing}
use Rattle.salvagerules.specs.Needs.{clock_dot_above, need_met, kept_by_four}
use Rattle.salvagerules.specs.Indexes.{new_index}
use Rattle.salvagerules.specs.Steps.{salvaged}
use Rattle.salvagelaws.specs.Survival.{SomeOf, no_more, left-too, lost, OfEntry, EntryLeft, EntryBack, ClockBack}
use Rattle.salvagelaws.proofs.Walks.{parted, kept, kept-all, left_kept, left-kept, passed-stays, kept-left}
use Rattle.salvagelaws.proofs.Stages.{good_alone, above_kept, left_by_three, left_by_four}
use Rattle.salvagelaws.proofs.Stages.{renamed, salvaged-is, four-ascends, four-three}
use Rattle.salvagelaws.proofs.Stages.{three-ascends}
use Rattle.salvagelaws.proofs.Fourth.{four-supplied, lower-kind, place_at, need-one, need-two, need-three, need-four}
use Rattle.salvagelaws.proofs.Values.{values_below, counted}
use Rattle.salvagelaws.proofs.Fifth.{new-value, new-dot, renamed-plain, united-in, united-plain, written_from, written-holds}
use Rattle.salvagelaws.proofs.Limited.{by_kind}
use Rattle.salvagelaws.proofs.Accepted.{salvaged-ascends}
use Rattle.salvagelaws.proofs.Unchanged.{each-good, each-above, clock-dot, same_index}

some_in : {A : Type 0} {l m : List A} → SomeOf l m → {x : A} → x ∈ l → x ∈ m
some_in no_more i = i
some_in (left-too {x = y} s) {x} i = ⊎_elim (λ (e : x ≡ y). Memᴰ.head e) (λ j. Memᴰ.tail (some_in s j)) (Memᴰ.cases_cons i)
some_in (lost s) i = Memᴰ.tail (some_in s i)

some-ascends : {A : Type 0} {first : A → A → Bool} {l m : List A} → SomeOf l m → Ascending first m → Ascending first l
some-ascends no_more a = nil
some-ascends (left-too s) a = next (λ y i. head-before a y (some_in s i)) (some-ascends s (tail-ascends a))
some-ascends (lost s) a = some-ascends s (tail-ascends a)

-- records of an accepted image have room among any others of it
room-among : (l seen : List Record) (r : Record) → ((x : Record) → x ∈ seen → x ∈ l) → r ∈ l → Among l r → room seen r ≡ true
room-among l seen r h i a =
    both (leb (tally (same_kind r) outer (seen ++ (r ∷ []))) (limit_at (outer_by today) r.kind)) _
    (le-leb _ _ (fits (same_kind r) outer a.outers a.few-outers a.in-outers))
    (both (leb (tally (same_outer r) middle (seen ++ (r ∷ []))) (limit_at (middle_by today) r.kind)) _
    (le-leb _ _ (fits (same_outer r) middle a.middles a.few-middles a.in-middles))
    (le-leb _ _ (fits (same_middle r) inner a.inners a.few-inners a.in-inners)))
  where
    further : (x : Record) → x ∈ (seen ++ (r ∷ [])) → x ∈ l
    further x j = ⊎_elim (λ k. h x k) (λ k. Memᴰ.cast (Memᴰ.eq_of_singleton k) i) (Memᴰ.append_cases seen j)

    fits : (group : Record → Bool) (f : Record → ℕ) (ks : List ℕ) {n : ℕ} → length ks ≤ n → ((x : Record) → x ∈ l → group x ≡ true → f x ∈ ks)
        → tally group f (seen ++ (r ∷ [])) ≤ n
    fits group f ks few g = let e = tally-among f ks group (seen ++ (r ∷ [])) (λ x j. g x (further x j)) in omega arith

-- an entry by its three lists of records
entry-lists : (l : List Record) (key : ℕ) → entry_in l key ≡ entry_as key (map dot_of (those (under_key 2 key) l))
    (places_from (λ place r. record {
      clock = clock_of (map dot_of
          (those (λ (q : Record). eqb q.index place) (those (under_key 4 key) l)));
      value = content_of r;
    })
    0 (those (under_key 3 key) l))
entry-lists l key i =
    entry_as key (map dot_of (those (under_key 2 key) l))
    (places_from (λ place r. record { clock = clock_of (map dot_of (split place i)); value = content_of r }) 0 (those (under_key 3 key) l))
  where
    split : (place : ℕ) → those (under_both 4 key place) l ≡ those (λ (q : Record). eqb q.index place) (those (under_key 4 key) l)
    split place = sym (those-those (λ (q : Record). eqb q.index place) (under_key 4 key) l)

module _ (l m : List Record) (z : scan_number 1 6 l ≡ 0) (s : MapSentences l) (sub : SomeOf m l) where
  here : {x : Record} → x ∈ m → x ∈ l
  here i = some_in sub i

  three-all : left_by_three m ≡ m
  three-all =
      let two = kept-all good_alone m (each-good m (λ x i. fine 1 6 l z x (here i))) in
      ap (kept above_kept) two ∙ kept-all above_kept m (each-above m (some-ascends sub (rises 1 6 l z)))

  in-third : {x : Record} → x ∈ m → x ∈ left_by_three m
  in-third i = rw three-all i

  abbrev k : List Record
  k = left_by_four m

  left_here : {x : Record} → x ∈ k → x ∈ l
  left_here i = here (rw three-all at (four-three m i))

  among : (r : Record) → r ∈ l → Among l r
  among r i =
      let t = needing l z s in
      let w = related-within l z t in
      let f = fits-means (map_in l) w.limits in
      rw (records-rewritten l z t) at (records-among w today f.count f.number r (rw (records-rewritten l z t) i))

  -- what finds what it needs stays
  stays : (x : Record) → x ∈ m → ((pre : List Record) → ((y : Record) → y ∈ k → y.kind < x.kind → y ∈ pre) → need_met (left_by_three m) pre x ≡ true)
      → x ∈ k
  stays x i h =
      let test = kept_by_four (left_by_three m) in
      let p = parted (left_by_three m) (in-third i) in
      let pre = left_kept test p in
      passed-stays test p
      (both (need_met (left_by_three m) pre x) (room pre x)
      (h pre (λ y j b. kept-left test p before-strict (three-ascends m) j (lower-kind y x b)))
      (room-among l pre x (λ y j. left_here (left-kept test p j)) (here i) (among x (here i))))

  -- every dot of the map clock that is left
  pub clock-stays : (x : Record) → x ∈ m → x.kind ≡ 1 → x ∈ k
  clock-stays x i e = stays x i (λ pre h. need-one (left_by_three m) pre x e)

  pub clock-back : ClockBack m (salvaged m)
  clock-back c i e =
      let j = clock-stays c i e in
      rw (salvaged-is m)
      (Memᴰ.cast (sym (renamed-plain k c (omega arith))) (written-holds k c (united-plain k (four-supplied m).scan c j (omega arith))))

  module _ (key : ℕ) (h : EntryLeft l m key) where
    dot-stays : (r : Record) → r ∈ l → r.kind ≡ 2 → r.key ≡ key → r ∈ k
    dot-stays r i e q =
        stays r (h.records r i (q, (omega arith, omega arith)))
        (λ pre g. let (c, j, one, u) = clock-dot l z s r i e in
        let actor = eqb-true c.actor r.actor (both_left (eqb c.actor r.actor) _ (Rattle.scan.proofs.Eachs.both_right (is_kind 1 c) _ u)) in
        need-two (left_by_three m) pre r e
        ∙ some_holds (clock_dot_above r) (g c (clock-stays c (h.clock r c i e q j one actor) one) (omega arith)) u)

    value_stays : (r : Record) → r ∈ l → r.kind ≡ 3 → r.key ≡ key → r ∈ k
    value_stays r i e q =
        stays r (h.records r i (q, (omega arith, omega arith)))
        (λ pre g. let (c, j, u) = s.value-needs-entry r i e in
        let (d, n, v) = s.value-needs-dot r i e in
        need-three (left_by_three m) pre r e
        ∙ both (some (under_key 2 r.key) pre) (some (under_both 4 r.key r.index) (left_by_three m))
        (some_holds (under_key 2 r.key) (g c (dot-stays c j u.0 (u.1 ∙ q)) (omega (arith, u.0)))
        (rw (eq-eqb c.kind 2 u.0, eq-eqb c.key r.key u.1)))
        (some_holds (under_both 4 r.key r.index)
        (in-third (h.records d n (v.1.0 ∙ q, (omega (arith, v.0), omega (arith, v.0))))) (place_at 4 r.key r.index d v)))

    value-dot-stays : (r : Record) → r ∈ l → r.kind ≡ 4 → r.key ≡ key → r ∈ k
    value-dot-stays r i e q =
        stays r (h.records r i (q, (omega arith, omega arith)))
        (λ pre g. let (c, j, u) = s.dot-needs-value r i e in
        need-four (left_by_three m) pre r e
        ∙ some_holds (under_both 3 r.key r.index) (g c (value_stays c j u.0 (u.1.0 ∙ q)) (omega (arith, u.0)))
        (place_at 3 r.key r.index c u))

    -- its values are those that were, so each keeps its index
    values_same : those (under_key 3 key) k ≡ those (under_key 3 key) l
    values_same =
        selected (under_key 3 key) (four-ascends m) (those-ascends (under_key 3 key) (rises 1 6 l z))
        (λ r i t. those-holds (under_key 3 key) (left_here i) t)
        (λ r i. let n = those-means (under_key 3 key) l i in let u = at_key key 3 r n.1 in (value_stays r n.0 u.0 u.1, n.1))

    below-same : (i : ℕ) → values_below k key i ≡ values_below l key i
    below-same i =
        sym (counted k (four-supplied m).scan key i) ∙ ap (λ v. length (those (λ (q : Record). ltb q.index i) v)) values_same ∙ counted l z key i

    abbrev Own : Record → Type 0
    Own r = (r ∈ k) × (renamed k r ≡ r)

    own : (r : Record) → r ∈ l → OfEntry key r → Own r
    own r i o =
        by_kind (Own r) r.kind (omega (arith, o.1.1))
        (λ b. let e : r.kind ≡ 2 = omega (arith, o.1.0) in (dot-stays r i e o.0, renamed-plain k r b))
        (λ e. (value_stays r i e o.0, named (new-value k r e ∙ below ∙ sym (new-value l r e))))
        (λ e. (value-dot-stays r i e o.0, named (new-dot k r e ∙ below ∙ sym (new-dot l r e))))
        (λ e. absurd (omega (arith, o.1.1))) (λ e. absurd (omega (arith, o.1.1)))
      where
        below : values_below k r.key r.index ≡ values_below l r.key r.index
        below = rw o.0 (below-same r.index)

        named : new_index k r ≡ new_index l r → renamed k r ≡ r
        named e = by-fields refl (e ∙ same_index l z s r i) refl refl refl

    written : (r : Record) → r ∈ l → OfEntry key r → r ∈ salvaged m
    written r i o =
        let w = own r i o in
        rw (salvaged-is m) (Memᴰ.cast (sym w.1) (written-holds k r (united-plain k (four-supplied m).scan r w.0 (omega (arith, o.1.1)))))

    from : (x : Record) → x ∈ salvaged m → OfEntry key x → x ∈ l
    from x i o =
        let (u, j, e) = written_from k (rw (salvaged-is m) at i) in
        let n = left_here (united-in k (four-supplied m).scan j) in
        let kind = ap (λ (q : Record). q.kind) e in
        let w = own u n (ap (λ (q : Record). q.key) (sym e) ∙ o.0, (omega (arith, o.1.0), omega (arith, o.1.1))) in
        Memᴰ.cast (e ∙ w.1) n

    same_kind_lem : (kind : ℕ) → 2 ≤ kind → kind ≤ 4 → those (under_key kind key) (salvaged m) ≡ those (under_key kind key) l
    same_kind_lem kind low high =
        selected (under_key kind key) (salvaged-ascends m) (those-ascends (under_key kind key) (rises 1 6 l z))
        (λ r i t. let u = at_key key kind r t in
        those-holds (under_key kind key) (from r i (u.1, (omega (arith, u.0), omega (arith, u.0)))) t)
        (λ r i. let n = those-means (under_key kind key) l i in
        let u = at_key key kind r n.1 in
        (written r n.0 (u.1, (omega (arith, u.0), omega (arith, u.0))), n.1))

    pub entry-back : EntryBack l (salvaged m) key
    entry-back =
        let two = same_kind_lem 2 (omega arith) (omega arith) in
        let three = same_kind_lem 3 (omega arith) (omega arith) in
        let four = same_kind_lem 4 (omega arith) (omega arith) in
        record {
          dots = two;
          values = three;
          value-dots = four;
          entry = entry-lists (salvaged m) key ∙ again two three four ∙ sym (entry-lists l key);
        }
      where
        again : {a b c d e f : List Record} → a ≡ b → c ≡ d → e ≡ f
            → entry_as key (map dot_of a)
            (places_from (λ place r. record { clock = clock_of (map dot_of (those (λ (q : Record). eqb q.index place) e)); value = content_of r }) 0
            c)
            ≡ entry_as key (map dot_of b)
            (places_from (λ place r. record { clock = clock_of (map dot_of (those (λ (q : Record). eqb q.index place) f)); value = content_of r }) 0
            d)
        again p q w i =
            entry_as key (map dot_of (p i))
            (places_from (λ place r. record {
              clock = clock_of (map dot_of
                  (those (λ (q : Record). eqb q.index place) (w i)));
              value = content_of r;
            }) 0 (q i))
