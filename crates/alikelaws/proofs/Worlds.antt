-- T2's invariant, one step at a time: a removal, an update that is next, an update that was seen.
use mathlib.Core.Path.{◌≡◌, refl, ap, sym, ◌∙◌}
use mathlib.Core.Bool.{true, false, not}
use mathlib.Core.Logic.{◌⊎◌, inl, inr, ⊎_elim}
use mathlib.Core.List.Memᴰ
use mathlib.Core.List.{List, [], ◌∷◌}
use Prim.Native.Nat.{ℕ, ◌<◌, ◌≤◌}
use native.Mathlib.Omega.{arith}
use borrow.Author.Tests.{eqb-true, eqb-false, eq-eqb, ltb-true, ltb-false, leb-true, leb-false}
use lib.Dec.{eqb, ltb, leb}
use Rattle.listlaws.specs.Fold.{fold}
use Rattle.listlaws.specs.Sift.{sift, those}
use Rattle.listlaws.specs.Order.{◌∈◌}
use Rattle.listlaws.proofs.Orders.{apart}
use Rattle.listlaws.proofs.Those.{those-means, those-holds}
use Rattle.clock.specs.declared.Dot.{Dot}
use Rattle.clock.specs.Dots.{clock_of, counter_in, covers, add_dot}
use Rattle.clock.proofs.Packs.{dots-of}
use Rattle.clock.proofs.Empties.{counter-some}
use Rattle.clock.proofs.Joins.{counter-add}
use Rattle.clock.proofs.Covers.{covers-means, covers-holds, covers-trans, covers-add, covers-refl}
use Rattle.clock.proofs.Within.{covers-nil}
use Rattle.removals.specs.declared.Removal.{Removal}
use Rattle.entries.specs.declared.Entry.{Entry}
use Rattle.entries.specs.declared.Update.{Update}
use Rattle.entries.specs.Model.{dots_in, values_in}
use Rattle.entries.specs.Entries.{stays, cut_entry, remove_entries, run, put_entry, entry_at, put_entries}
use Rattle.entries.specs.Valid.{ValidEntries}
use Rattle.removals.specs.Model.{under_of, listed_in}
use Rattle.removals.specs.Waits.{listed, waits}
use Rattle.removals.specs.Valid.{ValidRemoval}
use Rattle.removals.proofs.Packs.{waiting-of}
use Rattle.removals.proofs.Waits.{waits-covers, waits-uncovered}
use Rattle.removals.proofs.Unions.{listed-means, listed-holds}
use Rattle.removals.proofs.ListingClocks.{sup_of, Clocked, clocked-valid, sup-above, sup-reached}
use Rattle.entries.proofs.Packs.{entries-of, dots-in, values-in}
use Rattle.entries.proofs.Cuts.{Whole, whole-valid, whole-none}
use Rattle.entries.proofs.Puts.{at_every}
use Rattle.entries.proofs.Runs.{run-closed, gone-stays}
use Rattle.entries.proofs.ByKey.{or_new_entry, entry-after, removed-entry}
use Rattle.entries.proofs.EntriesValid
use Rattle.map.specs.declared.Map.{Map}
use Rattle.map.specs.declared.Op.{Op}
use Rattle.map.specs.Model.{seen_by, entries_in, waiting_in}
use Rattle.map.specs.Removing.{remove}
use Rattle.map.specs.Updating.{update}
use Rattle.map.specs.Valid.{Valid, ValidUpdate}
use Rattle.map.proofs.Kept.{under-own, remove-laid, valid-remove, valid-update, valid-put}
use Rattle.map.proofs.Removals.{update-closed}
use Rattle.maplaws.specs.Among.{OneOf, Lists, Exactly}
use Rattle.anyorderlaws.specs.Ends.{EndMap, UncoveredSuch}
use Rattle.anyorderlaws.proofs.Runs.{maps-end}
use Rattle.scan.proofs.Eachs.{decide}
use Rattle.alikelaws.specs.Among.{UpdateIn, RemovalIn}
use Rattle.readiness.specs.Ready.{put_of}
use Rattle.alikelaws.specs.Honest.{Closed, Honest}
use Rattle.alikelaws.specs.Picture.{Spared, OfKey, ValueOf, AtKey, NotCovered, at_key, Pictures}
use Rattle.alikelaws.proofs.Sources.{clocked-one}
use Rattle.alikelaws.proofs.Guards.{Causal, causal-covers}
use Rattle.alikelaws.proofs.Keys.{at_same, put-at}
use Rattle.alikelaws.proofs.Entered.{run-key, put-own, put_other, entry-cut}

-- with the next update, or removal
abbrev pub Add : (Update → Type 0) → Update → Update → Type 0
Add U u x = U x ⊎ (x ≡ u)

abbrev pub AddRemoval : (Removal → Type 0) → Removal → Removal → Type 0
AddRemoval R r x = R x ⊎ (x ≡ r)

-- section 4, of honest operations
pub record Right (h : List Op) (U : Update → Type 0) (R : Removal → Type 0) (m : Map) : Type 0 where
  pub valid : Valid m
  pub pictures : Pictures U R m
  -- map clocks are closed
  pub known : (u : Update) → U u → covers (seen_by m) (put_of u) ≡ true
  pub updates : (u : Update) → U u → UpdateIn h u
  pub removals : (r : Removal) → R r → RemovalIn h r

-- the same operations in other words
pub right-same : {h : List Op} {U W : Update → Type 0} {R S : Removal → Type 0} {m : Map} → ((u : Update) → Exactly (U u) (W u))
    → ((r : Removal) → Exactly (R r) (S r)) → Right h U R m → Right h W S m
right-same e f a =
    let p = a.pictures in
    record {
      valid = a.valid;
      pictures = record {
        above = λ u i. p.above u ((e u).1 i);
        full = λ x n z q. let r = p.full x n z q in (r.0, (e r.0).0 r.1, r.2, r.3);
        keys = λ k. at_same (λ u. (
          λ i. record { among = (e u).0 i.among; key = i.key },
          λ i. record { among = (e u).1 i.among; key = i.key },
        )) (λ d. (
          λ s. record { positive = s.positive; above = λ r i. s.above r ((f r).1 i) },
          λ s. record { positive = s.positive; above = λ r i. s.above r ((f r).0 i) },
        )) (p.keys k);
        waiting = λ c. (
          λ i. let q = (p.waiting c).0 i in (q.0, (f q.0).0 q.1, q.2, q.3),
          λ i. (p.waiting c).1 (i.0, (f i.0).1 i.1, i.2, i.3),
        );
        waiting-keys = λ c k. (
          λ i. let q = (p.waiting-keys c k).0 i in (q.0, (f q.0).0 q.1, q.2, q.3),
          λ i. (p.waiting-keys c k).1 (i.0, (f i.0).1 i.1, i.2, i.3),
        );
      };
      known = λ u i. a.known u ((e u).1 i);
      updates = λ u i. a.updates u ((e u).1 i);
      removals = λ r i. a.removals r ((f r).1 i);
    }

module _ (h : List Op) (positive : (u : Update) → UpdateIn h u → 0 < u.dot.counter) (honest : Honest h) where
  -- clocks that are closed, joined, are closed
  sup-closed : {ws : List Removal} → Clocked ws → (k : ℕ) → ((w : Removal) → w ∈ ws → listed (listed_in w) k ≡ true → Closed h (under_of w))
      → Closed h (sup_of ws k)
  sup-closed {ws} f k g u i n =
      ⊎_elim
      (λ z. absurd (omega (arith, z, n, positive u i)))
      (λ r. let w = r.0 in
      covers-trans (sup_of ws k) (under_of w) (put_of u) (covers-holds (sup_of ws k) (λ x. sup-above f k x w r.1 r.2) (f w r.1))
      (g w r.1 r.2 u i (omega (arith, n, r.3))))
      (sup-reached f k u.dot.actor)

  module _ {U : Update → Type 0} {R : Removal → Type 0} {m : Map} (a : Right h U R m) where
    abbrev v : Valid m
    v = a.valid

    abbrev p : Pictures U R m
    p = a.pictures

    abbrev l : List Entry
    l = entries_in m

    whole-at : (k : ℕ) → Whole (entry_at k l)
    whole-at k = at_every Whole k l (λ e i q. whole-valid (v.entries.each e i)) (whole-none k)

    -- the step of a removal
    module _ {r : Removal} (k : ValidRemoval r) (i : RemovalIn h r) where
      end-one : EndMap m (r ∷ []) (remove m r)
      unfolding fold
      end-one = maps-end {m = m} {ws = r ∷ []} v (λ w j. let same : w ≡ r = Memᴰ.eq_of_singleton j in rw same k)

      spared-one : (n : ℕ) (d : Dot)
          → Exactly (Spared (AddRemoval R r) n d) (Spared R n d × (counter_in (sup_of (r ∷ []) n) d.actor < d.counter))
      spared-one n d = (
        λ s. (
          record { positive = s.positive; above = λ x j. s.above x (inl j) },
          ⊎_elim (λ z. omega (arith, z, s.positive))
              (λ q. omega (arith, q.3, s.above q.0 (inr (Memᴰ.eq_of_singleton q.1)) q.2))
              (sup-reached (clocked-one k) n d.actor),
        ),
        λ s. record {
          positive = s.0.positive;
          above = λ x j t. ⊎_elim (λ z. s.0.above x z t)
              (λ (z : x ≡ r). omega (arith, s.1, sup-above (clocked-one k) n d.actor x (Memᴰ.head z) t)) j;
        },
      )

      at-removed : (n : ℕ) → at_key (remove m r) n ≡ or_new_entry (cut_entry (sup_of (r ∷ []) n) (entry_at n l))
      unfolding fold
      at-removed n =
          ap (λ x. entry_at n (entries_in x)) (remove-laid (under-own v) r) ∙ ap (entry_at n) (entries-of (remove_entries r l))
          ∙ removed-entry r v.entries.rising n
          ∙ ap or_new_entry (run-closed (r ∷ []) (clocked-one k) (whole-at n))
          ∙ ap (λ x. or_new_entry (cut_entry (sup_of (r ∷ []) x) (entry_at n l))) (EntriesValid.at_key n l)

      waits_one : {Such : Removal → Type 0} → (OneOf (waiting_in (remove m r)) Such → OneOf (waiting_in m) Such
          ⊎ OneOf (r ∷ []) (UncoveredSuch m Such))
          → (OneOf (waiting_in m) Such ⊎ OneOf (r ∷ []) (UncoveredSuch m Such) → OneOf (waiting_in (remove m r)) Such)
          → Exactly (OneOf (waiting_in m) Such) (NotCovered R (seen_by m) Such)
          → Exactly (OneOf (waiting_in (remove m r)) Such) (NotCovered (AddRemoval R r) (seen_by m) Such)
      waits_one f g e = (
        λ q. ⊎_elim (λ t. let x = e.0 t in (x.0, inl x.1, x.2, x.3))
            (λ t. (t.0, inr (Memᴰ.eq_of_singleton t.1), t.2.0, t.2.1)) (f q),
        λ q. g (⊎_elim (λ t. inl (e.1 (q.0, t, q.2, q.3))) (λ t. inr (q.0, Memᴰ.head t, (q.2, q.3))) q.1),
      )

      pub right-removed : Right h U (AddRemoval R r) (remove m r)
      right-removed = record {
        valid = valid-remove v k;
        pictures = record {
          above = rw end-one.clock p.above;
          full = rw end-one.clock p.full;
          keys = λ n. rw (at-removed n) (entry-cut (sup_of (r ∷ []) n) (spared-one n)
              (λ u j. sup-closed (clocked-one k) n (λ w q t. let same : w ≡ r = Memᴰ.eq_of_singleton q in rw same (honest.removal r i)) u
              (a.updates u j.among))
              (entry_at n l) (whole-at n) (p.keys n));
          waiting = λ c. rw end-one.clock (waits_one (end-one.waiting c).0 (end-one.waiting c).1 (p.waiting c));
          waiting-keys = λ c n. rw end-one.clock (waits_one (end-one.waiting-keys c n).0 (end-one.waiting-keys c n).1 (p.waiting-keys c n));
        };
        known = rw end-one.clock a.known;
        updates = a.updates;
        removals = λ x j. ⊎_elim (λ q. a.removals x q) (λ (q : x ≡ r). rw q i) j;
      }

    -- the step of an update that is next
    module _ {u : Update} (k : ValidUpdate u) (i : UpdateIn h u) (c : Causal (seen_by m) u) where
      new : counter_in (seen_by m) u.dot.actor < u.dot.counter
      new = omega (arith, c.new)

      abbrev seen' : List Dot
      seen' = add_dot (seen_by m) u.dot

      abbrev ws : List Removal
      ws = waiting_in m

      clocked : Clocked (waiting_in m)
      clocked = clocked-valid v.waiting

      clock-is : seen_by (update m u) ≡ add_dot (seen_by m) u.dot
      clock-is = ap (λ x. seen_by x) (update-closed u v new) ∙ dots-of {c = clock_of seen'} seen' refl

      waiting-is : waiting_in (update m u) ≡ those (waits (add_dot (seen_by m) u.dot)) (waiting_in m)
      waiting-is = ap (λ x. waiting_in x) (update-closed u v new) ∙ waiting-of (those (waits seen') ws)

      entries-is : entries_in (update m u) ≡ sift stays (run (waiting_in m)) (put_entries u (entries_in m))
      entries-is = ap (λ x. entries_in x) (update-closed u v new) ∙ entries-of (sift stays (run ws) (put_entries u l))

      valid-puts : ValidEntries (add_dot (seen_by m) u.dot) (put_entries u (entries_in m))
      valid-puts = EntriesValid.valid-puts v.entries v.clock u k.dot (λ n. valid-put k n)

      whole-put : (n : ℕ) → Whole (entry_at n (put_entries u (entries_in m)))
      whole-put n = at_every Whole n (put_entries u l) (λ e j q. whole-valid (valid-puts.each e j)) (whole-none n)

      at-updated : (n : ℕ) → at_key (update m u) n ≡ or_new_entry (cut_entry (sup_of (waiting_in m) n) (entry_at n (put_entries u (entries_in m))))
      at-updated n =
          ap (entry_at n) entries-is ∙ entry-after (run ws) (run-key ws) (gone-stays ws) valid-puts.rising n
          ∙ ap or_new_entry (run-closed ws clocked (whole-put n))
          ∙ ap (λ x. or_new_entry (cut_entry (sup_of ws x) (entry_at n (put_entries u l)))) (EntriesValid.at_key n (put_entries u l))

      -- a removal that waits is one of the removals, under its clock
      waits-from : (n : ℕ) (w : Removal) → w ∈ waiting_in m → listed (listed_in w) n ≡ true → NotCovered R (seen_by m) (Lists (under_of w) n)
      waits-from n w j t = (p.waiting-keys (under_of w) n).0 (w, j, (refl, listed-means (listed_in w) n t))

      -- "Waiting removals leave all other keys as they are, since what they cover is gone already."
      spared-below : (n : ℕ) (d : Dot) → Spared R n d → counter_in (sup_of (waiting_in m) n) d.actor < d.counter
      spared-below n d s =
          ⊎_elim (λ z. omega (arith, z, s.positive))
          (λ q. let r = waits-from n q.0 q.1 q.2 in
          omega (arith, q.3, s.above r.0 r.1 (listed-holds r.3.1), ap (λ x. counter_in x d.actor) r.3.0))
          (sup-reached clocked n d.actor)

      -- "If a removal in S covers u's dot, it is not covered by the clock, so it waits and is applied"
      spared-own : (n : ℕ) → counter_in (sup_of (waiting_in m) n) u.dot.actor < u.dot.counter → Spared R n u.dot
      spared-own n s = record {
        positive = k.dot;
        above = λ r j t. decide (ltb (counter_in (under_of r) u.dot.actor) u.dot.counter)
            (λ q. ltb-true (counter_in (under_of r) u.dot.actor) u.dot.counter q)
            (λ q. let big = ltb-false (counter_in (under_of r) u.dot.actor) u.dot.counter q in
            let lacking : covers (seen_by m) (under_of r) ≡ false = decide (covers (seen_by m) (under_of r))
            (λ z. absurd (omega (arith, new, big, covers-means (seen_by m) (under_of r) z u.dot.actor))) (λ z. z) in
            let w = (p.waiting-keys (under_of r) n).1 (r, j, lacking, (refl, listed-means (listed_in r) n t)) in
            absurd (omega (
              arith,
              s,
              big,
              sup-above clocked n u.dot.actor w.0 w.1 (listed-holds w.2.1),
              ap (λ x. counter_in x u.dot.actor) w.2.0,
            )));
      }

      -- "being closed it covers put(u), and the value goes whole"
      waiting-closed : (n : ℕ) → Closed h (sup_of (waiting_in m) n)
      waiting-closed n = sup-closed clocked n (λ w j t. let r = waits-from n w j t in
          rw r.3.0 at (honest.removal r.0 (a.removals r.0 r.1)))

      added-in : (x : Update) → Add U u x → UpdateIn h x
      added-in x j = ⊎_elim (λ q. a.updates x q) (λ (q : x ≡ u). rw q i) j

      fits-put : ValueOf u u.put
      fits-put = record {
        valid = valid-put k (counter-some (put_of u) u.dot.actor (omega (arith, c.own, k.dot)));
        content = refl;
        within = covers-refl k.clock;
        own = c.own;
      }

      -- the update's own key
      put-there : AtKey (OfKey (Add U u) u.key) (λ d. Spared R u.key d ⊎ (d ≡ u.dot)) (dots_in (put_entry u (entry_at u.key (entries_in m))))
          (values_in (put_entry u (entry_at u.key (entries_in m))))
      unfolding put_entry
      put-there =
          let e = entry_at u.key l in
          rw (dots-in e.key (add_dot (dots_in e) u.dot) _, values-in e.key (add_dot (dots_in e) u.dot) _)
          (at_same (λ x. (
            λ j. ⊎_elim (λ q. record { among = inl q.among; key = q.key }) (λ (q : x ≡ u). record { among = inr q; key = ap (λ y. y.key) q }) j,
            λ j. ⊎_elim (λ q. inl (record { among = q; key = j.key })) (λ q. inr q) j.among,
          )) (λ d. (λ s. s, λ s. s))
          (put-at u (whole-at u.key).clock (p.keys u.key) (seen_by m) (λ x j. p.above x j.among) (λ x j. a.known x j.among) new
          (at_every (λ x. covers (seen_by m) (dots_in x) ≡ true) u.key l (λ x j q. (v.entries.each x j).covered)
          (rw (dots-in u.key [] []) (covers-nil (seen_by m))))
          (λ x j. honest.put u i x (a.updates x j.among)) fits-put))

      whole-own : Whole (put_entry u (entry_at u.key (entries_in m)))
      whole-own = rw (put-own u v.entries.rising valid-puts.rising) at (whole-put u.key)

      key-own : AtKey (OfKey (Add U u) u.key) (Spared R u.key) (dots_in (at_key (update m u) u.key)) (values_in (at_key (update m u) u.key))
      key-own =
          rw (at-updated u.key, put-own u v.entries.rising valid-puts.rising)
          (entry-cut (sup_of ws u.key) (λ d. (
            λ s. (inl s, spared-below u.key d s),
            λ s. ⊎_elim (λ t. t) (λ (t : d ≡ u.dot). rw t (spared-own u.key (rw t at s.1))) s.0,
          )) (λ x j. waiting-closed u.key x (added-in x j.among)) (put_entry u (entry_at u.key l)) whole-own put-there)

      -- every other key
      key-other : (n : ℕ) → (u.key ≡ n → ⊥)
          → AtKey (OfKey (Add U u) n) (Spared R n) (dots_in (at_key (update m u) n)) (values_in (at_key (update m u) n))
      key-other n z =
          rw (at-updated n, put_other u v.entries.rising valid-puts.rising n z)
          (entry-cut (sup_of ws n) (λ d. (λ s. (s, spared-below n d s), λ s. s.0)) (λ x j. waiting-closed n x (added-in x j.among))
          (entry_at n l) (whole-at n)
          (at_same (λ x. (
            λ j. record { among = inl j.among; key = j.key },
            λ j. record { among = ⊎_elim (λ q. q) (λ (q : x ≡ u). absurd (z (ap (λ y. y.key) (sym q) ∙ j.key))) j.among; key = j.key },
          )) (λ d. (λ s. s, λ s. s)) (p.keys n)))

      grown : (x : ℕ) → counter_in (seen_by m) x ≤ counter_in (add_dot (seen_by m) u.dot) x
      grown x = covers-means seen' (seen_by m) (covers-add v.clock u.dot) x

      full-next : (x n : ℕ) → 0 < n → n ≤ counter_in (add_dot (seen_by m) u.dot) x
          → (w : Update) × Add U u w × (w.dot.actor ≡ x) × (w.dot.counter ≡ n)
      full-next x n z q =
          decide (leb n (counter_in (seen_by m) x))
          (λ t. let r = p.full x n z (leb-true n (counter_in (seen_by m) x) t) in (r.0, inl r.1, r.2, r.3))
          (λ t. let big = leb-false n (counter_in (seen_by m) x) t in
          decide (eqb u.dot.actor x)
          (λ s. let same = eqb-true u.dot.actor x s in
          (u, inr refl, same, omega (arith, big, q, c.new, rw s at (counter-add v.clock u.dot x), ap (counter_in (seen_by m)) same)))
          (λ s. absurd (omega (arith, big, q, rw s at (counter-add v.clock u.dot x)))))

      -- of those that wait, those that the new clock does not cover
      waits-next : {Such : Removal → Type 0} (d : List Dot) → ((w : Removal) → Such w → under_of w ≡ d)
          → Exactly (OneOf (waiting_in m) Such) (NotCovered R (seen_by m) Such)
          → Exactly (OneOf (those (waits (add_dot (seen_by m) u.dot)) (waiting_in m)) Such) (NotCovered R (add_dot (seen_by m) u.dot) Such)
      waits-next d under e = (
        λ q. let t = those-means (waits seen') ws q.1 in
            let r = e.0 (q.0, t.0, q.2) in
            (r.0, r.1, ap (covers seen') (under r.0 r.3 ∙ sym (under q.0 q.2)) ∙ waits-uncovered seen' q.0 t.1, r.3),
        λ q. let less : covers (seen_by m) (under_of q.0) ≡ false = decide (covers (seen_by m) (under_of q.0))
            (λ s. absurd (apart (sym (covers-trans seen' (seen_by m) (under_of q.0) (covers-add v.clock u.dot) s) ∙ q.2))) (λ s. s) in
            let w = e.1 (q.0, q.1, less, q.3) in (
              w.0,
              those-holds (waits seen') w.1 (waits-covers seen' w.0
                  ∙ ap not (ap (covers seen') (under w.0 w.2 ∙ sym (under q.0 q.3)) ∙ q.2)),
              w.2,
            ),
      )

      pub right-updated : Right h (Add U u) R (update m u)
      right-updated = record {
        valid = valid-update v k;
        pictures = record {
          above = rw clock-is (λ x j. ⊎_elim (λ q. omega (arith, p.above x q, grown x.dot.actor))
              (λ (q : x ≡ u). rw q
              (omega (arith, rw (eq-eqb u.dot.actor u.dot.actor refl) at (counter-add v.clock u.dot u.dot.actor)))) j);
          full = rw clock-is full-next;
          keys = λ n. decide (eqb u.key n) (λ t. let same = eqb-true u.key n t in rw (← same) key-own)
              (λ t. key-other n (eqb-false u.key n t));
          waiting = λ d. rw (clock-is, waiting-is) (waits-next d (λ w q. q) (p.waiting d));
          waiting-keys = λ d n. rw (clock-is, waiting-is) (waits-next d (λ w q. q.0) (p.waiting-keys d n));
        };
        known = rw clock-is (λ x j. ⊎_elim (λ q. covers-trans seen' (seen_by m) (put_of x) (covers-add v.clock u.dot) (a.known x q))
            (λ (q : x ≡ u). rw q (causal-covers c v.clock k.clock)) j);
        updates = added-in;
        removals = a.removals;
      }

    -- "Seen: u is in S, since S has no gap and a dot has one update."
    pub seen-in : (u : Update) → UpdateIn h u → u.dot.counter ≤ counter_in (seen_by m) u.dot.actor → U u
    seen-in u i q =
        let r = p.full u.dot.actor u.dot.counter (positive u i) q in
        let same : r.0 ≡ u = honest.one r.0 u (a.updates r.0 r.1) i (λ j. record { actor = r.2 j; counter = r.3 j }) in
        rw (← same) r.1
