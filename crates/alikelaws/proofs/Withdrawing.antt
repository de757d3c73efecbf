-- T1 on maps: a withdrawn value stays away, in whatever order the operations come; T1b.
use mathlib.Core.Path.{◌≡◌, refl, ap, sym, ◌∙◌}
use mathlib.Core.Bool.{Bool, true, false, not, cond}
use mathlib.Core.Logic.{inl, inr, ⊎_elim}
use mathlib.Core.List.Memᴰ
use mathlib.Core.List.{List, [], ◌∷◌}
use Prim.Native.Nat.{ℕ, ◌≤◌, ◌<◌}
use native.Mathlib.Omega.{arith}
use borrow.Author.Tests.{leb-false}
use lib.Dec.{leb}
use Rattle.listlaws.specs.Fold.{fold}
use Rattle.listlaws.specs.Sift.{those}
use Rattle.listlaws.specs.Order.{◌∈◌}
use Rattle.listlaws.proofs.Orders.{apart}
use Rattle.listlaws.proofs.Those.{those-holds}
use Rattle.listlaws.proofs.Sides.{fold-keeps}
use Rattle.clock.specs.declared.Dot.{Dot}
use Rattle.clock.specs.Dots.{dots_of, clock_of, is_empty, counter_in, covers, cut_dots, add_dot}
use Rattle.clock.specs.Lawful.{Lawful}
use Rattle.clock.proofs.Packs.{dots-of}
use Rattle.clock.proofs.Covers.{covers-means, covers-holds, covers-refl, covers-trans, covers-add, empty-covered}
use Rattle.register.specs.declared.Content.{Content}
use Rattle.register.specs.declared.Value.{Value}
use Rattle.register.specs.Values.{cut_value}
use Rattle.removals.specs.declared.Removal.{Removal}
use Rattle.entries.specs.declared.Update.{Update}
use Rattle.entries.specs.Valid.{ValidValue}
use Rattle.removals.specs.Model.{under_of, listed_in}
use Rattle.removals.specs.Waits.{listed, waits}
use Rattle.removals.specs.Valid.{ValidRemoval}
use Rattle.removals.proofs.Packs.{waiting-of}
use Rattle.removals.proofs.Waits.{waits-covers}
use Rattle.removals.proofs.Unions.{listed-means, listed-holds}
use Rattle.removals.proofs.ListingClocks.{sup_of, clocked-valid, sup-above}
use Rattle.map.specs.declared.Map.{Map}
use Rattle.map.specs.declared.Op.{Op}
use Rattle.map.specs.Model.{seen_by, waiting_in}
use Rattle.map.specs.Removing.{remove}
use Rattle.map.specs.Updating.{update}
use Rattle.map.specs.Applying.{apply}
use Rattle.map.specs.Valid.{Valid, ValidUpdate}
use Rattle.map.proofs.Kept.{valid-apply, valid-put}
use Rattle.map.proofs.Removals.{update-closed}
use Rattle.maplaws.specs.Among.{OneOf, Lists}
use Rattle.anyorderlaws.proofs.Runs.{maps-end}
use Rattle.scan.proofs.Eachs.{decide}
use Rattle.alikelaws.specs.Among.{UpdateIn, RemovalIn}
use Rattle.readiness.specs.Ready.{put_of}
use Rattle.alikelaws.specs.Honest.{Names}
use Rattle.alikelaws.specs.Source.{Source, put, stood, ComesFrom, EveryValue, Escapes, Withdrawn}
use Rattle.alikelaws.specs.OnMaps.{applied, ValidOps, Sourced}
use Rattle.alikelaws.proofs.Sources.{comes-cut, remove-holds, update-holds, clocked-one}

-- an update changes nothing, or is unseen
pub update-cases : (P : Map → Type 0) (m : Map) (u : Update) → P m
    → (counter_in (seen_by m) u.dot.actor < u.dot.counter → P (update m u)) → P (update m u)
update-cases P m u p q =
    decide (leb u.dot.counter (counter_in (seen_by m) u.dot.actor)) (λ t. rw (seen_same t) p)
    (λ t. q (leb-false u.dot.counter (counter_in (seen_by m) u.dot.actor) t))
  where
    seen_same : leb u.dot.counter (counter_in (seen_by m) u.dot.actor) ≡ true → update m u ≡ m
    seen_same t = unfold update in rw t

-- a cut that leaves something of a clock does not cover it
uncut : (c p : List Dot) → is_empty (cut_dots c p) ≡ false → covers c p ≡ true → ⊥
uncut c p n t = apart (sym t ∙ sym (empty-covered c p) ∙ n)

module _ {S : Content → List Dot → Type 0} (c by : List Dot) {v : Value} where
  -- where a cut by at least c leaves something, the source escapes c
  comes-left : ((x : ℕ) → counter_in c x ≤ counter_in by x) → ValidValue v → ComesFrom S v → is_empty (cut_dots by (dots_of v.clock)) ≡ false
      → ComesFrom (Escapes c S) (cut_value by v)
  comes-left f h s n = comes-cut by h (record {
    under = s.under;
    source = (
      s.source,
      decide (covers c s.under)
          (λ t. absurd (uncut by (dots_of v.clock) n (covers-holds by (λ x. omega (
            arith,
            f x,
            covers-means c (dots_of v.clock) (covers-trans c s.under (dots_of v.clock) t s.within) x,
          )) h.clock)))
          (λ t. t),
    );
    within = s.within;
  })

-- what T1 says of a value
abbrev Removed : Map → List Op → Removal → ℕ → Value → Type 0
Removed first ops r k v = listed (listed_in r) k ≡ true → ComesFrom (Escapes (under_of r) (Source first ops k)) v

-- T1b: "If a removal is applied to any map whose values have sources as above, nothing within C is left under K."
pub removes-within : (first : Map) (ops : List Op) {r : Removal} {m : Map} → Valid m → ValidRemoval r → Sourced first ops m
    → Withdrawn first ops r (remove m r)
removes-within first ops {r} h k s =
    remove-holds (Removed first ops r) h k (λ e i v j n t. comes-left (under_of r) (sup_of (r ∷ []) e.key)
    (λ x. sup-above (clocked-one k) e.key x r (Memᴰ.head refl) t) ((h.entries.each e i).values v j) (s e i v j) n)

-- the run's operations, and one of them a removal
module _ (first : Map) (ops : List Op) (lawful : ValidOps ops) (own : (u : Update) → UpdateIn ops u → Names (put_of u) u) where
  abbrev Comes : ℕ → Value → Type 0
  Comes k v = ComesFrom (Source first ops k) v

  comes-put : {u : Update} → UpdateIn ops u → ValidUpdate u → is_empty (put_of u) ≡ false → Comes u.key u.put
  comes-put {u} i k n = record { under = put_of u; source = put u i refl refl refl; within = covers-refl k.clock }

  -- the first map's values are their own source
  first-sourced : Valid first → Sourced first ops first
  first-sourced h e i v j = record {
    under = dots_of v.clock;
    source = stood e v i refl j refl refl;
    within = covers-refl ((h.entries.each e i).values v j).clock;
  }

  -- every value keeps a source
  remove-sourced : {m : Map} → Valid m → {r : Removal} → ValidRemoval r → Sourced first ops m → Sourced first ops (remove m r)
  remove-sourced h {r} k s =
      remove-holds Comes h k (λ e i v j n. comes-cut (sup_of (r ∷ []) e.key) ((h.entries.each e i).values v j) (s e i v j))

  update-sourced : {m : Map} → Valid m → {u : Update} → UpdateIn ops u → ValidUpdate u → Sourced first ops m → Sourced first ops (update m u)
  update-sourced {m} h {u} w k s =
      update-cases (Sourced first ops) m u s
      (λ new. update-holds Comes h k new (λ e i v j n. comes-cut (sup_of (waiting_in m) e.key) ((h.entries.each e i).values v j) (s e i v j))
      (λ n t. comes-cut (sup_of (waiting_in m) u.key) (valid-put k n) (comes-put w k n)))

  apply-sourced : {m : Map} → Valid m → {o : Op} → o ∈ ops → Sourced first ops m → Sourced first ops (apply m o)
  unfolding apply
  apply-sourced {m} h {o} i s = go o.up refl
    where
      go : (b : Bool) → o.up ≡ b → Sourced first ops (cond b (update m o.update) (remove m o.removal))
      go true t = update-sourced h (record { op = o; stands = i; updates = t; is = refl }) ((lawful o i).update t) s
      go false t = remove-sourced h (lawful o i).removal s

  module _ (r : Removal) where
    abbrev Gone : ℕ → Value → Type 0
    Gone k v = Removed first ops r k v

    -- the removal waits, as long as the map's clock does not cover it
    abbrev Held : Map → Type 0
    Held m = covers (seen_by m) (under_of r) ≡ false → (k : ℕ) → listed (listed_in r) k ≡ true → OneOf (waiting_in m) (Lists (under_of r) k)

    -- it joins those that wait
    remove-held : {m : Map} → Valid m → ValidRemoval r → Held (remove m r)
    unfolding fold
    remove-held {m} h k n j t =
        let q = maps-end {m = m} {ws = r ∷ []} h (λ w i. let same : w ≡ r = Memᴰ.eq_of_singleton i in rw same k) in
        (q.waiting-keys (under_of r) j).1
        (inr (r, Memᴰ.head refl, (ap (λ c. covers c (under_of r)) (sym q.clock) ∙ n, (refl, listed-means (listed_in r) j t))))

    -- and stays among them, whatever other is removed
    other-held : {m : Map} → Valid m → {s : Removal} → ValidRemoval s → Held m → Held (remove m s)
    unfolding fold
    other-held {m} h {s} k g n j t =
        let q = maps-end {m = m} {ws = s ∷ []} h (λ w i. let same : w ≡ s = Memᴰ.eq_of_singleton i in rw same k) in
        (q.waiting-keys (under_of r) j).1 (inl (g (ap (λ c. covers c (under_of r)) (sym q.clock) ∙ n) j t))

    -- until the map's clock covers it
    update-held : {m : Map} → Valid m → (u : Update) → counter_in (seen_by m) u.dot.actor < u.dot.counter → Held m → Held (update m u)
    update-held {m} h u new g n j t =
        let c = add_dot (seen_by m) u.dot in
        let q = update-closed u h new in
        let clock : seen_by (update m u) ≡ c = ap (λ x. seen_by x) q ∙ dots-of {c = clock_of c} c refl in
        let waiting : waiting_in (update m u) ≡ those (waits c) (waiting_in m) = ap (λ x. waiting_in x) q
        ∙ waiting-of (those (waits c) (waiting_in m)) in
        let less : covers c (under_of r) ≡ false = ap (λ x. covers x (under_of r)) (sym clock) ∙ n in
        let w = g (decide (covers (seen_by m) (under_of r))
        (λ s. absurd (apart (sym (covers-trans c (seen_by m) (under_of r) (covers-add h.clock u.dot) s) ∙ less))) (λ s. s)) j t in
        rw waiting (w.0, those-holds (waits c) w.1 (waits-covers c w.0 ∙ ap not (ap (covers c) w.2.0 ∙ less)), w.2)

    -- an update whose put clock the removal covers is cut at once
    update-gone : {m : Map} → Valid m → {u : Update} → UpdateIn ops u → ValidUpdate u → counter_in (seen_by m) u.dot.actor < u.dot.counter
        → Lawful (under_of r) → EveryValue Gone m → Held m → EveryValue Gone (update m u)
    update-gone {m} h {u} w k new law s g =
        update-holds Gone h k new
        (λ e i v j n t. comes-cut (sup_of (waiting_in m) e.key) ((h.entries.each e i).values v j) (s e i v j t))
        (λ n left t. decide (covers (under_of r) (put_of u))
        (λ c. absurd (uncut (sup_of (waiting_in m) u.key) (put_of u) left (covered c t)))
        (λ c. comes-cut (sup_of (waiting_in m) u.key) (valid-put k n)
        (record { under = put_of u; source = (put u w refl refl refl, c); within = covers-refl k.clock })))
      where
        covered : covers (under_of r) (put_of u) ≡ true → listed (listed_in r) u.key ≡ true → covers (sup_of (waiting_in m) u.key) (put_of u) ≡ true
        covered c t =
            let lacking : covers (seen_by m) (under_of r) ≡ false = decide (covers (seen_by m) (under_of r))
            (λ d. absurd (omega (
              arith,
              own u w,
              covers-means (under_of r) (put_of u) c u.dot.actor,
              covers-means (seen_by m) (under_of r) d u.dot.actor,
            ))) (λ d. d) in
            let o = g lacking u.key t in
            let above = sup-above (clocked-valid h.waiting) u.key in
            covers-holds (sup_of (waiting_in m) u.key) (λ x. omega (
              arith,
              covers-means (under_of r) (put_of u) c x,
              ap (λ d. counter_in d x) o.2.0,
              above x o.0 o.1 (listed-holds o.2.1),
            )) k.clock

    -- before the removal, and from it on
    record Before (m : Map) : Type 0 where
      valid : Valid m
      comes : Sourced first ops m

    record After (m : Map) : Type 0 where
      valid : Valid m
      comes : Sourced first ops m
      gone : EveryValue Gone m
      held : Held m

    before-keeps : (m : Map) (o : Op) → o ∈ ops → Before m → Before (apply m o)
    before-keeps m o i b = record { valid = valid-apply b.valid (lawful o i); comes = apply-sourced b.valid i b.comes }

    after-keeps : Lawful (under_of r) → (m : Map) (o : Op) → o ∈ ops → After m → After (apply m o)
    after-keeps law m o i a = record {
      valid = valid-apply a.valid (lawful o i);
      comes = apply-sourced a.valid i a.comes;
      gone = both.0;
      held = both.1;
    }
      where
        go : (b : Bool) → o.up ≡ b
            → EveryValue Gone (cond b (update m o.update) (remove m o.removal)) × Held (cond b (update m o.update) (remove m o.removal))
        go true t =
            let k = (lawful o i).update t in
            let w : UpdateIn ops o.update = record { op = o; stands = i; updates = t; is = refl } in
            update-cases (λ n. EveryValue Gone n × Held n) m o.update (a.gone, a.held)
            (λ new. (update-gone a.valid w k new law a.gone a.held, update-held a.valid o.update new a.held))
        go false t = (
          remove-holds Gone a.valid (lawful o i).removal
              (λ e j v l n q. comes-cut (sup_of (o.removal ∷ []) e.key) ((a.valid.entries.each e j).values v l) (a.gone e j v l q)),
          other-held a.valid (lawful o i).removal a.held,
        )

        both : EveryValue Gone (apply m o) × Held (apply m o)
        both = unfold apply in go o.up refl

    -- the removal itself
    arrives : {m : Map} {o : Op} → o ∈ ops → o.up ≡ false → o.removal ≡ r → Before m → After (apply m o)
    unfolding apply
    arrives {m} {o} i t e b =
        let k : ValidRemoval r = rw e at (lawful o i).removal in
        record {
          valid = (before-keeps m o i b).valid;
          comes = (before-keeps m o i b).comes;
          gone = rw (t, e) (removes-within first ops b.valid k b.comes);
          held = rw (t, e) (remove-held b.valid k);
        }

    -- somewhere in the run
    stays-from : (l : List Op) → ((o : Op) → o ∈ l → o ∈ ops) → {o : Op} → o ∈ l → o.up ≡ false → o.removal ≡ r → (m : Map) → Before m
        → After (fold apply m l)
    unfolding fold
    stays-from [] f i t e m b = absurd (Memᴰ.not-nil i)
    stays-from (x ∷ l) f {o} i t e m b =
        ⊎_elim
        (λ (q : o ≡ x). fold-keeps apply After l (λ n y j. after-keeps law n y (f y (Memᴰ.tail j))) (apply m x)
        (arrives (f x (Memᴰ.head refl)) (ap (λ y. y.up) (sym q) ∙ t) (ap (λ y. y.removal) (sym q) ∙ e) b))
        (λ j. stays-from l (λ y k. f y (Memᴰ.tail k)) j t e (apply m x) (before-keeps m x (f x (Memᴰ.head refl)) b))
        (Memᴰ.cases_cons i)
      where
        law : Lawful (under_of r)
        law = rw e at (lawful o (f o i)).removal.clock

-- T1: "Let every update of a run .. have its own dot in its put clock, and let the removal (C, K) be in the run. Then every value under a key of K in
-- the last map comes from an update of the run (or is one of the first map's) whose put clock C does not cover."
pub stays-away : {first : Map} {ops : List Op} {r : Removal} → Valid first → ValidOps ops → ((u : Update) → UpdateIn ops u → Names (put_of u) u)
    → RemovalIn ops r → Withdrawn first ops r (applied first ops)
stays-away {first} {ops} {r} h f own i =
    (stays-from first ops f own r ops (λ o j. j) i.stands i.removes i.is first
    (record { valid = h; comes = first-sourced first ops f own h })).gone

-- every value of a run's last map has a source
pub sourced : {first : Map} {ops : List Op} → Valid first → ValidOps ops → ((u : Update) → UpdateIn ops u → Names (put_of u) u)
    → Sourced first ops (applied first ops)
sourced {first} {ops} h f own =
    (fold-keeps apply (λ m. Valid m × Sourced first ops m) ops
    (λ m o i b. (valid-apply b.0 (f o i), apply-sourced first ops f own b.0 i b.1)) first
    (h, first-sourced first ops f own h)).1
