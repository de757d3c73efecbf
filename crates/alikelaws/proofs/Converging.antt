-- T2 on maps: two runs of honest operations by the guard, with the same operations, end in maps with the same settings.
use mathlib.Core.Path.{◌≡◌, refl, ap, sym, ◌∙◌}
use mathlib.Core.Bool.{Bool, true, false, cond}
use mathlib.Core.Logic.{◌⊎◌, inl, inr, ⊎_elim}
use mathlib.Core.List.Memᴰ
use mathlib.Core.List.{List, [], ◌∷◌, ◌++◌}
use mathlib.Core.List.{append-nil}
use Prim.Native.Nat.{ℕ, ◌<◌, ◌≤◌}
use native.Mathlib.Omega.{arith}
use borrow.Author.Tests.{le-leb}
use lib.Seq.{append_snoc}
use Rattle.listlaws.specs.Fold.{fold}
use Rattle.listlaws.specs.Order.{◌∈◌, nil}
use Rattle.listlaws.proofs.Orders.{apart}
use Rattle.clock.specs.Dots.{counter_in}
use Rattle.clock.proofs.Counters.{counter-nil}
use Rattle.clock.proofs.Joins.{lawful-nil}
use Rattle.removals.specs.declared.Removal.{Removal}
use Rattle.entries.specs.declared.Update.{Update}
use Rattle.entries.specs.Model.{entry_as}
use Rattle.removals.proofs.WaitingValid.{valid-none}
use Rattle.entries.proofs.Packs.{dots-in, values-in}
use Rattle.map.specs.declared.Map.{Map}
use Rattle.map.specs.declared.Op.{Op}
use Rattle.map.specs.Model.{seen_by, no_map}
use Rattle.map.specs.Removing.{remove}
use Rattle.map.specs.Updating.{update}
use Rattle.map.specs.Applying.{apply}
use Rattle.map.specs.Valid.{Valid}
use Rattle.map.proofs.Kept.{seen_of, valid-as}
use Rattle.maplaws.specs.Among.{Exactly}
use Rattle.alikelaws.specs.Among.{UpdateIn, RemovalIn}
use Rattle.readiness.specs.declared.Readiness.TheVariants.{Next, Seen}
use Rattle.readiness.specs.Ready.{ready_under, ready}
use Rattle.alikelaws.specs.Honest.{Honest}
use Rattle.alikelaws.specs.Picture
use Rattle.alikelaws.specs.Picture.{Matched, at_key}
use Rattle.alikelaws.specs.Settings.{SameSettings}
use Rattle.alikelaws.specs.OnMaps.{applied, ValidOps, Guarded, none, more}
use Rattle.alikelaws.proofs.Guards.{next-means, seen-means}
use Rattle.alikelaws.proofs.Entered.{at_none}
use Rattle.alikelaws.proofs.Alike.{alike}
use Rattle.alikelaws.proofs.Reports.{report-settings}
use Rattle.loader.specs.Reports.{report_at}
use Rattle.alikelaws.proofs.Worlds.{Right, right-same, right-removed, right-updated, seen-in}

-- the operations of a run, one more at its end
module _ (done : List Op) (o : Op) where
  more-updates : (x : Update) → UpdateIn (done ++ (o ∷ [])) x → UpdateIn done x ⊎ ((o.up ≡ true) × (o.update ≡ x))
  more-updates x i =
      ⊎_elim (λ j. inl (record { op = i.op; stands = j; updates = i.updates; is = i.is }))
      (λ j. let same : i.op ≡ o = Memᴰ.eq_of_singleton j in
      inr (ap (λ y. y.up) (sym same) ∙ i.updates, ap (λ y. y.update) (sym same) ∙ i.is))
      (Memᴰ.append_cases done i.stands)

  more-removals : (x : Removal) → RemovalIn (done ++ (o ∷ [])) x → RemovalIn done x ⊎ ((o.up ≡ false) × (o.removal ≡ x))
  more-removals x i =
      ⊎_elim (λ j. inl (record { op = i.op; stands = j; removes = i.removes; is = i.is }))
      (λ j. let same : i.op ≡ o = Memᴰ.eq_of_singleton j in
      inr (ap (λ y. y.up) (sym same) ∙ i.removes, ap (λ y. y.removal) (sym same) ∙ i.is))
      (Memᴰ.append_cases done i.stands)

  old-update : (x : Update) → UpdateIn done x → UpdateIn (done ++ (o ∷ [])) x
  old-update x i = record { op = i.op; stands = Memᴰ.append_left (o ∷ []) i.stands; updates = i.updates; is = i.is }

  old-removal : (x : Removal) → RemovalIn done x → RemovalIn (done ++ (o ∷ [])) x
  old-removal x i = record { op = i.op; stands = Memᴰ.append_left (o ∷ []) i.stands; removes = i.removes; is = i.is }

  new-update : o.up ≡ true → UpdateIn (done ++ (o ∷ [])) o.update
  new-update t = record { op = o; stands = Memᴰ.append_right done (Memᴰ.head refl); updates = t; is = refl }

  new-removal : o.up ≡ false → RemovalIn (done ++ (o ∷ [])) o.removal
  new-removal t = record { op = o; stands = Memᴰ.append_right done (Memᴰ.head refl); removes = t; is = refl }

-- the empty map
no-valid : Valid no_map
no-valid = valid-as lawful-nil (record { rising = nil; each = λ e i. absurd (Memᴰ.not-nil i) }) valid-none

right-start : (h : List Op) → Right h (UpdateIn []) (RemovalIn []) no_map
right-start h = record {
  valid = no-valid;
  pictures = record {
    above = λ u i. absurd (Memᴰ.not-nil i.stands);
    full = rw (seen_of [] [] []) (λ a n z q. absurd (omega (arith, z, q, counter-nil a)));
    keys = λ k. rw (at k, dots-in k [] [], values-in k [] []) (record {
      above = λ u i s. absurd (Memᴰ.not-nil i.among.stands);
      reached = λ a z. absurd (omega (arith, z, counter-nil a));
      updates = [];
      matched = Picture.Matched.nil;
      once = Picture.EachOnce.nil;
      stand = λ u i. absurd (Memᴰ.not-nil i);
      every = λ u s. absurd (Memᴰ.not-nil s.among.among.stands);
    });
    waiting = λ c. (λ i. absurd (Memᴰ.not-nil i.1), λ i. absurd (Memᴰ.not-nil i.1.stands));
    waiting-keys = λ c k. (λ i. absurd (Memᴰ.not-nil i.1), λ i. absurd (Memᴰ.not-nil i.1.stands));
  };
  known = λ u i. absurd (Memᴰ.not-nil i.stands);
  updates = λ u i. absurd (Memᴰ.not-nil i.stands);
  removals = λ r i. absurd (Memᴰ.not-nil i.stands);
}
  where
    at : (k : ℕ) → at_key no_map k ≡ entry_as k [] []
    at k = at_none [] k (λ e i. absurd (Memᴰ.not-nil i))

right-cast : {h a b : List Op} {m : Map} → a ≡ b → Right h (UpdateIn a) (RemovalIn a) m → Right h (UpdateIn b) (RemovalIn b) m
right-cast e r = rw e at r

module _ {h : List Op} (lawful : ValidOps h) (honest : Honest h) where
  pub positive : (u : Update) → UpdateIn h u → 0 < u.dot.counter
  positive u i = rw (← i.is) ((lawful i.op i.stands).update i.updates).dot

  -- one operation
  right-next : {done : List Op} {m : Map} {o : Op} → o ∈ h → (ready m o ≡ Next) ⊎ (ready m o ≡ Seen) → Right h (UpdateIn done) (RemovalIn done) m
      → Right h (UpdateIn (done ++ (o ∷ []))) (RemovalIn (done ++ (o ∷ []))) (apply m o)
  unfolding apply ready
  right-next {done} {m} {o} i g a = go o.up refl g
    where
      whole : Op → List Op
      whole x = done ++ (x ∷ [])

      -- an update that was seen
      again : (t : o.up ≡ true) → UpdateIn done o.update
          → Right h (UpdateIn (done ++ (o ∷ []))) (RemovalIn (done ++ (o ∷ []))) m
      again t j = right-same
          (λ x. (old-update done o x, λ q. ⊎_elim (λ z. z) (λ z. rw (← z.1) j) (more-updates done o x q)))
          (λ x. (old-removal done o x, λ q. ⊎_elim (λ z. z) (λ z. apart (sym t ∙ z.0)) (more-removals done o x q))) a

      go : (b : Bool) → o.up ≡ b
          → (cond b (ready_under (seen_by m) o.update) Next ≡ Next) ⊎ (cond b (ready_under (seen_by m) o.update) Next ≡ Seen)
          → Right h (UpdateIn (done ++ (o ∷ []))) (RemovalIn (done ++ (o ∷ []))) (cond b (update m o.update) (remove m o.removal))
      go false t q = right-same
          (λ x. (old-update done o x, λ z. ⊎_elim (λ w. w) (λ w. apart (sym w.0 ∙ t)) (more-updates done o x z)))
          (λ x. (
            λ z. ⊎_elim (λ w. old-removal done o x w) (λ (w : x ≡ o.removal). rw w (new-removal done o t)) z,
            λ z. ⊎_elim (λ w. inl w) (λ w. inr (sym w.1)) (more-removals done o x z),
          ))
          (right-removed h positive honest a (lawful o i).removal (record { op = o; stands = i; removes = t; is = refl }))
      go true t (inl q) =
          let k = (lawful o i).update t in
          right-same
          (λ x. (
            λ z. ⊎_elim (λ w. old-update done o x w) (λ (w : x ≡ o.update). rw w (new-update done o t)) z,
            λ z. ⊎_elim (λ w. inl w) (λ w. inr (sym w.1)) (more-updates done o x z),
          ))
          (λ x. (old-removal done o x, λ z. ⊎_elim (λ w. w) (λ w. apart (sym t ∙ w.0)) (more-removals done o x z)))
          (right-updated h positive honest a k (record { op = o; stands = i; updates = t; is = refl })
          (next-means (seen_by m) o.update q k.dot))
      go true t (inr q) =
          let s = seen-means (seen_by m) o.update q in
          let j : UpdateIn h o.update = record { op = o; stands = i; updates = t; is = refl } in
          rw (same s.1) (again t (seen-in h positive honest a o.update j s.1))
        where
          same : o.update.dot.counter ≤ counter_in (seen_by m) o.update.dot.actor → update m o.update ≡ m
          same n = unfold update in rw (le-leb o.update.dot.counter (counter_in (seen_by m) o.update.dot.actor) n)

  -- a run
  right-run : (done ops : List Op) {m : Map} → ((o : Op) → o ∈ ops → o ∈ h) → Guarded m ops → Right h (UpdateIn done) (RemovalIn done) m
      → Right h (UpdateIn (done ++ ops)) (RemovalIn (done ++ ops)) (applied m ops)
  unfolding fold
  right-run done [] f none a = right-cast (sym (append-nil done)) a
  right-run done (o ∷ ops) f (more g r) a =
      right-cast (append_snoc done o ops)
      (right-run (done ++ (o ∷ [])) ops (λ x j. f x (Memᴰ.tail j)) r (right-next (f o (Memᴰ.head refl)) g a))

  -- every map of a run by the guard is that of section 4
  pub right_end : (ops : List Op) → ((o : Op) → o ∈ ops → o ∈ h) → Guarded no_map ops → Right h (UpdateIn ops) (RemovalIn ops) (applied no_map ops)
  right_end ops f g = right-run [] ops f g (right-start h)

  -- another run with the same operations
  right-other : (ops others : List Op) → ((o : Op) → o ∈ ops → o ∈ h) → ((o : Op) → Exactly (o ∈ ops) (o ∈ others)) → Guarded no_map others
      → Right h (UpdateIn ops) (RemovalIn ops) (applied no_map others)
  right-other ops others f e k = right-same
      (λ x. (
        λ i. record { op = i.op; stands = (e i.op).1 i.stands; updates = i.updates; is = i.is },
        λ i. record { op = i.op; stands = (e i.op).0 i.stands; updates = i.updates; is = i.is },
      ))
      (λ x. (
        λ i. record { op = i.op; stands = (e i.op).1 i.stands; removes = i.removes; is = i.is },
        λ i. record { op = i.op; stands = (e i.op).0 i.stands; removes = i.removes; is = i.is },
      ))
      (right_end others (λ o i. f o ((e o).1 i)) k)

  -- T2 on maps: "two runs .. from the empty map, all operations in H, each update `next` or `seen` by the guard before its call. If the runs have the
  -- same operations, the last maps have the same settings", and every bay the same report
  module _ (ops others : List Op) (f : (o : Op) → o ∈ ops → o ∈ h) (e : (o : Op) → Exactly (o ∈ ops) (o ∈ others)) (g : Guarded no_map ops)
      (k : Guarded no_map others) where
    pub converge : SameSettings (applied no_map ops) (applied no_map others)
    converge =
        let a = right_end ops f g in
        let b = right-other ops others f e k in
        alike a.valid b.valid a.pictures b.pictures

    pub converge-reports : (bay : ℕ) → report_at (applied no_map ops) bay ≡ report_at (applied no_map others) bay
    unfolding report_at
    converge-reports bay =
        report-settings ((right_end ops f g).pictures.keys bay) ((right-other ops others f e k).pictures.keys bay) (converge.values bay)
