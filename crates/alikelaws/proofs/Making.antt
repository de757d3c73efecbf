-- T2b: what is made on maps that were fed by the guard is honest.
use mathlib.Core.Path.{◌≡◌, refl, ap, sym, ◌∙◌}
use mathlib.Core.Bool.{Bool, true, false, cond}
use mathlib.Core.Logic.{◌⊎◌, inl, inr, ⊎_elim}
use mathlib.Core.List.Memᴰ
use mathlib.Core.List.{List, [], ◌∷◌}
use Prim.Native.Nat.{ℕ, ◌+◌, ◌-◌, ◌^◌, ◌<◌, ◌≤◌}
use native.Mathlib.Omega.{arith}
use borrow.Author.Tests.{eqb-true, leb-true, leb-false}
use lib.Dec.{eqb, leb}
use Rattle.listlaws.specs.Order.{nil}
use Rattle.listlaws.proofs.Orders.{apart}
use Rattle.listlaws.proofs.Sides.{one-ascends}
use Rattle.clock.specs.declared.Dot.{Dot}
use Rattle.limits.specs.Limits.{dot_limit}
use Rattle.clock.specs.Dots.{clock_of, counter_in, covers, add_dot}
use Rattle.clock.specs.Lawful.{Lawful}
use Rattle.clock.proofs.Packs.{dots-of}
use Rattle.clock.proofs.Joins.{lawful-nil, lawful-add, counter-add}
use Rattle.clock.proofs.Covers.{covers-trans, covers-add, covers-refl}
use Rattle.register.specs.declared.Content.{Content}
use Rattle.removals.specs.declared.Removal.{Removal}
use Rattle.entries.specs.declared.Update.{Update}
use Rattle.removals.specs.Model.{under_of}
use Rattle.map.specs.declared.Map.{Map}
use Rattle.map.specs.declared.Op.{Op}
use Rattle.map.specs.Model.{seen_by, no_map}
use Rattle.map.specs.Judging.{exceeding}
use Rattle.map.specs.Valid.{ValidOp}
use Rattle.asking.specs.declared.AddCtx.{AddCtx}
use Rattle.asking.specs.Contexts.{dot_after, no_add, add_context}
use Rattle.asking.specs.Asking.{update_op, update_under, make_update, removal_op}
use Rattle.acceptancelaws.proofs.Waited.{removal-as}
use Rattle.scan.proofs.Eachs.{decide}
use Rattle.alikelaws.specs.Among.{UpdateIn, RemovalIn}
use Rattle.readiness.specs.Ready.{put_of}
use Rattle.alikelaws.specs.Honest.{Names, Honest}
use Rattle.alikelaws.specs.MadeOps
use Rattle.alikelaws.specs.MadeOps.{Stage}
use Rattle.alikelaws.specs.OnMaps.{applied, ValidOps}
use Rattle.alikelaws.proofs.Worlds.{Right, seen-in}
use Rattle.alikelaws.proofs.Converging.{positive, right_end}

-- what castribba_update makes
abbrev context : Map → ℕ → AddCtx
context m actor = record {
  number = 0;
  clock = clock_of (add_dot (seen_by m) (dot_after (seen_by m) actor));
  dot = dot_after (seen_by m) actor;
}

made-is : (m : Map) (actor k : ℕ) (x : Content) {o : Op} → make_update m actor k x ≡ record { number = 0; op = o } → o
    ≡ update_op (context m actor) k x
unfolding make_update update_under add_context
made-is m actor k x {o} e =
    go (leb (2 ^ 64 - 1) (counter_in (seen_by m) actor)) (exceeding dot_limit (add_dot (seen_by m) (dot_after (seen_by m) actor))) e
  where
    go : (a b : Bool) → update_under (cond a (no_add 9) (cond b (no_add 4) (context m actor))) k x ≡ record { number = 0; op = o }
        → o ≡ update_op (context m actor) k x
    go true b q = absurd (let z : ◌≡◌ {A = ℕ} 9 0 = ap (λ j. j.number) q in omega arith)
    go false true q = absurd (let z : ◌≡◌ {A = ℕ} 4 0 = ap (λ j. j.number) q in omega arith)
    go false false q = sym (ap (λ j. j.op) q)

-- every dot that a clock names is an update's
abbrev Grounded : List Op → List Dot → Type 0
Grounded h c = (a n : ℕ) → 0 < n → n ≤ counter_in c a → (y : Update) × UpdateIn h y × (y.dot.actor ≡ a) × (y.dot.counter ≡ n)

record Sound (h : List Op) : Type 0 where
  valid : ValidOps h
  honest : Honest h
  put : (u : Update) → UpdateIn h u → Grounded h (put_of u)
  removal : (r : Removal) → RemovalIn h r → Grounded h (under_of r)

-- one operation more
module _ {o : Op} {h : List Op} where
  old-update : {x : Update} → UpdateIn h x → UpdateIn (o ∷ h) x
  old-update i = record { op = i.op; stands = Memᴰ.tail i.stands; updates = i.updates; is = i.is }

  update-cases : {x : Update} → UpdateIn (o ∷ h) x → UpdateIn h x ⊎ ((o.up ≡ true) × (o.update ≡ x))
  update-cases i =
      ⊎_elim (λ q. inr (ap (λ y. y.up) (sym q) ∙ i.updates, ap (λ y. y.update) (sym q) ∙ i.is))
      (λ j. inl (record { op = i.op; stands = j; updates = i.updates; is = i.is })) (Memᴰ.cases_cons i.stands)

  removal-cases : {x : Removal} → RemovalIn (o ∷ h) x → RemovalIn h x ⊎ ((o.up ≡ false) × (o.removal ≡ x))
  removal-cases i =
      ⊎_elim (λ q. inr (ap (λ y. y.up) (sym q) ∙ i.removes, ap (λ y. y.removal) (sym q) ∙ i.is))
      (λ j. inl (record { op = i.op; stands = j; removes = i.removes; is = i.is })) (Memᴰ.cases_cons i.stands)

  valid-more : ValidOps h → ValidOp o → ValidOps (o ∷ h)
  valid-more f k x i = ⊎_elim (λ (q : x ≡ o). rw q k) (λ j. f x j) (Memᴰ.cases_cons i)

more-grounded : {h : List Op} (o : Op) (c : List Dot) → Grounded h c → Grounded (o ∷ h) c
more-grounded o c g a n z q = let r = g a n z q in (r.0, old-update r.1, r.2, r.3)

-- a map that a run by the guard ended in
module _ {h ops : List Op} (s : Sound h) (g : Stage h ops) where
  abbrev m : Map
  m = applied no_map ops

  right : Right h (UpdateIn ops) (RemovalIn ops) (applied no_map ops)
  right = right_end s.valid s.honest ops g.among g.guarded

  in-run : (y : Update) → UpdateIn ops y → UpdateIn h y
  in-run y i = right.updates y i

  seen-grounded : Grounded h (seen_by (applied no_map ops))
  seen-grounded a n z q = let r = right.pictures.full a n z q in (r.0, in-run r.0 r.1, r.2, r.3)

  -- "map clocks are closed by the guard"
  seen-known : (y : Update) → UpdateIn h y → Names (seen_by (applied no_map ops)) y → UpdateIn ops y
  seen-known y i q = seen-in h (positive s.valid s.honest) s.honest right y i q

  -- castribba_rm_read_ctx
  sound-removed : (key : ℕ) → Sound (removal_op (seen_by (applied no_map ops)) key ∷ h)
  sound-removed key = record {
    valid = valid-more s.valid (record {
      removal = removal-as (seen_by m) (key ∷ []) right.valid.clock (one-ascends key);
      update = λ t. apart (sym t);
    });
    honest = record {
      one = λ x y i j. s.honest.one x y (old i) (old j);
      put = λ x i y j. s.honest.put x (old i) y (old j);
      removal = λ r i y j q. ⊎_elim (λ k. s.honest.removal r k y (old j) q)
          (λ k. let same : seen_by m ≡ under_of r = sym (dots-of {c = clock_of (seen_by m)} (seen_by m) refl) ∙ ap under_of k.1 in
          rw same at (right.known y (seen-known y (old j) (rw (← same) at q)))) (removal-cases i);
    };
    put = λ x i. more-grounded _ (put_of x) (s.put x (old i));
    removal = λ r i. ⊎_elim (λ k. more-grounded _ (under_of r) (s.removal r k))
        (λ k. let same : seen_by m ≡ under_of r = sym (dots-of {c = clock_of (seen_by m)} (seen_by m) refl) ∙ ap under_of k.1 in
        more-grounded _ (under_of r) (rw same at seen-grounded)) (removal-cases i);
  }
    where
      old : {x : Update} → UpdateIn (removal_op (seen_by (applied no_map ops)) key ∷ h) x → UpdateIn h x
      old i = ⊎_elim (λ j. j) (λ j. apart (sym j.0)) (update-cases i)

  -- castribba_update
  module _ (actor key : ℕ) (x : Content) (earlier : (y : Update) → UpdateIn h y → y.dot.actor ≡ actor → UpdateIn ops y) where
    abbrev seen' : List Dot
    seen' = seen_by (applied no_map ops)

    abbrev dot' : Dot
    dot' = dot_after (seen_by (applied no_map ops)) actor

    abbrev new : Op
    new = update_op (context (applied no_map ops) actor) key x

    abbrev u : Update
    u = (update_op (context (applied no_map ops) actor) key x).update

    lawful-seen : Lawful (seen_by (applied no_map ops))
    lawful-seen = right.valid.clock

    put_is : put_of (update_op (context (applied no_map ops) actor) key x).update ≡ add_dot (seen_by (applied no_map ops))
        (dot_after (seen_by (applied no_map ops)) actor)
    put_is = dots-of {c = clock_of (add_dot seen' dot')} (add_dot seen' dot') refl

    -- no update has its dot yet
    not_yet : (y : Update) → UpdateIn h y → y.dot.actor ≡ actor → y.dot.counter ≡ counter_in (seen_by (applied no_map ops)) actor + 1 → ⊥
    not_yet y i p q = omega (arith, q, right.pictures.above y (earlier y i p), ap (counter_in seen') p)

    not_named : (c : List Dot) → Grounded h c → Names c (update_op (context (applied no_map ops) actor) key x).update → ⊥
    not_named c g n = let r = g actor (counter_in seen' actor + 1) (omega arith) n in not_yet r.0 r.1 r.2 r.3

    -- what its put clock names was in the run
    named : (y : Update) → UpdateIn h y → Names (add_dot (seen_by (applied no_map ops)) (dot_after (seen_by (applied no_map ops)) actor)) y
        → covers (add_dot (seen_by (applied no_map ops)) (dot_after (seen_by (applied no_map ops)) actor)) (put_of y) ≡ true
    named y i n =
        covers-trans (add_dot seen' dot') seen' (put_of y) (covers-add lawful-seen dot') (right.known y (decide (eqb actor y.dot.actor)
        (λ t. earlier y i (sym (eqb-true actor y.dot.actor t)))
        (λ t. seen-known y i (omega (arith, n, rw t at (counter-add lawful-seen dot' y.dot.actor))))))

    put-grounded : (a n : ℕ) → 0 < n → n ≤ counter_in (add_dot (seen_by (applied no_map ops)) (dot_after (seen_by (applied no_map ops)) actor)) a
        → (y : Update) × UpdateIn (update_op (context (applied no_map ops) actor) key x ∷ h) y × (y.dot.actor ≡ a) × (y.dot.counter ≡ n)
    put-grounded a n z q =
        decide (leb n (counter_in seen' a))
        (λ t. more-grounded new seen' seen-grounded a n z (leb-true n (counter_in seen' a) t))
        (λ t. let big = leb-false n (counter_in seen' a) t in
        decide (eqb actor a)
        (λ s. let same = eqb-true actor a s in (
          u,
          record { op = new; stands = Memᴰ.head refl; updates = refl; is = refl },
          same,
          omega (
            arith,
            big,
            q,
            rw s at (counter-add lawful-seen dot' a),
            ap (counter_in seen') same,
          ),
        ))
        (λ s. absurd (omega (arith, big, q, rw s at (counter-add lawful-seen dot' a)))))

    sound-updated : Sound (update_op (context (applied no_map ops) actor) key x ∷ h)
    sound-updated = record {
      valid = valid-more s.valid (record {
        removal = removal-as [] [] lawful-nil nil;
        update = λ t. record {
          dot = omega arith;
          laid = ap (λ c. record { clock = clock_of c; value = x }) (sym put_is);
          clock = rw put_is (lawful-add lawful-seen dot');
        };
      });
      honest = record {
        one = λ y z i j e. ⊎_elim
            (λ k. ⊎_elim (λ l. s.honest.one y z k l e)
            (λ l. let d = e ∙ ap (λ w. w.dot) (sym l.1) in absurd (not_yet y k (ap (λ x. x.actor) d) (ap (λ x. x.counter) d)))
            (update-cases j))
            (λ k. ⊎_elim
            (λ l. let d = sym e ∙ ap (λ w. w.dot) (sym k.1) in absurd (not_yet z l (ap (λ x. x.actor) d) (ap (λ x. x.counter) d)))
            (λ l. sym k.1 ∙ l.1) (update-cases j)) (update-cases i);
        put = λ y i z j n. ⊎_elim
            (λ k. ⊎_elim (λ l. s.honest.put y k z l n) (λ l. absurd (not_named (put_of y) (s.put y k) (rw (← l.1) at n))) (update-cases j))
            (λ k. put-closed z j (rw (← k.1) at n) k) (update-cases i);
        removal = λ r i z j n. ⊎_elim
            (λ k. ⊎_elim (λ l. s.honest.removal r k z l n)
            (λ l. absurd (not_named (under_of r) (s.removal r k) (rw (← l.1) at n))) (update-cases j))
            (λ k. apart k.0) (removal-cases i);
      };
      put = λ y i. ⊎_elim (λ k. more-grounded new (put_of y) (s.put y k)) (λ k. rw (← k.1, put_is) put-grounded) (update-cases i);
      removal = λ r i. ⊎_elim (λ k. more-grounded new (under_of r) (s.removal r k)) (λ k. apart k.0) (removal-cases i);
    }
      where
        put-closed : {y : Update} (z : Update) → UpdateIn (update_op (context (applied no_map ops) actor) key x ∷ h) z
            → Names (put_of (update_op (context (applied no_map ops) actor) key x).update) z
            → (true ≡ true) × ((update_op (context (applied no_map ops) actor) key x).update ≡ y) → covers (put_of y) (put_of z) ≡ true
        put-closed z j n k =
            rw (← k.1, put_is) (⊎_elim (λ l. named z l (rw put_is at n))
            (λ l. rw (← l.1, put_is) (covers-refl (lawful-add lawful-seen dot'))) (update-cases j))

-- one more that was made
update-more : {h ops : List Op} {o : Op} (actor key : ℕ) (x : Content) → Sound h → Stage h ops
    → ((u : Update) → UpdateIn h u → u.dot.actor ≡ actor → UpdateIn ops u)
    → make_update (applied no_map ops) actor key x ≡ record { number = 0; op = o } → Sound (o ∷ h)
update-more {ops = ops} actor key x s g e q = rw (made-is (applied no_map ops) actor key x q) (sound-updated s g actor key x e)

removal-more : {h ops : List Op} {o : Op} (key : ℕ) → Sound h → Stage h ops → removal_op (seen_by (applied no_map ops)) key ≡ o → Sound (o ∷ h)
removal-more key s g q = rw (← q) (sound-removed s g key)

-- T2b: "If every operation was made by `castribba_update` or `castribba_rm_read_ctx` on a map that such a run ended in .., H is honest."
sound-made : {h : List Op} → MadeOps.MadeOps h → Sound h
sound-made MadeOps.nothing = record {
  valid = λ o i. absurd (Memᴰ.not-nil i);
  honest = record {
    one = λ x y i. absurd (Memᴰ.not-nil i.stands);
    put = λ x i. absurd (Memᴰ.not-nil i.stands);
    removal = λ x i. absurd (Memᴰ.not-nil i.stands);
  };
  put = λ x i. absurd (Memᴰ.not-nil i.stands);
  removal = λ x i. absurd (Memᴰ.not-nil i.stands);
}
sound-made (MadeOps.updated actor key x d g e q) = update-more actor key x (sound-made d) g e q
sound-made (MadeOps.removed key d g q) = removal-more key (sound-made d) g q

pub honest-made : {h : List Op} → MadeOps.MadeOps h → Honest h
honest-made d = (sound-made d).honest

pub valid-made : {h : List Op} → MadeOps.MadeOps h → ValidOps h
valid-made d = (sound-made d).valid
