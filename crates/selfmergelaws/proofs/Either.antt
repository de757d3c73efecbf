-- Two unseen updates by different actors on different keys end in the same map in either order, where nothing is waiting.
use mathlib.Core.Path.{◌≡◌, refl, ap, ap₂, sym, ◌∙◌}
use mathlib.Core.Bool.{Bool, true, false, cond}
use mathlib.Core.List.{List, []}
use Prim.Native.Nat.{ℕ, max}
use native.Mathlib.Omega.{arith}
use borrow.Author.Tests.{ne_eqb}
use lib.Dec.{eqb}
use Rattle.listlaws.specs.Fold.{fold}
use Rattle.listlaws.specs.Sift.{sift}
use Rattle.clock.specs.declared.Dot.{Dot}
use Rattle.clock.specs.Dots.{counter_in, add_dot}
use Rattle.clock.specs.Lawful.{Lawful}
use Rattle.clock.proofs.Counters.{same-clock}
use Rattle.clock.proofs.Joins.{lawful-add, counter-add}
use Rattle.entries.specs.declared.Update.{Update}
use Rattle.entries.specs.Entries.{put_entries}
use Rattle.entries.specs.Valid.{ValidEntries}
use Rattle.entries.proofs.Packs.{entries-of}
use Rattle.removals.proofs.Packs.{waiting-of}
use Rattle.entries.proofs.Puts.{put-stays}
use Rattle.entries.proofs.EntriesValid.{valid-puts}
use Rattle.map.specs.declared.Map.{Map}
use Rattle.map.specs.Model.{seen_by, entries_in, waiting_in, map_as}
use Rattle.map.specs.Updating.{update}
use Rattle.map.specs.Judging.{judged}
use Rattle.map.specs.Valid.{Valid, ValidUpdate}
use Rattle.map.proofs.Removals.{update-closed}
use Rattle.map.proofs.Kept.{seen_of, valid-put, valid-update}
use Rattle.map.proofs.Verdicts.{judged-means}
use Rattle.selfmergelaws.specs.Pairs.{Unseen, Independent, answers, Unrefused, OneEnd}
use Rattle.selfmergelaws.proofs.Puts.{puts-trade}

-- two dots are added in either order
add-trade : {l : List Dot} → Lawful l → (d e : Dot) → add_dot (add_dot l d) e ≡ add_dot (add_dot l e) d
add-trade {l} h d e = same-clock (lawful-add (lawful-add h d) e) (lawful-add (lawful-add h e) d)
    (λ x. rw (counter-add (lawful-add h d) e x, counter-add (lawful-add h e) d x, counter-add h d x, counter-add h e x)
    (both (counter_in l x) (eqb d.actor x) (eqb e.actor x)))
  where
    both : (n : ℕ) (b c : Bool) → cond c (max (cond b (max n d.counter) n) e.counter) (cond b (max n d.counter) n) ≡ cond b
        (max (cond c (max n e.counter) n) d.counter) (cond c (max n e.counter) n)
    both n true true = omega arith
    both n true false = refl
    both n false true = refl
    both n false false = refl

-- an unseen update where nothing is waiting
quiet : {m : Map} {u : Update} → Valid m → ValidUpdate u → waiting_in m ≡ [] → Unseen m u
    → update m u ≡ map_as (add_dot (seen_by m) u.dot) (put_entries u (entries_in m)) []
unfolding fold sift
quiet {m} {u} h k e p =
    update-closed u h p
    ∙ rw e (ap (λ l. map_as (add_dot (seen_by m) u.dot) l []) (put-stays u (entries_in m) k.dot (λ x i. (h.entries.each x i).clock)
    (λ x i. (h.entries.each x i).some)))

-- the entries after one update
one-put : {m : Map} {u : Update} → Valid m → ValidUpdate u → ValidEntries (add_dot (seen_by m) u.dot) (put_entries u (entries_in m))
one-put {u = u} h k = valid-puts h.entries h.clock u k.dot (valid-put k)

module _ {m : Map} {u v : Update} (h : Valid m) (k : ValidUpdate u) (q : ValidUpdate v) where
  -- and after another
  two-puts : ValidEntries (add_dot (add_dot (seen_by m) u.dot) v.dot) (put_entries v (put_entries u (entries_in m)))
  two-puts = valid-puts (one-put h k) (lawful-add h.clock u.dot) v q.dot (valid-put q)

  -- one update after the other: the first leaves the second unseen
  in-turn : Independent m u v → update (update m u) v ≡ map_as (add_dot (add_dot (seen_by m) u.dot) v.dot)
      (put_entries v (put_entries u (entries_in m))) []
  in-turn a =
      let c = add_dot (seen_by m) u.dot in
      let l = put_entries u (entries_in m) in
      let e = quiet h k a.nothing a.first in
      let s = rw (ne_eqb u.dot.actor v.dot.actor a.actors) at (counter-add h.clock u.dot v.dot.actor) in
      ap (λ x. update x v) e
      ∙ quiet {m = map_as c l []} (rw e at (valid-update h k)) q (waiting-of []) (rw (seen_of c l [], s) a.second)
      ∙ rw (seen_of c l [], entries-of l) refl

swap : {m : Map} {u v : Update} → Independent m u v → Independent m v u
swap a = record { first = a.second; second = a.first; actors = λ e. a.actors (sym e); keys = λ e. a.keys (sym e); nothing = a.nothing }

-- either order, before the limits are judged
pub updates-trade : {m : Map} {u v : Update} → Valid m → ValidUpdate u → ValidUpdate v → Independent m u v
    → update (update m u) v ≡ update (update m v) u
updates-trade {m} {u} {v} h k q a =
    in-turn h k q a
    ∙ ap₂ (λ c l. map_as c l []) (add-trade h.clock u.dot v.dot)
    (puts-trade u v (entries_in m) (one-put h k).rising (one-put h q).rising (two-puts h k q).rising (two-puts h q k).rising a.keys)
    ∙ sym (in-turn h q k (swap a))

in-turn-answered : (m : Map) (u v : Update) → Unrefused m u v → answers m u v ≡ record { number = 0; map = update (update m u) v }
in-turn-answered m u v a =
    let e = ap (λ j. judged (update j.map v)) (judged-means (update m u) a.first) in
    e ∙ judged-means (update (update m u) v) (ap (λ j. j.number) (sym e) ∙ a.second)

-- an end theorem: "two unseen updates by different actors on different keys end in the same map in either order"
pub either_order : {m : Map} {u v : Update} → Valid m → ValidUpdate u → ValidUpdate v → Independent m u v → Unrefused m u v → Unrefused m v u
    → OneEnd m u v
either_order {m} {u} {v} h k q a b c = record {
  end = update (update m u) v;
  first = in-turn-answered m u v b;
  second = in-turn-answered m v u c ∙ ap (λ x. record { number = 0; map = x }) (sym (updates-trade h k q a));
}
