-- The plans of results: of two queues that were walked, and of one that was reset.
use mathlib.Core.Path.{◌≡◌, refl, ap, sym, ◌∙◌, subst}
use mathlib.Core.Bool.{false}
use mathlib.Core.List.Memᴰ
use mathlib.Core.List.{List, [], map}
use Prim.Native.Nat.{ℕ, ◌≤◌, ◌<◌}
use native.Mathlib.Omega.{arith}
use borrow.Author.Tests.{ltb-false, le-ltb}
use lib.Dec.{ltb}
use lib.ListN.{length, get_or, replicate, get_or-replicate, length-map}
use Rattle.listlaws.specs.Fold.{fold}
use Rattle.listlaws.specs.Sift.{sift, those}
use Rattle.clock.specs.declared.Dot.{Dot}
use Rattle.clock.proofs.Within.{nil-empty}
use Rattle.removals.specs.declared.Removal.{Removal}
use Rattle.limits.specs.Limits.{waiting_limit}
use Rattle.removals.specs.Model.{under_of}
use Rattle.removals.specs.Valid.{ValidWaiting}
use Rattle.removals.specs.Waits.{waits, unite_all, cut_removal, reset_waiting}
use Rattle.queued.proofs.Marking.{get_d_past}
use Rattle.planned.specs.declared.Held.{Held}
use Rattle.planned.specs.declared.Ordered.{Ordered}
use Rattle.planned.specs.Planned.{no_held, HeldLies, Plans}
use Rattle.planned.specs.Left.{Lined}
use Rattle.planned.specs.Seats.{gather_all, place_among, united, emptied_where_seen}
use Rattle.planned.proofs.Seats.{seated-end}
use Rattle.planned.proofs.Uniting.{clocks-gathered}
use Rattle.planned.proofs.Going.{planned}
use Rattle.planned.proofs.Leaving.{plans-same, sound-emptied, sound-cut, united-merge, united-reset}
use Rattle.planned.proofs.Lefts.{left-lies}
use Rattle.planned.proofs.Joining.{staying, unseen, stay-clocks, Joining, join-end}

module _ (seen : List Dot) {s t : List ℕ} {w v : List Removal} (a : ValidWaiting w) (b : ValidWaiting v) (fw : length w ≤ waiting_limit)
    (fv : length v ≤ waiting_limit)
    {i j count : ℕ} {items : List Held} {ours theirs : List ℕ} (g : Joining seen w v s t i j count items ours theirs) (h : length w ≤ i)
    (k : length v ≤ j) where
  same : map under_of (united (map (emptied_where_seen seen) w) (map (emptied_where_seen seen) v)) ≡ staying seen w v
  same = ap (map under_of) (united-merge seen a b) ∙ stay-clocks seen a.rising b.rising

  number : count ≡ length (united (map (emptied_where_seen seen) w) (map (emptied_where_seen seen) v))
  number = join-end g h k ∙ ap length (sym same) ∙ length-map (united (map (emptied_where_seen seen) w) (map (emptied_where_seen seen) v)) under_of

  few : ltb waiting_limit count ≡ false → length (staying seen w v) ≤ waiting_limit
  few f = let e = join-end g h k in let n = ltb-false waiting_limit count f in omega arith

  pub join-plans : Plans s t w v (unite_all (those (waits seen) w) (those (waits seen) v))
      (record { over = ltb waiting_limit count; items = items; len = count; ours = ours; theirs = theirs })
  join-plans =
      plans-same (emptied_where_seen seen) (λ r. refl) w v
      (subst (λ l. Plans s t (map (emptied_where_seen seen) w) (map (emptied_where_seen seen) v) l
      (record { over = ltb waiting_limit count; items = items; len = count; ours = ours; theirs = theirs })) (united-merge seen a b)
      (planned (map (emptied_where_seen seen) w) (map (emptied_where_seen seen) v) (omega (arith, length-map w (emptied_where_seen seen)))
      (omega (arith, length-map v (emptied_where_seen seen))) (sound-emptied seen a.each) (sound-emptied seen b.each) s t
      (record { over = ltb waiting_limit count; items = items; len = count; ours = ours; theirs = theirs })
      (ap (ltb waiting_limit) number) (λ f. number)
      (λ f m q. subst (λ l. HeldLies s t (get_or items m no_held) (get_or l m [])) (sym same) (g.lies (few f) m (omega (arith, number))))
      (λ n f q. seated-end (g.first (few f)) (omega (
        arith,
        length-map w (emptied_where_seen seen),
        length-map (map (emptied_where_seen seen) w) under_of,
      )) n q
      ∙ ap (λ l. place_among l (get_or (unseen seen w) n [])) (sym same))
      (λ n f q. seated-end (g.second (few f)) (omega (
        arith,
        length-map v (emptied_where_seen seen),
        length-map (map (emptied_where_seen seen) v) under_of,
      )) n q
      ∙ ap (λ l. place_among l (get_or (unseen seen v) n [])) (sym same))))

module _ (c : List Dot) {s : List ℕ} (t : List ℕ) {w : List Removal} (a : ValidWaiting w) (fw : length w ≤ waiting_limit) {all : Ordered}
    (ours : List ℕ)
    (g : Lined s all (gather_all [] (map under_of (map (cut_removal c) w))))
    (told : (n : ℕ) → n < waiting_limit → get_or ours n waiting_limit ≡ place_among (gather_all [] (map under_of (map (cut_removal c) w)))
    (get_or (map under_of (map (cut_removal c) w)) n [])) where
  gathered : map under_of (united (map (cut_removal c) w) []) ≡ gather_all [] (map under_of (map (cut_removal c) w))
  unfolding fold sift
  gathered = clocks-gathered [] (map (cut_removal c) w)

  many : all.len ≡ length (united (map (cut_removal c) w) [])
  many = g.count ∙ ap length (sym gathered) ∙ length-map (united (map (cut_removal c) w) []) under_of

  none_told : (n : ℕ) → n < waiting_limit → get_or (replicate waiting_limit waiting_limit) n waiting_limit ≡ place_among
      (map under_of (united (map (cut_removal c) w) [])) (get_or (map under_of []) n [])
  unfolding place_among
  none_told n h = get_or-replicate {A = ℕ} waiting_limit n waiting_limit waiting_limit h
      ∙ sym (rw (get_d_past {A = List Dot} [] n [] (omega arith), nil-empty))

  pub reset-plans : Plans s t w [] (reset_waiting c w) (record
      { over = false; items = all.items; len = all.len; ours = ours; theirs = replicate waiting_limit waiting_limit })
  reset-plans =
      plans-same (cut_removal c) (λ r. refl) w []
      (subst (λ l. Plans s t (map (cut_removal c) w) [] l (record
      { over = false; items = all.items; len = all.len; ours = ours; theirs = replicate waiting_limit waiting_limit })) (united-reset c w)
      (planned (map (cut_removal c) w) [] (omega (arith, length-map w (cut_removal c))) (omega arith) (sound-cut c a.each)
      (λ r i. absurd (Memᴰ.not-nil i)) s t
      (record { over = false; items = all.items; len = all.len; ours = ours; theirs = replicate waiting_limit waiting_limit })
      (sym (le-ltb waiting_limit (length (united (map (cut_removal c) w) [])) (let e = g.few in let d = g.count in omega (arith, many)))) (λ f. many)
      (λ f m q. subst (λ l. HeldLies s t (get_or all.items m no_held) (get_or l m [])) (sym gathered)
      (left-lies (g.each m (let d = g.count in omega (arith, many)))))
      (λ n f q. told n q ∙ ap (λ l. place_among l (get_or (map under_of (map (cut_removal c) w)) n [])) (sym gathered))
      (λ n f q. none_told n q)))
