-- "After a merge, or an update that was not yet seen, no waiting removal is covered by the map clock": of every map, whatever its values are.
use mathlib.Core.Path.{◌≡◌, ap, sym, ◌∙◌}
use mathlib.Core.Bool.{false}
use mathlib.Core.List.{List}
use Prim.Native.Nat.{ℕ, suc, ◌<◌}
use borrow.Author.Tests.{not-true}
use Rattle.listlaws.specs.Sift.{those}
use Rattle.listlaws.specs.Order.{◌∈◌}
use Rattle.listlaws.proofs.Those.{those-means}
use Rattle.clock.specs.declared.Dot.{Dot}
use Rattle.clock.specs.Dots.{counter_in, covers, join_dots, add_dot}
use Rattle.removals.specs.declared.Removal.{Removal}
use Rattle.removals.specs.Model.{under_of}
use Rattle.removals.specs.Waits.{waits, unite_all}
use Rattle.removals.proofs.Waits.{waits-covers, waits-same}
use Rattle.removals.proofs.Uniting.{unite-those}
use Rattle.levels.specs.MapOver.{update_map_of, merge_of}
use Rattle.levels.specs.Level.{Val, Op, rules_at}
use Rattle.levels.specs.Good.{GoodAt, GoodOpAt}
use Rattle.levels.proofs.Closed.{update-closed}
use Rattle.levels.proofs.Cuts.{cut_laws}
use Rattle.levels.proofs.Kept.{merge_laws, closed}
use Rattle.levels.proofs.Applies.{apply_laws, put-stays}

-- what waits under a clock is not covered by it
uncovered : (c : List Dot) (w : List Removal) (r : Removal) → r ∈ those (waits c) w → covers c (under_of r) ≡ false
uncovered c w r i = not-true (covers c (under_of r)) (sym (waits-covers c r) ∙ (those-means (waits c) w i).1)

pub merge-uncovered : (n : ℕ) (m k : Val (suc n)) → GoodAt (suc n) m → GoodAt (suc n) k → (r : Removal)
    → r ∈ (merge_of (rules_at n) m k).waiting → covers (merge_of (rules_at n) m k).seen (under_of r) ≡ false
merge-uncovered n m k g h r i =
    let c = join_dots m.seen k.seen in
    let e = closed (cut_laws n) (merge_laws n) g h in
    let w = ap (λ x. x.waiting) e ∙ sym (unite-those g.waiting.rising h.waiting.rising (waits c) (λ x y q. waits-same c x y q)) in
    rw (ap (λ x. x.seen) e) (uncovered c (unite_all m.waiting k.waiting) r (rw w at i))

pub update-uncovered : (n : ℕ) (m : Val (suc n)) → GoodAt (suc n) m → (d : Dot) → 0 < d.counter → (k : ℕ) (o : Op n) → GoodOpAt n o
    → counter_in m.seen d.actor < d.counter → (r : Removal)
    → r ∈ (update_map_of (rules_at n) m d k o).waiting → covers (update_map_of (rules_at n) m d k o).seen (under_of r) ≡ false
update-uncovered n m g d p k o q u r i =
    let e = update-closed (rules_at n) m d k o g.waiting.rising (put-stays (cut_laws n) (merge_laws n) (apply_laws n) g d p k q) u in
    rw (ap (λ x. x.seen) e) (uncovered (add_dot m.seen d) m.waiting r (rw (ap (λ x. x.waiting) e) at i))
