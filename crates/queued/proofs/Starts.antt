-- Where keys lie: in an image, in the image of a removal's operation, and nowhere; and that none waits where none is counted.
use mathlib.Core.Path.{◌≡◌, refl, ap, ap₂, sym, ◌∙◌}
use mathlib.Core.List.Memᴰ
use mathlib.Core.List.{List, [], ◌∷◌, ◌++◌, map, append-nil}
use Prim.Native.Nat.{ℕ, ◌*◌, ◌≤◌}
use native.Mathlib.Omega.{arith}
use lib.ListN.{length}
use borrow.Author.Tests.{ltb-true, lt-ltb}
use Rattle.listlaws.specs.Order.{◌∈◌, Ascending, nil, next, by}
use Rattle.listlaws.proofs.Orders.{by-strict, same-members, head-before, tail-ascends}
use Rattle.removals.specs.declared.Removal.{Removal}
use Rattle.removals.specs.Model.{listed_in}
use Rattle.map.specs.declared.Map.{Map}
use Rattle.map.specs.Model.{waiting_in}
use Rattle.mapimage.specs.Sorted.{in_order}
use Rattle.mapimage.specs.MapImage.{flat_from, key_number, number_record}
use Rattle.mapimage.proofs.Sorts.{order-ascends, order-has, order-from-list, from_start}
use Rattle.opimage.specs.OpImage.{key_record}
use Rattle.walks.specs.declared.Layout.{Layout}
use Rattle.walks.specs.Walk.{part}
use Rattle.layout.specs.Whole.{Lies}
use Rattle.walks.proofs.Loops.{part_end}
use Rattle.map.proofs.Accepts.{fits-means}
use Rattle.queued.specs.declared.Queue.{Queue}
use Rattle.queued.specs.Queue.{rank, Keyed, Queued}
use Rattle.queued.proofs.Marking.{numbers_of}

ranks : (l : List ℕ) → map rank (map number_record l) ≡ l
ranks [] = refl
ranks (x ∷ l) = ap₂ ◌∷◌ (same x) (ranks l)
  where
    same : (n : ℕ) → rank (number_record n) ≡ n
    same n = omega arith

-- the keys of an image's waiting removals
pub keyed-image : {s : List ℕ} {m : Map} {l : Layout} → Lies s m l → Keyed s l.sixth l.end 0 (waiting_in m)
keyed-image {s} {m} {l} h = record {
  order = h.places.sixth;
  within = h.places.end;
  few = (fits-means m h.within.limits).number;
  numbers = ap (map rank) (sym h.sections.sixth) ∙ ranks (numbers_of (waiting_in m)) ∙ sym (from_start (numbers_of (waiting_in m)));
}

no-numbers : numbers_of [] ≡ []
unfolding flat_from
no-numbers =
    same-members (by-strict (λ n. n)) (in_order []) [] (order-ascends []) nil (λ x i. absurd (Memᴰ.not-nil (order-from-list [] x i)))
    (λ x i. absurd (Memᴰ.not-nil i))

-- no removals
pub none-queued : {s : List ℕ} {q : Queue} (w : List Removal) → Queued s q w → q.len ≡ 0 → w ≡ []
none-queued [] h e = refl
none-queued (r ∷ w) h e = let n = h.count in absurd (omega arith)

-- no keys
pub keyed-none : (s : List ℕ) (at : ℕ) → at * 16 ≤ length s → Keyed s at at 0 []
keyed-none s at h = record {
  order = omega arith;
  within = h;
  few = omega arith;
  numbers = ap (map rank) (part_end s at at (omega arith)) ∙ sym (from_start (numbers_of []) ∙ no-numbers);
}

key-ranks : (l : List ℕ) → map rank (map (key_record 9 0) l) ≡ map (key_number 0) l
key-ranks [] = refl
key-ranks (k ∷ l) = ap (λ m. key_number 0 k ∷ m) (key-ranks l)

rising-numbers : (l : List ℕ) → Ascending (by (λ k. k)) l → Ascending (by (λ n. n)) (map (key_number 0) l)
rising-numbers [] a = nil
rising-numbers (k ∷ l) a =
    next {x = key_number 0 k} (λ x i. let (h, j, e) = Memᴰ.of_map (key_number 0) l i in let o = ltb-true k h (head-before a h j) in
    lt-ltb (key_number 0 k) x (omega arith)) (rising-numbers l (tail-ascends a))

numbers-one : (r : Removal) → Ascending (by (λ k. k)) (listed_in r) → numbers_of (r ∷ []) ≡ map (key_number 0) (listed_in r)
unfolding flat_from
numbers-one r rising =
    same-members (by-strict (λ n. n)) (numbers_of (r ∷ [])) (map (key_number 0) (listed_in r))
    (order-ascends (map (key_number 0) (listed_in r) ++ []))
    (rising-numbers (listed_in r) rising)
    (λ x i. back x (order-from-list (map (key_number 0) (listed_in r) ++ []) x i))
    (λ x i. order-has (map (key_number 0) (listed_in r) ++ []) x (rw (append-nil (map (key_number 0) (listed_in r))) i))
  where
    back : (x : ℕ) → x ∈ (map (key_number 0) (listed_in r) ++ []) → x ∈ map (key_number 0) (listed_in r)
    back x i = rw (append-nil (map (key_number 0) (listed_in r))) at i

-- the keys of one removal, in records of kind 9
module _ {s : List ℕ} {at end : ℕ} (r : Removal) (order : at ≤ end) (within : end * 16 ≤ length s) (rising : Ascending (by (λ k. k)) (listed_in r))
    (e : part s at end ≡ map (key_record 9 0) (listed_in r)) where
  pub keyed-removal : Keyed s at end 0 (r ∷ [])
  keyed-removal = record {
    order = order;
    within = within;
    few = omega arith;
    numbers = ap (map rank) e ∙ key-ranks (listed_in r) ∙ sym (from_start (numbers_of (r ∷ [])) ∙ numbers-one r rising);
  }
