-- The waiting removals of a draft: within which bounds they are.
use mathlib.Core.Path.{◌≡◌, refl, ◌∙◌}
use mathlib.Core.Bool.{false}
use mathlib.Core.List.Memᴰ
use mathlib.Core.List.{List, [], ◌∷◌}
use Prim.Native.Nat.{ℕ, ◌*◌, ◌≤◌}
use native.Mathlib.Omega.{arith}
use lib.ListN.{length, length-map}
use borrow.Author.Tests.{ltb-false, le-ltb}
use Rattle.listlaws.specs.First.{some}
use Rattle.listlaws.specs.Order.{◌∈◌}
use Rattle.listlaws.proofs.Somes.{some-false}
use Rattle.scan.proofs.Eachs.{decide}
use Rattle.limits.specs.Limits.{dot_limit, waiting_limit, key_limit}
use Rattle.removals.specs.declared.Removal.{Removal}
use Rattle.removals.specs.Model.{under_of, listed_in}
use Rattle.removals.specs.Counted.{overlong}
use Rattle.removals.specs.Valid.{ValidWaiting}
use Rattle.map.specs.Judging.{exceeding}
use Rattle.mapimage.specs.Sorted.{in_order}
use Rattle.mapimage.specs.MapImage.{flat_from, waiting_dots, key_numbers, number_record, waiting_keys}
use Rattle.listlaws.specs.Fold.{total_of}
use Rattle.answers.proofs.Totals.{length-flat}
use Rattle.answers.proofs.Distinct.{length-order, keys-distinct}
use Rattle.walks.specs.declared.Span.{Span}
use Rattle.planned.specs.declared.Plan.{Plan}
use Rattle.drafting.specs.Drafted.{waiting_number, Planned}

pub few-waiting : (w : List Removal) → waiting_number w ≡ 0 → length w ≤ waiting_limit
few-waiting w z = decide (exceeding waiting_limit w) (λ t. absurd (let q = rw t at z in omega arith)) (λ f. ltb-false _ _ f)

pub not-over : {s t : List ℕ} {ours theirs : Span} {plan : Plan} {w : List Removal} → Planned s t ours theirs plan w → waiting_number w ≡ 0
    → plan.over ≡ false
not-over {w = w} p z = p.made.over ∙ le-ltb _ _ (few-waiting w z)

-- a total, where each is small
bound : (f : Removal → ℕ) (w : List Removal) → ((r : Removal) → r ∈ w → f r ≤ key_limit) → total_of f w ≤ length w * key_limit
unfolding total_of
bound f [] h = omega arith
bound f (r ∷ w) h = omega (arith, h r (Memᴰ.head refl), bound f w (λ x i. h x (Memᴰ.tail i)))

-- how many dots there can be, and how many keys
pub few-dots : {w : List Removal} → ((r : Removal) → r ∈ w → length (under_of r) ≤ dot_limit) → length w ≤ waiting_limit
    → length (flat_from waiting_dots 0 w) ≤ waiting_limit * key_limit
few-dots {w} s h =
    let k = length-flat (λ r. length (under_of r)) waiting_dots (λ i r. length-map (under_of r) _) 0 w in
    omega (arith, bound (λ r. length (under_of r)) w (λ r i. omega (arith, s r i)))

pub few-keys : {w : List Removal} → ValidWaiting w → length w ≤ waiting_limit → some overlong w ≡ false
    → length (waiting_keys w) ≤ waiting_limit * key_limit
few-keys {w} v h t =
    let k = length-flat (λ r. length (listed_in r)) key_numbers (λ i r. length-map (listed_in r) _) 0 w in
    let o = length-order (flat_from key_numbers 0 w) (keys-distinct 0 w (omega arith) (λ r i. (v.each r i).keys)) in
    let n = length-map (in_order (flat_from key_numbers 0 w)) number_record in
    omega (arith, bound (λ r. length (listed_in r)) w (λ r i. ltb-false key_limit (length (listed_in r)) (some-false overlong t r i)))
