-- Uniting shortens nothing, so that what is within the limits was so before; a reset leaves no more removals than there were.
use mathlib.Core.Path.{refl, ◌≡◌}
use mathlib.Core.Bool.{true}
use mathlib.Core.Logic.{⊎_elim}
use mathlib.Core.List.Memᴰ
use mathlib.Core.List.{List, [], ◌∷◌}
use Prim.Native.Nat.{◌≤◌, ◌+◌}
use native.Mathlib.Omega.{arith}
use borrow.Author.Tests.{ltb-true, lt-ltb}
use lib.ListN.{length}
use Rattle.listlaws.specs.Fold.{fold}
use Rattle.listlaws.specs.Order.{◌∈◌}
use Rattle.listlaws.specs.First.{some}
use Rattle.listlaws.specs.Sift.{sift}
use Rattle.listlaws.proofs.Weaves.{weave-longer, weave-shorter}
use Rattle.listlaws.proofs.Sifts.{length-sift}
use Rattle.listlaws.proofs.Somes.{some-means, some_holds}
use Rattle.clock.specs.declared.Dot.{Dot}
use Rattle.limits.specs.Limits.{dot_limit, key_limit}
use Rattle.removals.specs.declared.Removal.{Removal}
use Rattle.removals.specs.Model.{under_of, listed_in}
use Rattle.removals.specs.Waits.{removal_before, unite, unite_all, unite_into, cut_removal, remains, reset_waiting}
use Rattle.removals.specs.Valid.{ValidWaiting}
use Rattle.removals.specs.Counted.{overlong}
use Rattle.removals.proofs.Uniting.{unite-left, unite-keys}
use Rattle.removals.proofs.WaitingValid.{valid-one, valid-unite-into, Ready}
use Rattle.removals.proofs.Unions.{union-longer}

-- a waiting removal within the limits
pub record RemovalFits (r : Removal) : Type 0 where
  pub dots : length (under_of r) ≤ dot_limit
  pub keys : length (listed_in r) ≤ key_limit

-- uniting adds, and shortens nothing
pub unite-longer : (l m : List Removal) → length l ≤ length (unite_all l m)
unfolding unite_all
unite-longer l m = weave-longer removal_before (λ w. w) (λ w. w) unite l m

-- a union lists no fewer keys
united-longer : (x y : Removal) → length (listed_in x) ≤ length (listed_in (unite x y))
united-longer x y = rw (unite-keys x y) (union-longer (listed_in x) (listed_in y))

pub unite-fits : {l m : List Removal} → ValidWaiting l → ValidWaiting m → ((r : Removal) → r ∈ unite_all l m → RemovalFits r) → (r : Removal) → r ∈ l
    → RemovalFits r
unite-fits h k f r i =
    ⊎_elim (λ j. f r j)
    (λ q. let g = f (unite r q.0) q.3 in record { dots = g.dots; keys = omega (arith, united-longer r q.0, g.keys) })
    (unite-left h.rising k.rising i)

pub into-longer : (ws l : List Removal) → length l ≤ length (fold unite_into l ws)
unfolding fold
into-longer [] l = omega arith
into-longer (w ∷ ws) l = omega (arith, into-longer ws (unite_into l w), unite-longer l (w ∷ []))

pub into-fits : (ws : List Removal) {l : List Removal} → ValidWaiting l → Ready ws → ((r : Removal) → r ∈ fold unite_into l ws → RemovalFits r)
    → (r : Removal) → r ∈ l → RemovalFits r
unfolding fold
into-fits [] h g f = f
into-fits (w ∷ ws) {l} h g f =
    let q = g w (Memᴰ.head refl) in
    unite-fits h (valid-one q.0 q.1) (into-fits ws (valid-unite-into h q.0 q.1) (λ v i. g v (Memᴰ.tail i)) f)

-- once too long, always too long
pub long-stays : {l m : List Removal} → ValidWaiting l → ValidWaiting m → some overlong l ≡ true → some overlong (unite_all l m) ≡ true
long-stays {l} {m} a b t =
    let r = some-means overlong l t in
    ⊎_elim
    (λ i. some_holds overlong i r.2)
    (λ s. some_holds overlong s.3 (lt-ltb key_limit (length (listed_in (unite r.0 s.0)))
    (omega (arith, ltb-true key_limit (length (listed_in r.0)) r.2, united-longer r.0 s.0))))
    (unite-left a.rising b.rising r.1)

pub unite-few : (l : List Removal) (r : Removal) → length (unite_into l r) ≤ length l + 1
unfolding unite_all
unite-few l r = weave-shorter removal_before (λ w. w) (λ w. w) unite l (r ∷ [])

unites-few : (ws l : List Removal) → length (fold unite_into l ws) ≤ length l + length ws
unfolding fold
unites-few [] l = omega arith
unites-few (r ∷ ws) l = omega (arith, unites-few ws (unite_into l r), unite-few l r)

-- a reset leaves no more removals than there were
pub reset-few : (c : List Dot) (l : List Removal) → length (reset_waiting c l) ≤ length l
unfolding reset_waiting
reset-few c l = omega (arith, unites-few (sift remains (cut_removal c) l) [], length-sift remains (cut_removal c) l)
