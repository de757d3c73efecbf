-- How a finished map is judged, by its three lists.
use mathlib.Core.Path.{◌≡◌, refl, ap, sym, ◌∙◌}
use mathlib.Core.Bool.{Bool, false, cond, true}
use mathlib.Core.List.{List}
use Prim.Native.Nat.{ℕ, ◌≤◌}
use native.Mathlib.Omega.{arith}
use borrow.Author.Tests.{le-ltb, eqb-true}
use lib.Dec.{eqb}
use lib.ListN.{length}
use Rattle.listlaws.specs.First.{some}
use Rattle.listlaws.specs.Order.{◌∈◌}
use Rattle.listlaws.specs.Sift.{those}
use Rattle.listlaws.proofs.Sifts.{length-sift}
use Rattle.listlaws.proofs.Somes.{false-some}
use Rattle.listlaws.proofs.Those.{those-means}
use Rattle.clock.specs.declared.Dot.{Dot}
use Rattle.limits.specs.Limits.{dot_limit, value_limit, entry_limit, waiting_limit, key_limit}
use Rattle.entries.specs.declared.Entry.{Entry}
use Rattle.removals.specs.declared.Removal.{Removal}
use Rattle.entries.specs.Model.{values_in}
use Rattle.removals.specs.Model.{listed_in}
use Rattle.entries.specs.Steps.{overfull}
use Rattle.removals.specs.Counted.{overlong}
use Rattle.entries.proofs.Packs.{entries-of}
use Rattle.removals.proofs.Packs.{waiting-of}
use Rattle.map.specs.declared.Map.{Map}
use Rattle.map.specs.Judging.{Judged}
use Rattle.map.specs.Model.{waiting_in, map_as, no_map}
use Rattle.map.specs.Judging.{exceeding, over_entries, over_values, over_waiting, over_keys, over_number, judged}
use Rattle.map.specs.Valid.{Valid, Within}
use Rattle.map.proofs.Kept.{seen_of}
use Rattle.map.proofs.Small.{Small, small-over}
use Rattle.map.proofs.Accepts.{fits-means}

-- the answer, by which limits are broken
abbrev pub answer : ℕ → Map → Judged
answer n m = cond (eqb n 0) (record { number = 0; map = m }) (record { number = n; map = no_map })

abbrev pub outcome : Bool → Bool → Bool → Bool → Bool → Map → Judged
outcome a b c d e m = answer (cond a 4 (cond b 5 (cond c 6 (cond d 7 (cond e 8 0))))) m

pub judged-as : (c : List Dot) (l : List Entry) (w : List Removal) → Valid (map_as c l w) → Small (map_as c l w)
    → (a b d e f : Bool) → exceeding dot_limit c ≡ a → exceeding entry_limit l ≡ b → some overfull l ≡ d → exceeding waiting_limit w ≡ e
    → some overlong w ≡ f
    → judged (map_as c l w) ≡ outcome a b d e f (map_as c l w)
unfolding judged over_number over_entries over_values over_waiting over_keys
judged-as c l w v s a b d e f p q r t u = rw (small-over v s, seen_of c l w, entries-of l, waiting-of w, p, q, r, t, u)

-- a map within the limits is judged to be itself
pub judged-within : {m : Map} → over_number m ≡ 0 → judged m ≡ record { number = 0; map = m }
unfolding judged
judged-within e = rw e

-- and one that is not refused is answered
pub judged-number : (m : Map) → (judged m).number ≡ over_number m
unfolding judged
judged-number m = go (eqb (over_number m) 0) refl
  where
    go : (b : Bool) → eqb (over_number m) 0 ≡ b → (cond {A = Judged} b (record { number = 0; map = m })
        (record { number = over_number m; map = no_map })).number ≡ over_number m
    go true t = sym (eqb-true (over_number m) 0 t)
    go false t = refl

pub judged-means : (m : Map) → (judged m).number ≡ 0 → judged m ≡ record { number = 0; map = m }
judged-means m z = judged-within (sym (judged-number m) ∙ z)

pub judged-map : (m : Map) → (judged m).number ≡ 0 → (judged m).map ≡ m
judged-map m z = ap (λ j. j.map) (judged-means m z)

pub small-within : {m : Map} → Within m → Small m
small-within {m} i =
    let f = fits-means m i.limits in
    record { clock = tt; entries = λ e j. record { each = (f.entries e j).each }; waiting = λ r j. (f.waiting r j).dots }

-- entries of which each has few enough values, removals of which each has few enough keys
pub none-overfull : (l : List Entry) → ((e : Entry) → e ∈ l → length (values_in e) ≤ value_limit) → some overfull l ≡ false
none-overfull l f = false-some overfull l (λ e i. le-ltb value_limit (length (values_in e)) (f e i))

pub none-overlong : (l : List Removal) → ((r : Removal) → r ∈ l → length (listed_in r) ≤ key_limit) → some overlong l ≡ false
none-overlong l f = false-some overlong l (λ r i. le-ltb key_limit (length (listed_in r)) (f r i))

-- those that wait are no more, and no longer
module _ {m : Map} (i : Within m) (p : Removal → Bool) where
  pub those-few : length (those p (waiting_in m)) ≤ waiting_limit
  those-few = omega (arith, length-sift p (λ r. r) (waiting_in m), (fits-means m i.limits).number)

  pub those-short : some overlong (those p (waiting_in m)) ≡ false
  those-short = none-overlong (those p (waiting_in m)) (λ r j. ((fits-means m i.limits).waiting r (those-means p (waiting_in m) j).0).keys)
