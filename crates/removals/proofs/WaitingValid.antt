-- Removals that wait stay valid: united, with one more, and after a reset; and what uniting keeps holds of them.
use mathlib.Core.Path.{◌≡◌, sym}
use mathlib.Core.Bool.{Bool, false}
use mathlib.Core.List.Memᴰ
use mathlib.Core.List.{List, [], ◌∷◌}
use borrow.Author.Tests.{not-true}
use Rattle.listlaws.specs.Sift.{those, sift}
use Rattle.listlaws.specs.Order.{◌∈◌, nil}
use Rattle.listlaws.specs.Fold.{fold}
use Rattle.listlaws.proofs.Those.{those-ascends, those-means, sift-means}
use Rattle.listlaws.proofs.Pads.{take-pad}
use Rattle.listlaws.proofs.Sides.{one-ascends, fold-keeps}
use Rattle.clock.specs.declared.Dot.{Dot}
use Rattle.clock.specs.Dots.{is_empty, no_dot, clock_of, cut_dots}
use Rattle.limits.specs.Limits.{dot_limit}
use Rattle.clock.proofs.Cuts.{lawful-cut}
use Rattle.removals.specs.declared.Removal.{Removal}
use Rattle.removals.specs.Model.{keys_as, under_of}
use Rattle.removals.specs.Waits.{unite, unite_all, unite_into, cut_removal, remains, reset_waiting, waits}
use Rattle.removals.specs.Valid.{ValidRemoval, ValidWaiting}
use Rattle.removals.proofs.Unions.{union-ascends}
use Rattle.removals.proofs.Uniting.{unite-ascends, unite-each, unite-keys}
use Rattle.removals.proofs.Waits.{waits-some}

pub valid-unite : {x y : Removal} → ValidRemoval x → ValidRemoval y → ValidRemoval (unite x y)
valid-unite {x} {y} h k = record {
  laid = λ i. record { clock = (h.laid i).clock; keys = keys_as (sym (unite-keys x y) i) };
  clock = h.clock;
  keys = rw (unite-keys x y) (union-ascends h.keys k.keys);
}

pub unite-valid : {l m : List Removal} → ValidWaiting l → ValidWaiting m → ValidWaiting (unite_all l m)
unite-valid h k = record {
  rising = unite-ascends h.rising k.rising;
  each = unite-each h.rising k.rising ValidRemoval h.each k.each (λ x y i j e. valid-unite (h.each x i) (k.each y j));
  some = unite-each h.rising k.rising (λ r. is_empty (under_of r) ≡ false) h.some k.some (λ x y i j e. h.some x i);
}

pub those-valid : (p : Removal → Bool) {l : List Removal} → ValidWaiting l → ValidWaiting (those p l)
those-valid p {l} h = record {
  rising = those-ascends p h.rising;
  each = λ r i. h.each r (those-means p l i).0;
  some = λ r i. h.some r (those-means p l i).0;
}

-- one removal
pub valid-cut-removal : {r : Removal} → ValidRemoval r → (c : List Dot) → ValidRemoval (cut_removal c r)
valid-cut-removal {r} v c =
    let cut = cut_dots c (under_of r) in
    record {
      laid = λ i. record { clock = clock_of (sym (take-pad no_dot dot_limit cut) i); keys = (v.laid i).keys };
      clock = rw (take-pad no_dot dot_limit cut) (lawful-cut c v.clock);
      keys = v.keys;
    }

-- lists of removals
pub valid-none : ValidWaiting []
valid-none = record { rising = nil; each = λ r i. absurd (Memᴰ.not-nil i); some = λ r i. absurd (Memᴰ.not-nil i) }

pub valid-one : {r : Removal} → ValidRemoval r → is_empty (under_of r) ≡ false → ValidWaiting (r ∷ [])
valid-one {r} v n = record {
  rising = one-ascends r;
  each = λ s i. let same : s ≡ r = Memᴰ.eq_of_singleton i in rw same v;
  some = λ s i. let same : s ≡ r = Memᴰ.eq_of_singleton i in rw same n;
}

pub valid-unite-into : {l : List Removal} {r : Removal} → ValidWaiting l → ValidRemoval r → is_empty (under_of r) ≡ false
    → ValidWaiting (unite_into l r)
valid-unite-into v w n = unite-valid v (valid-one w n)

-- removals under clocks that are not empty
abbrev pub Ready : List Removal → Type 0
Ready ws = (w : Removal) → w ∈ ws → ValidRemoval w × (is_empty (under_of w) ≡ false)

-- removals that wait are ready
pub ready-those : (seen : List Dot) {ws : List Removal} → ((w : Removal) → w ∈ ws → ValidRemoval w) → Ready (those (waits seen) ws)
ready-those seen {ws} f w i = let r = those-means (waits seen) ws i in (f w r.0, waits-some seen w r.1)

-- so are those that remain when they are cut
pub ready-cut : (c : List Dot) {ws : List Removal} → ((w : Removal) → w ∈ ws → ValidRemoval w) → Ready (sift remains (cut_removal c) ws)
ready-cut c {ws} f w i =
    let s = sift-means remains (cut_removal c) ws i in
    (rw s.changed (valid-cut-removal (f s.source s.stands) c), not-true (is_empty (under_of w)) s.passes)

-- what uniting keeps of removals holds of a list with one more, with all of another, and of what a reset leaves
module _ (R : Removal → Type 0) (unites : (x y : Removal) → ValidRemoval x → ValidRemoval y → R x → R y → R (unite x y)) where
  pub into-each : {l : List Removal} {r : Removal} → ValidWaiting l → ValidRemoval r → is_empty (under_of r) ≡ false → ((x : Removal) → x ∈ l → R x)
      → R r → (z : Removal) → z ∈ unite_into l r → R z
  into-each {l} {r} v w n f p =
      unite-each v.rising (valid-one w n).rising R f
      (λ y i. let same : y ≡ r = Memᴰ.eq_of_singleton i in rw same p)
      (λ x y i j e. let same : y ≡ r = Memᴰ.eq_of_singleton j in rw same (unites x r (v.each x i) w (f x i) p))

  all-each : (ws : List Removal) {l : List Removal} → ValidWaiting l → Ready ws → ((x : Removal) → x ∈ l → R x) → ((w : Removal) → w ∈ ws → R w)
      → ValidWaiting (fold unite_into l ws) × ((z : Removal) → z ∈ fold unite_into l ws → R z)
  all-each ws {l} v g f p =
      fold-keeps unite_into (λ s. ValidWaiting s × ((z : Removal) → z ∈ s → R z)) ws
      (λ s w i b. let q = g w i in (valid-unite-into b.0 q.0 q.1, into-each b.0 q.0 q.1 b.1 (p w i)))
      l (v, f)

  pub reset-each : {l : List Removal} → ValidWaiting l → (c : List Dot) → ((r : Removal) → r ∈ l → R (cut_removal c r))
      → ValidWaiting (reset_waiting c l) × ((z : Removal) → z ∈ reset_waiting c l → R z)
  unfolding reset_waiting
  reset-each {l} v c f =
      all-each (sift remains (cut_removal c) l) valid-none (ready-cut c v.each) (λ z i. absurd (Memᴰ.not-nil i))
      (λ w i. let s = sift-means remains (cut_removal c) l i in rw s.changed (f s.source s.stands))

-- those that wait stay valid
pub into-all : (ws : List Removal) {l : List Removal} → ValidWaiting l → Ready ws → ValidWaiting (fold unite_into l ws)
into-all ws v g = (all-each (λ r. Unit {0}) (λ x y v w p q. tt) ws v g (λ x i. tt) (λ w i. tt)).0

pub valid-reset-waiting : {l : List Removal} → ((r : Removal) → r ∈ l → ValidRemoval r) → (c : List Dot) → ValidWaiting (reset_waiting c l)
unfolding reset_waiting
valid-reset-waiting {l} f c = into-all (sift remains (cut_removal c) l) valid-none (ready-cut c f)
