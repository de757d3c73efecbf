-- Two maps that section 4 makes of the same operations have the same settings.
use mathlib.Core.Path.{◌≡◌, refl, ap, ap₂, sym, ◌∙◌}
use mathlib.Core.List.Memᴰ
use mathlib.Core.List.Permᴰ
use mathlib.Core.List.{List, ◌∷◌, map, Permᴰ}
use Prim.Native.Nat.{ℕ, ◌≤◌}
use native.Mathlib.Omega.{arith}
use borrow.Author.Tests.{leb-true, leb-false}
use lib.Dec.{leb}
use Rattle.listlaws.specs.Order.{◌∈◌}
use Rattle.listlaws.proofs.Orders.{by-strict, same-members}
use Rattle.clock.specs.declared.Dot.{Dot}
use Rattle.clock.specs.Dots.{counter_in}
use Rattle.clock.specs.Lawful.{Lawful}
use Rattle.clock.proofs.Counters.{same-clock}
use Rattle.register.specs.declared.Value.{Value}
use Rattle.removals.specs.declared.Removal.{Removal}
use Rattle.entries.specs.declared.Update.{Update}
use Rattle.entries.specs.Model.{dots_in}
use Rattle.removals.specs.Model.{under_of, listed_in, removal_as}
use Rattle.removals.proofs.ClockOrder.{removal-strict}
use Rattle.entries.proofs.Cuts.{whole-valid, whole-none, Whole}
use Rattle.entries.proofs.Puts.{at_every}
use Rattle.map.specs.declared.Map.{Map}
use Rattle.map.specs.Model.{seen_by, entries_in, waiting_in}
use Rattle.map.specs.Valid.{Valid}
use Rattle.maplaws.specs.Among.{OneOf, UnderClock, Lists}
use Rattle.maplaws.proofs.United.{one-clock}
use Rattle.scan.proofs.Eachs.{decide}
use Rattle.alikelaws.specs.Picture.{Matched, nil, next, AtKey, at_key, Pictures}
use Rattle.alikelaws.specs.Settings.{SameSettings}
use Rattle.alikelaws.proofs.Perms.{same_perm}

-- a register's values without clocks are those of its updates
matched-contents : {us : List Update} {vs : List Value} → Matched us vs → map (λ v. v.value) vs ≡ map (λ u. u.put.value) us
matched-contents nil = refl
matched-contents (next f m) = ap₂ (λ x l. x ∷ l) f.content (matched-contents m)

-- a key
module _ {Up : Update → Type 0} {Sp : Dot → Type 0} {c d : List Dot} {l k : List Value} (a : AtKey Up Sp c l) (b : AtKey Up Sp d k) where
  key_below : (x : ℕ) → counter_in c x ≤ counter_in d x
  key_below x =
      decide (leb (counter_in c x) 0) (λ t. omega (arith, leb-true (counter_in c x) 0 t))
      (λ t. let r = a.reached x (leb-false (counter_in c x) 0 t) in
      omega (arith, r.4, b.above r.0 r.1 r.2, ap (counter_in d) r.3))

  key-contents : Permᴰ (map (λ v. v.value) l) (map (λ v. v.value) k)
  key-contents =
      rw (matched-contents a.matched, matched-contents b.matched)
      (Permᴰ.map (λ u. u.put.value) (same_perm a.once b.once (λ x i. b.every x (a.stand x i)) (λ x i. a.every x (b.stand x i))))

lawful-at : {m : Map} → Valid m → (k : ℕ) → Lawful (dots_in (at_key m k))
lawful-at {m} v k = (at_every Whole k (entries_in m) (λ e i q. whole-valid (v.entries.each e i)) (whole-none k)).clock

-- the clock
module _ {U : Update → Type 0} {R : Removal → Type 0} {m n : Map} (a : Pictures U R m) (b : Pictures U R n) where
  clock-below : (x : ℕ) → counter_in (seen_by m) x ≤ counter_in (seen_by n) x
  clock-below x =
      decide (leb (counter_in (seen_by m) x) 0) (λ t. omega (arith, leb-true (counter_in (seen_by m) x) 0 t))
      (λ t. let r = a.full x (counter_in (seen_by m) x) (leb-false (counter_in (seen_by m) x) 0 t) (omega arith) in
      omega (arith, r.3, b.above r.0 r.1, ap (counter_in (seen_by n)) r.2))

  -- what waits
  module _ (same : seen_by m ≡ seen_by n) where
    clock-among : (c : List Dot) → OneOf (waiting_in m) (UnderClock c) → OneOf (waiting_in n) (UnderClock c)
    clock-among c i = (b.waiting c).1 (rw same at ((a.waiting c).0 i))

    key-among : (c : List Dot) (k : ℕ) → OneOf (waiting_in m) (Lists c k) → OneOf (waiting_in n) (Lists c k)
    key-among c k i = (b.waiting-keys c k).1 (rw same at ((a.waiting-keys c k).0 i))

module _ {U : Update → Type 0} {R : Removal → Type 0} {m n : Map} (v : Valid m) (w : Valid n) (a : Pictures U R m) (b : Pictures U R n)
    (same : seen_by m ≡ seen_by n) where
  same_keys : {x y : Removal} → x ∈ waiting_in m → y ∈ waiting_in n → under_of y ≡ under_of x → listed_in x ≡ listed_in y
  same_keys {x} {y} i j e =
      same-members (by-strict (λ n. n)) _ _ (v.waiting.each x i).keys (w.waiting.each y j).keys
      (λ k t. let r = key-among a b same (under_of x) k (x, i, (refl, t)) in
      let one = one-clock w.waiting r.1 j (r.2.0 ∙ sym e) in rw one at r.2.1)
      (λ k t. let r = key-among b a (sym same) (under_of x) k (y, j, (e, t)) in
      let one = one-clock v.waiting r.1 i r.2.0 in rw one at r.2.1)

  waiting_among : (x : Removal) → x ∈ waiting_in m → x ∈ waiting_in n
  waiting_among x i =
      let r = clock-among a b same (under_of x) (x, i, refl) in
      let e = ap₂ removal_as (sym r.2) (same_keys i r.1 r.2) in
      Memᴰ.cast ((v.waiting.each x i).laid ∙ e ∙ sym (w.waiting.each r.0 r.1).laid) r.1

pub alike : {U : Update → Type 0} {R : Removal → Type 0} {m n : Map} → Valid m → Valid n → Pictures U R m → Pictures U R n → SameSettings m n
alike {m = m} {n = n} v w a b =
    let same : seen_by m ≡ seen_by n = same-clock v.clock w.clock (λ x. omega (arith, clock-below a b x, clock-below b a x)) in
    record {
      clock = same;
      entries = λ k. same-clock (lawful-at v k) (lawful-at w k) (λ x. omega (
        arith,
        key_below (a.keys k) (b.keys k) x,
        key_below (b.keys k) (a.keys k) x,
      ));
      waiting = same-members removal-strict _ _ v.waiting.rising w.waiting.rising (waiting_among v w a b same)
          (waiting_among w v b a (sym same));
      values = λ k. key-contents (a.keys k) (b.keys k);
    }
