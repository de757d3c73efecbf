-- One end map only: what EndMap says of a map is true of no other, and two lists with the same removals end in the same map.
use mathlib.Core.Path.{◌≡◌, refl, ap, ap₂, sym, ◌∙◌}
use mathlib.Core.Logic.{inl, inr, ⊎_elim}
use mathlib.Core.List.Memᴰ
use mathlib.Core.List.{List}
use Prim.Native.Nat.{ℕ, ◌≤◌}
use native.Mathlib.Omega.{arith}
use lib.Dec.{ltb}
use Rattle.listlaws.specs.Fold.{fold}
use Rattle.listlaws.specs.Order.{◌∈◌}
use Rattle.listlaws.proofs.Orders.{by-strict, same-members}
use Rattle.listlaws.proofs.Those.{those-same}
use Rattle.listlaws.proofs.Twice.{sift-same}
use Rattle.clock.specs.declared.Dot.{Dot}
use Rattle.clock.specs.Dots.{dots_of, clock_of, is_empty, counter_in, beyond, cut_dots}
use Rattle.register.specs.declared.Value.{Value}
use Rattle.register.specs.Values.{alive, cut_value, cut_values}
use Rattle.entries.specs.declared.Entry.{Entry}
use Rattle.removals.specs.declared.Removal.{Removal}
use Rattle.entries.specs.Model.{dots_in, values_in, entry_as}
use Rattle.removals.specs.Model.{under_of, listed_in, removal_as}
use Rattle.removals.proofs.ClockOrder.{removal-strict}
use Rattle.map.specs.declared.Map.{Map}
use Rattle.map.specs.Model.{entries_in, waiting_in, map_as}
use Rattle.map.specs.Removing.{remove}
use Rattle.map.specs.Valid.{Valid}
use Rattle.map.proofs.Kept.{valid-removes}
use Rattle.scan.proofs.Eachs.{decide}
use Rattle.maplaws.specs.Among.{OneOf, UnderClock, Lists, Exactly}
use Rattle.maplaws.proofs.United.{one-clock}
use Rattle.anyorderlaws.specs.Ends.{Largest, lessened, emptied_by, EndMap}
use Rattle.anyorderlaws.proofs.Runs.{Removals, maps-end}

-- the largest counters are those of one list where its removals stand in the other
largest-below : {ws vs : List Removal} {k : ℕ} {c d : List Dot} → ((w : Removal) → w ∈ ws → w ∈ vs) → Largest ws k c → Largest vs k d → (a : ℕ)
    → counter_in c a ≤ counter_in d a
largest-below f p q a =
    ⊎_elim (λ z. omega (arith, z)) (λ r. omega (arith, r.3, q.above a r.0 (f r.0 r.1) r.2)) (p.reached a)

-- what counters decide
module _ (c d : List Dot) (same : (a : ℕ) → counter_in c a ≡ counter_in d a) where
  same-cut : (x : List Dot) → cut_dots c x ≡ cut_dots d x
  unfolding cut_dots
  same-cut x = those-same (beyond c) (beyond d) x (λ z i. ap (λ n. ltb n z.counter) (same z.actor))

  same-values : (l : List Value) → cut_values c l ≡ cut_values d l
  unfolding cut_values
  same-values l =
      sift-same alive (cut_value c) (cut_value d) l (λ v i. ap (λ x. record { clock = clock_of x; value = v.value }) (same-cut (dots_of v.clock)))

  same-lessened : (e : Entry) → lessened c e ≡ lessened d e
  same-lessened e = ap₂ (entry_as e.key) (same-cut (dots_in e)) (same-values (values_in e))

-- two ends, where each removal of the one list stands in the other
module _ {m : Map} {ws vs : List Removal} {a b : Map} (f : (w : Removal) → w ∈ ws → w ∈ vs) (p : EndMap m ws a) (q : EndMap m vs b) where
  entry-among : ((w : Removal) → w ∈ vs → w ∈ ws) → (e : Entry) → e ∈ entries_in a → e ∈ entries_in b
  entry-among g e i =
      let r = p.loses e i in
      let o = r.0 in
      let c = p.counters o.key in
      let d = q.counters o.key in
      let same : (x : ℕ) → counter_in c x ≡ counter_in d x = λ x. omega (
        arith,
        largest-below f (p.largest o.key) (q.largest o.key) x,
        largest-below g (q.largest o.key) (p.largest o.key) x,
      ) in
      decide (emptied_by c o)
      (λ t. absurd (p.emptied-entries o r.1 t e i (ap (λ x. x.key) r.2)))
      (λ t. Memᴰ.cast (r.2 ∙ same-lessened c d same o) (q.keeps o r.1 (ap is_empty (sym (same-cut c d same (dots_in o))) ∙ t)))

  clock-among : (c : List Dot) → OneOf (waiting_in a) (UnderClock c) → OneOf (waiting_in b) (UnderClock c)
  clock-among c i = (q.waiting c).1 (⊎_elim (λ t. inl t) (λ t. inr (t.0, f t.0 t.1, t.2)) ((p.waiting c).0 i))

  key-among : (c : List Dot) (k : ℕ) → OneOf (waiting_in a) (Lists c k) → OneOf (waiting_in b) (Lists c k)
  key-among c k i = (q.waiting-keys c k).1 (⊎_elim (λ t. inl t) (λ t. inr (t.0, f t.0 t.1, t.2)) ((p.waiting-keys c k).0 i))

module _ {m : Map} {ws vs : List Removal} {a b : Map} (f : (w : Removal) → w ∈ ws → w ∈ vs) (g : (w : Removal) → w ∈ vs → w ∈ ws) (p : EndMap m ws a)
    (q : EndMap m vs b) (h : Valid a) (k : Valid b) where
  -- the keys that a removal lists, in either map
  same_keys : {x y : Removal} → x ∈ waiting_in a → y ∈ waiting_in b → under_of y ≡ under_of x → listed_in x ≡ listed_in y
  same_keys {x} {y} i j e =
      same-members (by-strict (λ n. n)) _ _ (h.waiting.each x i).keys (k.waiting.each y j).keys
      (λ n t. let r = key-among f p q (under_of x) n (x, i, (refl, t)) in
      let same = one-clock k.waiting r.1 j (r.2.0 ∙ sym e) in rw same at r.2.1)
      (λ n t. let r = key-among g q p (under_of x) n (y, j, (e, t)) in
      let same = one-clock h.waiting r.1 i r.2.0 in rw same at r.2.1)

  waiting_among : (x : Removal) → x ∈ waiting_in a → x ∈ waiting_in b
  waiting_among x i =
      let r = clock-among f p q (under_of x) (x, i, refl) in
      let e = ap₂ removal_as (sym r.2) (same_keys i r.1 r.2) in
      Memᴰ.cast ((h.waiting.each x i).laid ∙ e ∙ sym (k.waiting.each r.0 r.1).laid) r.1

-- the ends of two lists with the same removals are one
pub ends_same : {m : Map} {ws vs : List Removal} {a b : Map} → ((w : Removal) → Exactly (w ∈ ws) (w ∈ vs)) → EndMap m ws a → EndMap m vs b → Valid a
    → Valid b → a ≡ b
ends_same {a = a} {b = b} s p q h k =
    let f : (w : Removal) → w ∈ _ → w ∈ _ = λ w. (s w).0 in
    let g : (w : Removal) → w ∈ _ → w ∈ _ = λ w. (s w).1 in
    let clocks = p.clock ∙ sym q.clock in
    let entries = same-members (by-strict (λ e. e.key)) _ _ h.entries.rising k.entries.rising (entry-among f p q g) (entry-among g q p f) in
    let waiting = same-members removal-strict _ _ h.waiting.rising k.waiting.rising (waiting_among f g p q h k) (waiting_among g f q p k h) in
    h.laid ∙ (λ i. map_as (clocks i) (entries i) (waiting i)) ∙ sym k.laid

-- neither the order of removals matters, nor how often each comes
pub same-removals : {m : Map} {ws vs : List Removal} → Valid m → Removals ws → Removals vs → ((w : Removal) → Exactly (w ∈ ws) (w ∈ vs))
    → fold remove m ws ≡ fold remove m vs
same-removals {ws = ws} {vs = vs} h f g s = ends_same s (maps-end h f) (maps-end h g) (valid-removes h ws f) (valid-removes h vs g)
