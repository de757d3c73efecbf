-- What step 4 leaves: each record has what it needs, and each value a dot of its own.
use mathlib.Core.Path.{◌≡◌, refl, ap, sym, ◌∙◌}
use mathlib.Core.Bool.{true, false}
use mathlib.Core.Logic.{⊎_elim}
use mathlib.Core.List.Memᴰ
use mathlib.Core.List.{List, [], ◌∷◌, ◌++◌, map}
use Prim.Native.Nat.{ℕ, ◌≤◌, ◌<◌}
use native.Mathlib.Omega.{arith}
use lib.Dec.{eqb}
use lib.ListN.{length, length-map}
use borrow.Author.Tests.{eqb-true, eq-eqb, ne_eqb, leb-true, le-leb}
use Rattle.listlaws.specs.Order.{◌∈◌}
use Rattle.listlaws.specs.First.{some}
use Rattle.listlaws.specs.Sift.{those}
use Rattle.listlaws.proofs.Orders.{apart}
use Rattle.listlaws.proofs.Somes.{some-means, some_holds, some-false}
use Rattle.listlaws.proofs.Those.{those-holds}
use Rattle.records.specs.declared.Record.{Record}
use Rattle.records.specs.Kinds.{before}
use Rattle.scan.specs.Limits.{outer, middle, inner, same_kind, same_outer, same_middle, today, room, within}
use Rattle.scan.specs.Numbers.{scan_number}
use Rattle.scan.proofs.Eachs.{decide, both, both_left, both_right}
use Rattle.scan.proofs.Befores.{fields-before}
use Rattle.scan.proofs.Builds.{tally-among}
use Rattle.clockimage.specs.Image.{is_kind}
use Rattle.maprecords.specs.Reading.{under_key, under_index, under_both, entry_keys}
use Rattle.maprecords.proofs.Counts.{entries-most}
use Rattle.acceptancelaws.proofs.Limited.{is-kind, at_key, at-index, values-few}
use Rattle.oneimagelaws.proofs.Keyed.{keys-has}
use Rattle.oneimagelaws.proofs.Selected.{before-strict}
use Rattle.sentencelaws.specs.Sentences.{Stands, RecordUnder, UnderKey, UnderIndex}
use Rattle.salvagerules.specs.Needs.{clock_dot_above, within_kept_clock, value_supplied, has_value, has_waiting_clock, need_met, kept_by_four}
use Rattle.salvagelaws.proofs.Walks.{Parted, parted, left_in, each_at, left_kept, left-kept, passed-stays, kept-left}
use Rattle.salvagelaws.proofs.Stages.{left_by_three, left_by_four, three-ascends, four-each, four-scan, four-within}

-- under a key and an index
pub at_place : (kind key index : ℕ) (r : Record) → under_both kind key index r ≡ true → RecordUnder kind key index r
at_place kind key index r t =
    let k = at_key key kind r (both_left (under_key kind key r) (eqb r.index index) t) in
    (k.0, (k.1, eqb-true r.index index (both_right (under_key kind key r) (eqb r.index index) t)))

pub place_at : (kind key index : ℕ) (r : Record) → RecordUnder kind key index r → under_both kind key index r ≡ true
place_at kind key index r u = rw (eq-eqb r.kind kind u.0, eq-eqb r.key key u.1.0, eq-eqb r.index index u.1.1)

-- a record of a lower kind stands before one of a higher
pub lower-kind : (a b : Record) → a.kind < b.kind → before a b ≡ true
lower-kind a b h = fields-before (record {
  kind = omega arith;
  key = λ e. absurd (omega arith);
  index = λ e. absurd (omega arith);
  actor = λ e. absurd (omega arith);
})

-- what a record needs, by its kind; what is counted of a kind other than 6
module _ (third seen : List Record) (r : Record) where
  pub need-one : r.kind ≡ 1 → need_met third seen r ≡ true
  need-one e = rw e

  pub need-two : r.kind ≡ 2 → need_met third seen r ≡ within_kept_clock seen r
  need-two e = rw e

  pub need-three : r.kind ≡ 3 → need_met third seen r ≡ value_supplied third seen r
  need-three e = rw e

  pub need-four : r.kind ≡ 4 → need_met third seen r ≡ has_value seen r
  need-four e = rw e

  pub need-six : r.kind ≡ 6 → need_met third seen r ≡ has_waiting_clock seen r
  need-six e = rw e

pub outer-is : (r : Record) → (r.kind ≡ 6 → ⊥) → outer r ≡ r.key
outer-is r n = rw (ne_eqb r.kind 6 n)

pub middle-is : (r : Record) → (r.kind ≡ 6 → ⊥) → middle r ≡ r.index
middle-is r n = rw (ne_eqb r.kind 6 n)

-- the records that step 5 takes up
pub record Supplied (k : List Record) : Type 0 where
  pub scan : scan_number 1 6 k ≡ 0
  pub in-clock : (r : Record) → r ∈ k → r.kind ≡ 2 → Stands k (λ s. (s.kind ≡ 1) × ((s.actor ≡ r.actor) × (r.number ≤ s.number)))
  pub entry : (r : Record) → r ∈ k → r.kind ≡ 3 → Stands k (UnderKey 2 r.key)
  pub dotted : (r : Record) → r ∈ k → r.kind ≡ 3 → Stands k (RecordUnder 4 r.key r.index)
  pub valued : (r : Record) → r ∈ k → r.kind ≡ 4 → Stands k (RecordUnder 3 r.key r.index)
  pub clocked : (r : Record) → r ∈ k → r.kind ≡ 6 → Stands k (UnderIndex 5 r.index)

module _ (l : List Record) where
  abbrev third : List Record
  third = left_by_three l

  abbrev k : List Record
  k = left_by_four l

  -- what a record needs, by its kind, among those on its left
  met : {r : Record} → r ∈ k → (p : Parted k r) × (need_met third p.left r ≡ true)
  met {r} i = let (p, t) = each_at (kept_by_four third) k (four-each l) i in (p, both_left (need_met third p.left r) (room p.left r) t)

  in-clock : (r : Record) → r ∈ k → r.kind ≡ 2 → Stands k (λ s. (s.kind ≡ 1) × ((s.actor ≡ r.actor) × (r.number ≤ s.number)))
  in-clock r i e =
      let (p, t) = met i in
      let (s, j, u) = some-means (clock_dot_above r) p.left (sym (need-two third p.left r e) ∙ t) in
      let v = both_right (is_kind 1 s) _ u in (
        s,
        left_in p s j,
        (
          is-kind 1 s (both_left (is_kind 1 s) _ u),
          (
            eqb-true s.actor r.actor (both_left (eqb s.actor r.actor) _ v),
            leb-true r.number s.number (both_right (eqb s.actor r.actor) _ v),
          ),
        ),
      )

  entry : (r : Record) → r ∈ k → r.kind ≡ 3 → Stands k (UnderKey 2 r.key)
  entry r i e =
      let (p, t) = met i in
      let (s, j, u) = some-means (under_key 2 r.key) p.left
      (both_left (some (under_key 2 r.key) p.left) _ (sym (need-three third p.left r e) ∙ t)) in
      (s, left_in p s j, at_key r.key 2 s u)

  valued : (r : Record) → r ∈ k → r.kind ≡ 4 → Stands k (RecordUnder 3 r.key r.index)
  valued r i e =
      let (p, t) = met i in
      let (s, j, u) = some-means (under_both 3 r.key r.index) p.left (sym (need-four third p.left r e) ∙ t) in
      (s, left_in p s j, at_place 3 r.key r.index s u)

  clocked : (r : Record) → r ∈ k → r.kind ≡ 6 → Stands k (UnderIndex 5 r.index)
  clocked r i e =
      let (p, t) = met i in
      let (s, j, u) = some-means (under_index 5 r.index) p.left (sym (need-six third p.left r e) ∙ t) in
      (s, left_in p s j, at-index r.index 5 s u)

  -- the key of a value that stays is one of the entries'
  keyed : (v : Record) → v ∈ k → v.kind ≡ 3 → v.key ∈ entry_keys k
  keyed v i e =
      let (s, j, u) = entry v i e in
      Memᴰ.cast (sym u.1) (keys-has k s j u.0)

  keys-few : length (entry_keys k) ≤ 32
  unfolding within
  keys-few = entries-most today k (four-within l)

  -- a value and a dot of its own that step 3 left
  module _ (v d : Record) (i : v ∈ k) (e : v.kind ≡ 3) (j : d ∈ third) (u : RecordUnder 4 v.key v.index d) where
    p : Parted third d
    p = parted third j

    abbrev pre : List Record
    pre = left_kept (kept_by_four third) p

    known : {s : Record} → s ∈ pre → s ∈ k
    known m = left-kept (kept_by_four third) p m

    v-left : v ∈ pre
    v-left = kept-left (kept_by_four third) p before-strict (three-ascends l) i (lower-kind v d (omega (arith, e, u.0)))

    -- of the dots that stay before it and itself: the keys, the indexes under its key, the actors under both
    key_in : (x : Record) → x ∈ (pre ++ (d ∷ [])) → same_kind d x ≡ true → outer x ∈ entry_keys k
    key_in x m t =
        let four = eqb-true x.kind d.kind t ∙ u.0 in
        Memᴰ.cast (outer-is x (λ e. omega (arith, four)))
        (⊎_elim (λ a. let (w, b, q) = valued x (known a) four in Memᴰ.cast (sym q.1.0) (keyed w b q.0))
        (λ a. let same : x ≡ d = Memᴰ.eq_of_singleton a in Memᴰ.cast (ap (λ (z : Record). z.key) same ∙ u.1.0) (keyed v i e))
        (Memᴰ.append_cases pre m))

    index_in : (x : Record) → x ∈ (pre ++ (d ∷ [])) → same_outer d x ≡ true → middle x ∈ map (λ (z : Record). z.index) (those (under_key 3 v.key) k)
    index_in x m t =
        let four = eqb-true x.kind d.kind (both_left (same_kind d x) _ t) ∙ u.0 in
        let key = eqb-true (outer x) (outer d) (both_right (same_kind d x) _ t) in
        let at : x.key ≡ v.key = sym (outer-is x (λ e. omega (arith, four))) ∙ key ∙ outer-is d (λ e. omega (arith, u.0)) ∙ u.1.0 in
        Memᴰ.cast (middle-is x (λ e. omega (arith, four)))
        (⊎_elim
        (λ a. let (w, b, q) = valued x (known a) four in
        Memᴰ.cast (sym q.1.1) (Memᴰ.map (λ (z : Record). z.index) (those-holds (under_key 3 v.key) b
        (rw (eq-eqb w.kind 3 q.0, eq-eqb w.key v.key (q.1.0 ∙ at))))))
        (λ a. let same : x ≡ d = Memᴰ.eq_of_singleton a in
        Memᴰ.cast (ap (λ (z : Record). z.index) same ∙ u.1.1) (Memᴰ.map (λ (z : Record). z.index) (those-holds (under_key 3 v.key) i
        (rw (eq-eqb v.kind 3 e, eq-eqb v.key v.key refl)))))
        (Memᴰ.append_cases pre m))

    module _ (none : some (same_middle d) pre ≡ false) where
      actor-in : (x : Record) → x ∈ (pre ++ (d ∷ [])) → same_middle d x ≡ true → inner x ∈ (inner d ∷ [])
      actor-in x m t =
          ⊎_elim (λ a. apart (sym t ∙ some-false (same_middle d) none x a))
          (λ a. let same : x ≡ d = Memᴰ.eq_of_singleton a in Memᴰ.head (ap inner same))
          (Memᴰ.append_cases pre m)

      roomy : room pre d ≡ true
      roomy =
          let a = tally-among outer (entry_keys k) (same_kind d) (pre ++ (d ∷ [])) key_in in
          let b = tally-among middle (map (λ (z : Record). z.index) (those (under_key 3 v.key) k)) (same_outer d) (pre ++ (d ∷ [])) index_in in
          let c = tally-among inner (inner d ∷ []) (same_middle d) (pre ++ (d ∷ [])) actor-in in
          let n = length-map (those (under_key 3 v.key) k) (λ (z : Record). z.index) in
          fits d.kind u.0 _ _ _ (omega (arith, a, keys-few)) (omega (arith, b, n, values-few v.key k (four-scan l))) (omega (arith, c))
        where
          fits : (kind : ℕ) → kind ≡ 4 → (o m i : ℕ) → o ≤ 32 → m ≤ 4 → i ≤ 8 → Rattle.scan.specs.Limits.within_limits kind o m i ≡ true
          fits kind e o m i a b c = rw (e, le-leb o 32 a, le-leb m 4 b, le-leb i 8 c)

      met-now : need_met third pre d ≡ true
      met-now = need-four third pre d u.0
          ∙ some_holds (under_both 3 d.key d.index) v-left (place_at 3 d.key d.index v (e, (sym u.1.0, sym u.1.1)))

      stays-now : d ∈ k
      stays-now = passed-stays (kept_by_four third) p (both (need_met third pre d) (room pre d) met-now roomy)

    own-dot : Stands k (RecordUnder 4 v.key v.index)
    own-dot =
        decide (some (same_middle d) pre)
        (λ t. let (s, m, w) = some-means (same_middle d) pre t in
        let o = both_left (same_outer d s) _ w in
        let four = eqb-true s.kind d.kind (both_left (same_kind d s) _ o) ∙ u.0 in
        let key = eqb-true (outer s) (outer d) (both_right (same_kind d s) _ o) in
        let index = eqb-true (middle s) (middle d) (both_right (same_outer d s) _ w) in
        let plain : s.kind ≡ 6 → ⊥ = λ e. omega (arith, four) in
        let other : d.kind ≡ 6 → ⊥ = λ e. omega (arith, u.0) in (
          s,
          known m,
          (
            four,
            (
              sym (outer-is s plain) ∙ key ∙ outer-is d other ∙ u.1.0,
              sym (middle-is s plain) ∙ index ∙ middle-is d other ∙ u.1.1,
            ),
          ),
        ))
        (λ f. (d, stays-now f, u))

  dotted : (r : Record) → r ∈ k → r.kind ≡ 3 → Stands k (RecordUnder 4 r.key r.index)
  dotted r i e =
      let (p, t) = met i in
      let (d, j, u) = some-means (under_both 4 r.key r.index) third
      (both_right (some (under_key 2 r.key) p.left) _ (sym (need-three third p.left r e) ∙ t)) in
      own-dot r d i e j (at_place 4 r.key r.index d u)

  pub four-supplied : Supplied (left_by_four l)
  four-supplied = record { scan = four-scan l; in-clock = in-clock; entry = entry; dotted = dotted; valued = valued; clocked = clocked }
