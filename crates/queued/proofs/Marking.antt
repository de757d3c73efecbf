-- Which removals list a key: the records of the key, one after the other.
use mathlib.Core.Path.{◌≡◌, refl, ap, sym, ◌∙◌}
use mathlib.Core.Bool.{Bool, true, false, ◌&&◌}
use mathlib.Core.List.Memᴰ
use mathlib.Core.List.{List, [], ◌∷◌, map}
use Prim.Native.Nat.{ℕ, zero, suc, ◌+◌, ◌*◌, ◌≤◌, ◌<◌}
use native.Mathlib.Omega.{arith}
use lib.Dec.{eqb, ltb}
use lib.ListN.{length, get_or, set, replicate, get_or-replicate}
use lib.Seq.{get_or-set_same, get_or-set_other}
use borrow.Author.Tests.{ltb-true, ltb-false, lt-ltb, le-ltb, eqb-true, eqb-false}
use Rattle.listlaws.specs.Order.{◌∈◌}
use Rattle.listlaws.specs.First.{first_in}
use Rattle.listlaws.proofs.Orders.{apart}
use Rattle.scan.proofs.Eachs.{decide}
use Rattle.removals.specs.declared.Removal.{Removal}
use Rattle.limits.specs.Limits.{waiting_limit}
use Rattle.removals.specs.Model.{no_removal, listed_in}
use Rattle.removals.specs.Waits.{listed}
use Rattle.removals.proofs.Unions.{listed-means, listed-holds}
use Rattle.records.specs.declared.Record.{Record}
use Rattle.records.specs.Records.{record_from}
use Rattle.mapimage.specs.Sorted.{in_order}
use Rattle.mapimage.specs.MapImage.{flat_from, key_number, key_numbers}
use Rattle.mapimage.proofs.Sorts.{order-ascends, order-has, order-from-list}
use Rattle.oneimagelaws.proofs.Stands.{place-get, place-reads, place-below, flat_has, flat-means}
use Rattle.walks.specs.Walk.{part}
use Rattle.walks.proofs.Loops.{part-on, part_end}
use Rattle.queued.specs.Queue.{lists, Marked, rank, Keyed}
use Rattle.queued.proofs.Ahead.{First, first_of, none_from, none_between}

-- a place behind the last reads as nothing
pub get_d_past : {A : Type 0} (l : List A) (j : ℕ) (d : A) → length l ≤ j → get_or l j d ≡ d
get_d_past [] j d h = refl
get_d_past (x ∷ l) zero d h = absurd (omega arith)
get_d_past (x ∷ l) (suc j) d h = get_d_past l j d (omega arith)

-- the numbers of all keys that some removals list, in order
abbrev pub numbers_of : List Removal → List ℕ
numbers_of w = in_order (flat_from key_numbers 0 w)

none-listed : (r : Removal) (key : ℕ) → r ≡ no_removal → listed (listed_in r) key ≡ false
unfolding listed first_in
none-listed r key e = rw e

-- a removal that lists a key is there
pub lists-below : (w : List Removal) (j key : ℕ) → lists w j key ≡ true → j < length w
lists-below w j key t =
    decide (ltb j (length w)) (λ u. ltb-true j (length w) u)
    (λ f. apart (sym t ∙ none-listed (get_or w j no_removal) key (get_d_past w j no_removal (ltb-false j (length w) f))))

module _ (w : List Removal) (few : length w ≤ waiting_limit) where
  -- a key stands among the numbers where a removal lists it
  pub lists-number : (j key : ℕ) → lists w j key ≡ true → key_number j key ∈ numbers_of w
  lists-number j key t =
      order-has (flat_from key_numbers 0 w) (key_number j key)
      (flat_has key_numbers (place-get w j no_removal (lists-below w j key t)) (key_number j key)
      (Memᴰ.map (key_number j) (listed-means (listed_in (get_or w j no_removal)) key t)))

  -- and only there
  pub number_source : (x : ℕ) → x ∈ numbers_of w → (j : ℕ) × (key : ℕ) × (j < waiting_limit) × (key_number j key ≡ x) × (lists w j key ≡ true)
  number_source x i =
      let (j, q, p, m) = flat-means key_numbers x (order-from-list (flat_from key_numbers 0 w) x i) in
      let (k, n, e) = Memᴰ.of_map (key_number j) (listed_in q) m in
      let b = place-below p in
      (j, k, omega arith, e, ap (λ r. listed (listed_in r) k) (place-reads no_removal p) ∙ listed-holds n)

  pub number-lists : (j key : ℕ) → j < waiting_limit → key_number j key ∈ numbers_of w → lists w j key ≡ true
  number-lists j key h i = let (k, a, b, e, t) = number_source (key_number j key) i in go k a (omega arith) (omega arith) t
    where
      go : (k a : ℕ) → k ≡ j → a ≡ key → lists w k a ≡ true → lists w j key ≡ true
      go k a e f t = rw (← e, ← f) t

-- the marks of the removals that list the key by a number below `bound`, and the records from there on
pub record Marking (s : List ℕ) (end key : ℕ) (w : List Removal) (i : ℕ) (under : List Bool) : Type 0 where
  pub bound : ℕ
  pub below : bound ≤ key_number 0 (key + 1)
  pub left : Keyed s i end bound w
  pub marks : (j : ℕ) → j < waiting_limit → get_or under j false ≡ ltb (key_number j key) bound && lists w j key

module _ {s : List ℕ} {end : ℕ} (key : ℕ) {w : List Removal} where
  pub mark-start : {at low : ℕ} → Keyed s at end low w → low ≤ key_number 0 key → Marking s end key w at (replicate waiting_limit false)
  mark-start {low = low} k h = record {
    bound = low;
    below = omega arith;
    left = k;
    marks = λ j g. get_or-replicate {A = Bool} waiting_limit j false false g ∙ sym (rw (le-ltb (key_number j key) low (omega arith)));
  }

  module _ {i : ℕ} {under : List Bool} (m : Marking s end key w i under) where
    -- a record more
    module _ (inside : i < end) {r : Record} (er : r ≡ record_from s (i * 16)) (byte : r.index < 256) where
      ahead : First m.bound (numbers_of w) (rank r) (map rank (part s (i + 1) end))
      ahead =
          first_of m.bound (numbers_of w) (order-ascends (flat_from key_numbers 0 w))
          (ap (λ x. rank x ∷ map rank (part s (i + 1) end)) er ∙ sym (ap (map rank) (part-on s i end inside)) ∙ m.left.numbers)

      further : Keyed s (i + 1) end (rank r + 1) w
      further = record { order = omega arith; within = m.left.within; few = m.left.few; numbers = ahead.behind }

      -- what was told of the other numbers stays
      still : (j : ℕ) → (key_number j key ≡ rank r → ⊥) → ltb (key_number j key) m.bound && lists w j key ≡ ltb (key_number j key) (rank r + 1)
          && lists w j key
      still j n =
          let x = rank r in
          let a = ahead.above in
          decide (ltb (key_number j key) m.bound)
          (λ t. let k = ltb-true (key_number j key) m.bound t in rw (t, lt-ltb (key_number j key) (x + 1) (omega arith)))
          (λ f. let k = ltb-false (key_number j key) m.bound f in
          decide (ltb (key_number j key) (x + 1))
          (λ t. let b = ltb-true (key_number j key) (x + 1) t in
          decide (lists w j key)
          (λ u. absurd (n (let c = ahead.least (key_number j key) (lists-number w m.left.few j key u) k in omega arith)))
          (λ u. rw (f, t, u)))
          (λ u. rw (f, u)))

      -- of a lower key
      pub mark-pass : r.key < key → Marking s end key w (i + 1) under
      mark-pass h = record {
        bound = rank r + 1;
        below = omega arith;
        left = further;
        marks = λ j g. m.marks j g ∙ still j (λ e. omega arith);
      }

      -- of the key
      pub mark_on : r.key ≡ key → r.index < length under → Marking s end key w (i + 1) (set under r.index true)
      mark_on h room = record { bound = rank r + 1; below = omega arith; left = further; marks = each }
        where
          each : (j : ℕ) → j < waiting_limit → get_or (set under r.index true) j false ≡ ltb (key_number j key) (rank r + 1) && lists w j key
          each j g =
              decide (eqb j r.index)
              (λ t. let e = eqb-true j r.index t in
              rw (e, get_or-set_same under r.index true false room, lt-ltb (key_number r.index key) (rank r + 1) (omega arith))
              (sym (number-lists w m.left.few r.index key (omega arith) (Memᴰ.cast (ap (key_number r.index) (sym h)) ahead.stands))))
              (λ f. let e = eqb-false j r.index f in rw (get_or-set_other under r.index j true false e)
              (m.marks j g ∙ still j (λ q. e (omega arith))))

      -- of the key, but of no removal: there is none such
      pub mark-none : waiting_limit ≤ r.index → Marking s end key w (i + 1) under
      mark-none h =
          let (j, k, b, e, t) = number_source w m.left.few (rank r) ahead.stands in absurd (omega arith)

    -- no number of the key is left
    over : ((y : ℕ) → y ∈ numbers_of w → m.bound ≤ y → y < key_number 0 (key + 1) → ⊥) → Marked w key under × Keyed s i end (key_number 0 (key + 1)) w
    over f = (
      record {
        each = λ j g. m.marks j g ∙ decide (lists w j key)
            (λ t. decide (ltb (key_number j key) m.bound) (λ u. rw (t, u))
            (λ u. absurd (f (key_number j key) (lists-number w m.left.few j key t) (ltb-false (key_number j key) m.bound u) (omega arith))))
            (λ t. decide (ltb (key_number j key) m.bound) (λ u. rw (t, u)) (λ u. rw (t, u)));
      },
      record {
        order = m.left.order;
        within = m.left.within;
        few = m.left.few;
        numbers = m.left.numbers ∙ none_between m.bound (key_number 0 (key + 1)) (numbers_of w) m.below f;
      },
    )

    -- a higher key
    pub mark-over : i < end → {r : Record} → r ≡ record_from s (i * 16) → r.index < 256 → key < r.key
        → Marked w key under × Keyed s i end (key_number 0 (key + 1)) w
    mark-over inside {r} er byte h = over (λ y a b c. let k = (ahead inside er byte).least y a b in omega arith)

    pub mark-end : end ≤ i → Marked w key under × Keyed s i end (key_number 0 (key + 1)) w
    mark-end h =
        over (λ y a b c. none_from m.bound (numbers_of w) (sym (ap (map rank) (part_end s i end h)) ∙ m.left.numbers) y a b)

-- a record of a higher key is not the one at the start
pub moved_on : (s : List ℕ) (key at i : ℕ) {r : Record} → r ≡ record_from s (i * 16) → key < r.key → at ≤ i → (record_from s (at * 16)).key ≤ key
    → at < i
moved_on s key at i {r} e h k g =
    decide (eqb at i)
    (λ t. let q : record_from s (at * 16) ≡ r = ap (λ n. record_from s (n * 16)) (eqb-true at i t) ∙ sym e in
    absurd (let z = ap (λ (x : Record). x.key) q in omega arith))
    (λ f. let q = eqb-false at i f in omega arith)
