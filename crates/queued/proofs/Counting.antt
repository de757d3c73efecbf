-- How many keys each removal of a result has, one key after the other.
use mathlib.Core.Path.{◌≡◌, refl, ap, sym, ◌∙◌}
use mathlib.Core.Bool.{Bool, true, false, cond, ◌||◌}
use mathlib.Core.List.{List, map}
use Prim.Native.Nat.{ℕ, ◌+◌, ◌≤◌, ◌<◌}
use native.Mathlib.Omega.{arith}
use native.Mathlib.Numerals.{add-one}
use lib.Dec.{eqb, ltb, leb}
use lib.ListN.{length, length-append, drop, get_or, set, replicate, get_or-replicate}
use lib.Seq.{get_or-set_same, get_or-set_other, drop-cons}
use borrow.Author.Tests.{ltb-true, ltb-false, leb-true, lt-ltb, le-ltb, eqb-true, eqb-false}
use Rattle.listlaws.specs.Order.{Ascending, nil, by}
use Rattle.listlaws.specs.First.{first_in, some}
use Rattle.listlaws.specs.Sift.{those}
use Rattle.listlaws.proofs.Orders.{apart}
use Rattle.listlaws.proofs.Rests.{drop-end}
use Rattle.listlaws.proofs.Those.{those-none}
use Rattle.scan.proofs.Eachs.{decide}
use Rattle.removals.specs.declared.Removal.{Removal}
use Rattle.limits.specs.Limits.{waiting_limit, key_limit}
use Rattle.removals.specs.Model.{no_removal, listed_in}
use Rattle.removals.specs.Counted.{overlong}
use Rattle.removals.specs.Waits.{listed}
use Rattle.removals.proofs.Unions.{listed-means, listed-holds}
use Rattle.mapimage.specs.MapImage.{key_number, number_record, waiting_keys}
use Rattle.mapimage.proofs.Sorts.{from_start}
use Rattle.oneimagelaws.proofs.Stands.{place-get, place_in}
use Rattle.queued.specs.declared.Row.{Row}
use Rattle.queued.specs.Queue.{lists, Marked, Keyed}
use Rattle.queued.specs.Planned.{SoundRemovals, Moves}
use Rattle.queued.specs.Rowed.{RowLies, row_records, one_if_marked, keys_at}
use Rattle.queued.proofs.Ahead.{none_between}
use Rattle.queued.proofs.Marking.{get_d_past, numbers_of}
use Rattle.queued.proofs.Rowing.{first-there, row_next, key-gone, none_left}

-- the next key of a set adds one where the set has it
pub key-counted : (low key : ℕ) (l : List ℕ) → Ascending (by (λ k. k)) l → low ≤ key → ((k : ℕ) → listed l k ≡ true → low ≤ k → key ≤ k) → (b : Bool)
    → b ≡ listed l key
    → length (those (leb low) l) ≡ cond b 1 0 + length (those (leb (key + 1)) l)
key-counted low key l a h none b e =
    ap length (none_between low key l h (λ y i g z. let k = none y (listed-holds i) g in omega arith))
    ∙ decide b
    (λ t. rw t (let q = ap length (first-there key l a (listed-means l key (sym e ∙ t))) in omega arith))
    (λ f. rw f (let q = ap length (none_between key (key + 1) l (omega arith) (λ y i g z. let s : y ≡ key = omega arith in
    apart (sym (rw s at (listed-holds i)) ∙ sym e ∙ f))) in omega arith))

-- the keys of each place ascend
pub keys-ascend : (result : List Removal) → SoundRemovals result → (p : ℕ) → Ascending (by (λ k. k)) (keys_at result p)
keys-ascend result sound p =
    decide (ltb p (length result)) (λ t. (sound (get_or result p no_removal)
    (place_in (place-get result p no_removal (ltb-true p (length result) t)))).keys)
    (λ f. rw (get_d_past result p no_removal (ltb-false p (length result) f)) nil)

-- so many keys of each removal are below `low`
pub record Tallied (result : List Removal) (low : ℕ) (counts : List ℕ) : Type 0 where
  pub each : (p : ℕ) → p < waiting_limit → length (keys_at result p) ≡ get_or counts p 0 + length (those (leb low) (keys_at result p))

pub tally-start : (result : List Removal) → Tallied result 0 (replicate waiting_limit 0)
tally-start result = record { each = λ p h. rw (get_or-replicate {A = ℕ} waiting_limit p 0 0 h, from_start (keys_at result p)) (omega arith) }

module _ {result : List Removal} {low : ℕ} {counts : List ℕ} (k : Tallied result low counts) where
  pub tally-on : SoundRemovals result → {key : ℕ} {under : List Bool} → low ≤ key
      → ((j k : ℕ) → j < waiting_limit → lists result j k ≡ true → low ≤ k → key ≤ k) → Marked result key under
      → {more : List ℕ} → ((p : ℕ) → p < waiting_limit → get_or more p 0 ≡ get_or counts p 0 + one_if_marked under p) → Tallied result (key + 1) more
  tally-on sound {key} {under} h none marked f = record {
    each = λ p g. omega (
      arith,
      k.each p g,
      f p g,
      key-counted low key (keys_at result p) (keys-ascend result sound p) h (λ y t z. none p y g t z)
          (get_or under p false) (marked.each p g),
    );
  }

  pub tally-end : ((j k : ℕ) → j < waiting_limit → lists result j k ≡ true → low ≤ k → ⊥) → (p : ℕ) → p < waiting_limit
      → get_or counts p 0 ≡ length (keys_at result p)
  tally-end none p g =
      let e = those-none (leb low) (keys_at result p) (λ y i. decide (leb low y) (λ t. absurd (none p y g (listed-holds i) (leb-true low y t)))
      (λ f. f)) in
      omega (arith, k.each p g, ap length e)

-- the marks below a place have been added
pub record Adding (under : List Bool) (counts : List ℕ) (i : ℕ) (out : List ℕ) : Type 0 where
  pub done : (p : ℕ) → p < i → get_or out p 0 ≡ get_or counts p 0 + one_if_marked under p
  pub left : (p : ℕ) → i ≤ p → get_or out p 0 ≡ get_or counts p 0

module _ {under : List Bool} {counts : List ℕ} where
  pub add_start : Adding under counts 0 counts
  add_start = record { done = λ p h. absurd (omega arith); left = λ p h. refl }

  module _ {i : ℕ} {out : List ℕ} (a : Adding under counts i out) where
    -- the place itself, or one below it
    last : (P : ℕ → Type 0) → P i → ((p : ℕ) → p < i → P p) → (p : ℕ) → p < i + 1 → P p
    last P x f p h = decide (eqb p i) (λ t. rw (eqb-true p i t) x) (λ n. let q = eqb-false p i n in f p (omega arith))

    pub add-not : get_or under i false ≡ false → Adding under counts (i + 1) out
    add-not f = record {
      done = last (λ p. get_or out p 0 ≡ get_or counts p 0 + one_if_marked under p) (rw f (let e = a.left i (omega arith) in omega arith)) a.done;
      left = λ p h. a.left p (omega arith);
    }

    pub add-one-more : get_or under i false ≡ true → i < length out → {x : ℕ} → x ≡ get_or out i 0 + 1 → Adding under counts (i + 1) (set out i x)
    add-one-more t room {x} e = record {
      done = last (λ p. get_or (set out i x) p 0 ≡ get_or counts p 0 + one_if_marked under p)
          (rw t (get_or-set_same out i x 0 room ∙ (let q = a.left i (omega arith) in omega arith)))
          (λ p h. get_or-set_other out i p x 0 (λ q. omega arith) ∙ a.done p h);
      left = λ p h. get_or-set_other out i p x 0 (λ q. omega arith) ∙ a.left p (omega arith);
    }

-- whether one of those from a place on has too many keys
module _ (result : List Removal) (i : ℕ) {c : ℕ} (e : c ≡ length (keys_at result i)) where
  pub long-yes : key_limit < c → some overlong (drop i result) ≡ true
  unfolding first_in
  long-yes h =
      decide (ltb i (length result)) (λ t. rw (drop-cons result i no_removal (ltb-true i (length result) t), ← e, lt-ltb key_limit c h))
      (λ f. absurd (let q = e ∙ ap (λ r. length (listed_in r)) (get_d_past result i no_removal (ltb-false i (length result) f)) in omega arith))

  pub long-no : c ≤ key_limit → some overlong (drop i result) ≡ some overlong (drop (i + 1) result)
  unfolding first_in
  long-no h =
      decide (ltb i (length result)) (λ t. rw (drop-cons result i no_removal (ltb-true i (length result) t), ← e, le-ltb key_limit c h, add-one))
      (λ f. let q = ltb-false i (length result) f in rw (drop-end result i q, drop-end result (i + 1) (omega arith)))

pub long-end : (result : List Removal) (i : ℕ) → length result ≤ i → some overlong (drop i result) ≡ false
unfolding first_in
long-end result i h = rw (drop-end result i h)

-- so many keys are below `low`, and so many of each removal; the rest lies in both images
pub record KeysCounting (s : List ℕ) (n : ℕ) (t : List ℕ) (m : ℕ) (w v result : List Removal) (i j total : ℕ) (counts : List ℕ) : Type 0 where
  pub low : ℕ
  pub first : Keyed s i n (key_number 0 low) w
  pub second : Keyed t j m (key_number 0 low) v
  pub left : length (waiting_keys result) ≡ total + length (map number_record (those (leb (key_number 0 low)) (numbers_of result)))
  pub tallied : Tallied result low counts

module _ {s : List ℕ} {n : ℕ} {t : List ℕ} {m : ℕ} {w v result : List Removal} where
  pub count-start : {i j : ℕ} → Keyed s i n 0 w → Keyed t j m 0 v → KeysCounting s n t m w v result i j 0 (replicate waiting_limit 0)
  count-start a b = record { low = 0; first = a; second = b; left = rw (from_start (numbers_of result)) (omega arith); tallied = tally-start result }

  module _ {i j total : ℕ} {counts : List ℕ} (k : KeysCounting s n t m w v result i j total counts) (few : length result ≤ waiting_limit) where
    pub count-on : SoundRemovals result → {r : Row} → RowLies s n t m k.low w v result r → {c : ℕ} → c ≡ length (row_records r.key 0 r.under)
        → {more : List ℕ} → ((p : ℕ) → p < waiting_limit → get_or more p 0 ≡ get_or counts p 0 + one_if_marked r.under p)
        → KeysCounting s n t m w v result r.i r.j (total + c) more
    count-on sound {r} lies {c} e f =
        let parts = row_next result few k.low r.key r.under lies.whole lies.above lies.none lies.marked in
        record {
          low = r.key + 1;
          first = lies.first;
          second = lies.second;
          left = k.left ∙ omega (
            arith,
            ap length parts,
            length-append (row_records r.key 0 r.under)
                (map number_record (those (leb (key_number 0 (r.key + 1))) (numbers_of result))),
            e,
          );
          tallied = tally-on k.tallied sound lies.above lies.none lies.marked f;
        }

    module _ {ours theirs : List ℕ} (mv : Moves w v result ours theirs) (f : (ltb i n || ltb j m) ≡ false) where
      pub count-end : total ≡ length (waiting_keys result)
      count-end = let e = none_left k.low k.first k.second mv f few in omega (arith, k.left, ap (λ l. length (map number_record l)) e)

      pub each-end : (p : ℕ) → p < waiting_limit → get_or counts p 0 ≡ length (keys_at result p)
      each-end = tally-end k.tallied (key-gone k.low k.first k.second mv f)

-- a mark adds one at most
pub tally-most : (under : List Bool) (p c m : ℕ) {x : ℕ} → c ≤ m → x ≡ c + one_if_marked under p → x ≤ m + 1
tally-most under p c m {x} h e = decide (get_or under p false) (λ t. let q : x ≡ c + 1 = rw t at e in omega arith)
    (λ f. let q : x ≡ c + 0 = rw f at e in omega arith)
