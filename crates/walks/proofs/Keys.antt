-- The keys of waiting removals: what the walk over kind 6 accepts ascends, each under its removal, few under each; and it accepts all that does.
use mathlib.Core.Path.{◌≡◌, refl, sym, ◌∙◌}
use mathlib.Core.Bool.{Bool, true, ◌&&◌}
use mathlib.Core.Logic.{⊎_elim}
use mathlib.Core.List.Memᴰ
use mathlib.Core.List.{List, [], ◌∷◌}
use Prim.Native.Nat.{ℕ, ◌+◌, ◌≤◌, ◌<◌}
use native.Mathlib.Omega.{arith}
use lib.Dec.{eqb, ltb, leb}
use lib.ListN.{length, get_or, set, length-set}
use lib.Seq.{get_or-set_same, get_or-set_other}
use borrow.Author.Tests.{ltb-true, lt-ltb, leb-true, le-leb, eqb-true, eqb-false, eq-eqb}
use Rattle.listlaws.specs.Order.{◌∈◌, Ascending, nil, next, by}
use Rattle.listlaws.specs.Sift.{sift, those}
use Rattle.listlaws.proofs.Orders.{tail-ascends, head-before}
use Rattle.scan.proofs.Eachs.{decide, both_left, both_right}
use Rattle.records.specs.declared.Record.{Record}
use Rattle.mapimage.specs.MapImage.{key_number}
use Rattle.limits.specs.Limits.{key_limit}
use Rattle.walks.specs.Walk.{key_test, keys_good}

-- what passes
pub record KeyFields (n : ℕ) (r : Record) : Type 0 where
  pub kind-is : r.kind ≡ 6
  pub actor-is : r.actor ≡ 0
  pub number_is : r.number ≡ 0
  pub low : r.index < n

pub key-means : (n : ℕ) (r : Record) → key_test n r ≡ true → KeyFields n r
unfolding key_test
key-means n r t =
    let u = both_right (eqb r.kind 6) _ t in
    let v = both_right (eqb r.actor 0) _ u in
    record {
      kind-is = eqb-true _ _ (both_left (eqb r.kind 6) _ t);
      actor-is = eqb-true _ _ (both_left (eqb r.actor 0) _ u);
      number_is = eqb-true _ _ (both_left (eqb r.number 0) _ v);
      low = ltb-true r.index n (both_right (eqb r.number 0) _ v);
    }

pub key-holds : (n : ℕ) (r : Record) → KeyFields n r → key_test n r ≡ true
unfolding key_test
key-holds n r f = rw (eq-eqb _ _ f.kind-is, eq-eqb _ _ f.actor-is, eq-eqb _ _ f.number_is, lt-ltb _ _ f.low)

pub key-index : {b : Bool} (n : ℕ) (r : Record) → b ≡ key_test n r → b ≡ true → r.index < n
key-index n r e t = (key-means n r (sym e ∙ t)).low

pub count_room : (low x c : ℕ) → (leb low x && ltb c key_limit) ≡ true → c < key_limit
count_room low x c t = ltb-true c key_limit (both_right (leb low x) (ltb c key_limit) t)

abbrev pub rank : Record → ℕ
rank r = key_number r.index r.key

abbrev pub under_one : ℕ → Record → Bool
under_one j r = eqb r.index j

-- waiting keys in order, j of which stand under each index
pub record Listed (n : ℕ) (counts : List ℕ) (low : ℕ) (l : List Record) : Type 0 where
  pub each : (r : Record) → r ∈ l → KeyFields n r
  pub rising : Ascending (by rank) l
  pub from : (r : Record) → r ∈ l → low ≤ rank r
  pub few : (j : ℕ) → j < length counts → get_or counts j 0 ≤ key_limit → get_or counts j 0 + length (those (under_one j) l) ≤ key_limit

-- one key more under its index
count-step : (counts : List ℕ) (k j : ℕ) (r : Record) (l : List Record) → r.index ≡ k → j < length counts
    → get_or (set counts k (get_or counts k 0 + 1)) j 0 + length (those (under_one j) l) ≡ get_or counts j 0 + length (those (under_one j) (r ∷ l))
unfolding sift
count-step counts k j r l e h =
    decide (eqb r.index j)
    (λ t. let q : k ≡ j = sym e ∙ eqb-true r.index j t in rw (t, q, get_or-set_same counts j (get_or counts j 0 + 1) 0 h) (omega arith))
    (λ f. let q : j ≡ k → ⊥ = λ z. eqb-false r.index j f (e ∙ sym z) in rw (f, get_or-set_other counts k j (get_or counts k 0 + 1) 0 q))

count-still : (counts : List ℕ) (k j : ℕ) → get_or counts j 0 ≤ key_limit → get_or counts k 0 < key_limit → j < length counts
    → get_or (set counts k (get_or counts k 0 + 1)) j 0 ≤ key_limit
count-still counts k j a b h =
    decide (eqb j k) (λ t. let q = eqb-true j k t in rw (← q, get_or-set_same counts j (get_or counts j 0 + 1) 0 h) (omega (arith, rw (← q) at b)))
    (λ f. rw (get_or-set_other counts k j (get_or counts k 0 + 1) 0 (eqb-false j k f)) a)

pub keys-mean : (n : ℕ) (counts : List ℕ) (low : ℕ) (l : List Record) → keys_good n counts low l ≡ true → n ≤ length counts → Listed n counts low l
unfolding keys_good sift
keys-mean n counts low [] t z = record {
  each = λ r i. absurd (Memᴰ.not-nil i);
  rising = nil;
  from = λ r i. absurd (Memᴰ.not-nil i);
  few = λ j h k. omega arith;
}
keys-mean n counts low (r ∷ l) t z =
    let a = both_left (key_test n r && (leb low (rank r) && ltb (get_or counts r.index 0) key_limit)) _ t in
    let f = key-means n r (both_left (key_test n r) _ a) in
    let b = both_right (key_test n r) _ a in
    let above = leb-true low (rank r) (both_left (leb low (rank r)) _ b) in
    let room = count_room low (rank r) (get_or counts r.index 0) b in
    let next-counts = set counts r.index (get_or counts r.index 0 + 1) in
    let same : length next-counts ≡ length counts = length-set counts r.index (get_or counts r.index 0 + 1) in
    let w = keys-mean n next-counts (rank r + 1) l (both_right (key_test n r && (leb low (rank r) && ltb (get_or counts r.index 0) key_limit)) _ t)
    (omega arith) in
    record {
      each = λ x i. ⊎_elim (λ (e : x ≡ r). rw e f) (λ j. w.each x j) (Memᴰ.cases_cons i);
      rising = next (λ x i. lt-ltb (rank r) (rank x) (let k = w.from x i in omega arith)) w.rising;
      from = λ x i. ⊎_elim (λ (e : x ≡ r). rw e above) (λ j. let k = w.from x j in omega arith) (Memᴰ.cases_cons i);
      few = λ j h k. let q = w.few j (omega arith) (count-still counts r.index j k room h) in
          omega (arith, q, count-step counts r.index j r l refl h);
    }

one-at-least : (r : Record) (l : List Record) (c : ℕ) → c + length (those (under_one r.index) (r ∷ l)) ≤ key_limit → c < key_limit
unfolding sift
one-at-least r l c h = let k = rw (eq-eqb r.index r.index refl) at h in omega arith

pub keys-hold : (n : ℕ) (counts : List ℕ) (low : ℕ) (l : List Record) → ((r : Record) → r ∈ l → KeyFields n r) → Ascending (by rank) l
    → ((r : Record) → r ∈ l → low ≤ rank r)
    → ((j : ℕ) → j < length counts → get_or counts j 0 + length (those (under_one j) l) ≤ key_limit) → n ≤ length counts → keys_good n counts low l
    ≡ true
unfolding keys_good
keys-hold n counts low [] f a g few z = refl
keys-hold n counts low (r ∷ l) f a g few z =
    let own = f r (Memᴰ.head refl) in
    let c = get_or counts r.index 0 in
    let same : length (set counts r.index (c + 1)) ≡ length counts = length-set counts r.index (c + 1) in
    let in-counts : r.index < length counts = let k = own.low in omega arith in
    rw (key-holds n r own, le-leb low (rank r) (g r (Memᴰ.head refl)), lt-ltb c key_limit (room r l (few r.index in-counts)))
    (keys-hold n (set counts r.index (c + 1)) (rank r + 1) l (λ x i. f x (Memᴰ.tail i)) (tail-ascends a)
    (λ x i. let k = ltb-true (rank r) (rank x) (head-before a x i) in omega arith)
    (λ j h. omega (arith, few j (omega arith), count-step counts r.index j r l refl (omega arith))) (omega arith))
  where
    room : (r : Record) (l : List Record) → get_or counts r.index 0 + length (those (under_one r.index) (r ∷ l)) ≤ key_limit
        → get_or counts r.index 0 < key_limit
    room r l h = one-at-least r l (get_or counts r.index 0) h
